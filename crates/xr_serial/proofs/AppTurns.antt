-- What the loop keeps in an application's turn.
use Rattle.std.proofs.Common.{◌≡◌, ◌+◌, ◌-◌, ◌<◌, ◌≤◌, ℕ, ℤ, pos, Bool, true, false, not, List, [], ◌∷◌, ◌++◌, length, drop, map, get_or, set, refl, sym, ap, subst, ◌∙◌, arith, append-nil}
use Rattle.std.specs.Prelude.{if◌then◌else◌, zero, suc, Option, Some, option_map, unwrap_or}
use Rattle.std.proofs.lemmas.Option.{slice_get-map, slice_get-get_or}
use Rattle.std.proofs.lemmas.List.{map-set, set-get_or, drop_all, get_or_default}
use Rattle.std.proofs.Math.Seq.{map-set_same}
use Rattle.xr_types.specs.declared.calls.Actor.{Actor}
use Rattle.xr_types.specs.declared.calls.Actor.TheVariants.{App, Device}
use Rattle.xr_types.specs.declared.device.DeviceEvent.{DeviceEvent}
use Rattle.xr_types.specs.declared.scenario.Op.{Op}
use Rattle.xr_types.specs.declared.scenario.Scenario.{Scenario}
use Rattle.xr_types.specs.CallKinds.{is_locked}
use Rattle.xr_model.specs.machine.Calls.{Outcome, Exchange}
use Rattle.xr_types.specs.declared.calls.Call.{Call}
use Rattle.xr_types.specs.declared.calls.Call.TheVariants as ask
use Rattle.xr_model.specs.machine.CoreCalls.{entry_of}
use Rattle.xr_model.specs.machine.State.{State}
use Rattle.xr_model.specs.machine.History.{clock_of, StartsAt}
use Rattle.xr_model.specs.machine.Machine.{IsPresent}
use Rattle.xr_model.specs.scenario.ScriptForm.{IsInForm, AllInForm}
use Rattle.xr_model.specs.runs.Scripts.{request_for}
use Rattle.xr_model.specs.runs.Lists.{done_at, made_at}
use Rattle.xr_model.specs.runs.Robin.{Agenda, script, agenda_after, clock_behind}
use Rattle.xr_serial.specs.inside.Made.{IsAnswered, calls_with}
use Rattle.xr_serial.specs.inside.RunState.{AppState, RunState}
use Rattle.xr_device.specs.Prospect.{Prospect}
use Rattle.xr_serial.specs.inside.Sides.{app_with, app_left, op_request, OpMade, OpWaits, OpTurn, Leaves}
use Rattle.xr_serial.specs.inside.Turns.{script_part, parts_of, actors_of, turn_behind, AreHeldBack}
use Rattle.xr_serial.specs.inside.PastOfRun.{Trace, IsRest, Standing}
use Rattle.xr_serial.specs.inside.RunInvariant.{AppKept, app_work, apps_work, getters_in, getters_of, calls_made, frames_work, events_told, trace_of, RunKept, RunInvariant}
use Rattle.xr_serial.proofs.Ops.{starts, getter_name, as_locked, op_returns}
use Rattle.xr_serial.proofs.Holding.{call_holds, op_holds}
use Rattle.xr_serial.proofs.OnlyLeaveLeaves.{call_keeps, op_stays}
use Rattle.xr_serial.proofs.ActorParts.{AreAll, parts_count, app_at, app_set}
use Rattle.xr_serial.proofs.Steps.{IsAgendaOf, Goes, AreSo, trace_behind, made_turn, passed_turn, same_parts}
use Rattle.xr_serial.proofs.Pending.{brings, op_brings}
use Rattle.xr_serial.proofs.Work.{work_set, getters_set, getters_more, one_of_both, not_fewer}
use Rattle.xr_serial.proofs.KeptApplications.{op_more, leave_more, one_more}
use Rattle.xr_runs.specs.Sides.{exchange_of}

-- the lists of a run that is kept have the lengths of its scenario
pub all_of : (scenario : Scenario) (s : State) (run : RunState) (calls : Actor → List Exchange) (start now : Prospect) → RunKept scenario s run calls start now → AreAll scenario run
all_of scenario s run calls start now kept = kept.apps.count

pub are_so : (scenario : Scenario) (turn idle : ℕ) (s : State) (run : RunState) → AreAll scenario run → turn < actors_of scenario → idle < actors_of scenario → AreSo (actors_of scenario) turn idle (parts_of scenario s run)
are_so scenario turn idle s run all within few = record { count = λ rest. parts_count scenario s run rest all; within = within; few = few }

-- a turn that makes no call
pub passes : (scenario : Scenario) (turn idle : ℕ) (s : State) (run : RunState) (start now : Prospect) → turn < actors_of scenario → idle < actors_of scenario → (kept : RunInvariant scenario turn idle s run start now)
    → ((rest : List DeviceEvent) → IsRest run.side.over rest → AreHeldBack s (get_or (parts_of scenario s run rest) turn [])) → RunInvariant scenario (turn_behind turn (actors_of scenario)) (idle + 1) s run start now
passes scenario turn idle s run start now within few kept held = record {
  calls = kept.calls;
  standing =
      passed_turn scenario turn idle s s run.side.over _ (parts_of scenario s run) (actors_of scenario) (trace_of run kept.calls)
      (are_so scenario turn idle s run (all_of scenario s run kept.calls start now kept.kept) within few) held kept.standing;
  kept = kept.kept;
}

none_left : (ops : List Op) (made : ℕ) → made ≡ length ops → drop made ops ≡ []
none_left ops made all = drop_all made ops (omega (arith, all))

-- an application that is as it was
same_apps : (run : RunState) (old : AppState) (place : ℕ) → ((none : AppState) → get_or run.apps place none ≡ old) → set run.apps place old ≡ run.apps
same_apps run old place here = ap (set run.apps place) (sym (here old)) ∙ set-get_or run.apps place old

-- ---- one application

module _ (scenario : Scenario) (place idle : ℕ) (s after : State) (run : RunState) (start now : Prospect) (old : AppState) (within : place < length scenario.scripts) (few : idle < actors_of scenario) (here : (none : AppState) → get_or run.apps place none ≡ old) where
  abbrev ops : List Op
  ops = get_or scenario.scripts place []

  turn_within : place < actors_of scenario
  turn_within = omega (arith, within)

  own : place + 1 - 1 ≡ place
  own = omega arith

  old_kept : (kept : RunInvariant scenario place idle s run start now) → AppKept ops old (kept.calls (App (place + 1)))
  old_kept kept = subst (λ (app : AppState). AppKept ops app (kept.calls (App (place + 1)))) (here old) (kept.kept.apps.each place old within)

  -- what of a call is the same for an op and for `leave`: it is counted as a locked one or as a getter, its application knows the
  -- clock after its last locked one, at which a wait begins, and as many images are held as before
  record Asks (what : Call) (app : AppState) : Type 0 where
    counts : getters_in app.calls ≡ getters_in old.calls + (if not (is_locked what) then 1 else 0)
    starts : StartsAt old.clock what
    timed : app.clock ≡ (if is_locked what then after.core.device.clock else old.clock)
    returns : done_at s what ≡ []
    holds : after.cells.held ≡ s.cells.held

  -- the clock that the application knows
  clock_is : (calls : Actor → List Exchange) → length run.apps ≡ length scenario.scripts → clock_of (trace_of run calls).clocks (App (place + 1)) ≡ old.clock
  clock_is calls size =
      rw own
      (ap (λ (o : Option ℤ). unwrap_or o (pos 0)) (slice_get-map (λ (a : AppState). a.clock) run.apps place ∙ ap (option_map (λ (a : AppState). a.clock)) (slice_get-get_or run.apps place old (omega (arith, within, size)) ∙ ap Some (here old))))

  app_trace : (calls : Actor → List Exchange) (what : Call) (outcome : Outcome) (app : AppState) → Asks what app
      → trace_behind s after (trace_of run calls) (App (place + 1)) what outcome ≡ trace_of (record run { apps = set run.apps place app }) (calls_with calls (App (place + 1)) (exchange_of what outcome))
  app_trace calls what outcome app asks = by (is_locked what) refl asks.timed
    where
      with_clocks : List ℤ → Trace
      with_clocks l = record { calls = calls_with calls (App (place + 1)) (exchange_of what outcome); clocks = l; done = run.compositor.done }

      by : (b : Bool) → is_locked what ≡ b → app.clock ≡ (if b then after.core.device.clock else old.clock)
          → trace_behind s after (trace_of run calls) (App (place + 1)) what outcome ≡ trace_of (record run { apps = set run.apps place app }) (calls_with calls (App (place + 1)) (exchange_of what outcome))
      by true locked timed = rw (locked, own, asks.returns, append-nil run.compositor.done, ← timed) (ap with_clocks (sym (map-set (λ (a : AppState). a.clock) run.apps place app)))
      by false locked timed =
          rw (locked, asks.returns, append-nil run.compositor.done)
          (ap with_clocks (sym (map-set_same (λ (a : AppState). a.clock) run.apps place app old (timed ∙ ap (λ (a : AppState). a.clock) (sym (here old))))))

  -- it makes a call
  goes_on : (what : Call) (outcome : Outcome) (app : AppState) (agenda : Agenda) (kept : RunInvariant scenario place idle s run start now) → IsAnswered s after (App (place + 1)) what outcome → Asks what app
      → script_part (place + 1) ops old ≡ agenda ∷ [] → IsAgendaOf (App (place + 1)) what agenda → agenda_after agenda after outcome ≡ script_part (place + 1) ops app
      → AppKept ops app (kept.calls (App (place + 1)) ++ exchange_of what outcome ∷ []) → after.core.left ≡ map (λ (a : AppState). a.has_left) (set run.apps place app)
      → app_work ops app + frames_work after.core.frames.pending + 1 ≤ app_work ops old + frames_work s.core.frames.pending → RunInvariant scenario (turn_behind place (actors_of scenario)) 0 after (record run { apps = set run.apps place app }) start now
  goes_on what outcome app agenda kept call asks alone of next more left less =
      let t : Exchange = exchange_of what outcome in
      let all : AreAll scenario run = all_of scenario s run kept.calls start now kept.kept in
      let goes : Goes place (parts_of scenario s run) s after (trace_of run kept.calls) (App (place + 1)) what outcome = record {
        agenda = λ rest. agenda;
        alone = λ rest. app_at scenario s run rest all place old within ∙ ap (script_part (place + 1) ops) (here old) ∙ alone;
        of = λ rest. of;
        starts = subst (λ (c : ℤ). StartsAt c what) (sym (clock_is kept.calls all)) asks.starts;
        made = call;
      } in
      let work = kept.kept.work in
      let counted = kept.kept.counted in
      let locks : after.core.locked ≡ (if is_locked what then s.core.locked + 1 else s.core.locked) = rw call.leads refl in
      let one = one_of_both (is_locked what) s.core.locked after.core.locked (getters_in old.calls) (getters_in app.calls) locks asks.counts in
      let set_getters : getters_of (set run.apps place app) + getters_in old.calls ≡ getters_of run.apps + getters_in app.calls =
      ap (λ (a : AppState). getters_of (set run.apps place app) + getters_in a.calls) (sym (here old)) ∙ getters_set run.apps place app old (omega (arith, within, all)) in
      let no_less = not_fewer (is_locked what) s.core.locked after.core.locked locks in
      let held : length after.cells.held ≡ length s.cells.held = ap length asks.holds in
      let set_work : apps_work scenario.scripts (set run.apps place app) + app_work ops old ≡ apps_work scenario.scripts run.apps + app_work ops app =
      ap (λ (a : AppState). apps_work scenario.scripts (set run.apps place app) + app_work ops a) (sym (here old)) ∙ work_set scenario.scripts run.apps place app old all within in
      record {
        calls = calls_with kept.calls (App (place + 1)) t;
        standing =
            subst
            (Standing scenario (turn_behind place (actors_of scenario)) 0 after run.side.over (events_told run.side (kept.calls Device))
            (parts_of scenario after (record run { apps = set run.apps place app })))
            (app_trace kept.calls what outcome app asks)
            (same_parts scenario (turn_behind place (actors_of scenario)) 0 after after run.side.over (events_told run.side (kept.calls Device)) _ (trace_behind s after (trace_of run kept.calls) (App (place + 1)) what outcome)
            (parts_of scenario after (record run { apps = set run.apps place app }))
            (λ rest ok. ap (set (parts_of scenario s run rest) place) next ∙ app_set scenario s run rest all after place app within asks.holds)
            (made_turn scenario place idle s after run.side.over (events_told run.side (kept.calls Device)) (parts_of scenario s run) (actors_of scenario) (trace_of run kept.calls) (App (place + 1)) what outcome
            (are_so scenario place idle s run all turn_within few) goes kept.standing));
        kept = record {
          apps = one_more scenario.scripts s after run.apps kept.calls place app t within kept.kept.apps (rw call.leads refl) left more;
          device = kept.kept.device;
          compositor = kept.kept.compositor;
          counted = omega (arith, counted, no_less);
          work = omega (arith, work, set_work, less, one, set_getters, held);
        };
      }

  -- the call of its next op
  pub op_made : (app : AppState) → OpMade (place + 1) ops old app s after → old.made < length ops → old.has_left ≡ false → RunInvariant scenario place idle s run start now
      → RunInvariant scenario (turn_behind place (actors_of scenario)) 0 after (record run { apps = set run.apps place app }) start now
  op_made app m more stays kept =
      let what : Call = op_request old m.op in
      let clock : ℤ = clock_behind old.clock (request_for old.names m.op) after in
      let t : Exchange = exchange_of what m.outcome in
      let e = entry_of (App (place + 1)) what m.outcome.reply in
      let brought : frames_work after.core.frames.pending ≤ frames_work s.core.frames.pending + 65 = rw m.call.leads (op_brings s e old.clock old.names m.op refl m.ranged) in
      let same_left : after.core.left ≡ s.core.left = rw m.call.leads (call_keeps s e (op_stays old.clock old.names m.op)) in
      rw m.app
      (goes_on what m.outcome (app_with old m.op t clock) (script (place + 1) (old.made + 1) (drop old.made ops) old.names old.clock) kept m.call
      (record {
        counts = getters_more old.calls (made_at (old.made + 1) t) ∙ ap (λ (b : Bool). getters_in old.calls + (if b then 1 else 0)) (getter_name old.clock old.names m.op);
        starts = starts old.clock (request_for old.names m.op);
        timed = ap (λ (b : Bool). if b then after.core.device.clock else old.clock) (sym (as_locked old.clock (request_for old.names m.op)));
        returns = op_returns old.clock old.names s m.op;
        holds = rw m.call.leads (call_holds s e (op_holds old.clock old.names m.op));
      })
      (rw stays refl)
      (record { actor = refl; call = rw m.here refl })
      (rw (m.here, stays) refl)
      (op_more ops old (kept.calls (App (place + 1))) m.op m.outcome clock more m.here stays (old_kept kept))
      (same_left ∙ kept.kept.apps.left ∙ sym (map-set_same (λ (a : AppState). a.has_left) run.apps place (app_with old m.op t clock) old (ap (λ (a : AppState). a.has_left) (sym (here old)))))
      (rw stays (omega (arith, more, brought))))

  -- `leave`
  pub leaves : (app : AppState) → Leaves (place + 1) old app s after → old.made ≡ length ops → old.has_left ≡ false → RunInvariant scenario place idle s run start now
      → RunInvariant scenario (turn_behind place (actors_of scenario)) 0 after (record run { apps = set run.apps place app }) start now
  leaves app m all stays kept =
      let clock : ℤ = after.core.device.clock in
      let t : Exchange = exchange_of ask.Leave m.outcome in
      let e = entry_of (App (place + 1)) ask.Leave m.outcome.reply in
      let none : drop old.made ops ≡ [] = none_left ops old.made all in
      let same_left : after.core.left ≡ set s.core.left place true = rw (m.call.leads, own) refl in
      let brought : frames_work after.core.frames.pending ≤ frames_work s.core.frames.pending + 0 = rw m.call.leads (brings s e tt) in
      rw m.app
      (goes_on ask.Leave m.outcome (app_left old t clock) (script (place + 1) (old.made + 1) (drop old.made ops) old.names old.clock) kept m.call
      (record { counts = getters_more old.calls (made_at (old.made + 1) t); starts = tt; timed = refl; returns = refl; holds = rw m.call.leads (call_holds s e tt) })
      (rw stays refl)
      (record { actor = refl; call = rw none refl })
      (rw none refl)
      (leave_more ops old (kept.calls (App (place + 1))) m.outcome clock all stays (old_kept kept))
      (same_left ∙ ap (λ (l : List Bool). set l place true) kept.kept.apps.left ∙ sym (map-set (λ (a : AppState). a.has_left) run.apps place (app_left old t clock)))
      (rw stays (omega (arith, brought))))

  -- it has to wait
  pub op_waits : (app : AppState) → OpWaits (place + 1) ops old app s after → old.has_left ≡ false → RunInvariant scenario place idle s run start now
      → RunInvariant scenario (turn_behind place (actors_of scenario)) (idle + 1) after (record run { apps = set run.apps place app }) start now
  op_waits app m stays kept =
      let all : AreAll scenario run = all_of scenario s run kept.calls start now kept.kept in
      let part : (rest : List DeviceEvent) → get_or (parts_of scenario s run rest) place [] ≡ script (place + 1) (old.made + 1) (drop old.made ops) old.names old.clock ∷ [] =
      λ rest. app_at scenario s run rest all place old within ∙ ap (script_part (place + 1) ops) (here old) ∙ rw stays refl in
      rw (m.same, m.app, same_apps run old place here)
      (passes scenario place idle s run start now turn_within few kept
      (λ rest ok. subst (AreHeldBack s) (sym (part rest)) (rw m.here m.waits, tt)))

  -- it has left
  pub has_left : old.has_left ≡ true → RunInvariant scenario place idle s run start now → RunInvariant scenario (turn_behind place (actors_of scenario)) (idle + 1) s (record run { apps = set run.apps place old }) start now
  has_left gone kept =
      let gone_part : script_part (place + 1) ops old ≡ [] = rw gone refl in
      let all : AreAll scenario run = all_of scenario s run kept.calls start now kept.kept in
      rw (same_apps run old place here)
      (passes scenario place idle s run start now turn_within few kept
      (λ rest ok. subst (AreHeldBack s) (sym (app_at scenario s run rest all place old within ∙ ap (script_part (place + 1) ops) (here old) ∙ gone_part)) tt))

  -- by what the function that makes the call says
  pub op_turn : (app : AppState) (went : Bool) → OpTurn (place + 1) ops old app s after went → old.made < length ops → old.has_left ≡ false → RunInvariant scenario place idle s run start now
      → RunInvariant scenario (turn_behind place (actors_of scenario)) (if went then 0 else idle + 1) after (record run { apps = set run.apps place app }) start now
  op_turn app true m more stays kept = op_made app m more stays kept
  op_turn app false m more stays kept = op_waits app m stays kept

-- ---- by what the code finds

-- the application in this place
pub app_here : (scenario : Scenario) (place idle : ℕ) (s : State) (run : RunState) (start now : Prospect) (old : AppState) → place < length scenario.scripts → old ≡ get_or run.apps place old → RunInvariant scenario place idle s run start now
    → (none : AppState) → get_or run.apps place none ≡ old
app_here scenario place idle s run start now old within is kept none = let size = kept.kept.apps.count in get_or_default run.apps place none old (omega (arith, within, size)) ∙ sym is

-- it may make a call
pub is_present : (scenario : Scenario) (place idle : ℕ) (s : State) (run : RunState) (start now : Prospect) (old : AppState) → place < length scenario.scripts → old ≡ get_or run.apps place old → old.has_left ≡ false → RunInvariant scenario place idle s run start now
    → IsPresent s.core (App (place + 1))
is_present scenario place idle s run start now old within is stays kept =
    let size = kept.kept.apps.count in
    let known = kept.kept.apps.known in
    let own : place + 1 - 1 ≡ place = omega arith in (
      omega arith,
      omega (arith, within, known),
      rw (own, kept.kept.apps.left)
          (slice_get-map (λ (a : AppState). a.has_left) run.apps place ∙ ap (option_map (λ (a : AppState). a.has_left)) (slice_get-get_or run.apps place old (omega (arith, within, size)) ∙ ap Some (sym is)) ∙ ap Some stays),
    )

-- how far it is, and what its names stand for
pub app_found : (scenario : Scenario) (place idle : ℕ) (s : State) (run : RunState) (start now : Prospect) (old : AppState) (ops : List Op) → place < length scenario.scripts → old ≡ get_or run.apps place old → ops ≡ get_or scenario.scripts place ops
    → RunInvariant scenario place idle s run start now → (old.made ≤ length ops) × (length old.names ≡ length ops)
app_found scenario place idle s run start now old ops within is are kept =
    let there : get_or scenario.scripts place [] ≡ ops = get_or_default scenario.scripts place [] ops within ∙ sym are in
    let app : AppKept (get_or scenario.scripts place []) old (kept.calls (App (place + 1))) = subst (λ (app : AppState). AppKept (get_or scenario.scripts place []) app (kept.calls (App (place + 1)))) (app_here scenario place idle s run start now old within is kept old) (kept.kept.apps.each place old within) in
    subst (λ (l : List Op). (old.made ≤ length l) × (length old.names ≡ length l)) there (app.within, app.named)

pub op_turn_from : (scenario : Scenario) (place idle : ℕ) (s after : State) (run : RunState) (start now : Prospect) (old app : AppState) (ops : List Op) (went : Bool) → place < length scenario.scripts → idle < actors_of scenario → old ≡ get_or run.apps place old
    → ops ≡ get_or scenario.scripts place ops → OpTurn (place + 1) ops old app s after went → old.made < length ops → old.has_left ≡ false → RunInvariant scenario place idle s run start now
    → RunInvariant scenario (turn_behind place (actors_of scenario)) (if went then 0 else idle + 1) after (record run { apps = set run.apps place app }) start now
op_turn_from scenario place idle s after run start now old app ops went within few is are m more stays kept =
    let there : ops ≡ get_or scenario.scripts place [] = are ∙ get_or_default scenario.scripts place ops [] within in
    op_turn scenario place idle s after run start now old within few (app_here scenario place idle s run start now old within is kept) app went
    (subst (λ (l : List Op). OpTurn (place + 1) l old app s after went) there m) (subst (λ (l : List Op). old.made < length l) there more) stays kept

pub leaves_from : (scenario : Scenario) (place idle : ℕ) (s after : State) (run : RunState) (start now : Prospect) (old app : AppState) (ops : List Op) → place < length scenario.scripts → idle < actors_of scenario → old ≡ get_or run.apps place old
    → ops ≡ get_or scenario.scripts place ops → Leaves (place + 1) old app s after → length ops ≤ old.made → old.has_left ≡ false → RunInvariant scenario place idle s run start now
    → RunInvariant scenario (turn_behind place (actors_of scenario)) 0 after (record run { apps = set run.apps place app }) start now
leaves_from scenario place idle s after run start now old app ops within few is are m all stays kept =
    let there : ops ≡ get_or scenario.scripts place [] = are ∙ get_or_default scenario.scripts place ops [] within in
    let found = (app_found scenario place idle s run start now old ops within is are kept).0 in
    let made : old.made ≡ length ops = omega (arith, all, found) in
    leaves scenario place idle s after run start now old within few (app_here scenario place idle s run start now old within is kept) app m (made ∙ ap length there) stays kept

pub has_left_from : (scenario : Scenario) (place idle : ℕ) (s : State) (run : RunState) (start now : Prospect) (old : AppState) → place < length scenario.scripts → idle < actors_of scenario → old ≡ get_or run.apps place old → old.has_left ≡ true → RunInvariant scenario place idle s run start now
    → RunInvariant scenario (turn_behind place (actors_of scenario)) (idle + 1) s (record run { apps = set run.apps place old }) start now
has_left_from scenario place idle s run start now old within few is gone kept = has_left scenario place idle s s run start now old within few (app_here scenario place idle s run start now old within is kept) gone kept

-- each script is in form
pub in_form_at : (scripts : List (List Op)) (place : ℕ) → AllInForm scripts → place < length scripts → IsInForm (get_or scripts place [])
in_form_at [] place all within = let no : ⊥ = omega (arith, within) in absurd no
in_form_at (ops ∷ scripts) zero all within = all.0
in_form_at (ops ∷ scripts) (suc place) all within = in_form_at scripts place all.1 (omega (arith, within))

-- ---- how many calls were made

op_counts : (number : ℕ) (ops : List Op) (old app : AppState) (s after : State) (went : Bool) → OpTurn number ops old app s after went → after.core.locked + getters_in app.calls ≡ s.core.locked + getters_in old.calls + (if went then 1 else 0)
op_counts number ops old app s after true m =
    let what : Call = op_request old m.op in
    let t : Exchange = exchange_of what m.outcome in
    let locks : after.core.locked ≡ (if is_locked what then s.core.locked + 1 else s.core.locked) = rw m.call.leads refl in
    let more : getters_in app.calls ≡ getters_in old.calls + (if not (is_locked what) then 1 else 0) =
    rw m.app (getters_more old.calls (made_at (old.made + 1) t) ∙ ap (λ (b : Bool). getters_in old.calls + (if b then 1 else 0)) (getter_name old.clock old.names m.op)) in
    one_of_both (is_locked what) s.core.locked after.core.locked (getters_in old.calls) (getters_in app.calls) locks more
op_counts number ops old app s after false m = rw (m.same, m.app) (omega arith)

leave_counts : (number : ℕ) (old app : AppState) (s after : State) → Leaves number old app s after → after.core.locked + getters_in app.calls ≡ s.core.locked + getters_in old.calls + 1
leave_counts number old app s after m =
    let locks : after.core.locked ≡ s.core.locked + 1 = rw m.call.leads refl in
    let more : getters_in app.calls ≡ getters_in old.calls + 0 = rw m.app (getters_more old.calls (made_at (old.made + 1) (exchange_of ask.Leave m.outcome))) in
    omega (arith, locks, more)

-- of all, where one application has gone on
all_count : (s after : State) (run : RunState) (place k : ℕ) (old app : AppState) → place < length run.apps → old ≡ get_or run.apps place old → after.core.locked + getters_in app.calls ≡ s.core.locked + getters_in old.calls + k
    → calls_made after (record run { apps = set run.apps place app }) ≡ calls_made s run + k
all_count s after run place k old app within is counts =
    let put : getters_of (set run.apps place app) + getters_in old.calls ≡ getters_of run.apps + getters_in app.calls =
    ap (λ (a : AppState). getters_of (set run.apps place app) + getters_in a.calls) is ∙ getters_set run.apps place app old within in
    omega (arith, put, counts)

pub op_turn_counts : (s after : State) (run : RunState) (place : ℕ) (ops : List Op) (old app : AppState) (went : Bool) → place < length run.apps → old ≡ get_or run.apps place old → OpTurn (place + 1) ops old app s after went
    → calls_made after (record run { apps = set run.apps place app }) ≡ calls_made s run + (if went then 1 else 0)
op_turn_counts s after run place ops old app went within is m = all_count s after run place (if went then 1 else 0) old app within is (op_counts (place + 1) ops old app s after went m)

pub leave_turn_counts : (s after : State) (run : RunState) (place : ℕ) (old app : AppState) → place < length run.apps → old ≡ get_or run.apps place old → Leaves (place + 1) old app s after
    → calls_made after (record run { apps = set run.apps place app }) ≡ calls_made s run + 1
leave_turn_counts s after run place old app within is m = all_count s after run place 1 old app within is (leave_counts (place + 1) old app s after m)
