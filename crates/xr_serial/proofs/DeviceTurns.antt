-- What the loop keeps in the device's turn.
use Rattle.std.proofs.Common.{◌≡◌, ◌+◌, ◌<◌, ◌≤◌, ℕ, Bool, true, false, List, [], ◌∷◌, ◌++◌, length, Option, Some, None, refl, sym, ap, subst, ◌∙◌, arith, append-nil, length-append}
use Rattle.std.specs.Prelude.{if◌then◌else◌, is_some}
use Rattle.xr_types.specs.declared.calls.Actor.{Actor}
use Rattle.xr_types.specs.declared.calls.Actor.TheVariants.{Device}
use Rattle.xr_types.specs.declared.device.DeviceEvent.{DeviceEvent}
use Rattle.xr_types.specs.declared.device.DeviceEvent.TheVariants as event
use Rattle.xr_types.specs.declared.scenario.Scenario.{Scenario}
use Rattle.xr_model.specs.machine.Calls.{Outcome, Exchange}
use Rattle.xr_types.specs.declared.calls.Call.TheVariants as ask
use Rattle.xr_model.specs.machine.CoreCalls.{entry_of}
use Rattle.xr_model.specs.machine.State.{State}
use Rattle.xr_model.specs.runs.Robin.{Agenda, events, device_agendas}
use Rattle.xr_model.specs.runs.Lists.{made_at, events_in}
use Rattle.xr_serial.specs.inside.Made.{calls_with}
use Rattle.xr_serial.specs.inside.RunState.{RunState}
use Rattle.xr_device.specs.Prospect.{Prospect}
use Rattle.xr_device.specs.Told.{Comes}
use Rattle.xr_serial.specs.inside.Sides.{EventMade, EventWaits, EventTurn}
use Rattle.xr_serial.specs.inside.Turns.{device_part, parts_of, actors_of, turn_behind, AreHeldBack}
use Rattle.xr_serial.specs.inside.PastOfRun.{Trace, Standing}
use Rattle.xr_serial.specs.inside.RunInvariant.{side_work, frames_work, events_told, trace_of, RunInvariant}
use Rattle.xr_serial.proofs.Pending.{brings}
use Rattle.xr_serial.proofs.Holding.{call_holds}
use Rattle.xr_serial.proofs.OnlyLeaveLeaves.{call_keeps}
use Rattle.xr_serial.proofs.ActorParts.{AreAll, device_at, device_set}
use Rattle.xr_serial.proofs.Steps.{Goes, trace_behind, made_turn, same_parts, device_tells, device_ends}
use Rattle.xr_serial.proofs.KeptApplications.{others_more}
use Rattle.xr_serial.proofs.AppTurns.{all_of, are_so, passes}
use Rattle.xr_runs.specs.Sides.{exchange_of, SideState, side_asked, side_with, pending_list, DeviceKept}
use Rattle.xr_runs.proofs.DeviceAnswers.{is_open, tells_event, tells_end, tells_garbled, tells_fault, events_snoc, event_kept}

-- a run with this of its device
abbrev pub with_side : RunState → SideState → RunState
with_side run side = record run { side = side }

-- what was told is the same list
begun_again : (scenario : Scenario) (turn idle : ℕ) (s : State) (over : Bool) (a b : List DeviceEvent) (parts : List DeviceEvent → List (List Agenda)) (trace : Trace) → a ≡ b → Standing scenario turn idle s over a parts trace → Standing scenario turn idle s over b parts trace
begun_again scenario turn idle s over a b parts trace same g = subst (λ (l : List DeviceEvent). Standing scenario turn idle s over l parts trace) same g

one_spent : (n : ℕ) → 1 + n ≡ 0 + n + 1
one_spent n = omega arith

-- ---- the device's turn

module _ (scenario : Scenario) (idle : ℕ) (s after : State) (run : RunState) (start now : Prospect) (few : idle < actors_of scenario) where
  abbrev place : ℕ
  place = length scenario.scripts

  device_within : place < actors_of scenario
  device_within = omega arith

  -- the device's call moves no application's clock, and gives back no image
  event_trace : (calls : Actor → List Exchange) (e : DeviceEvent) (outcome : Outcome) → trace_behind s after (trace_of run calls) Device (ask.Device e) outcome ≡ trace_of run (calls_with calls Device (exchange_of (ask.Device e) outcome))
  event_trace calls e outcome = rw (append-nil run.compositor.done) refl

  pub event_made : (side : SideState) (e : DeviceEvent) → run.side.pending ≡ Some e → EventMade e run.side side s after → RunInvariant scenario place idle s run start now
      → RunInvariant scenario (turn_behind place (actors_of scenario)) 0 after (with_side run side) start now
  event_made side e this m kept =
      let t : Exchange = exchange_of (ask.Device e) m.outcome in
      let all : AreAll scenario run = all_of scenario s run kept.calls start now kept.kept in
      let new : SideState = side_with run.side e t in
      let goes : Goes place (parts_of scenario s run) s after (trace_of run kept.calls) Device (ask.Device e) m.outcome = record {
        agenda = λ rest. events e rest;
        alone = λ rest. device_at scenario s run rest all ∙ ap (λ (p : Option DeviceEvent). device_part p rest) this;
        of = λ rest. record { actor = refl; call = refl };
        starts = tt;
        made = m.call;
      } in
      let work = kept.kept.work in
      let counted = kept.kept.counted in
      let holds : after.cells.held ≡ s.cells.held = rw m.call.leads (call_holds s (entry_of Device (ask.Device e) m.outcome.reply) tt) in
      let held : length after.cells.held ≡ length s.cells.held = ap length holds in
      let grown : length (run.side.calls ++ made_at (length run.side.calls + 1) t ∷ []) ≡ length run.side.calls + 1 = length-append run.side.calls (made_at (length run.side.calls + 1) t ∷ []) in
      let locks : after.core.locked ≡ s.core.locked + 1 = rw m.call.leads refl in
      let pending : frames_work after.core.frames.pending ≤ frames_work s.core.frames.pending + 0 = rw m.call.leads (brings s (entry_of Device (ask.Device e) m.outcome.reply) tt) in
      let spent : side_work run.side now.bound ≡ side_work new now.bound + 1 = ap (λ (p : Option DeviceEvent). (if is_some p then 1 else 0) + (if run.side.over then 0 else now.bound + 1)) this ∙ one_spent (if run.side.over then 0 else now.bound + 1) in
      let told : events_told run.side (kept.calls Device) ≡ events_told new (kept.calls Device ++ t ∷ []) =
      ap (λ (p : Option DeviceEvent). events_in (kept.calls Device) ++ pending_list p) this ∙ sym (append-nil (events_in (kept.calls Device ++ t ∷ [])) ∙ events_snoc (kept.calls Device) e m.outcome) in
      rw m.side (record {
        calls = calls_with kept.calls Device t;
        standing =
            begun_again scenario (turn_behind place (actors_of scenario)) 0 after run.side.over _ _ _ (trace_of run (calls_with kept.calls Device t)) told
            (subst (Standing scenario (turn_behind place (actors_of scenario)) 0 after run.side.over (events_told run.side (kept.calls Device)) (parts_of scenario after (with_side run new))) (event_trace kept.calls e m.outcome)
            (same_parts scenario (turn_behind place (actors_of scenario)) 0 after after run.side.over (events_told run.side (kept.calls Device)) _ (trace_behind s after (trace_of run kept.calls) Device (ask.Device e) m.outcome) (parts_of scenario after (with_side run new))
            (λ rest ok. device_set scenario s run rest all after new rest holds)
            (made_turn scenario place idle s after run.side.over (events_told run.side (kept.calls Device)) (parts_of scenario s run) (actors_of scenario) (trace_of run kept.calls) Device (ask.Device e) m.outcome
            (are_so scenario place idle s run all device_within few) goes kept.standing)));
        kept = record {
          apps = others_more scenario.scripts s after run.apps kept.calls (calls_with kept.calls Device t) kept.kept.apps (rw m.call.leads refl) (rw m.call.leads (call_keeps s (entry_of Device (ask.Device e) m.outcome.reply) tt)) (λ place. refl);
          device = event_kept run.side (kept.calls Device) start now e m.outcome this kept.kept.device;
          compositor = kept.kept.compositor;
          counted = omega (arith, counted, grown, locks);
          work = omega (arith, work, locks, spent, pending, held);
        };
      })

  pub event_waits : (side : SideState) (e : DeviceEvent) → run.side.pending ≡ Some e → EventWaits e run.side side s after → RunInvariant scenario place idle s run start now
      → RunInvariant scenario (turn_behind place (actors_of scenario)) (idle + 1) after (with_side run side) start now
  event_waits side e this m kept =
      let all : AreAll scenario run = all_of scenario s run kept.calls start now kept.kept in
      rw (m.same, m.side)
      (passes scenario place idle s run start now device_within few kept
      (λ rest ok. subst (AreHeldBack s) (sym (device_at scenario s run rest all ∙ ap (λ (p : Option DeviceEvent). device_part p rest) this)) (m.waits, tt)))

  -- nothing more comes
  pub device_over : run.side.pending ≡ None → run.side.over ≡ true → RunInvariant scenario place idle s run start now → RunInvariant scenario (turn_behind place (actors_of scenario)) (idle + 1) s run start now
  device_over none over kept =
      let all : AreAll scenario run = all_of scenario s run kept.calls start now kept.kept in
      passes scenario place idle s run start now device_within few kept
      (λ rest ok. subst (AreHeldBack s) (sym (device_at scenario s run rest all ∙ ap (λ (p : Option DeviceEvent). device_part p rest) none ∙ ap device_agendas (ok over))) tt)

  pub event_turn : (side : SideState) (e : DeviceEvent) (went : Bool) → run.side.pending ≡ Some e → EventTurn e run.side side s after went → RunInvariant scenario place idle s run start now
      → RunInvariant scenario (turn_behind place (actors_of scenario)) (if went then 0 else idle + 1) after (with_side run side) start now
  event_turn side e true this m kept = event_made side e this m kept
  event_turn side e false this m kept = event_waits side e this m kept

-- ---- the device is asked

module _ (scenario : Scenario) (turn idle : ℕ) (s : State) (run : RunState) (side : SideState) (start now now2 : Prospect) (grew : now.faults ≤ now2.faults) where
  abbrev before : RunState
  before = with_side run (is_open side)

  -- it has told an event, which may be its last
  tells_one : (e : DeviceEvent) (over : Bool) → side_work (side_asked side (Some e) over) now2.bound ≤ side_work (is_open side) now.bound → (kept : RunInvariant scenario turn idle s before start now) → DeviceKept (side_asked side (Some e) over) (kept.calls Device) start now2
      → RunInvariant scenario turn idle s (with_side run (side_asked side (Some e) over)) start now2
  tells_one e over less kept told =
      let work = kept.kept.work in
      record {
        calls = kept.calls;
        standing =
            begun_again scenario turn idle s over ((events_in (kept.calls Device) ++ []) ++ e ∷ []) (events_in (kept.calls Device) ++ e ∷ []) (parts_of scenario s (with_side run (side_asked side (Some e) over))) (trace_of run kept.calls)
            (ap (λ (l : List DeviceEvent). l ++ e ∷ []) (append-nil (events_in (kept.calls Device))))
            (device_tells scenario turn idle s (parts_of scenario s before) over (events_in (kept.calls Device) ++ []) (trace_of run kept.calls) e kept.standing);
        kept = record { apps = kept.kept.apps; device = told; compositor = kept.kept.compositor; counted = kept.kept.counted; work = omega (arith, work, less) };
      }

  -- nothing more comes
  tells_no_more : side_work (side_asked side None true) now2.bound ≤ side_work (is_open side) now.bound → (kept : RunInvariant scenario turn idle s before start now) → DeviceKept (side_asked side None true) (kept.calls Device) start now2
      → RunInvariant scenario turn idle s (with_side run (side_asked side None true)) start now2
  tells_no_more less kept told =
      let work = kept.kept.work in
      record {
        calls = kept.calls;
        standing = device_ends scenario turn idle s (parts_of scenario s before) (events_in (kept.calls Device) ++ []) (trace_of run kept.calls) kept.standing;
        kept = record { apps = kept.kept.apps; device = told; compositor = kept.kept.compositor; counted = kept.kept.counted; work = omega (arith, work, less) };
      }

  looked : (pending : Option DeviceEvent) (over : Bool) → Comes now now2 pending over → RunInvariant scenario turn idle s before start now → RunInvariant scenario turn idle s (with_side run (side_asked side pending over)) start now2
  looked (Some e) false f kept = let fewer = f.2 in tells_one e false (omega (arith, fewer)) kept (tells_event side (kept.calls Device) start now now2 grew kept.kept.device e f.0 f.1 f.3 f.4)
  looked None true f kept = tells_no_more (omega arith) kept (tells_end side (kept.calls Device) start now now2 grew kept.kept.device f.0 f.2 f.3)
  looked (Some event.Fault) true f kept = tells_one event.Fault true (omega arith) kept (tells_fault side (kept.calls Device) start now now2 grew kept.kept.device f.0 f.2 f.3)
  looked (Some (event.Garbled line)) true f kept = tells_one (event.Garbled line) true (omega arith) kept (tells_garbled side (kept.calls Device) start now now2 grew kept.kept.device line f.0 f.2 f.3)
  looked _ _ f kept = absurd f

  -- by what the function that asks it says
  pub looked_from : (new : SideState) → side.pending ≡ None → side.over ≡ false → Comes now now2 new.pending new.over → new ≡ side_asked side new.pending new.over → RunInvariant scenario turn idle s (with_side run side) start now
      → RunInvariant scenario turn idle s (with_side run new) start now2
  looked_from new unknown going f same kept =
      let was : side ≡ is_open side = ap (λ (p : Option DeviceEvent). side_asked side p side.over) unknown ∙ ap (λ (o : Bool). side_asked side None o) going in
      subst (λ (x : SideState). RunInvariant scenario turn idle s (with_side run x) start now2) (sym same)
      (looked new.pending new.over f (subst (λ (x : SideState). RunInvariant scenario turn idle s (with_side run x) start now) was kept))
