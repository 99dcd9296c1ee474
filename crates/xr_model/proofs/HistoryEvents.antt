-- What polls of a history told, what was lost and what waits adds up to the states of sessions that came.
use Rattle.std.proofs.Common.{◌≡◌, ◌≤◌, ◌+◌, ℕ, ℤ, Bool, true, false, List, [], ◌∷◌, ◌++◌, length, Option, Some, None, refl, sym, ap, subst, ◌∙◌, append-nil, arith, true≢false}
use Rattle.std.specs.Prelude.{if◌then◌else◌}
use Rattle.std.specs.List.{list_any, list_all}
use Rattle.xr_types.specs.Code.{is_success}
use Rattle.xr_types.specs.declared.session.Event.{Event}
use Rattle.xr_types.specs.declared.session.Event.TheVariants as variant
use Rattle.xr_model.specs.machine.Calls.{Entry}
use Rattle.xr_types.specs.declared.calls.Call.{Call}
use Rattle.xr_types.specs.declared.calls.Call.TheVariants as ask
use Rattle.xr_types.specs.declared.handles.Kind.TheVariants as kind
use Rattle.xr_model.specs.machine.Handles.{is_live}
use Rattle.xr_model.specs.machine.Events.{Queue, no_events, polled, behind_poll, most_lost}
use Rattle.xr_model.specs.machine.LiveSessions.{Session}
use Rattle.xr_model.specs.machine.Refusals.{Refusal}
use Rattle.xr_model.specs.machine.Rule.{Effect, done, refusals, refusal, unless_refused}
use Rattle.xr_model.specs.machine.Rules.Instance.{told_event}
use Rattle.xr_model.specs.machine.State.{CoreState, State, opening}
use Rattle.xr_model.specs.machine.Machine.{rule, reads_of, step, IsAllowed}
use Rattle.xr_model.specs.machine.History.{after, opening_clocks, clocks_after, IsLegalFrom}
use Rattle.xr_model.specs.laws.SessionLaws.{AreListed}
use Rattle.xr_model.specs.laws.EventLaws.{QueueStep, push, poll, pushes_of, is_count, event_told, losses_told, Trace, with_push, with_poll, traced, no_trace, AddsUp, pushed_all, is_of_session, event_given, trace_by, trace_from, ComeBy, CameBy, HistoriesAddUp, EventsGo, polls, ends, end_in}
use Rattle.xr_model.proofs.Rows.{both_of, neither_of, not_true}
use Rattle.xr_model.proofs.Destroying.{known_step, known_after, known_opening}
use Rattle.xr_model.proofs.DestroyedForGood.{clocks_behind, legal_behind}
use Rattle.xr_model.proofs.Histories.{fronts_are_legal}
use Rattle.xr_model.proofs.LostSessions.{listed_after, sessions_are_listed}
use Rattle.xr_model.proofs.QueueTraces.{events_add_up}
use Rattle.xr_model.proofs.SessionAnswers.{none_in, first_none}
use Rattle.xr_model.proofs.StatesTold.{apart_step, all_apart, told_step}
use Rattle.xr_model.proofs.ToldStates.{AreApart}
use Rattle.xr_model.specs.laws.Soundness.{AreKnown}

-- ---- steps of a queue

steps_more : (t : Trace) (xs ys : List QueueStep) → traced t (xs ++ ys) ≡ traced (traced t xs) ys
steps_more t [] ys = refl
steps_more t (push event ∷ xs) ys = steps_more (with_push t event) xs ys
steps_more t (poll ∷ xs) ys = steps_more (with_poll t) xs ys

pushes_more : (xs ys : List QueueStep) → pushes_of (xs ++ ys) ≡ pushes_of xs ++ pushes_of ys
pushes_more [] ys = refl
pushes_more (push event ∷ xs) ys = ap (λ (l : List Event). event ∷ l) (pushes_more xs ys)
pushes_more (poll ∷ xs) ys = pushes_more xs ys

all_pushed : List Event → List QueueStep
all_pushed [] = []
all_pushed (event ∷ events) = push event ∷ all_pushed events

pushes_all : (events : List Event) → pushes_of (all_pushed events) ≡ events
unfolding all_pushed
pushes_all [] = refl
pushes_all (event ∷ events) = ap (λ (l : List Event). event ∷ l) (pushes_all events)

traced_all : (t : Trace) (events : List Event) → traced t (all_pushed events) ≡ record t { queue = pushed_all t.queue events }
unfolding all_pushed
traced_all t [] = refl
traced_all t (event ∷ events) = traced_all (with_push t event) events

none_count : (xs : List Session) (events : List Event) → list_all (is_of_session xs) events ≡ true → list_any is_count events ≡ false
none_count xs [] own = refl
none_count xs (variant.Lost n ∷ events) own = absurd (true≢false (sym own))
none_count xs (variant.State ordinal session state ∷ events) own = none_count xs events (both_of (is_of_session xs (variant.State ordinal session state)) (list_all (is_of_session xs) events) own).1

any_more : (xs ys : List Event) → list_any is_count xs ≡ false → list_any is_count ys ≡ false → list_any is_count (xs ++ ys) ≡ false
any_more [] ys one two = two
any_more (x ∷ xs) ys one two = let both = neither_of (is_count x) (list_any is_count xs) one in rw both.0 (any_more xs ys both.1 two)

-- ---- one entry

-- the steps of an entry, and what comes by it
record Stepped (s : State) (e : Entry) : Type 0 where
  here : List Event
  come : ComeBy (polls s e) s e here
  steps : List QueueStep
  pushes : pushes_of steps ≡ here
  plain : list_any is_count here ≡ false
  leads : (t : Trace) → t.queue ≡ s.core.events → traced t steps ≡ trace_by t s e

given_back : (o : Option Event) → event_given (told_event o) ≡ o
given_back None = refl
given_back (Some e) = refl

-- nothing comes and nothing is told
quiet : (t : Trace) (q : Queue) → t.queue ≡ q → t ≡ record { queue = q; told = t.told ++ []; losses = t.losses + 0 }
quiet t q at =
    let same : t.losses ≡ t.losses + 0 = omega arith in
    ap (λ (r : Queue). record t { queue = r }) at ∙ ap (λ (l : List Event). record { queue = q; told = l; losses = t.losses }) (sym (append-nil t.told)) ∙ ap (λ (n : ℕ). record { queue = q; told = t.told ++ []; losses = n }) same

abbrev tells_one : CoreState → Effect
tells_one s = done (record s { events = behind_poll s.events }) (told_event (polled s.events))

abbrev tells : Effect → Option Event
tells x = if is_success x.code then event_given x.gives else None

-- a poll, by what refuses it
polling : (s : CoreState) (o : Option Refusal) → none_in is_success o ≡ true
    → (steps : List QueueStep) × (pushes_of steps ≡ []) × ((t : Trace) → t.queue ≡ s.events
    → traced t steps ≡ record { queue = (unless_refused s o (tells_one s)).state.events; told = t.told ++ event_told (tells (unless_refused s o (tells_one s))); losses = t.losses + losses_told (tells (unless_refused s o (tells_one s))) })
polling s None none = (
  poll ∷ [],
  refl,
  λ t at.
      ap (λ (q : Queue). record { queue = behind_poll q; told = t.told ++ event_told (polled q); losses = t.losses + losses_told (polled q) }) at
      ∙ ap (λ (o : Option Event). record { queue = behind_poll s.events; told = t.told ++ event_told o; losses = t.losses + losses_told o }) (sym (given_back (polled s.events))),
)
polling s (Some r) none = ([], refl, λ t at. rw (not_true (is_success r.code) none) (quiet t s.events at))

not_told : (b : Bool) (x : Option Event) → b ≡ false → (if b then x else None) ≡ None
not_told false x e = refl
not_told true x e = absurd (true≢false e)

polled_so : (s : State) (e : Entry) → polls s e ≡ true → Stepped s e
polled_so s e = by e.call
  where
    by : (r : Call) → polls s (record e { call = r }) ≡ true → Stepped s (record e { call = r })
    by (ask.PollEvent instance) is =
        let f = rule s.core (reads_of s (ask.PollEvent instance)) (record e { call = ask.PollEvent instance }) in
        let p = polling s.core (refusal e.short f) (first_none is_success (refusals f) refl) in
        record { here = []; come = subst (λ (b : Bool). ComeBy b s (record e { call = ask.PollEvent instance }) []) (sym is) refl; steps = p.0; pushes = p.1; plain = refl; leads = p.2 }
    by _ is = absurd (true≢false (sym is))

stepped : (s : State) (e : Entry) → IsAllowed s e → AreKnown s.core.handles → AreListed s.core.handles s.core.sessions → AreApart s.core.sessions → ends s e ≡ false → Stepped s e
stepped s e allowed known listed apart stays = by (polls s e) refl
  where
    by : (b : Bool) → polls s e ≡ b → Stepped s e
    by true eb = polled_so s e eb
    by false eb =
        let told = told_step s e allowed known listed apart eb stays in
        let events = told.0 in
        let all = told.1 in
        let silent = not_told (polls s e) (event_given (step s e).1.reply.gives) eb in
        record {
          here = events;
          come = subst (λ (b : Bool). ComeBy b s e events) (sym eb) all;
          steps = all_pushed events;
          pushes = pushes_all events;
          plain = none_count (step s e).0.core.sessions events all.own;
          leads = λ t at.
              traced_all t events ∙ ap (λ (q : Queue). record t { queue = pushed_all q events }) at ∙ quiet (record t { queue = pushed_all s.core.events events }) (step s e).0.core.events (sym all.queue)
              ∙ ap (λ (o : Option Event). record { queue = (step s e).0.core.events; told = t.told ++ event_told o; losses = t.losses + losses_told o }) (sym silent);
        }

-- ---- a history

came_by : (s : State) (clocks : List ℤ) (es : List Entry) → IsLegalFrom s clocks es → AreKnown s.core.handles → AreListed s.core.handles s.core.sessions → AreApart s.core.sessions → end_in s es ≡ false
    → (came : List Event) × CameBy s es came × (steps : List QueueStep) × (pushes_of steps ≡ came) × (list_any is_count came ≡ false) × ((t : Trace) → t.queue ≡ s.core.events → traced t steps ≡ trace_from t s es)
came_by s clocks [] legal known listed apart stays = ([], refl, [], refl, refl, λ t at. refl)
came_by s clocks (e ∷ es) legal known listed apart stays =
    let two = neither_of (ends s e) (end_in (step s e).0 es) stays in
    let one = stepped s e legal.0 known listed apart two.0 in
    let more = came_by (step s e).0 (clocks_after clocks e (step s e).0) es legal.3 (known_step s e known) (listed_after s clocks (e ∷ []) (legal.0, legal.1, legal.2, tt) listed) (apart_step s e legal.0 known listed apart) two.1 in (
      one.here ++ more.0,
      (one.here, more.0, refl, one.come, more.1),
      one.steps ++ more.2,
      pushes_more one.steps more.2 ∙ ap (λ (l : List Event). l ++ pushes_of more.2) one.pushes ∙ ap (λ (l : List Event). one.here ++ l) more.3,
      any_more one.here more.0 one.plain more.4,
      λ t at. steps_more t one.steps more.2 ∙ ap (λ (r : Trace). traced r more.2) (one.leads t at) ∙ more.5 (trace_by t s e) refl,
    )

pub histories_add_up : HistoriesAddUp
histories_add_up settings es fs legal empty stays =
    let there = after (opening settings) es in
    let front = fronts_are_legal (opening settings) (opening_clocks settings) es fs legal in
    let rest = legal_behind (opening settings) (opening_clocks settings) es fs legal in
    let all = came_by there (clocks_behind (opening settings) (opening_clocks settings) es) fs rest (known_after (opening settings) es (known_opening settings)) (sessions_are_listed settings es front) (all_apart settings es front) stays in (
      all.0,
      all.1,
      λ small.
          subst (λ (came : List Event). AddsUp came (trace_from no_trace there fs)) all.3 (subst (λ (t : Trace). AddsUp (pushes_of all.2) t) (all.5 no_trace (sym empty))
          (events_add_up all.2 (subst (λ (l : List Event). list_any is_count l ≡ false) (sym all.3) all.4) (subst (λ (l : List Event). length l ≤ most_lost) (sym all.3) small))),
    )

-- ---- the instance's end

pub events_go : EventsGo
events_go s e = by e.call
  where
    by : (r : Call) → ends s (record e { call = r }) ≡ true → (step s (record e { call = r })).0.core.events ≡ no_events
    by (ask.DestroyInstance instance) good = cases (is_live s.core.handles kind.Instance instance) refl
      where
        cases : (b : Bool) → is_live s.core.handles kind.Instance instance ≡ b → (step s (record e { call = ask.DestroyInstance instance })).0.core.events ≡ no_events
        cases true live = rw live refl
        cases false dead = absurd (true≢false (sym good ∙ rw dead refl))
    by _ good = absurd (true≢false (sym good))
