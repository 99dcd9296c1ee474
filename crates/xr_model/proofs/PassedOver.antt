-- No actor is passed over whose next call is ready, and the compositor gives images back before it asks for a frame.
use Rattle.std.proofs.Common.{arith, ◌≡◌, ◌≤◌, ◌+◌, ℕ, ℤ, Bool, true, false, List, [], ◌∷◌, ◌++◌, map, length, None, refl, sym, ap, subst, ◌∙◌, true≢false}
use Rattle.std.specs.Prelude.{if◌then◌else◌}
use Rattle.std.specs.List.{list_any}
use Rattle.std.proofs.lemmas.List.{map-append}
use Rattle.xr_types.specs.declared.calls.Actor.TheVariants.{Compositor}
use Rattle.xr_types.specs.declared.device.DeviceEvent.{DeviceEvent}
use Rattle.xr_types.specs.declared.frames.Image.{Image}
use Rattle.xr_types.specs.declared.scenario.Op.{Op}
use Rattle.xr_types.specs.declared.scenario.Op.TheVariants as op
use Rattle.xr_types.specs.declared.scenario.Scenario.{Scenario}
use Rattle.xr_model.specs.machine.Calls.{Entry, Outcome, is_actor}
use Rattle.xr_model.specs.machine.State.{State, opening}
use Rattle.xr_model.specs.machine.Machine.{step, reads_of}
use Rattle.xr_model.specs.machine.History.{after}
use Rattle.xr_model.specs.runs.Scripts.{request_for}
use Rattle.xr_model.specs.runs.Robin.{Agenda, script, events, compositor, actor_of, next_call, is_ended, agenda_after, is_next_ready, next_move, IsCallOf, agendas_behind, IsRobinFrom, script_agendas, device_agendas, first_agendas, agendas_left}
use Rattle.xr_types.specs.CallKinds.{with_start}
use Rattle.xr_model.specs.laws.RunLaws.{has_turns, count_of}
use Rattle.xr_model.specs.laws.RobinLaws.{NobodyReadyIsPassedOver, RunsEndWhereNobodyIsReady, call_holding, ImagesAreGivenBackFirst}
use Rattle.xr_model.proofs.Rows.{neither_of, or_true}
use Rattle.xr_model.proofs.Turns.{count_more, falls, actor_itself}
use Rattle.xr_model.proofs.RobinTurns.{moved, one_call, once_in_order, first_ordered, turns_make_ready_calls, stuck_where_nobody_is_ready}
use Rattle.xr_model.proofs.HeldFits.{leaves_held}
use Rattle.xr_model.specs.laws.Soundness.{IsAside}

-- ---- the call at a place of a run

call_at : (s : State) (agendas : List Agenda) (es fs : List Entry) (e : Entry) → IsRobinFrom s agendas (es ++ e ∷ fs)
    → IsCallOf (next_move (after s es) [] (agendas_left s agendas es)) e
call_at s agendas [] fs e robin = robin.0
call_at s agendas (f ∷ es) fs e robin =
    call_at (step s f).0 (agendas_behind (next_move s [] agendas) (step s f).0 (step s f).1) es fs e robin.1

end_at : (s : State) (agendas : List Agenda) (es : List Entry) → IsRobinFrom s agendas es → next_move (after s es) [] (agendas_left s agendas es) ≡ None
end_at s agendas [] robin = robin
end_at s agendas (f ∷ es) robin = end_at (step s f).0 (agendas_behind (next_move s [] agendas) (step s f).0 (step s f).1) es robin.1

-- ---- who is passed over

same_first : (a b : Agenda) (xs ys : List Agenda) → a ∷ xs ≡ b ∷ ys → a ≡ b
same_first a b xs ys e = cc

same_others : (a b : Agenda) (xs ys : List Agenda) → a ∷ xs ≡ b ∷ ys → xs ≡ ys
same_others a b xs ys e = cc

-- where none of those passed over is ready, one that is ready isn't among them
module _ (is_ready : Agenda → Bool) (m x : Agenda) (later behind : List Agenda) (ready : is_ready x ≡ true) where
  reached : (passed before : List Agenda) → passed ++ m ∷ later ≡ before ++ x ∷ behind → list_any is_ready passed ≡ false
      → has_turns (before ++ x ∷ []) (actor_of m) ≡ true
  reached [] [] stand none =
      rw (subst (λ y. is_actor (actor_of m) (actor_of y) ≡ true) (same_first m x later behind stand) (actor_itself (actor_of m))) refl
  reached [] (b ∷ before) stand none =
      rw (subst (λ y. is_actor (actor_of m) (actor_of y) ≡ true) (same_first m b later (before ++ x ∷ behind) stand) (actor_itself (actor_of m))) refl
  reached (p ∷ passed) [] stand none =
      absurd (true≢false (sym ready ∙ ap is_ready (sym (same_first p x (passed ++ m ∷ later) behind stand)) ∙ (neither_of (is_ready p) (list_any is_ready passed) none).0))
  reached (p ∷ passed) (b ∷ before) stand none =
      rw (reached passed before (same_others p b (passed ++ m ∷ later) (before ++ x ∷ behind) stand) (neither_of (is_ready p) (list_any is_ready passed) none).1)
      (or_true (is_actor (actor_of m) (actor_of b)))

pub nobody_ready_is_passed_over : NobodyReadyIsPassedOver
nobody_ready_is_passed_over settings scenario calls es fs e robin before behind x stand ready =
    let start = first_agendas scenario calls in
    let s = after (opening settings) es in
    let left = agendas_left (opening settings) start es in
    let m = moved s left e (call_at (opening settings) start es fs e robin) in
    let found = turns_make_ready_calls s left m.move m.is in
    subst (λ who. has_turns (before ++ x ∷ []) who ≡ true) (sym m.actor)
    (reached (is_next_ready s) m.move.agenda x m.move.behind behind ready m.move.passed before (sym found.stand ∙ stand) found.passed)

pub runs_end_where_nobody_is_ready : RunsEndWhereNobodyIsReady
runs_end_where_nobody_is_ready settings scenario calls es robin =
    let start = first_agendas scenario calls in
    (stuck_where_nobody_is_ready (after (opening settings) es) (agendas_left (opening settings) start es)).0 (end_at (opening settings) start es robin)

-- ---- the compositor

-- it knows how many images it holds
abbrev Knows : ℕ → Agenda → Type 0
Knows n (script app place ops values clock) = Unit {0}
Knows n (events e es) = Unit {0}
Knows n (compositor held) = held ≡ n

abbrev AllKnow : ℕ → List Agenda → Type 0
AllKnow n [] = Unit {0}
AllKnow n (x ∷ xs) = Knows n x × AllKnow n xs

know_parts : (n : ℕ) (xs ys : List Agenda) → AllKnow n (xs ++ ys) → AllKnow n xs × AllKnow n ys
know_parts n [] ys all = (tt, all)
know_parts n (x ∷ xs) ys all = let more = know_parts n xs ys all.1 in ((all.0, more.0), more.1)

know_joined : (n : ℕ) (xs ys : List Agenda) → AllKnow n xs → AllKnow n ys → AllKnow n (xs ++ ys)
know_joined n [] ys first second = second
know_joined n (x ∷ xs) ys first second = (first.0, know_joined n xs ys first.1 second)

-- the others have nothing to know
others_know : (n : ℕ) (xs : List Agenda) → count_of Compositor (map actor_of xs) ≡ 0 → AllKnow n xs
others_know n [] none = tt
others_know n (script app place ops values clock ∷ xs) none = (tt, others_know n xs (omega (arith, none)))
others_know n (events e es ∷ xs) none = (tt, others_know n xs (omega (arith, none)))
others_know n (compositor held ∷ xs) none = absurd (omega (arith, none))

-- after its call an actor knows what is held then
own_knows : (x : Agenda) (t : State) (o : Outcome) → AllKnow (length t.cells.held) (agenda_after x t o)
own_knows (script app place [] values clock) t o = tt
own_knows (script app place (p ∷ ps) values clock) t o = (tt, tt)
own_knows (events e []) t o = tt
own_knows (events e (f ∷ fs)) t o = (tt, tt)
own_knows (compositor held) t o = by (is_ended o.reply.gives)
  where
    by : (b : Bool) → AllKnow (length t.cells.held) (if b then [] else compositor (length t.cells.held) ∷ [])
    by true = tt
    by false = (refl, tt)

-- no op's call takes or gives back an image
aside_op : (values : List ℕ) (clock : ℤ) (o : Op) → IsAside (with_start clock (request_for values o))
aside_op values clock (op.CreateInstance major minor) = tt
aside_op values clock _ = tt

held_stays : (s : State) (e : Entry) → IsAside e.call → (step s e).0.cells.held ≡ s.cells.held
held_stays s e aside = let l = leaves_held s.core (reads_of s e.call) e aside in rw (l.taken, l.returned) refl

-- so what the compositor knows stays right
module _ (s : State) (e : Entry) (passed behind : List Agenda) where
  still_know : IsAside e.call → AllKnow (length s.cells.held) behind → AllKnow (length s.cells.held) passed
      → AllKnow (length (step s e).0.cells.held) (behind ++ passed)
  still_know aside later first =
      subst (λ hs. AllKnow (length hs) (behind ++ passed)) (sym (held_stays s e aside)) (know_joined (length s.cells.held) behind passed later first)

  rest_know : (x : Agenda) → e.call ≡ next_call x → AllKnow (length s.cells.held) passed → AllKnow (length s.cells.held) behind
      → count_of Compositor (map actor_of (passed ++ x ∷ behind)) ≤ 1 → AllKnow (length (step s e).0.cells.held) (behind ++ passed)
  rest_know (script app place [] values clock) is first later few = still_know (subst IsAside (sym is) tt) later first
  rest_know (script app place (o ∷ os) values clock) is first later few = still_know (subst IsAside (sym is) (aside_op values clock o)) later first
  rest_know (events f fs) is first later few = still_know (subst IsAside (sym is) tt) later first
  rest_know (compositor held) is first later few =
      let split = ap (count_of Compositor) (map-append actor_of passed (compositor held ∷ behind)) in
      let sum = count_more Compositor (map actor_of passed) (map actor_of (compositor held ∷ behind)) in
      know_joined (length (step s e).0.cells.held) behind passed (others_know (length (step s e).0.cells.held) behind (omega (arith, few, split, sum)))
      (others_know (length (step s e).0.cells.held) passed (omega (arith, few, split, sum)))

-- one call
know_on : (s : State) (agendas : List Agenda) (e : Entry) → IsCallOf (next_move s [] agendas) e → AllKnow (length s.cells.held) agendas
    → count_of Compositor (map actor_of agendas) ≤ 1
    → AllKnow (length (step s e).0.cells.held) (agendas_behind (next_move s [] agendas) (step s e).0 (step s e).1)
know_on s agendas e calls know few =
    let m = moved s agendas e calls in
    let is = (subst (λ o. IsCallOf o e) m.is calls).1 in
    let parts = know_parts (length s.cells.held) m.move.passed (m.move.agenda ∷ m.move.behind) (subst (AllKnow (length s.cells.held)) m.stand know) in
    let one = subst (λ l. count_of Compositor (map actor_of l) ≤ 1) m.stand few in
    subst (λ o. AllKnow (length (step s e).0.cells.held) (agendas_behind o (step s e).0 (step s e).1)) (sym m.is)
    (know_joined (length (step s e).0.cells.held) (m.move.behind ++ m.move.passed) (agenda_after m.move.agenda (step s e).0 (step s e).1)
    (rest_know s e m.move.passed m.move.behind m.move.agenda is parts.0 parts.1.1 one) (own_knows m.move.agenda (step s e).0 (step s e).1))

-- all calls up to a place
know_at : (s : State) (agendas : List Agenda) (es fs : List Entry) → IsRobinFrom s agendas (es ++ fs) → AllKnow (length s.cells.held) agendas
    → count_of Compositor (map actor_of agendas) ≤ 1 → AllKnow (length (after s es).cells.held) (agendas_left s agendas es)
know_at s agendas [] fs robin know few = know
know_at s agendas (e ∷ es) fs robin know few =
    let next = agendas_behind (next_move s [] agendas) (step s e).0 (step s e).1 in
    let fall = falls Compositor (map actor_of agendas) _ (map actor_of next) (one_call s (step s e).0 agendas e (step s e).1 robin.0) in
    know_at (step s e).0 next es fs robin.1 (know_on s agendas e robin.0 know few) (omega (arith, few, fall))

-- at the start
scripts_know : (app : ℕ) (scripts : List (List Op)) → AllKnow 0 (script_agendas app scripts)
scripts_know app [] = tt
scripts_know app (ops ∷ scripts) = (tt, scripts_know (app + 1) scripts)

first_know : (scenario : Scenario) (calls : List DeviceEvent) → AllKnow 0 (first_agendas scenario calls)
first_know scenario calls =
    know_joined 0 (script_agendas 1 scenario.scripts ++ device_agendas calls) (compositor 0 ∷ [])
    (know_joined 0 (script_agendas 1 scenario.scripts) (device_agendas calls) (scripts_know 1 scenario.scripts) (by calls)) (refl, tt)
  where
    by : (es : List DeviceEvent) → AllKnow 0 (device_agendas es)
    by [] = tt
    by (e ∷ es) = (tt, tt)

holding : (hs : List Image) → next_call (compositor (length hs)) ≡ call_holding hs
holding [] = refl
holding (i ∷ hs) = refl

compositor_calls : (hs : List Image) (x : Agenda) → Compositor ≡ actor_of x → Knows (length hs) x → next_call x ≡ call_holding hs
compositor_calls hs (script app place ops values clock) is knows = cc
compositor_calls hs (events e es) is knows = cc
compositor_calls hs (compositor held) is knows = ap (λ n. next_call (compositor n)) knows ∙ holding hs

pub images_are_given_back_first : ImagesAreGivenBackFirst
images_are_given_back_first settings scenario calls es fs e robin who =
    let start = first_agendas scenario calls in
    let s = after (opening settings) es in
    let left = agendas_left (opening settings) start es in
    let turn = call_at (opening settings) start es fs e robin in
    let m = moved s left e turn in
    let is = (subst (λ o. IsCallOf o e) m.is turn).1 in
    let few = once_in_order Compositor (map actor_of start) (first_ordered calls scenario) in
    let know = know_at (opening settings) start es (e ∷ fs) robin (first_know scenario calls) few in
    let parts = know_parts (length s.cells.held) m.move.passed (m.move.agenda ∷ m.move.behind) (subst (AllKnow (length s.cells.held)) m.stand know) in
    is ∙ compositor_calls s.cells.held m.move.agenda (sym who ∙ m.actor) parts.1.0
