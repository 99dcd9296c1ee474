-- The turns of a run: each is that of the front actor, which stands last afterwards or has finished.
use Rattle.std.proofs.Common.{arith, ◌≡◌, ◌≤◌, ◌<◌, ◌+◌, ◌||◌, ◌⊎◌, inl, inr, nat_lt, ℕ, zero, suc, Bool, true, false, List, [], ◌∷◌, ◌++◌, length, map, Option, Some, None, refl, sym, ap, subst, ◌∙◌, true≢false}
use Rattle.std.specs.Prelude.{◌↔◌, if◌then◌else◌}
use Rattle.std.specs.List.{list_any, list_all}
use Rattle.std.proofs.lemmas.List.{append_assoc, map-append}
use Rattle.std.proofs.lemmas.List.Folds.{list_any-append}
use Rattle.xr_types.specs.declared.calls.Actor.{Actor}
use Rattle.xr_types.specs.declared.calls.Actor.TheVariants.{App, Compositor, Device}
use Rattle.xr_types.specs.declared.device.DeviceEvent.{DeviceEvent}
use Rattle.xr_types.specs.declared.scenario.Op.{Op}
use Rattle.xr_types.specs.declared.scenario.Scenario.{Scenario}
use Rattle.xr_model.specs.machine.Calls.{Entry, Outcome, is_actor}
use Rattle.xr_model.specs.machine.State.{State}
use Rattle.xr_model.specs.machine.Machine.{step}
use Rattle.xr_model.specs.runs.Robin.{Agenda, script, events, compositor, actor_of, is_ended, agenda_after, is_next_ready, NextMove, next_move, IsCallOf, agendas_behind, IsRobinFrom, script_agendas, device_agendas, first_agendas, agendas_left}
use Rattle.xr_model.specs.laws.RobinLaws.{is_in_order}
use Rattle.xr_model.specs.laws.RunLaws.{count_of, comes_before, turns_in, turns_from, TurnsMakeReadyCalls, StuckWhereNobodyIsReady}
use Rattle.xr_model.proofs.Rows.{both_of}
use Rattle.xr_model.proofs.Turns.{same_actor, bit, leads, Turned, joined, passed_over}

-- ---- one move

-- the first whose call is ready, where none of those before it is
record Found (s : State) (before agendas : List Agenda) (m : NextMove) : Type 0 where
  stand : before ++ agendas ≡ m.passed ++ m.agenda ∷ m.behind
  passed : list_any (is_next_ready s) m.passed ≡ false
  called : is_next_ready s m.agenda ≡ true

more_passed : (s : State) (before : List Agenda) (x : Agenda) → list_any (is_next_ready s) before ≡ false → is_next_ready s x ≡ false
    → list_any (is_next_ready s) (before ++ x ∷ []) ≡ false
more_passed s before x none not_ready = list_any-append (is_next_ready s) before (x ∷ []) ∙ rw (none, not_ready) refl

found : (s : State) (before agendas : List Agenda) (m : NextMove) → list_any (is_next_ready s) before ≡ false → next_move s before agendas ≡ Some m
    → Found s before agendas m
found s before [] m none is = cc
found s before (x ∷ xs) m none is = by (is_next_ready s x) refl is (found s (before ++ x ∷ []) xs m)
  where
    here : NextMove
    here = record { passed = before; agenda = x; behind = xs }

    by : (b : Bool) → is_next_ready s x ≡ b
        → (if b then Some (record { passed = before; agenda = x; behind = xs }) else next_move s (before ++ x ∷ []) xs) ≡ Some m
        → (list_any (is_next_ready s) (before ++ x ∷ []) ≡ false → next_move s (before ++ x ∷ []) xs ≡ Some m → Found s (before ++ x ∷ []) xs m)
        → Found s before (x ∷ xs) m
    by true is_ready is more =
        let e : record { passed = before; agenda = x; behind = xs } ≡ m = cc in
        subst (λ n. Found s before (x ∷ xs) n) e (record { stand = refl; passed = none; called = is_ready })
    by false not_ready is more =
        let f = more (more_passed s before x none not_ready) is in
        record { stand = sym (append_assoc before (x ∷ []) xs) ∙ f.stand; passed = f.passed; called = f.called }

pub turns_make_ready_calls : TurnsMakeReadyCalls
turns_make_ready_calls s agendas m is = let f = found s [] agendas m refl is in record { stand = f.stand; passed = f.passed; called = f.called }

stuck_from : (s : State) (before agendas : List Agenda) → (next_move s before agendas ≡ None) ↔ (list_any (is_next_ready s) agendas ≡ false)
stuck_from s before [] = (λ none. refl, λ none. refl)
stuck_from s before (x ∷ xs) = by (is_next_ready s x) (stuck_from s (before ++ x ∷ []) xs)
  where
    by : (b : Bool) → ((next_move s (before ++ x ∷ []) xs ≡ None) ↔ (list_any (is_next_ready s) xs ≡ false))
        → ((if b then Some (record { passed = before; agenda = x; behind = xs }) else next_move s (before ++ x ∷ []) xs) ≡ None) ↔
        (b || list_any (is_next_ready s) xs ≡ false)
    by true more = (λ none. cc, λ none. absurd (true≢false none))
    by false more = more

pub stuck_where_nobody_is_ready : StuckWhereNobodyIsReady
stuck_where_nobody_is_ready s agendas = stuck_from s [] agendas

-- the move of an entry that is the call of its turn
pub record Moved (s : State) (agendas : List Agenda) (e : Entry) : Type 0 where
  pub move : NextMove
  pub is : next_move s [] agendas ≡ Some move
  pub stand : agendas ≡ move.passed ++ move.agenda ∷ move.behind
  pub actor : e.actor ≡ actor_of move.agenda

pub moved : (s : State) (agendas : List Agenda) (e : Entry) → IsCallOf (next_move s [] agendas) e → Moved s agendas e
moved s agendas e calls = by (next_move s [] agendas) refl calls
  where
    by : (o : Option NextMove) → next_move s [] agendas ≡ o → IsCallOf o e → Moved s agendas e
    by None is calls = absurd calls
    by (Some m) is calls = record { move = m; is = is; stand = (found s [] agendas m refl is).stand; actor = calls.0 }

-- ---- a front of a run

-- each entry is the call of its turn
abbrev pub AreCalls : State → List Agenda → List Entry → Type 0
AreCalls s agendas [] = Unit {0}
AreCalls s agendas (e ∷ es) =
    IsCallOf (next_move s [] agendas) e × AreCalls (step s e).0 (agendas_behind (next_move s [] agendas) (step s e).0 (step s e).1) es

pub front_calls : (s : State) (agendas : List Agenda) (es fs : List Entry) → IsRobinFrom s agendas (es ++ fs) → AreCalls s agendas es
front_calls s agendas [] fs robin = tt
front_calls s agendas (e ∷ es) fs robin =
    (robin.0, front_calls (step s e).0 (agendas_behind (next_move s [] agendas) (step s e).0 (step s e).1) es fs robin.1)

pub all_calls : (s : State) (agendas : List Agenda) (es : List Entry) → IsRobinFrom s agendas es → AreCalls s agendas es
all_calls s agendas [] robin = tt
all_calls s agendas (e ∷ es) robin = (robin.0, all_calls (step s e).0 (agendas_behind (next_move s [] agendas) (step s e).0 (step s e).1) es robin.1)

-- an actor stands once after its call, or has finished
once_or_gone : (x : Agenda) (s : State) (o : Outcome)
    → (map actor_of (agenda_after x s o) ≡ actor_of x ∷ []) ⊎ (map actor_of (agenda_after x s o) ≡ [])
once_or_gone (script app place [] values clock) s o = inr refl
once_or_gone (script app place (p ∷ ps) values clock) s o = inl refl
once_or_gone (events e []) s o = inr refl
once_or_gone (events e (f ∷ fs)) s o = inl refl
once_or_gone (compositor held) s o = by (is_ended o.reply.gives)
  where
    by : (b : Bool) → (map actor_of (if b then [] else compositor (length s.cells.held) ∷ []) ≡ Compositor ∷ []) ⊎ (map actor_of (if b then [] else compositor (length s.cells.held) ∷ []) ≡ [])
    by true = inr refl
    by false = inl refl

-- by its turns a run's actors become those that are left
pub one_call : (s t : State) (agendas : List Agenda) (e : Entry) (o : Outcome) → IsCallOf (next_move s [] agendas) e
    → Turned (map actor_of agendas) (turns_in (next_move s [] agendas)) (map actor_of (agendas_behind (next_move s [] agendas) t o))
one_call s t agendas e o calls =
    let m = moved s agendas e calls in
    let ps = map actor_of m.move.passed in
    let x = actor_of m.move.agenda in
    let behind = map actor_of m.move.behind in
    let own = map actor_of (agenda_after m.move.agenda t o) in
    let next = map actor_of (m.move.behind ++ m.move.passed ++ agenda_after m.move.agenda t o) in
    let before = ap (map actor_of) m.stand ∙ map-append actor_of m.move.passed (m.move.agenda ∷ m.move.behind) in
    let others = map-append actor_of m.move.behind m.move.passed in
    let after = map-append actor_of (m.move.behind ++ m.move.passed) (agenda_after m.move.agenda t o) ∙ ap (λ l. l ++ own) others in
    subst (λ n. Turned (map actor_of agendas) (turns_in n) (map actor_of (agendas_behind n t o))) (sym m.is)
    (subst (λ l. Turned l (ps ++ x ∷ []) next) (sym before)
    (subst (λ l. Turned (ps ++ x ∷ behind) (ps ++ x ∷ []) l) (sym after) (passed_over ps x behind own (once_or_gone m.move.agenda t o))))

pub all_turned : (s : State) (agendas : List Agenda) (es : List Entry) → AreCalls s agendas es
    → Turned (map actor_of agendas) (turns_from s agendas es) (map actor_of (agendas_left s agendas es))
all_turned s agendas [] calls = refl
all_turned s agendas (e ∷ es) calls =
    let next = agendas_behind (next_move s [] agendas) (step s e).0 (step s e).1 in
    joined (map actor_of agendas) (turns_in (next_move s [] agendas)) (map actor_of next) (turns_from (step s e).0 next es)
    (map actor_of (agendas_left (step s e).0 next es))
    (one_call s (step s e).0 agendas e (step s e).1 calls.0) (all_turned (step s e).0 next es calls.1)

-- ---- the order at the start

lower : (m n : ℕ) → m < n → nat_lt m n ≡ true
lower m n e = grind (arith, e)

not_lower : (n : ℕ) → nat_lt n n ≡ true → ⊥
not_lower n e = grind (arith, e)

not_both_lower : (m n : ℕ) → nat_lt m n ≡ true → nat_lt n m ≡ true → ⊥
not_both_lower m n e f = grind (arith, e, f)

pub not_before_itself : (x : Actor) → comes_before x x ≡ true → ⊥
not_before_itself (App k) e = not_lower k e
not_before_itself Compositor e = true≢false (sym e)
not_before_itself Device e = true≢false (sym e)

not_both_before : (a b : Actor) → comes_before a b ≡ true → comes_before b a ≡ true → ⊥
not_both_before (App j) (App k) e f = not_both_lower j k e f
not_both_before (App j) Compositor e f = true≢false (sym f)
not_both_before (App j) Device e f = true≢false (sym f)
not_both_before Compositor (App k) e f = true≢false (sym e)
not_both_before Compositor Compositor e f = true≢false (sym e)
not_both_before Compositor Device e f = true≢false (sym e)
not_both_before Device (App k) e f = true≢false (sym e)
not_both_before Device Compositor e f = true≢false (sym f)
not_both_before Device Device e f = true≢false (sym e)

-- where an actor comes before all of these, it comes before each
before_each : (x a : Actor) (xs : List Actor) → list_all (comes_before x) xs ≡ true → 1 ≤ count_of a xs → comes_before x a ≡ true
before_each x a [] all some = absurd (omega arith)
before_each x a (y ∷ ys) all some =
    let both = both_of (comes_before x y) (list_all (comes_before x) ys) all in
    by (is_actor a y) refl some both.0 (before_each x a ys both.1)
  where
    by : (b : Bool) → is_actor a y ≡ b → 1 ≤ bit b + count_of a ys → comes_before x y ≡ true → (1 ≤ count_of a ys → comes_before x a ≡ true)
        → comes_before x a ≡ true
    by true is some here more = subst (λ z. comes_before x z ≡ true) (sym (same_actor a y is)) here
    by false is some here more = more (omega arith)

none_behind : (x : Actor) (xs : List Actor) → list_all (comes_before x) xs ≡ true → count_of x xs ≡ 0
none_behind x xs all = by (count_of x xs) (before_each x x xs all)
  where
    by : (n : ℕ) → (1 ≤ n → comes_before x x ≡ true) → n ≡ 0
    by zero there = refl
    by (suc n) there = absurd (not_before_itself x (there (omega arith)))

pub once_in_order : (a : Actor) (xs : List Actor) → is_in_order xs ≡ true → count_of a xs ≤ 1
once_in_order a [] order = omega arith
once_in_order a (x ∷ xs) order =
    let both = both_of (list_all (comes_before x) xs) (is_in_order xs) order in
    by (is_actor a x) refl both.0 (once_in_order a xs both.1)
  where
    by : (b : Bool) → is_actor a x ≡ b → list_all (comes_before x) xs ≡ true → count_of a xs ≤ 1 → bit b + count_of a xs ≤ 1
    by true is all more = let none = subst (λ z. count_of z xs ≡ 0) (sym (same_actor a x is)) (none_behind x xs all) in omega (arith, none)
    by false is all more = omega arith

pub leads_in_order : (a b : Actor) (xs : List Actor) → is_in_order xs ≡ true → comes_before a b ≡ true → 1 ≤ count_of a xs → leads a b xs ≡ 1
leads_in_order a b [] order ahead some = absurd (omega arith)
leads_in_order a b (x ∷ xs) order ahead some =
    let both = both_of (list_all (comes_before x) xs) (is_in_order xs) order in
    by (is_actor a x) (is_actor b x) refl both.0 some (leads_in_order a b xs both.1 ahead)
  where
    by : (p q : Bool) → is_actor b x ≡ q → list_all (comes_before x) xs ≡ true → 1 ≤ bit p + count_of a xs → (1 ≤ count_of a xs → leads a b xs ≡ 1)
        → (if p then 1 else if q then 0 else leads a b xs) ≡ 1
    by true q is all some more = refl
    by false true is all some more =
        absurd (not_both_before a b ahead (subst (λ z. comes_before z a ≡ true) (sym (same_actor b x is)) (before_each x a xs all (omega arith))))
    by false false is all some more = more (omega arith)

module _ (calls : List DeviceEvent) where
  scripts_later : (app n : ℕ) (scripts : List (List Op)) → app < n
      → list_all (comes_before (App app)) (map actor_of (script_agendas n scripts ++ device_agendas calls ++ compositor 0 ∷ [])) ≡ true
  scripts_later app n [] later = by calls
    where
      by : (cs : List DeviceEvent) → list_all (comes_before (App app)) (map actor_of (device_agendas cs ++ compositor 0 ∷ [])) ≡ true
      by [] = refl
      by (e ∷ es) = refl
  scripts_later app n (ops ∷ scripts) later = rw (lower app n later) (scripts_later app (n + 1) scripts (omega arith))

  scripts_ordered : (app : ℕ) (scripts : List (List Op))
      → is_in_order (map actor_of (script_agendas app scripts ++ device_agendas calls ++ compositor 0 ∷ [])) ≡ true
  scripts_ordered app [] = by calls
    where
      by : (cs : List DeviceEvent) → is_in_order (map actor_of (device_agendas cs ++ compositor 0 ∷ [])) ≡ true
      by [] = refl
      by (e ∷ es) = refl
  scripts_ordered app (ops ∷ scripts) = rw (scripts_later app (app + 1) scripts (omega arith)) (scripts_ordered (app + 1) scripts)

  pub first_ordered : (scenario : Scenario) → is_in_order (map actor_of (first_agendas scenario calls)) ≡ true
  first_ordered scenario = scripts_ordered 1 scenario.scripts
