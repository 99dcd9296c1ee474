-- The order of agendas from turn to turn.
use Rattle.std.proofs.Common.{◌≡◌, ◌+◌, ◌-◌, ◌<◌, ◌≤◌, ℕ, suc, Bool, true, false, nat_lt, List, [], ◌∷◌, ◌++◌, length, drop, take, get_or, set, Some, None, refl, sym, ap, subst, ◌∙◌, arith, append_assoc, append-nil, length-append}
use Rattle.std.proofs.lemmas.Bool.{ltb-true, ltb-false}
use Rattle.std.proofs.lemmas.Grind.{flat_map-append}
use Rattle.std.proofs.lemmas.List.{drop_more, take_more_set, drop-set-lt, set_split, drop_all, length-drop, length-take-le}
use Rattle.xr_model.specs.machine.State.{State}
use Rattle.xr_model.specs.runs.Robin.{Agenda, NextMove, is_next_ready, next_move}
use Rattle.xr_serial.specs.inside.Turns.{turn_behind, others_of, from_turn, joined, AreHeldBack, IsTurnOrder}

pub held_append : (s : State) (xs ys : List Agenda) → AreHeldBack s xs → AreHeldBack s ys → AreHeldBack s (xs ++ ys)
held_append s [] ys a b = b
held_append s (x ∷ xs) ys a b = (a.0, held_append s xs ys a.1 b)

pub joined-append : (xs ys : List (List Agenda)) → joined (xs ++ ys) ≡ joined xs ++ joined ys
joined-append xs ys = flat_map-append (λ (part : List Agenda). part) xs ys

pub joined-snoc : (xs : List (List Agenda)) (x : List Agenda) → joined (xs ++ x ∷ []) ≡ joined xs ++ x
joined-snoc xs x = joined-append xs (x ∷ []) ∙ ap (λ (l : List Agenda). joined xs ++ l) (append-nil x)

-- ---- whose turn makes a call

-- where none can, there is no turn
pub none_turn : (s : State) (before xs : List Agenda) → AreHeldBack s xs → next_move s before xs ≡ None
none_turn s before [] held = refl
none_turn s before (x ∷ xs) held = rw held.0 (none_turn s (before ++ x ∷ []) xs held.1)

abbrev turn_of : List Agenda → Agenda → List Agenda → NextMove
turn_of passed x behind = record { passed = passed; agenda = x; behind = behind }

-- the first that can takes its turn
first_turn : (s : State) (before xs : List Agenda) (x : Agenda) (ys : List Agenda) → AreHeldBack s xs → is_next_ready s x ≡ true → next_move s before (xs ++ x ∷ ys) ≡ Some (turn_of (before ++ xs) x ys)
first_turn s before [] x ys held can = rw can (ap (λ (l : List Agenda). Some (turn_of l x ys)) (sym (append-nil before)))
first_turn s before (y ∷ xs) x ys held can = rw held.0 (first_turn s (before ++ y ∷ []) xs x ys held.1 can ∙ ap (λ (l : List Agenda). Some (turn_of l x ys)) (append_assoc before (y ∷ []) xs))

-- ---- from turn to turn

heads : (x c : List Agenda) (xs cs : List (List Agenda)) → x ∷ xs ≡ c ∷ cs → (x ≡ c) × (xs ≡ cs)
heads x c xs cs is = (ap (λ (l : List (List Agenda)). get_or l 0 x) is, ap (λ (l : List (List Agenda)). drop 1 l) is)

-- one that can't is passed over
pub passed_over : (s : State) (idle : ℕ) (x : List Agenda) (others : List (List Agenda)) (agendas : List Agenda) → idle < suc (length others) → IsTurnOrder s idle (x ∷ others) agendas → AreHeldBack s x → IsTurnOrder s (idle + 1) (others ++ x ∷ []) agendas
passed_over s idle x others agendas few o held = by o.coming o.order_is o.agendas_are
  where
    by : (coming : List (List Agenda)) → x ∷ others ≡ coming ++ o.passed → agendas ≡ joined o.passed ++ joined coming → IsTurnOrder s (idle + 1) (others ++ x ∷ []) agendas
    by [] is all =
        let same : suc (length others) ≡ length o.passed = ap length is in
        let count = o.count in
        let none : ⊥ = omega (arith, same, count, few) in
        absurd none
    by (c ∷ cs) is all =
        let parts = heads x c others (cs ++ o.passed) is in
        let count = o.count in
        record {
          coming = cs;
          passed = o.passed ++ x ∷ [];
          order_is = rw parts.1 (append_assoc cs o.passed (x ∷ []));
          count = length-append o.passed (x ∷ []) ∙ omega (arith, count);
          held = subst (AreHeldBack s) (sym (joined-snoc o.passed x)) (held_append s (joined o.passed) x o.held held);
          agendas_are =
              all ∙ ap (λ (p : List Agenda). joined o.passed ++ (p ++ joined cs)) (sym parts.0) ∙ sym (append_assoc (joined o.passed) x (joined cs)) ∙ ap (λ (l : List Agenda). l ++ joined cs) (sym (joined-snoc o.passed x));
        }

-- the turn of one that can, and the others behind it
pub record Takes (s : State) (x : Agenda) (others agendas : List Agenda) : Type 0 where
  pub turn : NextMove
  pub found : next_move s [] agendas ≡ Some turn
  pub agenda : turn.agenda ≡ x
  pub others_are : turn.behind ++ turn.passed ≡ others

pub takes_turn : (s : State) (idle : ℕ) (x : Agenda) (others : List (List Agenda)) (agendas : List Agenda) → idle < suc (length others) → IsTurnOrder s idle ((x ∷ []) ∷ others) agendas → is_next_ready s x ≡ true → Takes s x (joined others) agendas
takes_turn s idle x others agendas few o can = by o.coming o.order_is o.agendas_are
  where
    by : (coming : List (List Agenda)) → (x ∷ []) ∷ others ≡ coming ++ o.passed → agendas ≡ joined o.passed ++ joined coming → Takes s x (joined others) agendas
    by [] is all =
        let same : suc (length others) ≡ length o.passed = ap length is in
        let count = o.count in
        let none : ⊥ = omega (arith, same, count, few) in
        absurd none
    by (c ∷ cs) is all =
        let parts = heads (x ∷ []) c others (cs ++ o.passed) is in
        record {
          turn = turn_of (joined o.passed) x (joined cs);
          found = ap (next_move s []) (all ∙ ap (λ (p : List Agenda). joined o.passed ++ (p ++ joined cs)) (sym parts.0)) ∙ first_turn s [] (joined o.passed) x (joined cs) o.held can;
          agenda = refl;
          others_are = sym (ap joined parts.1 ∙ joined-append cs o.passed);
        }

-- where all were passed over, nobody can
pub all_held : (s : State) (idle : ℕ) (order : List (List Agenda)) (agendas : List Agenda) → length order ≤ idle → IsTurnOrder s idle order agendas → (agendas ≡ joined order) × AreHeldBack s (joined order)
all_held s idle order agendas many o = by o.coming o.order_is o.agendas_are
  where
    by : (coming : List (List Agenda)) → order ≡ coming ++ o.passed → agendas ≡ joined o.passed ++ joined coming → (agendas ≡ joined order) × AreHeldBack s (joined order)
    by [] is all = (all ∙ append-nil (joined o.passed) ∙ ap joined (sym is), subst (λ (l : List (List Agenda)). AreHeldBack s (joined l)) (sym is) o.held)
    by (c ∷ cs) is all =
        let size : length order ≡ suc (length (cs ++ o.passed)) = ap length is in
        let sum : length (cs ++ o.passed) ≡ length cs + length o.passed = length-append cs o.passed in
        let count = o.count in
        let none : ⊥ = omega (arith, size, sum, count, many) in
        absurd none

-- ---- rounds

-- the actor whose turn it is stands before the others
pub from_turn_is : (turn : ℕ) (parts : List (List Agenda)) → turn < length parts → from_turn turn parts ≡ get_or parts turn [] ∷ others_of turn parts
from_turn_is turn parts within = ap (λ (l : List (List Agenda)). l ++ take turn parts) (drop_more parts turn [] within)

-- and behind them once its turn has been, whatever is left of it
pub from_turn_next : (turn : ℕ) (parts : List (List Agenda)) (part : List Agenda) → turn < length parts → from_turn (turn_behind turn (length parts)) (set parts turn part) ≡ others_of turn parts ++ part ∷ []
from_turn_next turn parts part within = by (nat_lt (turn + 1) (length parts)) refl
  where
    by : (more : Bool) → nat_lt (turn + 1) (length parts) ≡ more → from_turn (turn_behind turn (length parts)) (set parts turn part) ≡ others_of turn parts ++ part ∷ []
    by true e =
        rw (e, drop-set-lt (turn + 1) parts turn part (omega arith), take_more_set parts turn part within) (sym (append_assoc (drop (turn + 1) parts) (take turn parts) (part ∷ [])))
    by false e =
        let last : length parts ≤ turn + 1 = ltb-false (turn + 1) (length parts) e in
        rw (e, drop_all (turn + 1) parts last) (append-nil (set parts turn part) ∙ set_split parts turn part within ∙ ap (λ (l : List (List Agenda)). take turn parts ++ part ∷ l) (drop_all (suc turn) parts (omega (arith, last))))

-- there are as many as there were
pub count_from : (turn : ℕ) (parts : List (List Agenda)) → turn < length parts → length parts ≡ suc (length (others_of turn parts))
count_from turn parts within =
    let ahead : length (drop (turn + 1) parts ++ take turn parts) ≡ length (drop (turn + 1) parts) + length (take turn parts) = length-append (drop (turn + 1) parts) (take turn parts) in
    let behind : length (drop (turn + 1) parts) ≡ length parts - (turn + 1) = length-drop (turn + 1) parts in
    let before : length (take turn parts) ≡ turn = length-take-le turn parts (omega (arith, within)) in
    omega (arith, ahead, behind, before, within)

pub behind_within : (turn actors : ℕ) → turn < actors → turn_behind turn actors < actors
behind_within turn actors within = by (nat_lt (turn + 1) actors) refl
  where
    by : (more : Bool) → nat_lt (turn + 1) actors ≡ more → turn_behind turn actors < actors
    by true e = rw e (ltb-true (turn + 1) actors e)
    by false e = rw e (omega (arith, within))
