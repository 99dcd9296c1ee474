use Rattle.std.proofs.Common.{◌≡◌, ◌≤◌, ◌<◌, ◌+◌, ◌==◌, ◌||◌, ℕ, Bool, true, false, nat_le, List, length, take, get_or, refl, arith}
use Rattle.std.proofs.lemmas.Bool.Decides.{nat_tests}
use Rattle.std.proofs.lemmas.List.Folds.{list_any_more, list_any_kept}
use Rattle.std.specs.List.{list_all, list_any}
use Rattle.xr_types.specs.declared.input.Bound.{Bound}
use Rattle.xr_model.proofs.Rows.{itself}
use Rattle.xr_bindings.proofs.Left.{next_before}
use Rattle.xr_bindings.proofs.suggestions.last_of.Goals.{then-bound-last, else-bound-last}
use Rattle.xr_bindings.proofs.suggestions.last_of.Goals as goal

at_most : (a n : ℕ) → a ≤ n → nat_le a n ≡ true
at_most a n most = grind (arith, nat_tests)

stays : (xs : List Bound) (i : ℕ) (d : Bound) (n : ℕ) → i < length xs → list_all (λ b. nat_le b.action n) (take i xs) ≡ true → (get_or xs i d).action ≤ n
    → list_all (λ b. nat_le b.action n) (take (i + 1) xs) ≡ true
stays xs i d n within all most = next_before xs i d n n within all (omega arith) (at_most (get_or xs i d).action n most)

moves : (xs : List Bound) (i : ℕ) (d : Bound) (n : ℕ) → i < length xs → list_all (λ b. nat_le b.action n) (take i xs) ≡ true → n < (get_or xs i d).action
    → list_all (λ b. nat_le b.action (get_or xs i d).action) (take (i + 1) xs) ≡ true
moves xs i d n within all more = next_before xs i d n (get_or xs i d).action within all (omega (arith, more)) (at_most (get_or xs i d).action (get_or xs i d).action (omega arith))

-- it stays one of these, or none
still : (xs : List Bound) (i n : ℕ) → ((n == 0) || list_any (λ b. b.action == n) (take i xs)) ≡ true → ((n == 0) || list_any (λ b. b.action == n) (take (i + 1) xs)) ≡ true
still xs i n = by (n == 0)
  where
    by : (b : Bool) → b || list_any (λ b. b.action == n) (take i xs) ≡ true → b || list_any (λ b. b.action == n) (take (i + 1) xs) ≡ true
    by true one = refl
    by false one = list_any_kept (λ (b : Bound). b.action == n) xs i one

-- the next one is one of these
next : (xs : List Bound) (i : ℕ) (d : Bound) → i < length xs → (((get_or xs i d).action == 0) || list_any (λ b. b.action == (get_or xs i d).action) (take (i + 1) xs)) ≡ true
next xs i d within = rw (list_any_more (λ (b : Bound). b.action == (get_or xs i d).action) xs i d within, itself (get_or xs i d).action) (or_true ((get_or xs i d).action == 0) (list_any (λ (b : Bound). b.action == (get_or xs i d).action) (take i xs)))
  where
    or_true : (a b : Bool) → a || (b || true) ≡ true
    or_true true b = refl
    or_true false true = refl
    or_true false false = refl

pub loop-bound-preserved : goal.loop-bound-preserved
loop-bound-preserved c =
    let i = c.loop-bound.invariant in
    let xs = c.args.list.now in
    let k = c.loop-bound.bound-index in
    let within = c.loop-bound-test.true in
    elim c.if-bound-last.branch [
      | then-bound-last w ↦ rw w.last-is (record { most = moves xs k _ c.loop-bound.last within i.most w.if-bound-last.true; of_these = next xs k _ within })
      | else-bound-last w ↦ rw w.last-is (record { most = stays xs k _ c.loop-bound.last within i.most w.if-bound-last.false; of_these = still xs k c.loop-bound.last i.of_these })
    ]
