-- The first handle that is the asked one stands in the place that is read.
use Rattle.std.proofs.Common.{◌≡◌, ◌≢◌, ◌==◌, ℕ, zero, suc, ◌+◌, ◌<◌, Bool, true, false, List, [], ◌∷◌, length, sym, refl, ap, ◌∙◌, arith, Option, Some, None, option_map, slice_get, eq-eqb, ne_eqb, subst}
use mathlib.Core.Logic.{dite}
use native.Mathlib.Decide.{ℕ_discrete}
use Rattle.std.specs.Prelude.{unwrap_or, if◌then◌else◌}
use Rattle.std.specs.List.{position_from}

module _ {T : Type 0} (key : T → ℕ) (handle : ℕ) where
  abbrev AreKeys : List T → (ℕ → ℕ) → Type 0
  AreKeys xs at = (i : ℕ) → i < length xs → option_map key (slice_get xs i) ≡ Some (at i)

  head_is : (x : T) (xs : List T) (at : ℕ → ℕ) → AreKeys (x ∷ xs) at → key x ≡ at 0
  head_is x xs at keys = ap (λ (o : Option ℕ). unwrap_or o 0) (keys 0 (omega arith))

  first_from : (xs : List T) (at : ℕ → ℕ) (n i : ℕ) → AreKeys xs at → i < length xs → at i ≡ handle → ((j : ℕ) → j < i → at j ≢ handle) → position_from (λ x. key x == handle) n xs ≡ Some (n + i)
  first_from [] at n i keys l is before = absurd (omega arith)
  first_from (x ∷ xs) at n zero keys l is before = rw (eq-eqb (key x) handle (head_is x xs at keys ∙ is)) (ap (λ (m : ℕ). Some m) (omega arith))
  first_from (x ∷ xs) at n (suc i) keys l is before =
      rw (ne_eqb (key x) handle (λ e. before 0 (omega arith) (sym (head_is x xs at keys) ∙ e)))
      (first_from xs (λ j. at (suc j)) (n + 1) i (λ j m. keys (suc j) (omega arith)) (omega arith) is (λ j m. before (suc j) (omega arith)) ∙ ap (λ (m : ℕ). Some m) (omega arith))

  pub first_at : (xs : List T) (at : ℕ → ℕ) (i : ℕ) → AreKeys xs at → i < length xs → at i ≡ handle → ((j : ℕ) → j < i → at j ≢ handle) → position_from (λ x. key x == handle) 0 xs ≡ Some i
  first_at xs at i keys l is before = first_from xs at 0 i keys l is before ∙ ap (λ (m : ℕ). Some m) (omega arith)

  pub none_from : (xs : List T) (at : ℕ → ℕ) (n : ℕ) → AreKeys xs at → ((j : ℕ) → j < length xs → at j ≢ handle) → position_from (λ x. key x == handle) n xs ≡ None
  none_from [] at n keys none = refl
  none_from (x ∷ xs) at n keys none =
      rw (ne_eqb (key x) handle (λ e. none 0 (omega arith) (sym (head_is x xs at keys) ∙ e)))
      (none_from xs (λ j. at (suc j)) (n + 1) (λ j m. keys (suc j) (omega arith)) (λ j m. none (suc j) (omega arith)))

-- a place is one of so many
pub position_near : {T : Type 0} (p : T → Bool) (xs : List T) (n i : ℕ) → position_from p n xs ≡ Some i → i < n + length xs
position_near p [] n i is = cc
position_near p (x ∷ xs) n i is = by (p x) is (position_near p xs (n + 1) i)
  where
    by : (b : Bool) → (if b then Some n else position_from p (n + 1) xs) ≡ Some i → (position_from p (n + 1) xs ≡ Some i → i < n + 1 + length xs) → i < n + length (x ∷ xs)
    by true is more = let same : n ≡ i = cc in omega (arith, same)
    by false is more = let less = more is in omega (arith, less)

pub one_more : (P : ℕ → Type 0) (i : ℕ) → ((j : ℕ) → j < i → P j) → P i → (j : ℕ) → j < i + 1 → P j
one_more P i before now j l = dite (ℕ_discrete j i) (λ e. subst P (sym e) now) (λ ne. before j (omega arith))
