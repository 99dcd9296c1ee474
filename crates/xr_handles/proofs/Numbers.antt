-- Handles counted up.
use Rattle.std.specs.List.{list_any}
use Rattle.std.proofs.lemmas.Bool.Decides.{nat_tests}
use Rattle.std.proofs.Common.{◌≡◌, ◌<◌, ◌==◌, ℕ, zero, suc, false, length, refl, ap, arith}
use Rattle.xr_handles.specs.Numbers.{counted}

-- as many numbers were given as are counted
pub count_of : (n : ℕ) → length (counted n) ≡ n
count_of zero = refl
count_of (suc n) = ap suc (count_of n)

-- a number past the count is none of those counted
pub new_number : (n m : ℕ) → n < m → list_any (λ k. k == m) (counted n) ≡ false
new_number zero m h = refl
new_number (suc n) m h = rw (other (suc n) m (omega arith), new_number n m (omega arith)) refl
  where
    other : (a b : ℕ) → a < b → (a == b) ≡ false
    other a b l = grind (arith, nat_tests)
