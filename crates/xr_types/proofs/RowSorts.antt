-- The rows of clicks, touches and values, by the tables of the code.
use Rattle.std.proofs.Common.{◌≡◌, ◌==◌, ◌&&◌, ◌||◌, ◌<◌, ℕ, zero, suc, Bool, true, false, not, List, [], ◌∷◌, refl, sym, subst, ◌∙◌, arith, true≢false}
use Rattle.std.specs.Prelude.{nat_le}
use Rattle.std.specs.List.{list_any, list_all}
use Rattle.std.proofs.lemmas.Bool.Decides.{nat_tests}
use Rattle.xr_types.specs.InputNames.{is_digital, is_value}

-- two tests answer alike
abbrev alike : Bool → Bool → Bool
alike true b = b
alike false b = not b

alike_is : (a b : Bool) → alike a b ≡ true → a ≡ b
alike_is true true same = refl
alike_is true false same = sym same
alike_is false true same = same
alike_is false false same = refl

-- a test of each number below this
abbrev pub each_under : (ℕ → Bool) → ℕ → Bool
each_under p zero = true
each_under p (suc n) = p n && each_under p n

pub under_each : (p : ℕ → Bool) (n k : ℕ) → each_under p n ≡ true → k < n → p k ≡ true
under_each p zero k each under = absurd (omega arith)
under_each p (suc n) k each under = by (k == n) refl (p n) refl each (λ rest less. under_each p n k rest less)
  where
    by : (b : Bool) → (k == n) ≡ b → (c : Bool) → p n ≡ c → (c && each_under p n) ≡ true
        → (each_under p n ≡ true → k < n → p k ≡ true) → p k ≡ true
    by true eb true ec each below = let same : k ≡ n = grind (arith, nat_tests) in subst (λ (m : ℕ). p m ≡ true) (sym same) ec
    by false eb true ec each below = below each (grind (arith, nat_tests))
    by b eb false ec each below = absurd (true≢false (sym each))

-- none of these is past the most that they may be
none_past : (most row : ℕ) (rows : List ℕ) → list_all (λ r. nat_le r most) rows ≡ true → most < row → list_any (λ r. r == row) rows ≡ false
none_past most row [] each past = refl
none_past most row (r ∷ rows) each past = by (nat_le r most) refl each (λ rest. none_past most row rows rest past)
  where
    by : (b : Bool) → nat_le r most ≡ b → (b && list_all (λ x. nat_le x most) rows) ≡ true
        → (list_all (λ x. nat_le x most) rows ≡ true → list_any (λ x. x == row) rows ≡ false) → (r == row || list_any (λ x. x == row) rows) ≡ false
    by true eb each more = let other : (r == row) ≡ false = grind (arith, nat_tests) in rw other (more each)
    by false eb each more = absurd (true≢false (sym each))

-- a test is that of a list of rows up to 40, where both answer alike for those and the test refuses all others
pub rows_are : (rows : List ℕ) (test : ℕ → Bool) → list_all (λ r. nat_le r 40) rows ≡ true
    → each_under (λ k. alike (list_any (λ r. r == k) rows) (test k)) 41 ≡ true → ((row : ℕ) → nat_le row 40 ≡ false → test row ≡ false)
    → (row : ℕ) → list_any (λ r. r == row) rows ≡ test row
rows_are rows test few each refused row = by (nat_le row 40) refl
  where
    by : (b : Bool) → nat_le row 40 ≡ b → list_any (λ r. r == row) rows ≡ test row
    by true eb = alike_is (list_any (λ r. r == row) rows) (test row) (under_each (λ k. alike (list_any (λ r. r == k) rows) (test k)) 41 row each (grind (arith, nat_tests)))
    by false eb = none_past 40 row rows few (grind (arith, nat_tests)) ∙ sym (refused row eb)

-- the rows of the code's table
abbrev digital : List ℕ
digital = 1 ∷ 2 ∷ 3 ∷ 4 ∷ 5 ∷ 6 ∷ 7 ∷ 8 ∷ 9 ∷ 10 ∷ 11 ∷ 12 ∷ 13 ∷ 15 ∷ 17 ∷ 20 ∷ 21 ∷ 22 ∷ 25 ∷ 26 ∷ 27 ∷ 28 ∷ 29 ∷ 30 ∷ 31 ∷ 32 ∷ 35 ∷ 38 ∷ []

-- they are those whose component is a click or a touch
pub digital_rows : (row : ℕ) → list_any (λ r. r == row) digital ≡ is_digital row
digital_rows = rows_are digital is_digital refl refl (λ row eb. let first : nat_le 1 row ≡ true = grind (arith, nat_tests) in rw (first, eb) refl)

-- the rows of the code's list of values
abbrev values : List ℕ
values = 14 ∷ 16 ∷ 39 ∷ 40 ∷ []

-- they are those whose component is a value
pub value_rows : (row : ℕ) → list_any (λ r. r == row) values ≡ is_value row
value_rows = rows_are values is_value refl refl (λ row eb. let first : nat_le 1 row ≡ true = grind (arith, nat_tests) in rw (first, eb) refl)
