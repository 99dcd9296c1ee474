-- The column of a user path by its atom.
use Rattle.std.proofs.Common.{◌≡◌, ◌+◌, ◌<◌, ◌==◌, ◌&&◌, ℕ, Bool, true, false, List, [], ◌∷◌, length, get_or, drop, Some, refl, ◌∙◌, arith}
use Rattle.std.specs.Prelude.{if◌then◌else◌}
use Rattle.std.proofs.lemmas.List.{drop_more}
use Rattle.std.proofs.lemmas.Bool.Decides.{nat_tests}
use Rattle.xr_model.specs.machine.Publication.{column_from}

-- at a place of both lists: this user path's, or one of those behind it
pub column_step : (users : List ℕ) (declared : List Bool) (sub k i d : ℕ) (e : Bool) → i < length users → i < length declared
    → column_from k (drop i users) (drop i declared) sub ≡ (if get_or declared i e && (get_or users i d == sub) then Some k else column_from (k + 1) (drop (i + 1) users) (drop (i + 1) declared) sub)
column_step users declared sub k i d e within within2 = rw (drop_more users i d within, drop_more declared i e within2) refl

-- where it isn't this one, it is behind
pub column_behind : (users : List ℕ) (declared : List Bool) (sub k i d : ℕ) (e : Bool) → i < length users → i < length declared → get_or declared i e && (get_or users i d == sub) ≡ false
    → column_from k (drop i users) (drop i declared) sub ≡ column_from (k + 1) (drop (i + 1) users) (drop (i + 1) declared) sub
column_behind users declared sub k i d e within within2 other = column_step users declared sub k i d e within within2 ∙ rw other refl

pub not_both : (b : Bool) (n m : ℕ) → (n ≡ m → ⊥) → b && (n == m) ≡ false
not_both true n m other = grind (arith, nat_tests, other)
not_both false n m other = refl

pub not_first : (b c : Bool) → b ≡ false → b && c ≡ false
not_first b c fails = rw fails refl

-- a column is one of so many
column_few : (users : List ℕ) (declared : List Bool) (sub k i : ℕ) → column_from k users declared sub ≡ Some i → i < k + length declared
column_few [] declared sub k i is = cc
column_few (u ∷ users) [] sub k i is = cc
column_few (u ∷ users) (d ∷ declared) sub k i is = by (d && (u == sub)) is (column_few users declared sub (k + 1) i)
  where
    by : (b : Bool) → (if b then Some k else column_from (k + 1) users declared sub) ≡ Some i → (column_from (k + 1) users declared sub ≡ Some i → i < k + 1 + length declared) → i < k + length (d ∷ declared)
    by true is more = let same : k ≡ i = cc in omega (arith, same)
    by false is more = let less = more is in omega (arith, less)

pub column_near : (users : List ℕ) (declared : List Bool) (sub i : ℕ) → (if sub == 0 then Some 0 else column_from 1 users declared sub) ≡ Some i → i < 1 + length declared
column_near users declared sub i is = by (sub == 0) is
  where
    by : (b : Bool) → (if b then Some 0 else column_from 1 users declared sub) ≡ Some i → i < 1 + length declared
    by true is = let same : 0 ≡ i = cc in omega (arith, same)
    by false is = column_few users declared sub 1 i is
