-- Digits that are read one after another.
use Rattle.std.proofs.Common.{◌≡◌, ◌<◌, ◌≤◌, ℕ, ◌+◌, ◌-◌, ◌*◌, Bool, true, false, nat_le, List, [], ◌∷◌, length, get_or, drop, Option, Some, None, refl, ap, ◌∙◌, arith}
use Rattle.std.proofs.lemmas.Bool.Decides.{nat_tests}
use Rattle.std.proofs.lemmas.List.{drop_more}
use Rattle.xr_model.specs.device_text.DeviceText.{digits_behind, is_digit}
use Rattle.xr_device.specs.inside.Said.{up_to}

same_number : (n m : ℕ) → Some n ≡ Some m → n ≡ m
same_number n m e = cc

none_is_not : (n : ℕ) → None ≡ Some n → ⊥
none_is_not n e = cc

-- a number only grows with more digits
digits_grow : (n : ℕ) (bs : List ℕ) (m : ℕ) → digits_behind n bs ≡ Some m → n ≤ m
digits_grow n [] m e = let same = same_number n m e in omega arith
digits_grow n (b ∷ bs) m e = by (is_digit b) refl (digits_grow (n * 10 + (b - 48)) bs m)
  where
    by : (t : Bool) → is_digit b ≡ t → (digits_behind (n * 10 + (b - 48)) bs ≡ Some m → n * 10 + (b - 48) ≤ m) → n ≤ m
    by true h more = let grown = more (rw h at e) in omega arith
    by false h more = absurd (none_is_not m (rw h at e))

past_le : (n most : ℕ) → most < n → nat_le n most ≡ false
past_le n most h = grind (arith, nat_tests)

pub up_to-past : (most n : ℕ) (bs : List ℕ) → most < n → up_to most (digits_behind n bs) ≡ None
up_to-past most n bs past = by (digits_behind n bs) refl
  where
    by : (o : Option ℕ) → digits_behind n bs ≡ o → up_to most o ≡ None
    by None e = refl
    by (Some m) e = let grown = digits_grow n bs m e in rw (past_le m most (omega arith)) refl

digit : (b : ℕ) → 48 ≤ b → b ≤ 57 → is_digit b ≡ true
digit b low high = grind (arith, nat_tests)

module _ (word : List ℕ) (i n : ℕ) (within : i < length word) where
  pub digits_step : 48 ≤ get_or word i 0 → get_or word i 0 ≤ 57 → digits_behind n (drop i word) ≡ digits_behind (n * 10 + (get_or word i 0 - 48)) (drop (i + 1) word)
  digits_step low high = ap (digits_behind n) (drop_more word i 0 within) ∙ rw (digit (get_or word i 0) low high) refl
