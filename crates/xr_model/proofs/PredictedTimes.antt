-- A predicted time is the least time of the grid that is later than the last one and the clock, or the largest time.
use Rattle.std.proofs.Common.{◌≡◌, ◌≤◌, ◌<◌, ◌+◌, ◌-◌, ◌*◌, ◌/◌, ◌%◌, ◌&&◌, ◌+ℤ◌, ◌-ℤ◌, pos, ℕ, ℤ, Bool, true, false, refl, sym, ap, subst, ◌∙◌, arith, mod-lt}
use Rattle.std.specs.Prelude.{int_le, int_lt, nat_abs, if◌then◌else◌}
use Rattle.std.proofs.lemmas.Nat.{div-add-mod'}
use Rattle.std.proofs.Math.Nat.{mul-le-mul_right}
use Rattle.xr_model.specs.machine.Frames.{later_time, capped_time, predicted_time}
use Rattle.xr_model.specs.laws.FrameLaws.{time_of_grid, is_later, IsPredicted, TimesArePredicted}

-- ---- where a time stands on the grid

module _ (base time : ℤ) (m r p : ℕ) (behind : int_lt time base ≡ false) (apart : nat_abs (time -ℤ base) ≡ m + r) (less : r < p) where
  reached : time +ℤ pos (p - r) ≡ base +ℤ pos (m + p)
  reached = grind (arith, behind, apart, less)

  passed : int_lt time (base +ℤ pos (m + p)) ≡ true
  passed = grind (arith, behind, apart, less)

  not_passed : (n : ℕ) → n ≤ m → int_lt time (base +ℤ pos n) ≡ false
  not_passed n few = grind (arith, behind, apart, few)

-- ---- the later of two

later_so : (last clock time : ℤ) → int_lt (later_time last clock) time ≡ true → is_later last clock time ≡ true
later_so last clock time = by (int_lt last clock) refl
  where
    by : (b : Bool) → int_lt last clock ≡ b → int_lt (if b then clock else last) time ≡ true → int_lt last time && int_lt clock time ≡ true
    by true eb later = grind (arith, eb, later)
    by false eb later = grind (arith, eb, later)

not_later : (last clock time : ℤ) → int_lt (later_time last clock) time ≡ false → is_later last clock time ≡ false
not_later last clock time = by (int_lt last clock) refl
  where
    by : (b : Bool) → int_lt last clock ≡ b → int_lt (if b then clock else last) time ≡ false → int_lt last time && int_lt clock time ≡ false
    by true eb later = grind (arith, eb, later)
    by false eb later = grind (arith, eb, later)

module _ (last clock base period : ℤ) (positive : int_le (pos 1) period ≡ true) where
  abbrev time : ℤ
  time = later_time last clock

  -- the first time of the grid
  first : int_lt time base ≡ true → IsPredicted last clock base period (predicted_time last clock base period)
  first before =
      let start : base ≡ time_of_grid base period 0 = grind arith in
      record {
        place = 0;
        grid = rw before (ap capped_time start);
        later = later_so last clock (time_of_grid base period 0) (subst (λ (x : ℤ). int_lt time x ≡ true) start before);
        least = λ k few. absurd (omega (arith, few));
      }

  abbrev p : ℕ
  p = nat_abs period

  abbrev d : ℕ
  d = nat_abs (time -ℤ base)

  abbrev q : ℕ
  q = d / p

  abbrev r : ℕ
  r = d % p

  some : 0 < p
  some = grind (arith, positive)

  parts : d ≡ q * p + r
  parts = sym (div-add-mod' d p)

  less : r < p
  less = mod-lt d some

  one_more : q * p + p ≡ (q + 1) * p
  one_more = omega arith

  -- the time of the grid behind the last one that is passed
  next : int_lt time base ≡ false → IsPredicted last clock base period (predicted_time last clock base period)
  next behind =
      let place : base +ℤ pos (q * p + p) ≡ time_of_grid base period (q + 1) = ap (λ (n : ℕ). base +ℤ pos n) one_more in
      record {
        place = q + 1;
        grid = rw behind (ap capped_time (reached base time (q * p) r p behind parts less ∙ place));
        later = later_so last clock (time_of_grid base period (q + 1)) (subst (λ (x : ℤ). int_lt time x ≡ true) place (passed base time (q * p) r p behind parts less));
        least = λ k few. not_later last clock (time_of_grid base period k) (not_passed base time (q * p) r p behind parts less (k * p) (mul-le-mul_right p (omega (arith, few))));
      }

pub times_are_predicted : TimesArePredicted
times_are_predicted last clock base period positive = by (int_lt (later_time last clock) base) refl
  where
    by : (b : Bool) → int_lt (later_time last clock) base ≡ b → IsPredicted last clock base period (predicted_time last clock base period)
    by true eb = first last clock base period positive eb
    by false eb = next last clock base period positive eb
