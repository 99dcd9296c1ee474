-- How many ops there are.
use Rattle.std.proofs.Common.{◌≡◌, ◌≤◌, ◌+◌, ◌*◌, ◌/◌, ℕ, zero, suc, Bool, true, false, [], ◌∷◌, ◌++◌, refl, arith, length, length-append}
use Rattle.std.proofs.lemmas.Bool.Decides.{nat_tests}
use Rattle.xr_model.specs.scenario.LoadScenario.{is_tenth, is_seventh, rounds_by, image_ops, wrong_end_by, wait_place, right_end, frame_ops, frame_ops_from}
use Rattle.xr_scenario.specs.LoadLaws.{LoadsHaveSoManyOps}

abbrev tens : Bool → ℕ
tens true = 2
tens false = 0

abbrev sevens : Bool → ℕ
sevens true = 1
sevens false = 0

frame_size : (j place : ℕ) → length (frame_ops j place) ≡ 7 + tens (is_tenth j) + sevens (is_seventh j)
frame_size j place = by (is_tenth j) (is_seventh j) place
  where
    by : (t s : Bool) (p : ℕ) → length ((rounds_by t ++ (image_ops j ++ wrong_end_by s)) ++ right_end (wait_place t p) ∷ []) ≡ 7 + tens t + sevens s
    by true true p = refl
    by true false p = refl
    by false true p = refl
    by false false p = refl

pub frame_is_short : (j place : ℕ) → length (frame_ops j place) ≤ 10
frame_is_short j place = by (is_tenth j) (is_seventh j) (frame_size j place)
  where
    by : (t s : Bool) → length (frame_ops j place) ≡ 7 + tens t + sevens s → length (frame_ops j place) ≤ 10
    by true true h = omega (arith, h)
    by true false h = omega (arith, h)
    by false true h = omega (arith, h)
    by false false h = omega (arith, h)

next_ten : (j : ℕ) → 2 * ((j + 1) / 10) ≡ 2 * (j / 10) + tens (is_tenth (j + 1))
next_ten j = by (is_tenth (j + 1)) refl
  where
    by : (t : Bool) → is_tenth (j + 1) ≡ t → 2 * ((j + 1) / 10) ≡ 2 * (j / 10) + tens (is_tenth (j + 1))
    by true e = rw e (grind (arith, nat_tests, e))
    by false e = rw e (grind (arith, nat_tests, e))

next_seven : (j : ℕ) → (j + 1) / 7 ≡ j / 7 + sevens (is_seventh (j + 1))
next_seven j = by (is_seventh (j + 1)) refl
  where
    by : (t : Bool) → is_seventh (j + 1) ≡ t → (j + 1) / 7 ≡ j / 7 + sevens (is_seventh (j + 1))
    by true e = rw e (grind (arith, nat_tests, e))
    by false e = rw e (grind (arith, nat_tests, e))

count_from : (k j place : ℕ) → length (frame_ops_from k (j + 1) place) + 2 * (j / 10) + j / 7 ≡ 7 * k + 2 * ((j + k) / 10) + (j + k) / 7
count_from zero j place = omega arith
count_from (suc k) j place =
    let rest : length (frame_ops_from k (j + 1 + 1) (place + length (frame_ops (j + 1) place))) + 2 * ((j + 1) / 10) + (j + 1) / 7 ≡ 7 * k + 2 * ((j + 1 + k) / 10) + (j + 1 + k) / 7 = count_from k (j + 1) (place + length (frame_ops (j + 1) place)) in
    let whole : length (frame_ops_from (suc k) (j + 1) place) ≡ length (frame_ops (j + 1) place) + length (frame_ops_from k (j + 1 + 1) (place + length (frame_ops (j + 1) place))) = length-append (frame_ops (j + 1) place) (frame_ops_from k (j + 1 + 1) (place + length (frame_ops (j + 1) place))) in
    let e : j + suc k ≡ j + 1 + k = omega arith in
    rw (e) (omega (arith, rest, whole, frame_size (j + 1) place, next_ten j, next_seven j))

pub loads_have_so_many_ops : LoadsHaveSoManyOps
loads_have_so_many_ops n = omega (arith, count_from n 0 8)
