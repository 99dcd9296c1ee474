-- The script of a load: its counts, and the waits that its frames are ended at.
use Rattle.std.proofs.Common.{arith, ◌≡◌, ◌+◌, ◌*◌, ◌/◌, ◌%◌, ℕ, zero, suc, Bool, true, false, List, [], ◌∷◌, ◌++◌, length, refl, subst}
use Rattle.std.specs.Prelude.{if◌then◌else◌}
use Rattle.std.proofs.lemmas.Bool.Decides.{nat_tests}
use Rattle.xr_types.specs.declared.scenario.Op.{Op}
use Rattle.xr_model.specs.scenario.LoadScenario.{is_tenth, is_seventh, rounds_by, image_ops, wrong_end_by, wait_place, right_end, frame_ops, frame_ops_from}
use Rattle.xr_model.specs.laws.LoadLaws.{how_many, is_wait, is_end, is_wrong_end, LoadsHaveSoManyOps, EndTheirWaits, LoadsEndTheirWaits}
use Rattle.xr_model.proofs.Rows.{same_key}

-- ---- tenths and sevenths

tenth_more : (k : ℕ) (b : Bool) → is_tenth (k + 1) ≡ b → (k + 1) / 10 ≡ k / 10 + (if b then 1 else 0)
tenth_more k true is = omega (arith, same_key ((k + 1) % 10) 0 is)
tenth_more k false is = let other : (k + 1) % 10 ≡ 0 → ⊥ = grind (arith, nat_tests, is) in omega (arith, other)

seventh_more : (k : ℕ) (b : Bool) → is_seventh (k + 1) ≡ b → (k + 1) / 7 ≡ k / 7 + (if b then 1 else 0)
seventh_more k true is = omega (arith, same_key ((k + 1) % 7) 0 is)
seventh_more k false is = let other : (k + 1) % 7 ≡ 0 → ⊥ = grind (arith, nat_tests, is) in omega (arith, other)

-- the ops of a frame, told whether it is a tenth and whether a seventh
abbrev ops_by : Bool → Bool → ℕ → ℕ → List Op
ops_by tenth seventh j place = (rounds_by tenth ++ (image_ops j ++ wrong_end_by seventh)) ++ right_end (wait_place tenth place) ∷ []

-- ---- all ops

length_by : (t v : Bool) (j place : ℕ) (rest : List Op) → length (ops_by t v j place ++ rest)
    ≡ 7 + 2 * (if t then 1 else 0) + (if v then 1 else 0) + length rest
length_by true true j place rest = omega arith
length_by true false j place rest = omega arith
length_by false true j place rest = omega arith
length_by false false j place rest = omega arith

all_ops : (count k place : ℕ) → length (frame_ops_from count (k + 1) place) + 2 * (k / 10) + k / 7 ≡ 7 * count + 2 * ((k + count) / 10) + (k + count) / 7
all_ops zero k place = omega arith
all_ops (suc count) k place =
    let rest = frame_ops_from count (k + 1 + 1) (place + length (frame_ops (k + 1) place)) in
    let here = length_by (is_tenth (k + 1)) (is_seventh (k + 1)) (k + 1) place rest in
    let tenth = tenth_more k (is_tenth (k + 1)) refl in
    let seventh = seventh_more k (is_seventh (k + 1)) refl in
    let more = all_ops count (k + 1) (place + length (frame_ops (k + 1) place)) in
    let moved : k + 1 + count ≡ k + suc count = omega arith in
    omega (arith, here, tenth, seventh, subst (λ (n : ℕ). length rest + 2 * ((k + 1) / 10) + (k + 1) / 7 ≡ 7 * count + 2 * (n / 10) + n / 7) moved more)

-- ---- waits

waits_by : (t v : Bool) (j place : ℕ) (rest : List Op) → how_many is_wait (ops_by t v j place ++ rest) ≡ 1 + (if t then 1 else 0) + how_many is_wait rest
waits_by true true j place rest = omega arith
waits_by true false j place rest = omega arith
waits_by false true j place rest = omega arith
waits_by false false j place rest = omega arith

all_waits : (count k place : ℕ) → how_many is_wait (frame_ops_from count (k + 1) place) + k / 10 ≡ count + (k + count) / 10
all_waits zero k place = omega arith
all_waits (suc count) k place =
    let rest = frame_ops_from count (k + 1 + 1) (place + length (frame_ops (k + 1) place)) in
    let here = waits_by (is_tenth (k + 1)) (is_seventh (k + 1)) (k + 1) place rest in
    let tenth = tenth_more k (is_tenth (k + 1)) refl in
    let more = all_waits count (k + 1) (place + length (frame_ops (k + 1) place)) in
    let moved : k + 1 + count ≡ k + suc count = omega arith in
    omega (arith, here, tenth, subst (λ (n : ℕ). how_many is_wait rest + (k + 1) / 10 ≡ count + n / 10) moved more)

-- ---- ends

ends_by : (t v : Bool) (j place : ℕ) (rest : List Op) → how_many is_end (ops_by t v j place ++ rest) ≡ 1 + how_many is_end rest
ends_by true true j place rest = omega arith
ends_by true false j place rest = omega arith
ends_by false true j place rest = omega arith
ends_by false false j place rest = omega arith

all_ends : (count k place : ℕ) → how_many is_end (frame_ops_from count (k + 1) place) ≡ count
all_ends zero k place = refl
all_ends (suc count) k place =
    let rest = frame_ops_from count (k + 1 + 1) (place + length (frame_ops (k + 1) place)) in
    let here = ends_by (is_tenth (k + 1)) (is_seventh (k + 1)) (k + 1) place rest in
    let more = all_ends count (k + 1) (place + length (frame_ops (k + 1) place)) in
    omega (arith, here, more)

wrong_by : (t v : Bool) (j place : ℕ) (rest : List Op) → how_many is_wrong_end (ops_by t v j place ++ rest) ≡ (if v then 1 else 0) + how_many is_wrong_end rest
wrong_by true true j place rest = omega arith
wrong_by true false j place rest = omega arith
wrong_by false true j place rest = omega arith
wrong_by false false j place rest = omega arith

all_wrong : (count k place : ℕ) → how_many is_wrong_end (frame_ops_from count (k + 1) place) + k / 7 ≡ (k + count) / 7
all_wrong zero k place = omega arith
all_wrong (suc count) k place =
    let rest = frame_ops_from count (k + 1 + 1) (place + length (frame_ops (k + 1) place)) in
    let here = wrong_by (is_tenth (k + 1)) (is_seventh (k + 1)) (k + 1) place rest in
    let seventh = seventh_more k (is_seventh (k + 1)) refl in
    let more = all_wrong count (k + 1) (place + length (frame_ops (k + 1) place)) in
    let moved : k + 1 + count ≡ k + suc count = omega arith in
    omega (arith, here, seventh, subst (λ (n : ℕ). how_many is_wrong_end rest + (k + 1) / 7 ≡ n / 7) moved more)

pub loads_have_so_many_ops : LoadsHaveSoManyOps
loads_have_so_many_ops = record {
  all = λ n. omega (arith, all_ops n 0 8);
  waits = λ n. omega (arith, all_waits n 0 8);
  ends = λ n. all_ends n 0 8;
  wrong = λ n. omega (arith, all_wrong n 0 8);
}

-- ---- the waits that frames are ended at

ends_its_wait : (t v : Bool) (j place last : ℕ) (rest : List Op)
    → ((wait : ℕ) → EndTheirWaits (place + length (ops_by t v j place)) wait rest) → EndTheirWaits place last (ops_by t v j place ++ rest)
ends_its_wait true true j place last rest more = (
  tt,
  (
    tt,
    (
      tt,
      (
        tt,
        (
          tt,
          (
            tt,
            (
              tt,
              (
                tt,
                (
                  tt,
                  (
                    omega arith,
                    subst (λ (n : ℕ). EndTheirWaits n (place + 1 + 1) rest) (omega arith) (more (place + 1 + 1)),
                  ),
                ),
              ),
            ),
          ),
        ),
      ),
    ),
  ),
)
ends_its_wait true false j place last rest more =
    (tt, (tt, (tt, (tt, (tt, (tt, (tt, (tt, (omega arith, subst (λ (n : ℕ). EndTheirWaits n (place + 1 + 1) rest) (omega arith) (more (place + 1 + 1)))))))))))
ends_its_wait false true j place last rest more =
    (tt, (tt, (tt, (tt, (tt, (tt, (tt, (refl, subst (λ (n : ℕ). EndTheirWaits n place rest) (omega arith) (more place)))))))))
ends_its_wait false false j place last rest more =
    (tt, (tt, (tt, (tt, (tt, (tt, (refl, subst (λ (n : ℕ). EndTheirWaits n place rest) (omega arith) (more place))))))))

all_end_their_waits : (count j place last : ℕ) → EndTheirWaits place last (frame_ops_from count j place)
all_end_their_waits zero j place last = tt
all_end_their_waits (suc count) j place last =
    ends_its_wait (is_tenth j) (is_seventh j) j place last (frame_ops_from count (j + 1) (place + length (frame_ops j place)))
    (λ wait. all_end_their_waits count (j + 1) (place + length (frame_ops j place)) wait)

pub loads_end_their_waits : LoadsEndTheirWaits
loads_end_their_waits n = (tt, (tt, (tt, (tt, (tt, (tt, (tt, all_end_their_waits n 1 8 0)))))))
