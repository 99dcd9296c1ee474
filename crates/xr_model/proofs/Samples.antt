-- Of each origin few samples are kept.
use Rattle.std.proofs.Common.{arith, ◌≤◌, ◌≡◌, ℕ, ℤ, zero, suc, Bool, true, false, nat_le, List, [], ◌∷◌, length, take, refl}
use Rattle.std.specs.Prelude.{slice_get, unwrap_or, if◌then◌else◌}
use Rattle.xr_types.specs.declared.spaces.Origin.{Origin}
use Rattle.xr_types.specs.declared.spaces.TheConstants.{SAMPLES}
use Rattle.xr_model.specs.machine.Calls.{Entry}
use Rattle.xr_model.specs.machine.Spaces.{Sample, is_later, with_sample, samples_of, with_sample_of, origin_place}
use Rattle.xr_model.specs.machine.State.{State, opening}
use Rattle.xr_model.specs.machine.Machine.{step, reads_of}
use Rattle.xr_model.specs.machine.History.{after}
use Rattle.xr_model.specs.laws.ListLaws.{are_few, SamplesAreFew}
use Rattle.xr_model.proofs.Rows.{both_of}
use Rattle.xr_model.proofs.Lists.{all_set}
use Rattle.xr_model.proofs.ListSteps.{kept_by_step}

take_short : {T : Type 0} (n : ℕ) (xs : List T) → length (take n xs) ≤ n
take_short zero xs = omega arith
take_short (suc n) [] = omega arith
take_short (suc n) (x ∷ xs) = let rest = take_short n xs in omega (arith, rest)

is_most : (m n : ℕ) → m ≤ n → nat_le m n ≡ true
is_most m n e = grind (arith, e)

front_few : {T : Type 0} (n : ℕ) (xs : List T) → nat_le (length (take n xs)) n ≡ true
front_few n xs = is_most (length (take n xs)) n (take_short n xs)

found_few : (samples : List (List Sample)) (place : ℕ) → are_few samples ≡ true → nat_le (length (unwrap_or (slice_get samples place) [])) SAMPLES ≡ true
found_few [] place few = refl
found_few (kept ∷ samples) zero few = (both_of (nat_le (length kept) SAMPLES) (are_few samples) few).0
found_few (kept ∷ samples) (suc place) few = found_few samples place (both_of (nat_le (length kept) SAMPLES) (are_few samples) few).1

sampled_few : (samples : List (List Sample)) (what : Origin) (time : ℤ) (pose : ℕ) → are_few samples ≡ true → are_few (with_sample_of samples what time pose) ≡ true
sampled_few samples what time pose few =
    all_set (λ kept. nat_le (length kept) SAMPLES) samples (origin_place what) (with_sample time pose (samples_of samples what)) few (by (is_later time (samples_of samples what)))
  where
    by : (b : Bool) → nat_le (length (if b then take SAMPLES (record { time = time; pose = pose } ∷ samples_of samples what) else samples_of samples what)) SAMPLES ≡ true
    by true = front_few SAMPLES (record { time = time; pose = pose } ∷ samples_of samples what)
    by false = found_few samples (origin_place what) few

few_step : (s : State) (e : Entry) → are_few s.core.room.samples ≡ true → are_few (step s e).0.core.room.samples ≡ true
few_step s e few = kept_by_step (λ h sp st su. are_few sp.samples ≡ true) s.core (reads_of s e.call) e (record {
  same = few;
  instance = λ gives. few;
  session = λ gives instance. few;
  set = λ gives room instance name localized priority. few;
  action = λ gives room x named live free. few;
  space = λ gives room session root offset. few;
  chain = λ gives session. few;
  gone = λ handle. few;
  alone = λ space. few;
  chain_alone = λ chain. few;
  suggest = λ o list none. few;
  attach = λ handles. few;
  sample = λ what time pose. sampled_few s.core.room.samples what time pose few;
})

few_after : (s : State) (es : List Entry) → are_few s.core.room.samples ≡ true → are_few (after s es).core.room.samples ≡ true
few_after s [] few = few
few_after s (e ∷ es) few = few_after (step s e).0 es (few_step s e few)

pub samples_are_few : SamplesAreFew
samples_are_few settings es = few_after (opening settings) es refl
