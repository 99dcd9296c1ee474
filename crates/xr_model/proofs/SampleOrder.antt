-- The times of samples fall, and the pose at a time is that of the newest sample which isn't later.
use Rattle.std.proofs.Common.{arith, ◌≡◌, ◌||◌, ℕ, ℤ, zero, suc, not, Bool, true, false, List, [], ◌∷◌, take, Option, Some, None, option_map, refl}
use Rattle.std.specs.Prelude.{int_le, int_lt, slice_get, unwrap_or, if◌then◌else◌}
use Rattle.std.specs.List.{list_all, find}
use Rattle.xr_types.specs.declared.spaces.Origin.{Origin}
use Rattle.xr_types.specs.declared.spaces.TheConstants.{SAMPLES}
use Rattle.xr_model.specs.machine.Calls.{Entry}
use Rattle.xr_model.specs.machine.Spaces.{Sample, is_later, with_sample, samples_of, with_sample_of, origin_place, pose_at}
use Rattle.xr_model.specs.machine.State.{State, opening}
use Rattle.xr_model.specs.machine.Machine.{step, reads_of}
use Rattle.xr_model.specs.machine.History.{after}
use Rattle.xr_model.specs.laws.SpaceLaws.{times_fall, SampleTimesFall, IsPoseAt, PoseIsTheNewestNotLater}
use Rattle.xr_model.proofs.Rows.{both_of}
use Rattle.xr_model.proofs.Lists.{all_set}
use Rattle.xr_model.proofs.ListSteps.{kept_by_step}

-- ---- times

pub earlier_still : (a b c : ℤ) → int_lt a b ≡ true → int_lt b c ≡ true → int_lt a c ≡ true
earlier_still a b c e f = grind (arith, e, f)

not_after_itself : (a : ℤ) → int_le a a ≡ true
not_after_itself a = grind arith

earlier_or_same : (a b : ℤ) → int_lt a b ≡ true → int_le a b ≡ true
earlier_or_same a b e = grind (arith, e)

later_so : (a b : ℤ) → int_le a b ≡ false → int_lt b a ≡ true
later_so a b e = grind (arith, e)

-- ---- tests of all samples

pub all_so : {T : Type 0} (p q : T → Bool) → ((x : T) → p x ≡ true → q x ≡ true) → (xs : List T) → list_all p xs ≡ true → list_all q xs ≡ true
all_so p q so [] all = refl
all_so p q so (x ∷ xs) all = let two = both_of (p x) (list_all p xs) all in rw (so x two.0) (all_so p q so xs two.1)

front_all : {T : Type 0} (p : T → Bool) (n : ℕ) (xs : List T) → list_all p xs ≡ true → list_all p (take n xs) ≡ true
front_all p zero xs all = refl
front_all p (suc n) [] all = refl
front_all p (suc n) (x ∷ xs) all = let two = both_of (p x) (list_all p xs) all in rw two.0 (front_all p n xs two.1)

-- ---- samples fall

front_falls : (n : ℕ) (xs : List Sample) → times_fall xs ≡ true → times_fall (take n xs) ≡ true
front_falls zero xs fall = refl
front_falls (suc n) [] fall = refl
front_falls (suc n) (x ∷ xs) fall =
    let two = both_of (list_all (λ s. int_lt s.time x.time) xs) (times_fall xs) fall in
    rw (front_all (λ s. int_lt s.time x.time) n xs two.0) (front_falls n xs two.1)

new_falls : (new : Sample) (kept : List Sample) → is_later new.time kept ≡ true → times_fall kept ≡ true → times_fall (new ∷ kept) ≡ true
new_falls new [] later fall = refl
new_falls new (newest ∷ older) later fall =
    let two = both_of (list_all (λ s. int_lt s.time newest.time) older) (times_fall older) fall in
    rw (later, all_so (λ s. int_lt s.time newest.time) (λ s. int_lt s.time new.time) so older two.0) fall
  where
    so : (s : Sample) → int_lt s.time newest.time ≡ true → int_lt s.time new.time ≡ true
    so s e = earlier_still s.time newest.time new.time e later

pub found_falls : (samples : List (List Sample)) (place : ℕ) → list_all times_fall samples ≡ true
    → times_fall (unwrap_or (slice_get samples place) []) ≡ true
found_falls [] place fall = refl
found_falls (kept ∷ samples) zero fall = (both_of (times_fall kept) (list_all times_fall samples) fall).0
found_falls (kept ∷ samples) (suc place) fall = found_falls samples place (both_of (times_fall kept) (list_all times_fall samples) fall).1

sampled_falls : (samples : List (List Sample)) (what : Origin) (time : ℤ) (pose : ℕ) → list_all times_fall samples ≡ true
    → list_all times_fall (with_sample_of samples what time pose) ≡ true
sampled_falls samples what time pose fall =
    all_set times_fall samples (origin_place what) (with_sample time pose (samples_of samples what)) fall
    (by (is_later time (samples_of samples what)) refl)
  where
    before : times_fall (samples_of samples what) ≡ true
    before = found_falls samples (origin_place what) fall

    new : Sample
    new = record { time = time; pose = pose }

    by : (b : Bool) → is_later time (samples_of samples what) ≡ b
        → times_fall (if b then take SAMPLES (record { time = time; pose = pose } ∷ samples_of samples what) else samples_of samples what) ≡ true
    by true later = front_falls SAMPLES (new ∷ samples_of samples what) (new_falls new (samples_of samples what) later before)
    by false later = before

falls_step : (s : State) (e : Entry) → list_all times_fall s.core.room.samples ≡ true → list_all times_fall (step s e).0.core.room.samples ≡ true
falls_step s e fall = kept_by_step (λ h sp st su. list_all times_fall sp.samples ≡ true) s.core (reads_of s e.call) e (record {
  same = fall;
  instance = λ gives. fall;
  session = λ gives instance. fall;
  set = λ gives room instance name localized priority. fall;
  action = λ gives room x named live free. fall;
  space = λ gives room session root offset. fall;
  chain = λ gives session. fall;
  gone = λ handle. fall;
  alone = λ space. fall;
  chain_alone = λ chain. fall;
  suggest = λ o list none. fall;
  attach = λ handles. fall;
  sample = λ what time pose. sampled_falls s.core.room.samples what time pose fall;
})

falls_after : (s : State) (es : List Entry) → list_all times_fall s.core.room.samples ≡ true
    → list_all times_fall (after s es).core.room.samples ≡ true
falls_after s [] fall = fall
falls_after s (e ∷ es) fall = falls_after (step s e).0 es (falls_step s e fall)

pub sample_times_fall : SampleTimesFall
sample_times_fall settings es = falls_after (opening settings) es refl

-- ---- the pose at a time

or_so : (a b : Bool) → b ≡ true → a || b ≡ true
or_so true b e = refl
or_so false b e = e

pub pose_is_the_newest_not_later : PoseIsTheNewestNotLater
pose_is_the_newest_not_later time [] fall = refl
pose_is_the_newest_not_later time (n ∷ older) fall = by (int_le n.time time) refl (pose_is_the_newest_not_later time older two.1)
  where
    two : (list_all (λ s. int_lt s.time n.time) older ≡ true) × (times_fall older ≡ true)
    two = both_of (list_all (λ s. int_lt s.time n.time) older) (times_fall older) fall

    more : int_le n.time time ≡ false → (o : Option ℕ) → IsPoseAt time older o → IsPoseAt time (n ∷ older) o
    more late None is = rw (later_so n.time time late) is
    more late (Some pose) is =
        (is.0, record { place = suc is.1.place; there = is.1.there; not_later = is.1.not_later; newest = rw late is.1.newest }, is.2)

    -- it isn't newer than this one, or is later than the time
    passes : Sample → Bool
    passes s = not (int_le s.time time) || int_le s.time n.time

    so : (s : Sample) → int_lt s.time n.time ≡ true → passes s ≡ true
    so s e = or_so (not (int_le s.time time)) (int_le s.time n.time) (earlier_or_same s.time n.time e)

    by : (b : Bool) → int_le n.time time ≡ b → IsPoseAt time older (pose_at time older)
        → IsPoseAt time (n ∷ older) (option_map (λ s. s.pose) (if b then Some n else find (λ s. int_le s.time time) older))
    by true early rest =
        let behind = all_so (λ s. int_lt s.time n.time) passes so older two.0 in
        let here = or_so (not (int_le n.time time)) (int_le n.time n.time) (not_after_itself n.time) in
        (n, record { place = 0; there = refl; not_later = early; newest = rw here behind }, refl)
    by false late rest = more late (pose_at time older) rest
