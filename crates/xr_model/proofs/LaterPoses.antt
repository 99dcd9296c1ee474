-- A pose that is later than all samples of its origin is taken, and any other is ignored.
use Rattle.std.proofs.Common.{arith, ◌≡◌, ◌&&◌, ℕ, ℤ, zero, suc, nat_lt, Bool, true, false, List, [], ◌∷◌, length, take, Some, option_map, refl, sym, subst, ◌∙◌}
use Rattle.std.specs.Prelude.{int_le, int_lt, slice_get, slice_set, unwrap_or, if◌then◌else◌}
use Rattle.std.specs.List.{list_all, find}
use Rattle.xr_types.specs.declared.spaces.TheConstants.{ORIGINS, SAMPLES}
use Rattle.xr_model.specs.machine.Calls.{Entry}
use Rattle.xr_types.specs.declared.calls.Call.{Call}
use Rattle.xr_model.specs.machine.Spaces.{Sample, with_sample, samples_of, with_sample_of, origin_place, pose_at}
use Rattle.xr_model.specs.machine.State.{State, opening}
use Rattle.xr_model.specs.machine.Machine.{step, reads_of}
use Rattle.xr_model.specs.machine.History.{after}
use Rattle.xr_model.specs.laws.SpaceLaws.{times_fall, IsTaken, TakenWhere, is_after_all, LaterPosesAreTaken}
use Rattle.xr_model.proofs.Rows.{both_of}
use Rattle.xr_model.proofs.ListSteps.{kept_by_step}
use Rattle.xr_model.proofs.SampleOrder.{all_so, earlier_still, found_falls, sample_times_fall}

-- ---- each origin has its list

pub set_length : {T : Type 0} (xs : List T) (i : ℕ) (a : T) → length (slice_set xs i a) ≡ length xs
set_length [] i a = refl
set_length (x ∷ xs) zero a = refl
set_length (x ∷ xs) (suc i) a = let more = set_length xs i a in omega (arith, more)

rows_step : (s : State) (e : Entry) → length s.core.room.samples ≡ ORIGINS → length (step s e).0.core.room.samples ≡ ORIGINS
rows_step s e rows = kept_by_step (λ h sp st su. length sp.samples ≡ ORIGINS) s.core (reads_of s e.call) e (record {
  same = rows;
  instance = λ gives. rows;
  session = λ gives instance. rows;
  set = λ gives room instance name localized priority. rows;
  action = λ gives room x named live free. rows;
  space = λ gives room session root offset. rows;
  chain = λ gives session. rows;
  gone = λ handle. rows;
  alone = λ space. rows;
  chain_alone = λ chain. rows;
  suggest = λ o list none. rows;
  attach = λ handles. rows;
  sample = λ what time pose. set_length s.core.room.samples (origin_place what) _ ∙ rows;
})

rows_after : (s : State) (es : List Entry) → length s.core.room.samples ≡ ORIGINS → length (after s es).core.room.samples ≡ ORIGINS
rows_after s [] rows = rows
rows_after s (e ∷ es) rows = rows_after (step s e).0 es (rows_step s e rows)

one_less : (p n : ℕ) → nat_lt (suc p) (suc n) ≡ true → nat_lt p n ≡ true
one_less p n e = grind (arith, e)

none_below : (p : ℕ) → nat_lt p 0 ≡ true → ⊥
none_below p e = grind (arith, e)

its_own : {T : Type 0} (xs : List T) (i : ℕ) (a d : T) → nat_lt i (length xs) ≡ true → unwrap_or (slice_get (slice_set xs i a) i) d ≡ a
its_own [] i a d inside = absurd (none_below i inside)
its_own (x ∷ xs) zero a d inside = refl
its_own (x ∷ xs) (suc i) a d inside = its_own xs i a d (one_less i (length xs) inside)

-- ---- what is kept of an origin

not_yet : (a b : ℤ) → int_lt a b ≡ true → int_le b a ≡ false
not_yet a b e = grind (arith, e)

front_pose : (n : ℕ) (kept : List Sample) (now : ℤ) (p : ℕ) → pose_at now (take n kept) ≡ Some p → pose_at now kept ≡ Some p
front_pose zero kept now p found = cc
front_pose (suc n) [] now p found = found
front_pose (suc n) (s ∷ kept) now p found = by (int_le s.time now) found (front_pose n kept now p)
  where
    by : (b : Bool) → option_map (λ x. x.pose) (if b then Some s else find (λ x. int_le x.time now) (take n kept)) ≡ Some p
        → (pose_at now (take n kept) ≡ Some p → pose_at now kept ≡ Some p)
        → option_map (λ x. x.pose) (if b then Some s else find (λ x. int_le x.time now) kept) ≡ Some p
    by true found more = found
    by false found more = more found

taken : (time : ℤ) (pose n : ℕ) (kept : List Sample) → IsTaken kept (take (suc n) (record { time = time; pose = pose } ∷ kept)) time pose
taken time pose n kept = record {
  from_then = λ now e. rw e refl;
  until_then = λ now p e found. front_pose n kept now p (rw (not_yet now time e) at found);
}

taken_where : (time : ℤ) (pose : ℕ) (kept : List Sample) → times_fall kept ≡ true
    → TakenWhere (is_after_all time kept) kept (with_sample time pose kept) time pose
taken_where time pose [] fall = taken time pose 15 []
taken_where time pose (newest ∷ older) fall = by (int_lt newest.time time) refl
  where
    so : int_lt newest.time time ≡ true → is_after_all time older ≡ true
    so later =
        let before = (both_of (list_all (λ s. int_lt s.time newest.time) older) (times_fall older) fall).0 in
        all_so (λ s. int_lt s.time newest.time) (λ s. int_lt s.time time) (λ s e. earlier_still s.time newest.time time e later) older before

    by : (b : Bool) → int_lt newest.time time ≡ b
        → TakenWhere (b && is_after_all time older) (newest ∷ older)
        (if b then take SAMPLES (record { time = time; pose = pose } ∷ newest ∷ older) else newest ∷ older) time pose
    by true later = rw (so later) (taken time pose 15 (newest ∷ older))
    by false later = refl

pub later_poses_are_taken : LaterPosesAreTaken
later_poses_are_taken settings es e origin time pose asks inside =
    subst
    (λ (r : Call). TakenWhere (is_after_all time old) old (samples_of (step s (record e { call = r })).0.core.room.samples origin) time pose)
    (sym asks)
    (subst (λ (new : List Sample). TakenWhere (is_after_all time old) old new time pose) (sym own) (taken_where time pose old fall))
  where
    s : State
    s = after (opening settings) es

    old : List Sample
    old = samples_of (after (opening settings) es).core.room.samples origin

    fall : times_fall old ≡ true
    fall = found_falls (after (opening settings) es).core.room.samples (origin_place origin) (sample_times_fall settings es)

    here : nat_lt (origin_place origin) (length (after (opening settings) es).core.room.samples) ≡ true
    here = subst (λ (n : ℕ). nat_lt (origin_place origin) n ≡ true) (sym (rows_after (opening settings) es refl)) inside

    own : samples_of (with_sample_of (after (opening settings) es).core.room.samples origin time pose) origin ≡ with_sample time pose old
    own = its_own (after (opening settings) es).core.room.samples (origin_place origin) (with_sample time pose old) [] here
