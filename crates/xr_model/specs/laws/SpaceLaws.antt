-- What holds of the samples of origins, and of the pose that an origin has at a time.
use Rattle.std.specs.Prelude.{◌≡◌, ◌==◌, nat_lt, ◌&&◌, ◌||◌, ℕ, ℤ, Bool, true, false, not, int_le, int_lt, List, [], ◌∷◌, Option, Some, None, slice_get}
use Rattle.std.specs.List.{list_all}
use Rattle.xr_types.specs.declared.device.DeviceEvent.TheVariants as event
use Rattle.xr_types.specs.declared.spaces.Origin.{Origin}
use Rattle.xr_types.specs.declared.spaces.TheConstants.{ORIGINS}
use Rattle.xr_model.specs.machine.Calls.{Entry}
use Rattle.xr_types.specs.declared.calls.Call.{Call}
use Rattle.xr_types.specs.declared.calls.Call.TheVariants as ask
use Rattle.xr_model.specs.machine.Spaces.{Sample, pose_at, origin_place, samples_of}
use Rattle.xr_model.specs.machine.State.{Settings, State, opening}
use Rattle.xr_model.specs.machine.Machine.{step}
use Rattle.xr_model.specs.machine.History.{after}

-- ---- the times of samples

-- each sample is later than all that stand behind it
abbrev pub times_fall : List Sample → Bool
times_fall [] = true
times_fall (newest ∷ older) = list_all (λ s. int_lt s.time newest.time) older && times_fall older

-- After every history, the times of each origin's samples fall, so the newest stands first.
abbrev pub SampleTimesFall : Type 0
SampleTimesFall = (settings : Settings) (es : List Entry) → list_all times_fall (after (opening settings) es).core.room.samples ≡ true

-- ---- the pose at a time

-- This kept sample isn't later than a time, and none that isn't later is newer.
pub record IsNewest (time : ℤ) (kept : List Sample) (s : Sample) : Type 0 where
  pub place : ℕ
  pub there : slice_get kept place ≡ Some s
  pub not_later : int_le s.time time ≡ true
  pub newest : list_all (λ other. not (int_le other.time time) || int_le other.time s.time) kept ≡ true

-- A pose is that of the newest kept sample which isn't later. There is none exactly where each sample is later.
abbrev pub IsPoseAt : ℤ → List Sample → Option ℕ → Type 0
IsPoseAt time kept (Some pose) = (s : Sample) × IsNewest time kept s × (s.pose ≡ pose)
IsPoseAt time kept None = list_all (λ s. int_lt time s.time) kept ≡ true

abbrev pub PoseIsTheNewestNotLater : Type 0
PoseIsTheNewestNotLater = (time : ℤ) (kept : List Sample) → times_fall kept ≡ true → IsPoseAt time kept (pose_at time kept)

-- ---- whose samples an entry changes

-- the origin that is told a new pose, where one is
abbrev pub origin_told : Call → Option Origin
origin_told (ask.Device (event.Pose origin time pose)) = Some origin
origin_told _ = None

-- its samples stand at this place
abbrev pub is_told_at : Option Origin → ℕ → Bool
is_told_at None place = false
is_told_at (Some origin) place = origin_place origin == place

-- A new pose changes the samples of its own origin alone, and no other entry changes any.
abbrev pub SamplesAreTheirOrigins : Type 0
SamplesAreTheirOrigins =
    (s : State) (e : Entry) (what : Origin) → is_told_at (origin_told e.call) (origin_place what) ≡ false
    → samples_of (step s e).0.core.room.samples what ≡ samples_of s.core.room.samples what

-- no two origins that have samples share a place
abbrev pub OriginsHaveTheirPlaces : Type 0
OriginsHaveTheirPlaces = (a b : Origin) → origin_place a ≡ origin_place b → nat_lt (origin_place a) ORIGINS ≡ true → a ≡ b

-- ---- what a new pose does to its origin

-- from its time on the origin has that pose; earlier it has the pose that it had, or that one isn't kept any longer
pub record IsTaken (old new : List Sample) (time : ℤ) (pose : ℕ) : Type 0 where
  pub from_then : (now : ℤ) → int_le time now ≡ true → pose_at now new ≡ Some pose
  pub until_then : (now : ℤ) (p : ℕ) → int_lt now time ≡ true → pose_at now new ≡ Some p → pose_at now old ≡ Some p

-- one that is later than all samples of its origin is taken, and any other is ignored
abbrev pub TakenWhere : Bool → List Sample → List Sample → ℤ → ℕ → Type 0
TakenWhere true old new time pose = IsTaken old new time pose
TakenWhere false old new time pose = new ≡ old

abbrev pub is_after_all : ℤ → List Sample → Bool
is_after_all time kept = list_all (λ s. int_lt s.time time) kept

-- After every history, a new pose of an origin that has samples is taken exactly where it is later than all of them.
abbrev pub LaterPosesAreTaken : Type 0
LaterPosesAreTaken =
    (settings : Settings) (es : List Entry) (e : Entry) (origin : Origin) (time : ℤ) (pose : ℕ)
    → e.call ≡ ask.Device (event.Pose origin time pose) → nat_lt (origin_place origin) ORIGINS ≡ true
    → TakenWhere (is_after_all time (samples_of (after (opening settings) es).core.room.samples origin))
    (samples_of (after (opening settings) es).core.room.samples origin)
    (samples_of (step (after (opening settings) es) e).0.core.room.samples origin) time pose
