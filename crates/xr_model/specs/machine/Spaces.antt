-- Spaces, the samples of what has a pose of its own, and where a space is in another (OpenXR 1.0 chapter 7, "Spaces",
-- xrCreateReferenceSpace, xrCreateActionSpace, xrDestroySpace and xrLocateSpace). That poses and offsets are opaque numbers, that a
-- location is a product of them, and how many samples are kept is this project's own.
use Rattle.std.specs.Prelude.{ℕ, ℤ, pos, ◌+◌, ◌==◌, ◌&&◌, not, Bool, true, false, int_le, int_lt, List, [], ◌∷◌, ◌++◌, map, take, replicate, slice_get, slice_set, Option, Some, None, option_map, option_and_then, unwrap_or, if◌then◌else◌}
use Rattle.std.specs.List.{find, filter}
use Rattle.xr_types.specs.declared.code.Code.TheVariants.{ReferenceSpaceUnsupported, PoseInvalid}
use Rattle.xr_types.specs.declared.input.Column.{Column}
use Rattle.xr_types.specs.declared.input.States.{States}
use Rattle.xr_types.specs.declared.input.User.{User}
use Rattle.xr_types.specs.declared.input.User.TheVariants as user
use Rattle.xr_types.specs.declared.spaces.Location.{Location}
use Rattle.xr_types.specs.declared.spaces.Location.TheVariants.{Missing, Factors}
use Rattle.xr_types.specs.declared.spaces.Origin.{Origin}
use Rattle.xr_types.specs.declared.spaces.Origin.TheVariants as origin
use Rattle.xr_types.specs.declared.spaces.RefKind.{RefKind}
use Rattle.xr_types.specs.declared.spaces.RefKind.TheVariants as kind
use Rattle.xr_types.specs.declared.spaces.Root.{Root}
use Rattle.xr_types.specs.declared.spaces.Root.TheVariants.{Fixed, Action}
use Rattle.xr_types.specs.declared.spaces.TheConstants.{ORIGINS, SAMPLES}
use Rattle.xr_model.specs.machine.Handles.{is_among}
use Rattle.xr_model.specs.machine.Refusals.{Refusal, when}

-- ---- samples

-- the pose that an origin has from a time on, in ns of device time
pub record Sample : Type 0 where
  pub time : ℤ
  pub pose : ℕ

-- whether a time is later than the newest sample's; the newest stands first
abbrev pub is_later : ℤ → List Sample → Bool
is_later time [] = true
is_later time (newest ∷ older) = int_lt newest.time time

-- the samples that are kept of an origin once one more comes: the newest ones; one that isn't later than the newest is ignored
abbrev pub with_sample : ℤ → ℕ → List Sample → List Sample
with_sample time pose kept = if is_later time kept then take SAMPLES (record { time = time; pose = pose } ∷ kept) else kept

-- the pose at a time: that of the newest kept sample which isn't later
abbrev pub pose_at : ℤ → List Sample → Option ℕ
pose_at time kept = option_map (λ s. s.pose) (find (λ s. int_le s.time time) kept)

-- the place of an origin in the row of all; a grip or aim of no hand has none, and so no samples
abbrev pub hand_place : User → ℕ
hand_place user.Left = 0
hand_place user.Right = 1
hand_place _ = ORIGINS

abbrev pub origin_place : Origin → ℕ
origin_place origin.View = 0
origin_place origin.Local = 1
origin_place origin.Stage = 2
origin_place (origin.Grip who) = 3 + hand_place who
origin_place (origin.Aim who) = 5 + hand_place who

-- the samples that are kept, a list for each origin
abbrev pub no_samples : List (List Sample)
no_samples = replicate ORIGINS []

abbrev pub samples_of : List (List Sample) → Origin → List Sample
samples_of samples what = unwrap_or (slice_get samples (origin_place what)) []

abbrev pub with_sample_of : List (List Sample) → Origin → ℤ → ℕ → List (List Sample)
with_sample_of samples what time pose = slice_set samples (origin_place what) (with_sample time pose (samples_of samples what))

-- ---- spaces

-- A space by its handle: what it moves with, which is nothing once its action was destroyed, and its offset there.
pub record Space : Type 0 where
  pub handle : ℕ
  pub root : Option Root
  pub offset : ℕ

-- the spaces in the order of their creation, and the samples of each origin
pub record Spaces : Type 0 where
  pub spaces : List Space
  pub samples : List (List Sample)

abbrev pub no_spaces : Spaces
no_spaces = record { spaces = []; samples = no_samples }

abbrev pub is_stage : RefKind → Bool
is_stage kind.Stage = true
is_stage _ = false

-- what refuses a reference space, told whether the device has a stage; no pose is 0
abbrev pub reference_checks : RefKind → ℕ → Bool → List Refusal
reference_checks what offset stage = when (is_stage what && not stage) ReferenceSpaceUnsupported ∷ when (offset == 0) PoseInvalid ∷ []

abbrev pub has_handle : ℕ → Space → Bool
has_handle handle s = s.handle == handle

-- the space of a handle, where it is one's
abbrev pub space_at : List Space → ℕ → Option Space
space_at spaces handle = find (has_handle handle) spaces

-- a new space stands behind the others
abbrev pub with_space : Spaces → ℕ → Root → ℕ → Spaces
with_space s handle root offset = record s { spaces = s.spaces ++ record { handle = handle; root = Some root; offset = offset } ∷ [] }

abbrev pub without_space : Spaces → ℕ → Spaces
without_space s handle = record s { spaces = filter (λ x. not (has_handle handle x)) s.spaces }

-- without the spaces of these handles
abbrev pub without_spaces : Spaces → List ℕ → Spaces
without_spaces s handles = record s { spaces = filter (λ x. not (is_among handles x.handle)) s.spaces }

-- a space without what it moves with, where that is an action whose place isn't one of these
abbrev pub is_left : (ℕ → Bool) → Root → Bool
is_left there (Fixed what) = true
is_left there (Action place column) = there place

abbrev pub with_left : (ℕ → Bool) → Space → Space
with_left there x = record x { root = option_and_then (λ r. if is_left there r then Some r else None) x.root }

-- the spaces once only the actions in these places are left
abbrev pub left_spaces : (ℕ → Bool) → Spaces → Spaces
left_spaces there s = record s { spaces = map (with_left there) s.spaces }

abbrev pub sampled : Spaces → Origin → ℤ → ℕ → Spaces
sampled s what time pose = record s { samples = with_sample_of s.samples what time pose }

-- ---- locating

abbrev pub origin_of_kind : RefKind → Origin
origin_of_kind kind.View = origin.View
origin_of_kind kind.Local = origin.Local
origin_of_kind kind.Stage = origin.Stage

-- what a sync found for an action at a user path; the columns are those of all user paths and of each
abbrev pub column_at : States → ℕ → ℕ → Option Column
column_at states place column = option_and_then (λ row. slice_get row column) (slice_get states.columns place)

-- an inactive column has no origin
abbrev pub origin_in : Column → Option Origin
origin_in c = if c.active then c.origin else None

-- what a space moves with: the origin of its kind, or the one that the last sync chose for its action
abbrev pub origin_by : States → Root → Option Origin
origin_by states (Fixed what) = Some (origin_of_kind what)
origin_by states (Action place column) = option_and_then origin_in (column_at states place column)

abbrev pub pose_of : Spaces → States → ℤ → Space → Option ℕ
pose_of s states time x = option_and_then (λ o. pose_at time (samples_of s.samples o)) (option_and_then (origin_by states) x.root)

-- The factors in order, the first two of which stand for inverses. Nothing is simplified, also where both are one space.
abbrev pub factors : Space → Space → Option ℕ → Option ℕ → Location
factors x base (Some sample) (Some base_sample) = Factors base.offset base_sample sample x.offset
factors x base _ _ = Missing

-- where a space is in a base at a time
abbrev pub location : Spaces → States → ℤ → Space → Space → Location
location s states time x base = factors x base (pose_of s states time x) (pose_of s states time base)

abbrev pub location_by : Spaces → States → ℤ → Option Space → Option Space → Option Location
location_by s states time (Some x) (Some base) = Some (location s states time x base)
location_by s states time _ _ = None

-- the location by handles, where the time is one: it is above 0
abbrev pub located : Spaces → States → ℕ → ℕ → ℤ → Option Location
located s states space base time = if int_le time (pos 0) then None else location_by s states time (space_at s.spaces space) (space_at s.spaces base)
