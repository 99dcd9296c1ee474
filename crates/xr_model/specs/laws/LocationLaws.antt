-- Where spaces are: what a new space is, what the space of an action moves with, and the factors of a location in their order.
use Rattle.std.specs.Prelude.{◌≡◌, ◌+◌, ◌++◌, ℕ, ℤ, true, List, [], ◌∷◌, Option, Some, None, option_and_then, unwrap_or, if◌then◌else◌}
use Rattle.std.proofs.Common.{◌⊎◌}
use Rattle.xr_types.specs.Code.{is_success}
use Rattle.xr_types.specs.Printed.{kind_name, origin_name}
use Rattle.xr_types.specs.Users.{user_place}
use Rattle.xr_types.specs.declared.calls.Call.TheVariants as ask
use Rattle.xr_types.specs.declared.calls.Gives.TheVariants as gives
use Rattle.xr_types.specs.declared.handles.Kind.TheVariants as kind
use Rattle.xr_types.specs.declared.input.Column.{Column}
use Rattle.xr_types.specs.declared.input.User.{User}
use Rattle.xr_types.specs.declared.spaces.Location.{Location}
use Rattle.xr_types.specs.declared.spaces.Location.TheVariants.{Missing, Factors}
use Rattle.xr_types.specs.declared.spaces.Origin.{Origin}
use Rattle.xr_types.specs.declared.spaces.RefKind.{RefKind}
use Rattle.xr_types.specs.declared.spaces.Root.TheVariants.{Fixed, Action}
use Rattle.xr_model.specs.machine.Calls.{Entry}
use Rattle.xr_model.specs.machine.HandlePlaces.{place_among}
use Rattle.xr_model.specs.machine.Rules.Sets.{user_at}
use Rattle.xr_model.specs.machine.Spaces.{Space, space_at, column_at, pose_at, pose_of, samples_of}
use Rattle.xr_model.specs.machine.State.{CoreState, Settings, State, opening}
use Rattle.xr_model.specs.machine.Machine.{step}
use Rattle.xr_model.specs.machine.History.{after, IsLegal}
use Rattle.xr_model.specs.machine.Rules.Session.{columns_of}
use Rattle.xr_model.specs.machine.Rules.Spaces.{session_above}
use Rattle.xr_types.specs.declared.input.States.{States}

-- ---- new spaces

-- In a legal history a reference space that is created moves with the origin of its kind, and has the offset that was asked for.
abbrev pub ReferenceSpacesAreAsAsked : Type 0
ReferenceSpacesAreAsAsked =
    (settings : Settings) (es : List Entry) (e : Entry) (session : ℕ) (what : RefKind) (offset : ℕ) → IsLegal settings (es ++ e ∷ [])
    → e.call ≡ ask.CreateReferenceSpace session what offset → is_success (step (after (opening settings) es) e).1.reply.code ≡ true
    → space_at (step (after (opening settings) es) e).0.core.room.spaces e.given ≡ Some (record { handle = e.given; root = Some (Fixed what); offset = offset })

-- the number 0 stands for the column of all user paths, and the atom of a user path for its own
abbrev pub IsColumnOf : List (List ℕ) → ℕ → ℕ → Type 0
IsColumnOf atoms sub column = ((sub ≡ 0) × (column ≡ 0)) ⊎ ((who : User) × (user_at atoms sub ≡ Some who) × (column ≡ user_place who + 1))

-- the space of an action moves with the column of the number that was asked for, of the place of the action
pub record MovesWithColumn (s : CoreState) (action sub offset given : ℕ) (spaces : List Space) : Type 0 where
  pub column : ℕ
  pub asked : IsColumnOf s.atoms sub column
  pub there : space_at spaces given ≡ Some (record { handle = given; root = Some (Action (unwrap_or (place_among s.handles kind.Action action) 0) column); offset = offset })

-- So it is in a legal history with each that is created.
abbrev pub ActionSpacesFollowTheirColumns : Type 0
ActionSpacesFollowTheirColumns =
    (settings : Settings) (es : List Entry) (e : Entry) (session action sub offset : ℕ) → IsLegal settings (es ++ e ∷ [])
    → e.call ≡ ask.CreateActionSpace session action sub offset → is_success (step (after (opening settings) es) e).1.reply.code ≡ true
    → MovesWithColumn (after (opening settings) es).core action sub offset e.given (step (after (opening settings) es) e).0.core.room.spaces

-- ---- locations

-- what actions show in a session
abbrev pub shown_at : CoreState → ℕ → States
shown_at s session = record { columns = columns_of s session }

-- the pose of a space that moves with a column: that of the origin which the column has, where it is active
abbrev pub pose_by_column : CoreState → ℤ → Column → Option ℕ
pose_by_column s time c = if c.active then option_and_then (λ o. pose_at time (samples_of s.room.samples o)) c.origin else None

abbrev pub PosesFollowColumns : Type 0
PosesFollowColumns =
    (s : CoreState) (session : ℕ) (time : ℤ) (x : Space) (place column : ℕ) (c : Column) → x.root ≡ Some (Action place column) → column_at (shown_at s session) place column ≡ Some c
    → pose_of s.room (shown_at s session) time x ≡ pose_by_column s time c

-- The space of a kind has the pose of the origin that is named as the kind is: the view, what is local, or the stage.
abbrev pub ReferenceSpacesHaveTheirOrigins : Type 0
ReferenceSpacesHaveTheirOrigins =
    (s : CoreState) (session : ℕ) (time : ℤ) (x : Space) (what : RefKind) (origin : Origin) → x.root ≡ Some (Fixed what) → origin_name origin ≡ kind_name what
    → pose_of s.room (shown_at s session) time x ≡ pose_at time (samples_of s.room.samples origin)

-- the factors: the base's offset, the base's pose, the space's pose, the space's offset; it is missing where one of the poses is
abbrev pub IsLocated : Space → Space → Option ℕ → Option ℕ → Location → Type 0
IsLocated x base pose base_pose Missing = (pose ≡ None) ⊎ (base_pose ≡ None)
IsLocated x base pose base_pose (Factors first second third fourth) = (first ≡ base.offset) × (Some second ≡ base_pose) × (Some third ≡ pose) × (fourth ≡ x.offset)

-- A location that is given is that of the space in the base, as they are named, by the poses at that time, and by what actions show in the
-- session of the space.
abbrev pub LocationsAreFactors : Type 0
LocationsAreFactors =
    (s : State) (e : Entry) (space base : ℕ) (time : ℤ) (x b : Space) (l : Location) → e.call ≡ ask.LocateSpace space base time → is_success (step s e).1.reply.code ≡ true
    → space_at s.core.room.spaces space ≡ Some x → space_at s.core.room.spaces base ≡ Some b → (step s e).1.reply.gives ≡ gives.Location l
    → IsLocated x b (pose_of s.core.room (shown_at s.core (session_above s.core.handles space)) time x) (pose_of s.core.room (shown_at s.core (session_above s.core.handles space)) time b) l
