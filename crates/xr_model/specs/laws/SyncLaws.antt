-- What the definition of a sync means, for every list of sets and of bindings, all inputs and every column.
use Rattle.std.specs.Prelude.{◌≡◌, ℕ, ℤ, pos, ◌+◌, ◌==◌, ◌&&◌, ◌||◌, ◌++◌, Bool, true, false, not, nat_lt, nat_le, unsigned_abs, codes, map, List, [], ◌∷◌, Some, is_some, option_and_then, slice_get, slice_index_or, if◌then◌else◌}
use Rattle.std.specs.List.{list_any, list_all}
use Rattle.std.proofs.Common.{◌⊎◌}
use Rattle.xr_types.specs.declared.input.ActionType.{ActionType}
use Rattle.xr_types.specs.declared.input.ActionType.TheVariants as type
use Rattle.xr_types.specs.declared.input.Column.{Column}
use Rattle.xr_types.specs.declared.input.Found.{Found}
use Rattle.xr_types.specs.declared.input.Heard.{Heard}
use Rattle.xr_types.specs.declared.input.Inputs.{Inputs}
use Rattle.xr_types.specs.declared.input.Part.{Part}
use Rattle.xr_types.specs.declared.input.Part.TheVariants as part
use Rattle.xr_types.specs.declared.input.Pick.{Pick}
use Rattle.xr_types.specs.declared.input.Profile.{Profile}
use Rattle.xr_types.specs.declared.input.Ranked.{Ranked}
use Rattle.xr_types.specs.declared.input.User.{User}
use Rattle.xr_types.specs.declared.limits.TheConstants.{MOST_ROW}
use Rattle.xr_types.specs.declared.spaces.Origin.{Origin}
use Rattle.xr_types.specs.InputNames.{input_name, is_digital}
use Rattle.xr_types.specs.InputValues.{square_of}
use Rattle.xr_types.specs.Printed.{origin_name, user_path}
use Rattle.xr_types.specs.Users.{user_place}
use Rattle.xr_model.specs.machine.Profiles.{component, grip, aim, identifiers}
use Rattle.xr_model.specs.machine.Sets.{is_declared}
use Rattle.xr_model.specs.machine.Sync.{live_in, is_live, is_down, amount, axes, pose_of, found_at, synced_column, column_after, inactive}

-- ---- what bindings of one type come to

abbrev pub is_boolean : ActionType → Bool
is_boolean type.Boolean = true
is_boolean _ = false

abbrev pub is_float : ActionType → Bool
is_float type.Float = true
is_float _ = false

abbrev pub is_vector : ActionType → Bool
is_vector type.Vector = true
is_vector _ = false

abbrev pub is_pose : ActionType → Bool
is_pose type.Pose = true
is_pose _ = false

-- A boolean is down exactly where one of its live bindings is.
abbrev pub BooleansAreDownOnce : Type 0
BooleansAreDownOnce =
    (active : List Heard) (all : List Ranked) (inputs : Inputs) (place column : ℕ) → list_all (λ b. is_boolean b.kind) (live_in active all place column) ≡ true
    → (found_at active all inputs place column).x ≡ (if list_any (λ b. is_down inputs b.bound.pick.user b.bound.pick.part) (live_in active all place column) then pos 1 else pos 0)

-- This is one of the values: those before it are smaller, and none behind it is larger.
pub record IsFirstLargest {T : Type 0} (size : T → ℕ) (value : T) (values : List T) : Type 0 where
  pub before : List T
  pub behind : List T
  pub are : values ≡ before ++ value ∷ behind
  pub smaller : list_all (λ v. nat_lt (size v) (size value)) before ≡ true
  pub none_larger : list_all (λ v. nat_le (size v) (size value)) behind ≡ true

abbrev pub has_some : {T : Type 0} → List T → Bool
has_some [] = false
has_some (x ∷ xs) = true

-- A float is the value of one of its live bindings, the first of those that are furthest from zero.
abbrev pub FloatsAreLargest : Type 0
FloatsAreLargest =
    (active : List Heard) (all : List Ranked) (inputs : Inputs) (place column : ℕ) → list_all (λ b. is_float b.kind) (live_in active all place column) ≡ true
    → has_some (live_in active all place column) ≡ true
    → IsFirstLargest unsigned_abs (found_at active all inputs place column).x (map (λ b. amount inputs b.bound.pick.user b.bound.pick.part) (live_in active all place column))

-- A vector is the value of one of its live bindings, the first of those that are longest.
abbrev pub VectorsAreLongest : Type 0
VectorsAreLongest =
    (active : List Heard) (all : List Ranked) (inputs : Inputs) (place column : ℕ) → list_all (λ b. is_vector b.kind) (live_in active all place column) ≡ true
    → has_some (live_in active all place column) ≡ true
    → IsFirstLargest square_of ((found_at active all inputs place column).x, (found_at active all inputs place column).y)
    (map (λ b. axes inputs b.bound.pick.user b.bound.pick.part) (live_in active all place column))

-- A pose is that of the first live binding.
abbrev pub PosesAreTheFirst : Type 0
PosesAreTheFirst =
    (active : List Heard) (all : List Ranked) (inputs : Inputs) (place column : ℕ)
    → list_all (λ b. is_pose b.kind && is_some (pose_of b.bound.pick.user b.bound.pick.part)) (live_in active all place column) ≡ true
    → (found_at active all inputs place column).origin ≡ option_and_then (λ b. pose_of b.bound.pick.user b.bound.pick.part) (slice_get (live_in active all place column) 0)

-- ---- which columns are active

-- A column without a live binding is inactive, and shows nothing of what it showed.
abbrev pub NothingIsInactive : Type 0
NothingIsInactive =
    (active : List Heard) (all : List Ranked) (inputs : Inputs) (clock : ℤ) (place column : ℕ) (before : Column) → live_in active all place column ≡ []
    → synced_column active all inputs clock place column before ≡ inactive

-- What changes is active.
abbrev pub ChangedIsActive : Type 0
ChangedIsActive = (clock : ℤ) (before : Column) (found : Found) → (column_after clock before found).changed ≡ true → (column_after clock before found).active ≡ true

-- Column 0 is active exactly where some binding of the action is live.
abbrev pub FirstColumnIsOfAll : Type 0
FirstColumnIsOfAll =
    (active : List Heard) (all : List Ranked) (inputs : Inputs) (clock : ℤ) (place : ℕ) (before : Column)
    → (synced_column active all inputs clock place 0 before).active ≡ list_any (λ b. is_live active all b && (b.place == place)) all

-- The column of a user path that no binding's action declares is inactive.
abbrev pub UndeclaredIsInactive : Type 0
UndeclaredIsInactive =
    (active : List Heard) (all : List Ranked) (inputs : Inputs) (clock : ℤ) (place : ℕ) (who : User) (before : Column)
    → list_all (λ b. not (b.place == place && is_declared b.declared who)) all ≡ true
    → (synced_column active all inputs clock place (user_place who + 1) before).active ≡ false

-- ---- what a binding may pick

abbrev pub is_row : ℕ → Bool
is_row row = nat_le 1 row && nat_le row MOST_ROW

abbrev pub has_rows : Part → Bool
has_rows (part.Digital row) = is_row row
has_rows (part.Analogue row) = is_row row
has_rows (part.Both x y) = is_row x && is_row y
has_rows (part.Pose row) = (row == grip) || (row == aim)
has_rows part.Output = true

abbrev pub is_pick : Pick → Bool
is_pick pick = nat_lt pick.identifier 30 && has_rows pick.part

-- What a path picks is one of thirty identifiers and outputs, and rows of inputs, or of poses.
abbrev pub PicksAreInRange : Type 0
PicksAreInRange = (which : Profile) (wanted : ActionType) (path : List ℕ) (pick : Pick) → component which wanted path ≡ Some pick → is_pick pick ≡ true

-- ---- what a path names

-- an input of a user path, by what stands behind `/input/`
abbrev pub input_at : User → List ℕ → List ℕ
input_at who entry = user_path who ++ codes "/input/" ++ entry

-- the path is this one, or would be so with one of these components
abbrev pub IsShortFor : List ℕ → List (List ℕ) → List ℕ → Type 0
IsShortFor path [] whole = path ≡ whole
IsShortFor path (component ∷ components) whole = (path ++ codes "/" ++ component ≡ whole) ⊎ IsShortFor path components whole

-- What is picked at a user path is what the path names, in whole or without its component: an input, both axes of one, what has this
-- pose, or an output.
abbrev pub IsNamedFor : List ℕ → User → Part → Type 0
IsNamedFor path who (part.Digital row) = (is_digital row ≡ true) × IsShortFor path (codes "click" ∷ codes "value" ∷ []) (input_at who (input_name row))
IsNamedFor path who (part.Analogue row) = (is_digital row ≡ false) × IsShortFor path (codes "click" ∷ codes "value" ∷ []) (input_at who (input_name row))
IsNamedFor path who (part.Both x y) = (path ++ codes "/x" ≡ input_at who (input_name x)) × (path ++ codes "/y" ≡ input_at who (input_name y))
IsNamedFor path who (part.Pose row) = (o : Origin) × (pose_of who (part.Pose row) ≡ Some o) × IsShortFor path (codes "pose" ∷ []) (origin_name o)
IsNamedFor path who part.Output = (name : List ℕ) × (path ≡ user_path who ++ codes "/output/" ++ name)

abbrev pub PicksAreNamed : Type 0
PicksAreNamed = (which : Profile) (wanted : ActionType) (path : List ℕ) (pick : Pick) → component which wanted path ≡ Some pick → IsNamedFor path pick.user pick.part

-- The identifier of a pick is the one that stands in its path behind `/input/` or `/output/`, up to the next slash or the end.
pub record IsOfSource (path : List ℕ) (pick : Pick) : Type 0 where
  pub way : List ℕ
  pub known : (way ≡ codes "/input/") ⊎ (way ≡ codes "/output/")
  pub rest : List ℕ
  pub whole : path ≡ user_path pick.user ++ way ++ slice_index_or identifiers pick.identifier [] ++ rest
  pub ends : (rest ≡ []) ⊎ ((component : List ℕ) × (rest ≡ codes "/" ++ component))

abbrev pub PicksHaveTheirSources : Type 0
PicksHaveTheirSources = (which : Profile) (wanted : ActionType) (path : List ℕ) (pick : Pick) → component which wanted path ≡ Some pick → IsOfSource path pick
