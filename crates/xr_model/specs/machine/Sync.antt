-- The states of a sync (OpenXR 1.0 chapter 11, xrSyncActions and "Resolution of action bindings"), from the list of suggestions for
-- the controllers that are connected. Whole numbers for values, ties, and that a pose never changes are this project's own.
use Rattle.std.specs.Prelude.{ℕ, ℤ, pos, ◌+◌, ◌==◌, ◌&&◌, ◌||◌, not, Bool, true, false, nat_lt, List, [], ◌∷◌, replicate, Option, Some, None, if◌then◌else◌}
use Rattle.std.specs.List.{list_any, filter}
use Rattle.std.specs.Ordering.{int_eq}
use Rattle.xr_types.specs.declared.handles.TheConstants.{ACTIONS}
use Rattle.xr_types.specs.declared.input.ActionType.{ActionType}
use Rattle.xr_types.specs.declared.input.ActionType.TheVariants as type
use Rattle.xr_types.specs.declared.input.Bound.{Bound}
use Rattle.xr_types.specs.declared.input.Column.{Column}
use Rattle.xr_types.specs.declared.input.Found.{Found}
use Rattle.xr_types.specs.declared.input.Heard.{Heard}
use Rattle.xr_types.specs.declared.input.Inputs.{Inputs}
use Rattle.xr_types.specs.declared.input.Part.{Part}
use Rattle.xr_types.specs.declared.input.Part.TheVariants as part
use Rattle.xr_types.specs.declared.input.Pick.{Pick}
use Rattle.xr_types.specs.declared.input.Ranked.{Ranked}
use Rattle.xr_types.specs.declared.input.User.{User}
use Rattle.xr_types.specs.declared.spaces.Origin.{Origin}
use Rattle.xr_types.specs.declared.spaces.Origin.TheVariants as origin
use Rattle.xr_types.specs.InputValues.{is_larger, is_longer}
use Rattle.xr_types.specs.Users.{user_place}
use Rattle.xr_model.specs.machine.Inputs.{value_at, is_pressed_at}
use Rattle.xr_model.specs.machine.Profiles.{first_some, grip}
use Rattle.xr_model.specs.machine.Sets.{is_declared}

-- ---- which bindings are live

abbrev pub is_same_user : User → User → Bool
is_same_user a b = user_place a == user_place b

-- a set is listed for all user paths, or for this one
abbrev pub hears : Option User → User → Bool
hears None who = true
hears (Some only) who = is_same_user only who

-- the call lists the binding's set, for all user paths or for the binding's (XrActiveActionSet)
abbrev pub is_heard : List Heard → Ranked → Bool
is_heard active b = list_any (λ h. (h.set == b.set) && hears h.user b.bound.pick.user) active

-- A binding's source is its path up to the identifier: a user path and an identifier (section 6.3).
abbrev pub is_same_source : Pick → Pick → Bool
is_same_source a b = is_same_user a.user b.user && (a.identifier == b.identifier)

-- there are thirty identifiers
abbrev pub is_source : Bound → Bool
is_source b = nat_lt b.pick.identifier 30

-- a heard binding of the same source belongs to a set of larger priority (XrActionSetCreateInfo)
abbrev pub is_outranked : List Heard → List Ranked → Ranked → Bool
is_outranked active all b = list_any (λ o. is_heard active o && (is_same_source o.bound.pick b.bound.pick && nat_lt b.priority o.priority)) all

-- it is heard, and nothing outranks it
abbrev pub is_live : List Heard → List Ranked → Ranked → Bool
is_live active all b = is_heard active b && not (is_outranked active all b)

-- Column 0 of an action has all its live bindings; the column of a user path that it declares has those at that user path.
abbrev pub counts_in : ℕ → Ranked → Bool
counts_in column b = (column == 0) || ((column == user_place b.bound.pick.user + 1) && is_declared b.declared b.bound.pick.user)

abbrev pub is_of : ℕ → ℕ → Ranked → Bool
is_of place column b = (b.place == place) && counts_in column b

-- the live bindings of a column of the action in a place, in the order of the list
abbrev pub live_in : List Heard → List Ranked → ℕ → ℕ → List Ranked
live_in active all place column = filter (is_of place column) (filter (is_live active all) all)

-- ---- what an input gives

abbrev pub is_zero : ℤ → Bool
is_zero value = int_eq value (pos 0)

-- a boolean takes a click or a touch as it is, and an analogue input by whether it counts as pressed
abbrev pub is_down : Inputs → User → Part → Bool
is_down inputs who (part.Digital row) = not (is_zero (value_at inputs who row))
is_down inputs who (part.Analogue row) = is_pressed_at inputs who row
is_down inputs who _ = false

-- a float takes an analogue input as it is, and a click or a touch as 0 or 32768
abbrev pub amount : Inputs → User → Part → ℤ
amount inputs who (part.Digital row) = if is_zero (value_at inputs who row) then pos 0 else pos 32768
amount inputs who (part.Analogue row) = value_at inputs who row
amount inputs who _ = pos 0

-- a vector takes two axes
abbrev pub axes : Inputs → User → Part → ℤ × ℤ
axes inputs who (part.Both x y) = (value_at inputs who x, value_at inputs who y)
axes inputs who _ = (pos 0, pos 0)

-- a pose takes the grip or the aim of a hand
abbrev pub pose_of : User → Part → Option Origin
pose_of who (part.Pose row) = if row == grip then Some (origin.Grip who) else Some (origin.Aim who)
pose_of who _ = None

-- ---- what a column finds

abbrev pub nothing_found : Found
nothing_found = record { x = pos 0; y = pos 0; active = false; origin = None }

-- with one more live binding of a boolean action, which is down or not
abbrev pub with_boolean : Found → Bool → Found
with_boolean found down = record found { active = true; x = if down then pos 1 else found.x }

-- of a float action: the value is replaced by one that is further from zero
abbrev pub with_float : Found → ℤ → Found
with_float found value = record found { active = true; x = if is_larger found.x value then value else found.x }

-- of a vector action: the value is replaced by one that is longer
abbrev pub with_vector : Found → ℤ × ℤ → Found
with_vector found value =
    if is_longer (found.x, found.y) value then record found { active = true; x = value.0; y = value.1 } else record found { active = true }

-- of a pose action: the first one stays
abbrev pub with_pose : Found → Option Origin → Found
with_pose found pose = record found { active = true; origin = first_some found.origin pose }

abbrev pub with_kind : ActionType → Inputs → Found → Pick → Found
with_kind type.Boolean inputs found pick = with_boolean found (is_down inputs pick.user pick.part)
with_kind type.Float inputs found pick = with_float found (amount inputs pick.user pick.part)
with_kind type.Vector inputs found pick = with_vector found (axes inputs pick.user pick.part)
with_kind type.Pose inputs found pick = with_pose found (pose_of pick.user pick.part)
with_kind type.Vibration inputs found pick = record found { active = true }

abbrev pub with_binding : Inputs → Found → Ranked → Found
with_binding inputs found b = with_kind b.kind inputs found b.bound.pick

-- with all of these, one after another
abbrev pub found_from : Inputs → Found → List Ranked → Found
found_from inputs found [] = found
found_from inputs found (b ∷ bs) = found_from inputs (with_binding inputs found b) bs

-- what a column of the action in a place finds
abbrev pub found_at : List Heard → List Ranked → Inputs → ℕ → ℕ → Found
found_at active all inputs place column = found_from inputs nothing_found (live_in active all place column)

-- ---- the columns after the sync (XrActionStateBoolean, XrActionStateFloat, XrActionStateVector2f, XrActionStatePose)

-- an inactive column shows nothing: zero, unchanged, at time 0
abbrev pub inactive : Column
inactive = record { x = pos 0; y = pos 0; changed = false; time = pos 0; active = false; origin = None }

-- of an action, and of all
abbrev pub inactive_row : List Column
inactive_row = replicate 6 inactive

abbrev pub no_columns : List (List Column)
no_columns = replicate ACTIONS inactive_row

-- the value that it showed, where an inactive column counts as zero
abbrev pub value_before : Column → ℤ × ℤ
value_before before = if before.active then (before.x, before.y) else (pos 0, pos 0)

abbrev pub differs : Found → ℤ × ℤ → Bool
differs found before = not (int_eq found.x before.0 && int_eq found.y before.1)

-- the time of the last change: now, or as before, or 0 where the column was inactive
abbrev pub time_of : Bool → ℤ → Column → ℤ
time_of changed clock before = if changed then clock else (if before.active then before.time else pos 0)

unfoldable pub column_after : ℤ → Column → Found → Column
column_after clock before found =
    let changed = differs found (value_before before) in
    if found.active then record { x = found.x; y = found.y; changed = changed; time = time_of changed clock before; active = true; origin = found.origin }
    else inactive

-- each item by its place, counted from this one
abbrev pub each_from : {T : Type 0} → (ℕ → T → T) → ℕ → List T → List T
each_from f n [] = []
each_from f n (x ∷ xs) = f n x ∷ each_from f (n + 1) xs

-- the columns once only the actions in these places are left
abbrev pub left_columns : (ℕ → Bool) → List (List Column) → List (List Column)
left_columns there columns = each_from (λ place row. if there place then row else inactive_row) 0 columns

-- the column of an action's place after a sync, from the column before
abbrev pub synced_column : List Heard → List Ranked → Inputs → ℤ → ℕ → ℕ → Column → Column
synced_column active all inputs clock place column before = column_after clock before (found_at active all inputs place column)

-- The columns after a sync that hears these sets, from the bindings of the connected controllers in the order of the user paths and
-- then of the suggestions, at this time of the device's clock, and from the columns before.
abbrev pub columns_after : List Heard → List Ranked → Inputs → ℤ → List (List Column) → List (List Column)
columns_after active all inputs clock before = each_from (λ place row. each_from (λ column c. synced_column active all inputs clock place column c) 0 row) 0 before
