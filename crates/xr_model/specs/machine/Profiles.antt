-- Interaction profiles, and what a suggested path picks of a controller (OpenXR 1.0 section 6.3, "Well-Formed Path Strings",
-- section 6.4, "Interaction Profile Paths", and chapter 11, xrSuggestInteractionProfileBindings). That these four profiles are
-- known alone is this project's own, and so is that what is picked has to fit the action's type.
use Rattle.std.specs.Prelude.{ℕ, ◌==◌, ◌||◌, Bool, nat_le, List, [], ◌∷◌, ◌++◌, codes, Option, Some, None, option_map, option_and_then, if◌then◌else◌}
use Rattle.std.specs.List.{find, filter, list_any, position}
use Rattle.std.specs.Str.{bytes_eq}
use Rattle.xr_types.specs.declared.input.ActionType.{ActionType}
use Rattle.xr_types.specs.declared.input.ActionType.TheVariants as type
use Rattle.xr_types.specs.declared.input.Part.{Part}
use Rattle.xr_types.specs.declared.input.Part.TheVariants as part
use Rattle.xr_types.specs.declared.input.Pick.{Pick}
use Rattle.xr_types.specs.declared.input.Profile.{Profile}
use Rattle.xr_types.specs.declared.input.Profile.TheVariants as profile
use Rattle.xr_types.specs.declared.input.User.{User}
use Rattle.xr_types.specs.declared.input.User.TheVariants as user
use Rattle.xr_types.specs.declared.limits.TheConstants.{MOST_ROW}
use Rattle.xr_types.specs.InputNames.{input_name, is_digital}
use Rattle.xr_types.specs.Words.{behind}
use Rattle.xr_types.specs.Printed.{user_path, all_users, profile_name, all_profiles}
use Rattle.xr_types.specs.Words.{named}

-- ---- profiles by their paths

abbrev pub profile_path : Profile → List ℕ
profile_path which = codes "/interaction_profiles/" ++ profile_name which

-- the profile of a path, and the user path of a path, where there is one
abbrev pub profile_of : List ℕ → Option Profile
profile_of text = named profile_path all_profiles text

abbrev pub user_of : List ℕ → Option User
user_of text = named user_path all_users text

-- ---- what a controller has

-- the rows behind the last input's: the poses
abbrev pub grip : ℕ
grip = 41

abbrev pub aim : ℕ
aim = 42

-- what a path has behind `/input/` for a row: an identifier, `/` and a component
abbrev pub entry_name : ℕ → List ℕ
entry_name row = if row == grip then codes "grip/pose" else (if row == aim then codes "aim/pose" else input_name row)

-- the rows of three buttons
abbrev pub select_click : ℕ
select_click = 1

abbrev pub menu_click : ℕ
menu_click = 2

abbrev pub system_click : ℕ
system_click = 3

-- `grip/pose`, `aim/pose`
abbrev pub pose_rows : List ℕ
pose_rows = grip ∷ aim ∷ []

-- `select/click`, `menu/click`; and the poses
abbrev pub simple_rows : List ℕ
simple_rows = select_click ∷ menu_click ∷ pose_rows

-- `x/click`, `x/touch`, `y/click`, `y/touch`, `menu/click`
abbrev pub touch_left : List ℕ
touch_left = 9 ∷ 10 ∷ 11 ∷ 12 ∷ menu_click ∷ []

-- `a/click`, `a/touch`, `b/click`, `b/touch`, `system/click`
abbrev pub touch_right : List ℕ
touch_right = 5 ∷ 6 ∷ 7 ∷ 8 ∷ system_click ∷ []

-- `squeeze/value`, `trigger/value`, `trigger/touch`, `thumbstick/x`, `thumbstick/y`, `thumbstick/click`, `thumbstick/touch`,
-- `thumbrest/touch`; and the poses
abbrev pub touch_both : List ℕ
touch_both = 14 ∷ 16 ∷ 17 ∷ 18 ∷ 19 ∷ 20 ∷ 21 ∷ 22 ∷ pose_rows

-- `system/click`, `squeeze/click`, `menu/click`, `trigger/click`, `trigger/value`, `trackpad/x`, `trackpad/y`, `trackpad/click`,
-- `trackpad/touch`; and the poses
abbrev pub vive_rows : List ℕ
vive_rows = system_click ∷ 13 ∷ menu_click ∷ 15 ∷ 16 ∷ 23 ∷ 24 ∷ 25 ∷ 26 ∷ pose_rows

-- the clicks of `menu`, `view`, `a`, `b`, `x`, `y`, `dpad_up`, `dpad_down`, `dpad_left`, `dpad_right`, `shoulder_left`,
-- `shoulder_right`, `thumbstick_left`, `thumbstick_right`
abbrev pub xbox_clicks : List ℕ
xbox_clicks = menu_click ∷ 4 ∷ 5 ∷ 7 ∷ 9 ∷ 11 ∷ 27 ∷ 28 ∷ 29 ∷ 30 ∷ 31 ∷ 32 ∷ 35 ∷ 38 ∷ []

-- `trigger_left/value`, `trigger_right/value`, `thumbstick_left/x`, `thumbstick_left/y`, `thumbstick_right/x`, `thumbstick_right/y`
abbrev pub xbox_values : List ℕ
xbox_values = 39 ∷ 40 ∷ 33 ∷ 34 ∷ 36 ∷ 37 ∷ []

-- all of a gamepad
abbrev pub xbox_rows : List ℕ
xbox_rows = xbox_clicks ++ xbox_values

-- The rows that a profile has at a user path, in the order of the standard's lists.
abbrev pub rows_at : Profile → User → List ℕ
rows_at profile.Simple user.Left = simple_rows
rows_at profile.Simple user.Right = simple_rows
rows_at profile.Touch user.Left = touch_left ++ touch_both
rows_at profile.Touch user.Right = touch_right ++ touch_both
rows_at profile.Vive user.Left = vive_rows
rows_at profile.Vive user.Right = vive_rows
rows_at profile.Xbox user.Gamepad = xbox_rows
rows_at _ _ = []

-- the outputs that it has there
abbrev pub outputs_at : Profile → User → List (List ℕ)
outputs_at profile.Xbox user.Gamepad = codes "haptic_left" ∷ codes "haptic_right" ∷ codes "haptic_left_trigger" ∷ codes "haptic_right_trigger" ∷ []
outputs_at profile.Xbox _ = []
outputs_at _ user.Left = codes "haptic" ∷ []
outputs_at _ user.Right = codes "haptic" ∷ []
outputs_at _ _ = []

-- all identifiers and outputs, each by its place in this list
abbrev pub identifiers : List (List ℕ)
identifiers =
    codes "select" ∷ codes "menu" ∷ codes "grip" ∷ codes "aim" ∷ codes "haptic" ∷
    codes "x" ∷ codes "y" ∷ codes "a" ∷ codes "b" ∷ codes "system" ∷
    codes "squeeze" ∷ codes "trigger" ∷ codes "thumbstick" ∷ codes "thumbrest" ∷ codes "trackpad" ∷
    codes "view" ∷ codes "dpad_up" ∷ codes "dpad_down" ∷ codes "dpad_left" ∷ codes "dpad_right" ∷
    codes "shoulder_left" ∷ codes "shoulder_right" ∷ codes "thumbstick_left" ∷ codes "thumbstick_right" ∷ codes "trigger_left" ∷
    codes "trigger_right" ∷ codes "haptic_left" ∷ codes "haptic_right" ∷ codes "haptic_left_trigger" ∷ codes "haptic_right_trigger" ∷ []

abbrev pub identifier_place : List ℕ → Option ℕ
identifier_place name = position (λ known. bytes_eq name known) identifiers

-- an entry's identifier: what stands before its first `/`
abbrev pub before_slash : List ℕ → List ℕ
before_slash [] = []
before_slash (b ∷ bs) = if b == 47 then [] else b ∷ before_slash bs

-- ---- what an entry picks

-- the row among these of an identifier with its component
abbrev pub row_named : List ℕ → List ℕ → Option ℕ
row_named rows entry = find (λ row. bytes_eq entry (entry_name row)) rows

-- the row of an identifier alone, with this component
abbrev pub row_alone : List ℕ → List ℕ → List ℕ → Option ℕ
row_alone rows identifier component = row_named rows (identifier ++ codes "/" ++ component)

abbrev pub is_input : ℕ → Bool
is_input row = nat_le row MOST_ROW

abbrev pub is_pose : ℕ → Bool
is_pose row = row == grip || row == aim

abbrev pub part_of : ℕ → Part
part_of row = if is_digital row then part.Digital row else part.Analogue row

abbrev pub first_some : {T : Type 0} → Option T → Option T → Option T
first_some (Some x) other = Some x
first_some None other = other

abbrev pub both : Option ℕ → Option ℕ → Option Part
both (Some x) (Some y) = Some (part.Both x y)
both _ _ = None

-- What an entry behind `/input/` picks for an action's type of the rows that there are: the input or the pose that it names;
-- or, where it is an identifier alone, the click or the value of that, both of its axes, or its pose.
abbrev pub picked : ActionType → List ℕ → List ℕ → Option Part
picked type.Boolean rows entry =
    option_map part_of (first_some (row_named (filter is_input rows) entry) (first_some (row_alone rows entry (codes "click")) (row_alone rows entry (codes "value"))))
picked type.Float rows entry =
    option_map part_of (first_some (row_named (filter is_input rows) entry) (first_some (row_alone rows entry (codes "value")) (row_alone rows entry (codes "click"))))
picked type.Vector rows entry = both (row_alone rows entry (codes "x")) (row_alone rows entry (codes "y"))
picked type.Pose rows entry = option_map (λ row. part.Pose row) (first_some (row_named (filter is_pose rows) entry) (row_alone rows entry (codes "pose")))
picked type.Vibration rows entry = None

-- what an entry behind `/output/` picks of the outputs that there are
abbrev pub picked_output : ActionType → List (List ℕ) → List ℕ → Option Part
picked_output type.Vibration outputs entry = if list_any (λ name. bytes_eq entry name) outputs then Some part.Output else None
picked_output _ outputs entry = None

-- ---- what a path picks

-- a pick at a user path, by its entry
abbrev pub pick_by : User → List ℕ → Option Part → Option Pick
pick_by who entry what =
    option_and_then (λ p. option_map (λ place. record { user = who; identifier = place; part = p }) (identifier_place (before_slash entry))) what

abbrev pub pick_at : Profile → ActionType → List ℕ → User → Option Pick
pick_at which wanted path who =
    first_some
    (option_and_then (λ entry. pick_by who entry (picked wanted (rows_at which who) entry)) (behind (user_path who ++ codes "/input/") path))
    (option_and_then (λ entry. pick_by who entry (picked_output wanted (outputs_at which who) entry)) (behind (user_path who ++ codes "/output/") path))

abbrev pub pick_among : Profile → ActionType → List ℕ → List User → Option Pick
pick_among which wanted path [] = None
pick_among which wanted path (who ∷ more) = first_some (pick_at which wanted path who) (pick_among which wanted path more)

-- what a suggested path picks of a profile's controller for an action's type, where it may
abbrev pub component : Profile → ActionType → List ℕ → Option Pick
component which wanted path = pick_among which wanted path all_users
