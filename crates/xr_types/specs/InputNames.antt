-- The inputs of controllers by their rows, as paths name them: an identifier and its component (OpenXR 1.0 section 6.3).
use Rattle.std.specs.Prelude.{◌≡◌, ℕ, ◌+◌, ◌-◌, ◌==◌, ◌&&◌, nat_le, Bool, List, [], ◌∷◌, map, codes, slice_index_or, Option, Some, None, refl, if◌then◌else◌}
use Rattle.std.specs.List.{list_any}
use Rattle.std.specs.Str.{bytes_eq}
use Rattle.xr_types.specs.declared.limits.TheConstants.{MOST_ROW}

abbrev pub input_names : List (List ℕ)
input_names =
    codes "select/click" ∷ codes "menu/click" ∷ codes "system/click" ∷ codes "view/click" ∷
    codes "a/click" ∷ codes "a/touch" ∷ codes "b/click" ∷ codes "b/touch" ∷
    codes "x/click" ∷ codes "x/touch" ∷ codes "y/click" ∷ codes "y/touch" ∷
    codes "squeeze/click" ∷ codes "squeeze/value" ∷ codes "trigger/click" ∷ codes "trigger/value" ∷
    codes "trigger/touch" ∷ codes "thumbstick/x" ∷ codes "thumbstick/y" ∷ codes "thumbstick/click" ∷
    codes "thumbstick/touch" ∷ codes "thumbrest/touch" ∷ codes "trackpad/x" ∷ codes "trackpad/y" ∷
    codes "trackpad/click" ∷ codes "trackpad/touch" ∷ codes "dpad_up/click" ∷ codes "dpad_down/click" ∷
    codes "dpad_left/click" ∷ codes "dpad_right/click" ∷ codes "shoulder_left/click" ∷ codes "shoulder_right/click" ∷
    codes "thumbstick_left/x" ∷ codes "thumbstick_left/y" ∷ codes "thumbstick_left/click" ∷ codes "thumbstick_right/x" ∷
    codes "thumbstick_right/y" ∷ codes "thumbstick_right/click" ∷ codes "trigger_left/value" ∷ codes "trigger_right/value" ∷ []

-- the input of a row; rows are 1 to 40
abbrev pub input_name : ℕ → List ℕ
input_name row = if nat_le 1 row && nat_le row MOST_ROW then slice_index_or input_names (row - 1) [] else []

-- the component of an input: what stands behind the first `/` of its name
abbrev pub behind_slash : List ℕ → List ℕ
behind_slash [] = []
behind_slash (b ∷ bs) = if b == 47 then bs else behind_slash bs

abbrev pub has_component : List (List ℕ) → ℕ → Bool
has_component names row = list_any (λ name. bytes_eq (behind_slash (input_name row)) name) names

-- Clicks and touches are digital: something is down or touched, or it isn't. Values and axes are analogue (section 6.3).
abbrev pub is_digital : ℕ → Bool
is_digital = has_component (codes "click" ∷ codes "touch" ∷ [])

-- a value goes from 0 up, as that of a trigger
abbrev pub is_value : ℕ → Bool
is_value = has_component (codes "value" ∷ [])

abbrev pub row_from : ℕ → List (List ℕ) → List ℕ → Option ℕ
row_from row [] name = None
row_from row (known ∷ more) name = if bytes_eq name known then Some row else row_from (row + 1) more name

-- the row of an input, where a name is one's
abbrev pub row_of : List ℕ → Option ℕ
row_of = row_from 1 input_names

-- The names are different: the row of each input's name is its own.
pub rows_own : map row_of input_names ≡ (Some 1 ∷ Some 2 ∷ Some 3 ∷ Some 4 ∷ Some 5 ∷ Some 6 ∷ Some 7 ∷ Some 8 ∷ Some 9 ∷ Some 10 ∷ Some 11 ∷ Some 12 ∷ Some 13 ∷ Some 14 ∷ Some 15 ∷ Some 16 ∷ Some 17 ∷ Some 18 ∷ Some 19 ∷ Some 20 ∷ Some 21 ∷ Some 22 ∷ Some 23 ∷ Some 24 ∷ Some 25 ∷ Some 26 ∷ Some 27 ∷ Some 28 ∷ Some 29 ∷ Some 30 ∷ Some 31 ∷ Some 32 ∷ Some 33 ∷ Some 34 ∷ Some 35 ∷ Some 36 ∷ Some 37 ∷ Some 38 ∷ Some 39 ∷ Some 40 ∷ [])
rows_own = refl
