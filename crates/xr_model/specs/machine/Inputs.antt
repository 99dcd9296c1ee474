-- What the inputs of a device show (OpenXR 1.0 chapter 11). That values are kept whatever profile is connected, and go to 0 where
-- that changes, is this project's own.
use Rattle.std.specs.Prelude.{ℕ, ℤ, pos, ◌-◌, Bool, false, List, [], replicate, slice_get, slice_set, Option, None, unwrap_or, if◌then◌else◌}
use Rattle.xr_types.specs.declared.input.Inputs.{Inputs}
use Rattle.xr_types.specs.declared.input.Profile.{Profile}
use Rattle.xr_types.specs.declared.input.TheConstants.{ROWS}
use Rattle.xr_types.specs.declared.input.User.{User}
use Rattle.xr_types.specs.declared.users.TheConstants.{USERS}
use Rattle.xr_types.specs.InputNames.{is_digital}
use Rattle.xr_types.specs.InputValues.{clamped, pressed_by}
use Rattle.xr_types.specs.Users.{user_place}

-- every input is 0, and none is pressed
abbrev pub no_values : List ℤ
no_values = replicate ROWS (pos 0)

abbrev pub none_pressed : List Bool
none_pressed = replicate ROWS false

abbrev pub no_inputs : Inputs
no_inputs = record { values = replicate USERS no_values; pressed = replicate USERS none_pressed }

-- no profile is connected at any user path
abbrev pub no_profiles : List (Option Profile)
no_profiles = replicate USERS None

-- what those of a user path show
abbrev pub values_at : Inputs → User → List ℤ
values_at inputs who = unwrap_or (slice_get inputs.values (user_place who)) []

abbrev pub pressed_at : Inputs → User → List Bool
pressed_at inputs who = unwrap_or (slice_get inputs.pressed (user_place who)) []

abbrev pub value_at : Inputs → User → ℕ → ℤ
value_at inputs who row = unwrap_or (slice_get (values_at inputs who) (row - 1)) (pos 0)

abbrev pub is_pressed_at : Inputs → User → ℕ → Bool
is_pressed_at inputs who row = unwrap_or (slice_get (pressed_at inputs who) (row - 1)) false

-- An input shows this value. Whether it counts as pressed moves with an analogue one alone.
abbrev pub with_value : Inputs → User → ℕ → ℤ → Inputs
with_value inputs who row value =
    let pressed = pressed_by (is_pressed_at inputs who row) (clamped row value) in
    record {
      values = slice_set inputs.values (user_place who) (slice_set (values_at inputs who) (row - 1) (clamped row value));
      pressed = if is_digital row then inputs.pressed else slice_set inputs.pressed (user_place who) (slice_set (pressed_at inputs who) (row - 1) pressed);
    }

-- those of a user path are 0, and none of them is pressed
abbrev pub without_values : Inputs → User → Inputs
without_values inputs who = record {
  values = slice_set inputs.values (user_place who) no_values;
  pressed = slice_set inputs.pressed (user_place who) none_pressed;
}
