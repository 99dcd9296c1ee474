-- Numbers of inputs: what is stored of one, when it counts as pressed, and which of two is larger. That they are whole numbers,
-- and the two thresholds, are this project's own.
use Rattle.std.specs.Prelude.{ℕ, ℤ, pos, ◌+◌, ◌*◌, Bool, true, false, nat_lt, int_le, int_lt, unsigned_abs, if◌then◌else◌}
use Rattle.xr_types.specs.InputNames.{is_digital, is_value}

-- The value that is stored: a click or a touch is 0 or 1, a value isn't below 0, and an axis is as it is.
abbrev pub clamped : ℕ → ℤ → ℤ
clamped row value =
    if is_digital row then (if int_le (pos 1) value then pos 1 else pos 0)
    else (if is_value row then (if int_le (pos 0) value then value else pos 0)
    else value)

-- pressed from 20480 upwards, released below 12288, and between them as before
abbrev pub pressed_by : Bool → ℤ → Bool
pressed_by before value = if int_le (pos 20480) value then true else (if int_lt value (pos 12288) then false else before)

-- b is further from zero
abbrev pub is_larger : ℤ → ℤ → Bool
is_larger a b = nat_lt (unsigned_abs a) (unsigned_abs b)

-- the square of a vector's length
abbrev pub square_of : ℤ × ℤ → ℕ
square_of v = unsigned_abs v.0 * unsigned_abs v.0 + unsigned_abs v.1 * unsigned_abs v.1

-- b is longer
abbrev pub is_longer : ℤ × ℤ → ℤ × ℤ → Bool
is_longer a b = nat_lt (square_of a) (square_of b)
