-- Numbers and words as they are read.
use Rattle.std.specs.Prelude.{ℕ, ℤ, ◌&&◌, nat_le, Option, Some, None, if◌then◌else◌}
use Rattle.xr_types.specs.Device.{in_range}
use Rattle.xr_model.specs.device_text.DeviceText.{Meaning, skipped, tells, malformed}
use Rattle.xr_device.specs.Answers.{IsTold}
use Rattle.xr_device.specs.declared.words.Said.{Said}
use Rattle.xr_device.specs.declared.words.Said.TheVariants as said

-- a number that isn't past the most that it may be
abbrev pub up_to : ℕ → Option ℕ → Option ℕ
up_to most None = None
up_to most (Some n) = if nat_le n most then Some n else None

-- a number that is in a range, both ends included
abbrev pub ranged : ℕ → ℕ → Option ℕ → Option ℕ
ranged least most None = None
ranged least most (Some n) = if nat_le least n && nat_le n most then Some n else None

-- a whole number that is in a range, both ends included
abbrev pub whole : ℤ → ℤ → Option ℤ → Option ℤ
whole least most None = None
whole least most (Some n) = if in_range n least most then Some n else None

-- what a line says, as the definitions of device texts have it
abbrev pub meaning : Said → Meaning
meaning said.Nothing = skipped
meaning (said.Event event) = tells event
meaning said.Malformed = malformed

-- the event that a line gives is one that a device may tell
abbrev pub IsSaidTold : Said → Type 0
IsSaidTold said.Nothing = Unit {0}
IsSaidTold (said.Event event) = IsTold event
IsSaidTold said.Malformed = Unit {0}
