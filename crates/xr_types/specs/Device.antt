-- Which events of a device have their numbers in range.
use Rattle.std.specs.Prelude.{ℕ, ℤ, pos, negsuc, ◌-◌, ◌^◌, ◌&&◌, int_le, nat_le, Bool, true, false}
use Rattle.xr_types.specs.declared.device.DeviceEvent.{DeviceEvent}
use Rattle.xr_types.specs.declared.device.DeviceEvent.TheVariants as event
use Rattle.xr_types.specs.declared.input.User.{User}
use Rattle.xr_types.specs.declared.input.User.TheVariants as user
use Rattle.xr_types.specs.declared.limits.TheConstants.{MOST_MARK, MOST_ROW}
use Rattle.xr_types.specs.declared.spaces.Origin.{Origin}
use Rattle.xr_types.specs.declared.spaces.Origin.TheVariants as origin

-- a number from one to another, both included
abbrev pub in_range : ℤ → ℤ → ℤ → Bool
in_range n least most = int_le least n && int_le n most

abbrev pub is_hand_user : User → Bool
is_hand_user user.Left = true
is_hand_user user.Right = true
is_hand_user _ = false

-- grip and aim are those of a hand
abbrev pub is_hand : Origin → Bool
is_hand (origin.Grip who) = is_hand_user who
is_hand (origin.Aim who) = is_hand_user who
is_hand _ = true

abbrev pub is_time : ℤ → Bool
is_time n = in_range n (pos 0) (pos (2 ^ 62 - 1))

abbrev pub is_mark : ℕ → Bool
is_mark n = nat_le 1 n && nat_le n MOST_MARK

-- An event's numbers are in range.
abbrev pub checks : DeviceEvent → Bool
checks (event.Clock time) = is_time time
checks (event.Grid base period) = is_time base && in_range period (pos 1) (pos 1000000000)
checks (event.Input who row value) = nat_le 1 row && nat_le row MOST_ROW && in_range value (negsuc 32767) (pos 32768)
checks (event.Pose place time number) = is_hand place && is_time time && nat_le 1 number
checks (event.Mark mark) = is_mark mark
checks (event.Await mark) = is_mark mark
checks _ = true
