-- The places of user paths (OpenXR 1.0 section 6.3.1).
use Rattle.std.specs.Prelude.{ℕ}
use Rattle.xr_types.specs.declared.input.User.{User}
use Rattle.xr_types.specs.declared.input.User.TheVariants as user

-- the place of a user path among the five
abbrev pub user_place : User → ℕ
user_place user.Left = 0
user_place user.Right = 1
user_place user.Head = 2
user_place user.Gamepad = 3
user_place user.Treadmill = 4
