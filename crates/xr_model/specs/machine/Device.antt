-- What the device has told of itself. Its events are this project's own.
use Rattle.std.specs.Prelude.{ℤ, pos, Bool, false, List, Option}
use Rattle.xr_types.specs.declared.device.Wish.{Wish}
use Rattle.xr_types.specs.declared.input.Inputs.{Inputs}
use Rattle.xr_types.specs.declared.input.Profile.{Profile}
use Rattle.xr_model.specs.machine.Inputs.{no_profiles, no_inputs}
use Rattle.xr_types.specs.declared.device.Wish.TheVariants.{Rest}

-- its clock in ns, the base and the period of frames in ns, the state that it wishes sessions to be in, whether it has a stage, the
-- profile that is connected at each user path, and what its inputs show
pub record Device : Type 0 where
  pub clock : ℤ
  pub base : ℤ
  pub period : ℤ
  pub wish : Wish
  pub stage : Bool
  pub profiles : List (Option Profile)
  pub inputs : Inputs

abbrev pub first_device : Device
first_device = record { clock = pos 0; base = pos 0; period = pos 11111111; wish = Rest; stage = false; profiles = no_profiles; inputs = no_inputs }
