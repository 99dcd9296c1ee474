-- What is known of a device.
use Rattle.std.specs.Prelude.{ℕ, Bool, List, Option}
use Rattle.xr_io.specs.declared.Which.{Which}
use Rattle.xr_model.specs.device_text.DeviceText.{DeviceStream}

-- what is still to come, where it tells that; whether it answers its end for ever; how many events it has given, and how many
-- are still to come at most; how often it couldn't be read on; which of the two files it is read from, and how many bytes of that
-- were taken before it began; all its text from there on, where that is told, and how many bytes of it were taken; and whether a read of
-- the file was late, or the next one would be
pub record Prospect : Type 0 where
  pub remaining : Option DeviceStream
  pub over : Bool
  pub given : ℕ
  pub bound : ℕ
  pub faults : ℕ
  pub which : Which
  pub begun : ℕ
  pub text : Option (List ℕ)
  pub taken : ℕ
  pub late : Bool
