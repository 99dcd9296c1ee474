-- The lines of a device text, by the events that they give.
use Rattle.std.specs.Prelude.{ℕ, List, [], ◌++◌, codes, decimal, Option, Some, None, if◌then◌else◌}
use Rattle.std.specs.Fmt.{signed_decimal}
use Rattle.xr_types.specs.declared.device.DeviceEvent.{DeviceEvent}
use Rattle.xr_types.specs.declared.device.DeviceEvent.TheVariants as event
use Rattle.xr_types.specs.declared.input.Profile.{Profile}
use Rattle.xr_types.specs.InputNames.{input_name}
use Rattle.xr_types.specs.Printed.{wish_name, user_path, profile_name, origin_name}

abbrev pub connected : Option Profile → List ℕ
connected None = codes "none"
connected (Some profile) = profile_name profile

-- the line that gives an event; no line gives the two ways in which a device ends early
abbrev pub device_line : DeviceEvent → List ℕ
device_line (event.Clock time) = codes "clock " ++ signed_decimal time
device_line (event.Grid base period) = codes "grid " ++ signed_decimal base ++ codes " " ++ signed_decimal period
device_line (event.Wish wish) = codes "wish " ++ wish_name wish
device_line event.Loss = codes "loss"
device_line event.Lost = codes "lost"
device_line (event.Stage on) = codes "stage " ++ (if on then codes "on" else codes "off")
device_line (event.Profile user profile) = codes "profile " ++ user_path user ++ codes " " ++ connected profile
device_line (event.Input user row value) = codes "input " ++ user_path user ++ codes "/input/" ++ input_name row ++ codes " " ++ signed_decimal value
device_line (event.Pose origin time pose) = codes "pose " ++ origin_name origin ++ codes " " ++ signed_decimal time ++ codes " " ++ decimal pose
device_line (event.Mark mark) = codes "mark " ++ decimal mark
device_line (event.Await mark) = codes "await " ++ decimal mark
device_line event.Fault = []
device_line (event.Garbled line) = []
