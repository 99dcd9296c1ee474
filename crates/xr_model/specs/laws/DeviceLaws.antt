-- What holds of the lines of device texts.
use Rattle.std.specs.Prelude.{◌≡◌, nat_le, Bool, true, false, Some}
use Rattle.xr_types.specs.Device.{checks}
use Rattle.xr_types.specs.declared.device.DeviceEvent.{DeviceEvent}
use Rattle.xr_types.specs.declared.device.DeviceEvent.TheVariants as event
use Rattle.xr_model.specs.device_text.DeviceLines.{device_line}
use Rattle.xr_model.specs.device_text.DeviceText.{most_pose, event_of}

-- a line of a text tells it: it is none of the two ways in which a device ends early, and its pose is one that a line tells
abbrev pub is_of_line : DeviceEvent → Bool
is_of_line event.Fault = false
is_of_line (event.Garbled line) = false
is_of_line (event.Pose origin time pose) = nat_le pose most_pose
is_of_line e = true

-- the line that is printed for an event reads back as that event
abbrev pub LinesReadBack : Type 0
LinesReadBack = (e : DeviceEvent) → is_of_line e ≡ true → checks e ≡ true → event_of (device_line e) ≡ Some e
