-- How a run ended, by its lists, and the number of each way to end.
use Rattle.std.specs.Prelude.{ℕ, Bool, true, false, List, [], ◌∷◌, Option, Some, None, if◌then◌else◌}
use Rattle.std.specs.List.{list_any}
use Rattle.xr_types.specs.declared.device.DeviceEvent.{DeviceEvent}
use Rattle.xr_types.specs.declared.device.DeviceEvent.TheVariants.{Fault, Garbled}
use Rattle.xr_types.specs.declared.made.Lists.{Lists}
use Rattle.xr_types.specs.declared.made.Waiting.{Waiting}
use Rattle.xr_types.specs.declared.status.Status.{Status}
use Rattle.xr_types.specs.declared.status.Status.TheVariants.{Done, Usage, OpenFault, ReadFault, ScenarioRefused, DeviceFailed, DeviceGarbled, Stuck, WriteFault, NoMemory}

abbrev pub is_fault : DeviceEvent → Bool
is_fault Fault = true
is_fault _ = false

abbrev pub is_garbled : DeviceEvent → Bool
is_garbled (Garbled line) = true
is_garbled _ = false

abbrev pub garbled_line : DeviceEvent → Option ℕ
garbled_line (Garbled line) = Some line
garbled_line _ = None

abbrev pub or_else : Option ℕ → Option ℕ → Option ℕ
or_else (Some line) rest = Some line
or_else None rest = rest

-- the first malformed line of the device's text
abbrev pub first_garbled : List DeviceEvent → Option ℕ
first_garbled [] = None
first_garbled (e ∷ es) = or_else (garbled_line e) (first_garbled es)

abbrev pub stuck_or_done : List Waiting → Status
stuck_or_done [] = Done
stuck_or_done (w ∷ ws) = Stuck

abbrev pub unless_garbled : Option ℕ → Status → Status
unless_garbled (Some line) status = DeviceGarbled line
unless_garbled None status = status

-- The device couldn't be read on, else a line of it is malformed, else somebody waits for ever, else all is done.
abbrev pub ending_by : List DeviceEvent → List Waiting → Status
ending_by events next = if list_any is_fault events then DeviceFailed else unless_garbled (first_garbled events) (stuck_or_done next)

abbrev pub ending_of : Lists → Status
ending_of lists = ending_by lists.events lists.next

-- the number that a report prints, and that a process ends with
abbrev pub exit_of : Status → ℕ
exit_of Done = 0
exit_of Usage = 1
exit_of OpenFault = 2
exit_of ReadFault = 3
exit_of (ScenarioRefused why) = 4
exit_of DeviceFailed = 5
exit_of (DeviceGarbled line) = 6
exit_of Stuck = 7
exit_of WriteFault = 8
exit_of NoMemory = 9
