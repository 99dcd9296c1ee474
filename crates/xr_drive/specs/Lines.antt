-- The line on standard error that tells how a run ended, by its status.
use Rattle.std.specs.Prelude.{ℕ, List, [], ◌++◌, codes, decimal}
use Rattle.xr_types.specs.Field.{name_of_field}
use Rattle.xr_types.specs.declared.status.Refusal.{Refusal}
use Rattle.xr_types.specs.declared.status.Refusal.TheVariants.{TooLong, Json, BadShape}
use Rattle.xr_types.specs.declared.status.Status.{Status}
use Rattle.xr_types.specs.declared.status.Status.TheVariants.{Done, Usage, OpenFault, ReadFault, ScenarioRefused, DeviceFailed, DeviceGarbled, Stuck, WriteFault, NoMemory}
use Rattle.xr_types.specs.declared.status.What.{What}
use Rattle.xr_types.specs.declared.status.What.TheVariants as what

-- what is wrong of a place: a field by its name
abbrev pub name_of_part : What → List ℕ
name_of_part what.Top = codes "top"
name_of_part what.Version = codes "version"
name_of_part what.Scripts = codes "scripts"
name_of_part what.Script = codes "script"
name_of_part what.Op = codes "op"
name_of_part (what.Field key) = name_of_field key
name_of_part what.Extra = codes "extra key"

abbrev pub reason_of : Refusal → List ℕ
reason_of TooLong = codes "too long"
reason_of Json = codes "json"
reason_of (BadShape script op what) = codes "script " ++ decimal script ++ codes " op " ++ decimal op ++ codes " " ++ name_of_part what

-- without its line feed; a run that is done has none
abbrev pub status_line : Status → List ℕ
status_line Done = []
status_line Usage = codes "xrsim: usage: xrsim serial FILE, xrsim threads FILE, with --device FILE and --places; xrsim load N"
status_line OpenFault = codes "xrsim: cannot open"
status_line ReadFault = codes "xrsim: cannot read the scenario"
status_line (ScenarioRefused why) = codes "xrsim: scenario refused: " ++ reason_of why
status_line DeviceFailed = codes "xrsim: device failed"
status_line (DeviceGarbled line) = codes "xrsim: device line " ++ decimal line ++ codes " garbled"
status_line Stuck = codes "xrsim: stuck"
status_line WriteFault = codes "xrsim: cannot write"
status_line NoMemory = codes "xrsim: no memory"
