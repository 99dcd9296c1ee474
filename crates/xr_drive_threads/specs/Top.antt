-- What the top call on threads means.
use Rattle.std.specs.Prelude.{◌≡◌, ℕ, List, Option, Some, None, option_map, codes, map, String, string_bytes, ⊤}
use Rattle.xr_types.specs.declared.made.Lists.{Lists}
use Rattle.xr_types.specs.declared.scenario.Scenario.{Scenario}
use Rattle.xr_types.specs.declared.status.Status.{Status}
use Rattle.xr_types.specs.declared.status.Status.TheVariants.{Done, Usage, OpenFault, ReadFault, ScenarioRefused, DeviceFailed, DeviceGarbled, Stuck, WriteFault, NoMemory}
use Rattle.xr_model.specs.command_line.Words.{WordsForm, run, run_under}
use Rattle.xr_model.specs.device_text.DeviceText.{DeviceStream}
use Rattle.xr_runtime.specs.declared.close.Closed.{Closed}
use Rattle.xr_threads.specs.Threads.{RanOnThreads}
use Rattle.xr_drive.specs.Run.{RunBy}
use Rattle.xr_drive.specs.Top.{Outside, IsAnswer}

-- The form of the words on threads, if they have one: `threads FILE` with its options.
abbrev pub threads_form : {Z : Type 0} → List (String Z) → Option WordsForm
threads_form words = option_map run (run_under (codes "threads") (map string_bytes words))

-- The lists are those of a run on threads, of the one history for which this closed runtime stands.
abbrev pub RanClosed : Option Closed → Scenario → Option DeviceStream → ℕ → Lists → Type 0
RanClosed closed scenario told count lists = (c : Closed) × (closed ≡ Some c) × RanOnThreads c scenario told count lists

-- A runtime was closed where the scenario was run, none where it was not, and `Stuck` never comes; where memory was short either may be.
abbrev pub IsClosedFor : Status → Option Closed → Type 0
IsClosedFor Usage closed = closed ≡ None
IsClosedFor OpenFault closed = closed ≡ None
IsClosedFor ReadFault closed = closed ≡ None
IsClosedFor (ScenarioRefused why) closed = closed ≡ None
IsClosedFor Stuck closed = ⊥
IsClosedFor NoMemory closed = ⊤
IsClosedFor Done closed = (c : Closed) × (closed ≡ Some c)
IsClosedFor DeviceFailed closed = (c : Closed) × (closed ≡ Some c)
IsClosedFor (DeviceGarbled line) closed = (c : Closed) × (closed ≡ Some c)
IsClosedFor WriteFault closed = (c : Closed) × (closed ≡ Some c)

-- What a status says under some closed runtime, all of it.
abbrev pub ThreadsAnswer : Option WordsForm → Outside → Outside → Status → Type 0
ThreadsAnswer form old new status = (closed : Option Closed) × IsAnswer (RunBy (RanClosed closed)) form old new status × IsClosedFor status closed
