-- What the public parts of a run of files say: how the files were opened and read, and how all ended.
use Rattle.std.specs.Prelude.{◌≡◌, ◌≤◌, ◌⊎◌, ℕ, ◌+◌, true, false, List, Option, Some, None, option_map, Result, Ok, Err, IfSome, take, ⊤}
use Rattle.std.specs.List.{list_any}
use Rattle.std.specs.Io.KnownBytes.{Keeps, Appends}
use Rattle.xr_io.specs.Outside.{Rose, Files, Closed, Output}
use Rattle.xr_io.specs.declared.Which.TheVariants as which
use Rattle.xr_types.specs.declared.limits.TheConstants.{MOST_SCENARIO, MOST_DEVICE}
use Rattle.xr_types.specs.declared.made.Lists.{Lists}
use Rattle.xr_types.specs.declared.scenario.Scenario.{Scenario}
use Rattle.xr_types.specs.declared.status.Status.{Status}
use Rattle.xr_types.specs.declared.status.Status.TheVariants as ended
use Rattle.xr_model.specs.command_line.Words.{RunOptions, run}
use Rattle.xr_model.specs.scenario.Scenario.{scenario_of}
use Rattle.xr_model.specs.device_text.DeviceText.{told_in}
use Rattle.xr_model.specs.report.RunEnding.{is_fault, ending_of}
use Rattle.xr_device.specs.Kinds.{TextReading, taken_by, begun_at, is_late, of_text}
use Rattle.xr_drive.specs.Run.{HowRan, RunBy}
use Rattle.xr_drive.specs.Top.{text_of, RunsText, known_under, SameCounts, OpensInTurn, NoneLeftOpen, SameBytes, IsDeviceAskedFor, KeepsFile, UnlessNamed, IfNamed, IsWithin, TakesWithin}
use Rattle.xr_drive.specs.declared.faults.RunFault.{RunFault}
use Rattle.xr_drive.specs.declared.faults.RunFault.TheVariants.{OpenFault, ReadFault, Refused, NoMemory}
use Rattle.xr_runs.specs.Runs.{CanBeRun}

-- ---- why files weren't run

abbrev pub status_of_fault : RunFault → Status
status_of_fault OpenFault = ended.OpenFault
status_of_fault ReadFault = ended.ReadFault
status_of_fault (Refused why) = ended.ScenarioRefused why
status_of_fault NoMemory = ended.NoMemory

-- a text that is refused is no scenario, where it is told
abbrev pub MeansUnrun : Option (List ℕ) → RunFault → Type 0
MeansUnrun all (Refused why) = IfSome all (λ text. scenario_of text ≡ Err why)
MeansUnrun all _ = ⊤

-- each fault comes only where its count rose
abbrev pub HasFaultCause : Files → Files → RunFault → Type 0
HasFaultCause old new OpenFault = Rose (old.open_faults which.Scenario) (new.open_faults which.Scenario) ⊎ Rose (old.open_faults which.Device) (new.open_faults which.Device)
HasFaultCause old new ReadFault = Rose (old.read_faults which.Scenario) (new.read_faults which.Scenario)
HasFaultCause old new _ = ⊤

-- each count is as it was, but for that of the fault; a device that failed may be behind want of memory
abbrev pub KeepsOthers : Files → Files → RunFault → Type 0
KeepsOthers old new OpenFault = SameCounts old.read_faults new.read_faults
KeepsOthers old new ReadFault = SameCounts old.open_faults new.open_faults × (new.read_faults which.Device ≡ old.read_faults which.Device)
KeepsOthers old new (Refused why) = SameCounts old.open_faults new.open_faults × SameCounts old.read_faults new.read_faults
KeepsOthers old new NoMemory = SameCounts old.open_faults new.open_faults × (new.read_faults which.Scenario ≡ old.read_faults which.Scenario)

-- The scenario of this file wasn't run, alone or beside the device of that file: why, and what was done with the files. No source is
-- left open.
pub record FilesUnrun (file : List ℕ) (device : Option (List ℕ)) (old new : Files) (fault : RunFault) : Type 0 where
  pub means : MeansUnrun (old.bytes file) fault
  pub cause : HasFaultCause old new fault
  pub counts : KeepsOthers old new fault
  pub asked : new.asked which.Scenario ≡ Some file
  pub device_asked : IsDeviceAskedFor device (new.asked which.Device) (status_of_fault fault)
  pub turn : OpensInTurn old new (status_of_fault fault)
  pub alone : UnlessNamed device (KeepsFile which.Device old new)
  pub taken : TakesWithin (MOST_SCENARIO + 1) (old.taken which.Scenario) (new.taken which.Scenario) (status_of_fault fault)
  pub device_taken : IfNamed device (TakesWithin (MOST_DEVICE + 1) (old.taken which.Device) (new.taken which.Device) (status_of_fault fault))
  pub closed : NoneLeftOpen old new
  pub same : SameBytes old new

-- ---- files that were run

-- It was run so, alone or beside that device, and these are the lists: how they came, and what was done with the files. No source
-- is left open.
pub record FilesRan (How : HowRan) (file : List ℕ) (device : Option (List ℕ)) (old new : Files) (lists : Lists) : Type 0 where
  pub means : RunsText (RunBy How) (old.bytes file) (known_under old new device) lists
  pub cause : list_any is_fault lists.events ≡ true → Rose (old.read_faults which.Device) (new.read_faults which.Device)
  pub opens : SameCounts old.open_faults new.open_faults
  pub scenario : new.read_faults which.Scenario ≡ old.read_faults which.Scenario
  pub unfailed : list_any is_fault lists.events ≡ false → new.read_faults which.Device ≡ old.read_faults which.Device
  pub asked : new.asked which.Scenario ≡ Some file
  pub device_asked : new.asked which.Device ≡ device
  pub alone : UnlessNamed device (KeepsFile which.Device old new)
  pub within : IsWithin (MOST_SCENARIO + 1) (new.taken which.Scenario)
  pub device_within : IfNamed device (IsWithin (MOST_DEVICE + 1) (new.taken which.Device))
  pub closed : NoneLeftOpen old new
  pub same : SameBytes old new

-- what was done with the scenario's file and a device's, by what came of them
abbrev pub FilesEnded : HowRan → List ℕ → Option (List ℕ) → Files → Files → Result Lists RunFault → Type 0
FilesEnded How file device old new (Ok lists) = FilesRan How file device old new lists
FilesEnded How file device old new (Err fault) = FilesUnrun file device old new fault

-- the same of the files of a run's options
abbrev pub FilesAnswer : HowRan → RunOptions → Files → Files → Result Lists RunFault → Type 0
FilesAnswer How options = FilesEnded How options.file options.device

-- ---- files that were read

-- A scenario that can be run is what a text reads as, and the text is all bytes of a file, where they are told.
pub record IsScenarioOf (all : Option (List ℕ)) (scenario : Scenario) : Type 0 where
  pub text : List ℕ
  pub is_all : IfSome all (λ bytes. bytes ≡ text)
  pub reads : scenario_of text ≡ Ok scenario
  pub can : CanBeRun scenario

-- The scenario's file was opened, read and closed, and no device's file was asked for.
pub record ReadAlone (file : List ℕ) (old new : Files) (scenario : Scenario) : Type 0 where
  pub is : IsScenarioOf (old.bytes file) scenario
  pub opens : SameCounts old.open_faults new.open_faults
  pub sound : new.read_faults which.Scenario ≡ old.read_faults which.Scenario
  pub asked : new.asked which.Scenario ≡ Some file
  pub none : new.asked which.Device ≡ None
  pub device : KeepsFile which.Device old new
  pub within : IsWithin (MOST_SCENARIO + 1) (new.taken which.Scenario)
  pub closed : NoneLeftOpen old new
  pub same : SameBytes old new

-- a device over a file of these bytes, of which nothing was read yet
pub record IsStart (d : TextReading) (bytes : Option (List ℕ)) : Type 0 where
  pub given : d.given ≡ 0
  pub remaining : (of_text d).remaining ≡ option_map told_in bytes
  pub text : (of_text d).text ≡ bytes
  pub begun : begun_at d ≡ 0
  pub late : is_late d ≡ false
  pub which : d.source.which ≡ which.Device
  pub faults : d.source.faults ≡ 0

-- The scenario's file was opened, read and closed, and the device's file was opened. The device is over that, and has read nothing yet.
pub record ReadBeside (file name : List ℕ) (old new : Files) (scenario : Scenario) (device : TextReading) : Type 0 where
  pub is : IsScenarioOf (old.bytes file) scenario
  pub start : IsStart device (old.bytes name)
  pub opens : SameCounts old.open_faults new.open_faults
  pub reads : SameCounts old.read_faults new.read_faults
  pub asked : new.asked which.Scenario ≡ Some file
  pub device_asked : new.asked which.Device ≡ Some name
  pub within : IsWithin (MOST_SCENARIO + 1) (new.taken which.Scenario)
  pub closed : new.is_open which.Scenario ≡ false
  pub same : SameBytes old new

-- The source of a device was closed, of which the device took all that was taken, and no more than its limit.
pub record DeviceClosed (device : TextReading) (old new : Files) : Type 0 where
  pub closed : Closed device.source old new
  pub few : taken_by device ≤ MOST_DEVICE + 1
  pub within : taken_by device ≤ device.source.taken.count

-- ---- the report

-- A text was written whole, and the status is that of its end; or a front of it was written, since writing failed; or memory was
-- short, and nothing was.
abbrev pub EndsWriting : List ℕ → Status → Output → Output → Status → Type 0
EndsWriting text ending old new status =
    ((status ≡ ending) × Appends old.bytes new.bytes text × (new.faults ≡ old.faults))
    ⊎ (((status ≡ ended.WriteFault) × ((n : ℕ) × Appends old.bytes new.bytes (take n text)) × Rose old.faults new.faults)
    ⊎ ((status ≡ ended.NoMemory) × Keeps old.bytes new.bytes × (new.faults ≡ old.faults)))

-- The report of what came of a run's files was written so. Where nothing was run nothing was written, and the status tells why.
abbrev pub ReportsFiles : RunOptions → Result Lists RunFault → Output → Output → Status → Type 0
ReportsFiles options (Ok lists) old new status = EndsWriting (text_of (run options) lists) (ending_of lists) old new status
ReportsFiles options (Err fault) old new status = (status ≡ status_of_fault fault) × (new ≡ old)
