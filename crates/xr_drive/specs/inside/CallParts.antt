-- What the parts of a top call say.
use Rattle.std.specs.Prelude.{◌≡◌, ℕ, ◌+◌, false, List, take, Option, Result, Ok, Err, IfSome, ⊤}
use Rattle.std.specs.List.{list_any}
use Rattle.std.specs.Io.KnownBytes.{Keeps, Appends}
use Rattle.xr_io.specs.Outside.{Rose, SourceState, none_taken, Files, Output}
use Rattle.xr_io.specs.declared.Which.{Which}
use Rattle.xr_io.specs.declared.Which.TheVariants as which
use Rattle.xr_types.specs.declared.limits.TheConstants.{MOST_SCENARIO}
use Rattle.xr_model.specs.scenario.Scenario.{scenario_of}
use Rattle.xr_types.specs.declared.made.Lists.{Lists}
use Rattle.xr_types.specs.declared.status.Status.{Status}
use Rattle.xr_types.specs.declared.status.Status.TheVariants as status
use Rattle.xr_model.specs.report.RunEnding.{is_fault}
use Rattle.xr_model.specs.scenario.LoadScenario.{load_scenario}
use Rattle.xr_scenario.specs.declared.fault.ScenarioFault.{ScenarioFault}
use Rattle.xr_scenario.specs.declared.fault.ScenarioFault.TheVariants as scenario_fault
use Rattle.xr_drive.specs.Run.{RunOf}
use Rattle.xr_drive.specs.Top.{made_device, SameCounts, IsWithin, SameBytes}
use Rattle.xr_drive.specs.declared.input.Stop.{Stop}
use Rattle.xr_drive.specs.declared.input.Stop.TheVariants as stop
use Rattle.xr_drive.specs.declared.faults.RunFault.{RunFault}
use Rattle.xr_drive.specs.declared.faults.RunFault.TheVariants.{OpenFault, ReadFault, Refused, NoMemory}
use Rattle.xr_drive.specs.declared.faults.Unwritten.{Unwritten}
use Rattle.xr_drive.specs.declared.faults.Unwritten.TheVariants as unwritten

-- ---- a source

-- it was opened as this file, nothing was taken of it, and no read of it failed
pub record IsJustOpened (w : Which) (source : SourceState) : Type 0 where
  pub which : source.which ≡ w
  pub taken : source.taken ≡ none_taken
  pub going : source.is_over ≡ false
  pub sound : source.faults ≡ 0

-- ---- why files weren't run

abbrev pub fault_of_stop : Stop → RunFault
fault_of_stop stop.Failed = ReadFault
fault_of_stop stop.NoMemory = NoMemory

abbrev pub fault_of_scenario : ScenarioFault → RunFault
fault_of_scenario (scenario_fault.Refused why) = Refused why
fault_of_scenario scenario_fault.NoMemory = NoMemory

-- ---- a scenario's opened file

-- Why it gives no scenario that can be run, by the count of its failed reads before and after.
abbrev pub UnreadBy : Option (List ℕ) → Files → Files → RunFault → Type 0
UnreadBy all old new OpenFault = ⊥
UnreadBy all old new ReadFault = Rose (old.read_faults which.Scenario) (new.read_faults which.Scenario)
UnreadBy all old new (Refused why) = IfSome all (λ text. scenario_of text ≡ Err why) × (new.read_faults which.Scenario ≡ old.read_faults which.Scenario)
UnreadBy all old new NoMemory = new.read_faults which.Scenario ≡ old.read_faults which.Scenario

-- It was read and closed, and but for the count of its failed reads all else is as it was.
pub record ReadOut (old new : Files) : Type 0 where
  pub asked : (w : Which) → new.asked w ≡ old.asked w
  pub opens : SameCounts old.open_faults new.open_faults
  pub reads : new.read_faults which.Device ≡ old.read_faults which.Device
  pub within : IsWithin (MOST_SCENARIO + 1) (new.taken which.Scenario)
  pub untaken : new.taken which.Device ≡ old.taken which.Device
  pub closed : new.is_open which.Scenario ≡ false
  pub stays : new.is_open which.Device ≡ old.is_open which.Device
  pub same : SameBytes old new

-- ---- a load

-- a load beside its device: it didn't fail
pub record RunLoad (frames : ℕ) (lists : Lists) : Type 0 where
  pub runs : RunOf (load_scenario frames) made_device lists
  pub faultless : list_any is_fault lists.events ≡ false

-- ---- the text that is written

-- what was written of a text
abbrev pub MeansWritten : {T : Type 0} → List ℕ → Output → Output → Result T Unwritten → Type 0
MeansWritten text old new (Ok written) = Appends old.bytes new.bytes text
MeansWritten text old new (Err unwritten.Failed) = (n : ℕ) × Appends old.bytes new.bytes (take n text)
MeansWritten text old new (Err unwritten.NoMemory) = Keeps old.bytes new.bytes

abbrev pub status_of_unwritten : Unwritten → Status
status_of_unwritten unwritten.Failed = status.WriteFault
status_of_unwritten unwritten.NoMemory = status.NoMemory

-- the count of write faults is as it was, but where a write failed
abbrev pub KeptUnlessUnwritten : {T : Type 0} → Output → Output → Result T Unwritten → Type 0
KeptUnlessUnwritten old new (Ok written) = new.faults ≡ old.faults
KeptUnlessUnwritten old new (Err unwritten.Failed) = ⊤
KeptUnlessUnwritten old new (Err unwritten.NoMemory) = new.faults ≡ old.faults

-- a write fault comes only where the count rose
abbrev pub RoseIfUnwritten : {T : Type 0} → Output → Output → Result T Unwritten → Type 0
RoseIfUnwritten old new (Ok written) = ⊤
RoseIfUnwritten old new (Err unwritten.Failed) = Rose old.faults new.faults
RoseIfUnwritten old new (Err unwritten.NoMemory) = ⊤
