-- What follows from the answer of a top call: good input is run, and so is a load.
use Rattle.std.specs.Prelude.{◌≡◌, ◌⊎◌, List, ℕ, Option, Some, Ok}
use Rattle.xr_io.specs.Outside.{Rose}
use Rattle.xr_io.specs.declared.Which.{Which}
use Rattle.xr_types.specs.declared.scenario.Scenario.{Scenario}
use Rattle.xr_types.specs.declared.status.Status.{Status}
use Rattle.xr_types.specs.declared.status.Status.TheVariants.{Done, Stuck, NoMemory}
use Rattle.xr_model.specs.command_line.Words.{RunOptions, WordsForm, run, load}
use Rattle.xr_model.specs.scenario.Scenario.{scenario_of}
use Rattle.xr_model.specs.device_text.DeviceText.{DeviceStream, ends}
use Rattle.xr_types.specs.declared.made.Lists.{Lists}
use Rattle.xr_serial.specs.Ran.{Ran}
use Rattle.xr_drive.specs.Run.{HowRan, RunBy, RunOf, IsClean}
use Rattle.xr_drive.specs.Top.{Outside, IsAnswer, told_under}

-- no count rose
pub record NoneRose (old new : Outside) : Type 0 where
  pub opens : (which : Which) → ¬ Rose (old.files.open_faults which) (new.files.open_faults which)
  pub reads : (which : Which) → ¬ Rose (old.files.read_faults which) (new.files.read_faults which)
  pub writes : ¬ Rose old.output.faults new.output.faults

-- the run is done, or stuck, or memory was short
abbrev pub IsRun : Status → Type 0
IsRun status = (status ≡ Done) ⊎ ((status ≡ Stuck) ⊎ (status ≡ NoMemory))

-- Where the words ask for a run, the file's bytes are told and are a scenario, what the device gives is told
-- and it ends at the end of its text, and no count of faults rose, so it is.
abbrev pub IsComplete : Option WordsForm → Outside → Outside → Status → Type 0
IsComplete form old new status =
    (options : RunOptions) (text : List ℕ) (scenario : Scenario) (told : DeviceStream) → form ≡ Some (run options) → old.files.bytes options.file ≡ Some text → scenario_of text ≡ Ok scenario
    → told_under old.files.bytes options.device ≡ Some told → told.ending ≡ ends → NoneRose old new → IsRun status

-- so it is of each answer of this way to run
abbrev pub GoodInputIsRunBy : HowRan → Type 0
GoodInputIsRunBy How = (form : Option WordsForm) (old new : Outside) (status : Status) → IsAnswer (RunBy How) form old new status → IsComplete form old new status

-- and of each of the round robin
abbrev pub GoodInputIsRun : Type 0
GoodInputIsRun = GoodInputIsRunBy Ran

-- a device that is known to end at the end of its text does nothing that is garbled, if it is run so
abbrev pub KeepsClean : HowRan → Type 0
KeepsClean How = (scenario : Scenario) (told : DeviceStream) (count : ℕ) (lists : Lists) → IsClean told.events → told.ending ≡ ends → How scenario (Some told) count lists → IsClean lists.events

-- And where the words ask for a load, and no count rose.
abbrev pub LoadsAreRun : Type 0
LoadsAreRun = (frames : ℕ) (old new : Outside) (status : Status) → IsAnswer RunOf (Some (load frames)) old new status → NoneRose old new → IsRun status
