-- What follows from the answers of the top call on threads.
use Rattle.std.specs.Prelude.{◌≡◌, Option}
use Rattle.xr_types.specs.declared.status.Status.{Status}
use Rattle.xr_types.specs.declared.status.Status.TheVariants.{Stuck}
use Rattle.xr_model.specs.command_line.Words.{WordsForm}
use Rattle.xr_runtime.specs.declared.close.Closed.{Closed}
use Rattle.xr_drive.specs.Run.{RunBy}
use Rattle.xr_drive.specs.Top.{Outside, IsAnswer}
use Rattle.xr_drive.specs.TopLaws.{GoodInputIsRunBy}
use Rattle.xr_drive_threads.specs.Top.{RanClosed}

-- Where the words ask for a run, the file's bytes are told and are a scenario, what the device gives is told and it ends at the end of its
-- text, and no count of faults rose, so it is.
abbrev pub GoodInputIsRunOnThreads : Type 0
GoodInputIsRunOnThreads = (closed : Option Closed) → GoodInputIsRunBy (RanClosed closed)

-- an answer of a run on threads is never that it can't go on
abbrev pub ThreadsEnd : Type 0
ThreadsEnd = (closed : Option Closed) (form : Option WordsForm) (old new : Outside) (status : Status) → IsAnswer (RunBy (RanClosed closed)) form old new status → status ≡ Stuck → ⊥
