-- What comes of files that are run on threads.
use Rattle.std.specs.Prelude.{◌≡◌, true, Option, Some, None, Result, Ok, Err, ⊤}
use Rattle.xr_types.specs.declared.calls.NoMemory.{NoMemory}
use Rattle.xr_types.specs.declared.made.Lists.{Lists}
use Rattle.xr_runtime.specs.declared.close.Closed.{Closed}
use Rattle.xr_threads.specs.declared.threads.Ended.{Ended}
use Rattle.xr_drive.specs.Files.{status_of_fault}
use Rattle.xr_drive.specs.Top.{is_unrun}
use Rattle.xr_drive.specs.declared.faults.RunFault.{RunFault}
use Rattle.xr_drive.specs.declared.faults.RunFault.TheVariants as run_fault
use Rattle.xr_drive_threads.specs.declared.files.FilesRun.{FilesRun}

-- the lists, or that memory was short
abbrev pub lists_or_fault : Result Lists NoMemory → Result Lists RunFault
lists_or_fault (Ok lists) = Ok lists
lists_or_fault (Err short) = Err run_fault.NoMemory

abbrev pub files_run : Result Ended NoMemory → FilesRun
files_run (Ok e) = record { lists = lists_or_fault e.lists; closed = Some e.closed }
files_run (Err short) = record { lists = Err run_fault.NoMemory; closed = None }

-- no runtime was had where the files weren't run
abbrev pub NoneIfUnrun : Result Lists RunFault → Option Closed → Type 0
NoneIfUnrun (Ok lists) closed = ⊤
NoneIfUnrun (Err fault) closed = is_unrun (status_of_fault fault) ≡ true → closed ≡ None
