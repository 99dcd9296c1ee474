-- What comes of files that are run on threads.
use Rattle.std.proofs.Common.{◌≡◌, inl, ℕ, Bool, true, false, true≢false, List, [], Some, None, Result, Ok, Err, IfOk, refl, sym}
use Rattle.std.specs.List.{list_any}
use Rattle.xr_io.specs.Outside.{Rose, Files}
use Rattle.xr_types.specs.declared.calls.NoMemory.{NoMemory}
use Rattle.xr_types.specs.declared.made.Lists.{Lists}
use Rattle.xr_types.specs.declared.scenario.Scenario.{Scenario}
use Rattle.xr_model.specs.command_line.Words.{RunOptions}
use Rattle.xr_model.specs.report.RunEnding.{is_fault}
use Rattle.xr_device.specs.Answers.{ReadsOn}
use Rattle.xr_device.specs.Kinds.{Stored, of_list, TextReading, of_text}
use Rattle.xr_device.specs.Prospect.{Prospect}
use Rattle.xr_runtime.specs.declared.close.Closed.{Closed}
use Rattle.xr_threads.specs.declared.threads.Ended.{Ended}
use Rattle.xr_threads.specs.Threads.{RanOnThreads}
use Rattle.xr_drive.specs.Files.{FilesUnrun, FilesAnswer, ReadAlone, ReadBeside, DeviceClosed}
use Rattle.xr_drive.specs.declared.faults.RunFault.TheVariants as run_fault
use Rattle.xr_drive.proofs.FilesRan.{CameSo, alone_ran, beside_ran, beside_short}
use Rattle.xr_drive_threads.specs.Top.{RanClosed}
use Rattle.xr_drive_threads.specs.inside.Runs.{lists_or_fault, files_run}
use Rattle.xr_runs.specs.Runs.{FailsBehind}

-- how the lists of a run came, beside a device that was so before it and is so behind it
abbrev CameFrom : Closed → Scenario → Prospect → Prospect → Lists → Type 0
CameFrom c = CameSo (RanOnThreads c)

-- ---- beside no device's file

-- memory was short in the run
alone_short : (file : List ℕ) (old new : Files) (scenario : Scenario) → ReadAlone file old new scenario → FilesUnrun file None old new run_fault.NoMemory
alone_short file old new scenario read = record {
  means = tt;
  cause = tt;
  counts = (read.opens, read.sound);
  asked = read.asked;
  device_asked = inl read.none;
  turn = tt;
  alone = read.device;
  taken = inl read.within;
  device_taken = λ named. absurd (true≢false (sym named));
  closed = read.closed;
  same = read.same;
}

module _ (file : List ℕ) (places : Bool) (old new : Files) (scenario : Scenario) (read : ReadAlone file old new scenario) (first last : Stored) (empty : first.events ≡ []) where
  abbrev alone_options : RunOptions
  alone_options = record { file = file; device = None; places = places }

  listed_alone : (c : Closed) (l : Result Lists NoMemory) → IfOk l (CameFrom c scenario (of_list first) (of_list last)) → IfOk l (λ lists. list_any is_fault lists.events ≡ true → Rose (of_list first).faults (of_list last).faults)
      → FilesAnswer (RanClosed (Some c)) alone_options old new (lists_or_fault l)
  listed_alone c (Ok lists) came fault = alone_ran (RanClosed (Some c)) file old new scenario read first last empty lists (came.0, came.1, (c, refl, came.2)) fault
  listed_alone c (Err short) came fault = alone_short file old new scenario read

  pub run_alone : (run : Result Ended NoMemory) → IfOk run (λ e. IfOk e.lists (CameFrom e.closed scenario (of_list first) (of_list last)))
      → IfOk run (λ e. IfOk e.lists (λ lists. list_any is_fault lists.events ≡ true → Rose (of_list first).faults (of_list last).faults)) → FilesAnswer (RanClosed (files_run run).closed) alone_options old new (files_run run).lists
  run_alone (Ok e) came fault = listed_alone e.closed e.lists came fault
  run_alone (Err short) came fault = alone_short file old new scenario read

-- ---- beside the device's file

module _ (file name : List ℕ) (places : Bool) (old mid new : Files) (scenario : Scenario) (first last : TextReading) (read : ReadBeside file name old mid scenario first) (on : ReadsOn (of_text first) (of_text last)) (end : DeviceClosed last mid new) where
  abbrev beside_options : RunOptions
  beside_options = record { file = file; device = Some name; places = places }

  listed_beside : (c : Closed) (l : Result Lists NoMemory) → IfOk l (CameFrom c scenario (of_text first) (of_text last)) → IfOk l (λ lists. list_any is_fault lists.events ≡ true → Rose (of_text first).faults (of_text last).faults)
      → IfOk l (λ lists. list_any is_fault lists.events ≡ false → (of_text last).faults ≡ (of_text first).faults) → IfOk l (λ lists. list_any is_fault lists.events ≡ true → FailsBehind (of_text first) (of_text last) lists.events)
      → FilesAnswer (RanClosed (Some c)) beside_options old new (lists_or_fault l)
  listed_beside c (Ok lists) came fault unfailed failed = beside_ran file name old mid new scenario first last read on end (RanClosed (Some c)) lists (came.0, came.1, (c, refl, came.2)) fault unfailed failed
  listed_beside c (Err short) came fault unfailed failed = beside_short file name old mid new scenario first last read on end

  pub run_beside : (run : Result Ended NoMemory) → IfOk run (λ e. IfOk e.lists (CameFrom e.closed scenario (of_text first) (of_text last)))
      → IfOk run (λ e. IfOk e.lists (λ lists. list_any is_fault lists.events ≡ true → Rose (of_text first).faults (of_text last).faults))
      → IfOk run (λ e. IfOk e.lists (λ lists. list_any is_fault lists.events ≡ false → (of_text last).faults ≡ (of_text first).faults))
      → IfOk run (λ e. IfOk e.lists (λ lists. list_any is_fault lists.events ≡ true → FailsBehind (of_text first) (of_text last) lists.events))
      → FilesAnswer (RanClosed (files_run run).closed) beside_options old new (files_run run).lists
  run_beside (Ok e) came fault unfailed failed = listed_beside e.closed e.lists came fault unfailed failed
  run_beside (Err short) came fault unfailed failed = beside_short file name old mid new scenario first last read on end
