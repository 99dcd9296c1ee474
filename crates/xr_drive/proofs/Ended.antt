-- How a run that was made ends in an answer, whether its text is written or not.
use Rattle.std.proofs.Common.{◌≡◌, inl, inr, ℕ, Bool, true, false, true≢false, List, Option, Some, None, Result, Ok, Err, refl, sym, subst, ◌∙◌}
use Rattle.std.specs.Prelude.{if◌then◌else◌}
use Rattle.std.specs.List.{list_any}
use Rattle.std.specs.Io.KnownBytes.{Appends}
use Rattle.xr_io.specs.Outside.{AreUnasked, Files, Output}
use Rattle.xr_io.specs.declared.Which.TheVariants as which
use Rattle.xr_types.specs.declared.device.DeviceEvent.{DeviceEvent}
use Rattle.xr_types.specs.declared.made.Lists.{Lists}
use Rattle.xr_types.specs.declared.made.Waiting.{Waiting}
use Rattle.xr_types.specs.declared.status.Status.{Status}
use Rattle.xr_types.specs.declared.status.Status.TheVariants.{OpenFault, DeviceFailed, WriteFault, NoMemory}
use Rattle.xr_model.specs.command_line.Words.{RunOptions, run, load}
use Rattle.xr_model.specs.report.RunEnding.{is_fault, first_garbled, stuck_or_done, unless_garbled, ending_by, ending_of}
use Rattle.xr_drive.specs.Run.{HowRan, RunBy, RunOf}
use Rattle.xr_drive.specs.Top.{Outside, outside, Writes, text_of, Means, HasItsCause, is_open_fault, may_hide_device, OnlyItsFault, OpensInTurn, IsAskedFor, IsDeviceAskedFor, IsAnswer}
use Rattle.xr_drive.specs.declared.faults.Unwritten.{Unwritten}
use Rattle.xr_drive.specs.declared.faults.Unwritten.TheVariants as unwritten
use Rattle.xr_drive.specs.declared.faults.RunFault.{RunFault}
use Rattle.xr_drive.specs.declared.faults.RunFault.TheVariants as run_fault
use Rattle.xr_drive.specs.Files.{status_of_fault, MeansUnrun, HasFaultCause, KeepsOthers, FilesUnrun, FilesRan, FilesAnswer, ReportsFiles}
use Rattle.xr_drive.specs.inside.CallParts.{RunLoad, MeansWritten, KeptUnlessUnwritten, RoseIfUnwritten, status_of_unwritten}
use Rattle.xr_drive.proofs.Status.{IsEnding, is_ending}
use Rattle.xr_drive.proofs.Runs.{means_ending, means_load, cause_ending}
use Rattle.std.proofs.KnownBytes.{Keeps-refl}

-- ---- by the status

-- a file that was asked for is so whatever the status
scenario_asked : (file asked : Option (List ℕ)) (status : Status) → asked ≡ file → IsAskedFor file asked status
scenario_asked file asked NoMemory is = inl is
scenario_asked file asked _ is = is

device_asked : (device asked : Option (List ℕ)) (status : Status) → asked ≡ device → IsDeviceAskedFor device asked status
device_asked device asked OpenFault is = inl is
device_asked device asked NoMemory is = inl is
device_asked device asked _ is = is

-- no opening failed
in_turn : (old new : Files) (status : Status) → is_open_fault status ≡ false → OpensInTurn old new status
in_turn old new OpenFault is = absurd (true≢false is)
in_turn old new _ is = tt

ending_opened : (status : Status) → IsEnding status → is_open_fault status ≡ false
ending_opened OpenFault ok = absurd ok
ending_opened _ ok = refl

-- where the status hides no device that failed, none did
none_hidden : (events : List DeviceEvent) (next : List Waiting) → may_hide_device (ending_by events next) ≡ false → list_any is_fault events ≡ false
none_hidden events next is = by (list_any is_fault events) (first_garbled events) is
  where
    by : (fault : Bool) (line : Option ℕ) → may_hide_device (if fault then DeviceFailed else unless_garbled line (stuck_or_done next)) ≡ false → fault ≡ false
    by true line is = absurd (true≢false is)
    by false line is = refl

-- ---- files

files_answer : (How : HowRan) (options : RunOptions) (old new : Outside) (lists : Lists) (status : Status) → FilesRan How options.file options.device old.files new.files lists → Means (RunBy How) (Some (run options)) old new status → HasItsCause old new status
    → OnlyItsFault old new status → is_open_fault status ≡ false → IsAnswer (RunBy How) (Some (run options)) old new status
files_answer How options old new lists status ran means causes counts opened = record {
  means = means;
  causes = causes;
  counts = counts;
  asked = scenario_asked (Some options.file) (new.files.asked which.Scenario) status ran.asked;
  device = device_asked options.device (new.files.asked which.Device) status ran.device_asked;
  alone = tt;
  device_alone = ran.alone;
  turn = in_turn old.files new.files status opened;
  taken = λ named. inl ran.within;
  device_taken = λ named. inl (ran.device_within named);
  closed = ran.closed;
  same = ran.same;
}

-- the whole text was written
files_ended : (How : HowRan) (options : RunOptions) (old new : Outside) (lists : Lists) → FilesRan How options.file options.device old.files new.files lists → Writes old new (text_of (run options) lists) → new.output.faults ≡ old.output.faults
    → IsAnswer (RunBy How) (Some (run options)) old new (ending_of lists)
files_ended How options old new lists ran written kept =
    files_answer How options old new lists (ending_of lists) ran (means_ending How options old new lists ran.means written) (cause_ending old new lists ran.cause)
    (record { opens = λ is. ran.opens; scenario = λ is. ran.scenario; device = λ is. ran.unfailed (none_hidden lists.events lists.next is); writes = λ is. kept })
    (ending_opened (ending_of lists) (is_ending lists.events lists.next))

-- it was not
files_unwritten : (How : HowRan) (options : RunOptions) (old new : Outside) (lists : Lists) (fault : Unwritten) → FilesRan How options.file options.device old.files new.files lists
    → MeansWritten {T = Unit {0}} (text_of (run options) lists) old.output new.output (Err fault) → RoseIfUnwritten {T = Unit {0}} old.output new.output (Err fault) → KeptUnlessUnwritten {T = Unit {0}} old.output new.output (Err fault)
    → IsAnswer (RunBy How) (Some (run options)) old new (status_of_unwritten fault)
files_unwritten How options old new lists unwritten.Failed ran front rose kept =
    files_answer How options old new lists WriteFault ran (run options, refl, (lists, ran.means, front.0, front.1)) rose
    (record { opens = λ is. ran.opens; scenario = λ is. ran.scenario; device = λ is. absurd (true≢false is); writes = λ is. absurd (true≢false is) }) refl
files_unwritten How options old new lists unwritten.NoMemory ran nothing rose kept =
    files_answer How options old new lists NoMemory ran nothing tt
    (record { opens = λ is. ran.opens; scenario = λ is. ran.scenario; device = λ is. absurd (true≢false is); writes = λ is. kept }) refl

-- nothing was run, and nothing is written
files_unrun : (How : HowRan) (options : RunOptions) (old new : Files) (output : Output) (fault : RunFault) → FilesUnrun options.file options.device old new fault
    → IsAnswer (RunBy How) (Some (run options)) (outside old output) (outside new output) (status_of_fault fault)
files_unrun How options old new output fault un = record {
  means = means fault un.means;
  causes = causes fault un.cause;
  counts = counts fault un.counts;
  asked = scenario_asked (Some options.file) (new.asked which.Scenario) (status_of_fault fault) un.asked;
  device = un.device_asked;
  alone = tt;
  device_alone = un.alone;
  turn = un.turn;
  taken = λ named. un.taken;
  device_taken = un.device_taken;
  closed = un.closed;
  same = un.same;
}
  where
    means : (fault : RunFault) → MeansUnrun (old.bytes options.file) fault → Means (RunBy How) (Some (run options)) (outside old output) (outside new output) (status_of_fault fault)
    means run_fault.OpenFault m = (options, refl, Keeps-refl output.bytes)
    means run_fault.ReadFault m = (options, refl, Keeps-refl output.bytes)
    means (run_fault.Refused why) m = (options, refl, (m, Keeps-refl output.bytes))
    means run_fault.NoMemory m = Keeps-refl output.bytes

    causes : (fault : RunFault) → HasFaultCause old new fault → HasItsCause (outside old output) (outside new output) (status_of_fault fault)
    causes run_fault.OpenFault cause = cause
    causes run_fault.ReadFault cause = cause
    causes (run_fault.Refused why) cause = tt
    causes run_fault.NoMemory cause = tt

    counts : (fault : RunFault) → KeepsOthers old new fault → OnlyItsFault (outside old output) (outside new output) (status_of_fault fault)
    counts run_fault.OpenFault kept = record { opens = λ is. absurd (true≢false is); scenario = λ is. kept which.Scenario; device = λ is. kept which.Device; writes = λ is. refl }
    counts run_fault.ReadFault kept = record { opens = λ is. kept.0; scenario = λ is. absurd (true≢false is); device = λ is. kept.1; writes = λ is. refl }
    counts (run_fault.Refused why) kept = record { opens = λ is. kept.0; scenario = λ is. kept.1 which.Scenario; device = λ is. kept.1 which.Device; writes = λ is. refl }
    counts run_fault.NoMemory kept = record { opens = λ is. kept.0; scenario = λ is. kept.1; device = λ is. absurd (true≢false is); writes = λ is. refl }

-- it answers for any way to run
pub files_answered : (How : HowRan) (options : RunOptions) (old new : Files) (before behind : Output) (result : Result Lists RunFault) (status : Status) → FilesAnswer How options old new result → ReportsFiles options result before behind status
    → IsAnswer (RunBy How) (Some (run options)) (outside old before) (outside new behind) status
files_answered How options old new before behind (Err fault) status un reported =
    subst (λ (s : Status). IsAnswer (RunBy How) (Some (run options)) (outside old before) (outside new behind) s) (sym reported.0)
    (subst (λ (o : Output). IsAnswer (RunBy How) (Some (run options)) (outside old before) (outside new o) (status_of_fault fault)) (sym reported.1) (files_unrun How options old new before fault un))
files_answered How options old new before behind (Ok lists) status ran (inl whole) =
    subst (λ (s : Status). IsAnswer (RunBy How) (Some (run options)) (outside old before) (outside new behind) s) (sym whole.0) (files_ended How options (outside old before) (outside new behind) lists ran whole.1 whole.2)
files_answered How options old new before behind (Ok lists) status ran (inr (inl front)) =
    subst (λ (s : Status). IsAnswer (RunBy How) (Some (run options)) (outside old before) (outside new behind) s) (sym front.0)
    (files_unwritten How options (outside old before) (outside new behind) lists unwritten.Failed ran front.1 front.2 tt)
files_answered How options old new before behind (Ok lists) status ran (inr (inr nothing)) =
    subst (λ (s : Status). IsAnswer (RunBy How) (Some (run options)) (outside old before) (outside new behind) s) (sym nothing.0)
    (files_unwritten How options (outside old before) (outside new behind) lists unwritten.NoMemory ran nothing.1 tt nothing.2)

-- ---- a load

-- whatever the files are, none is opened
module _ (frames : ℕ) (files : Files) (unasked : AreUnasked files) (old new : Output) where
  load_answer : (status : Status) → Means RunOf (Some (load frames)) (outside files old) (outside files new) status → HasItsCause (outside files old) (outside files new) status → OnlyItsFault (outside files old) (outside files new) status
      → is_open_fault status ≡ false → IsAnswer RunOf (Some (load frames)) (outside files old) (outside files new) status
  load_answer status means causes counts opened = record {
    means = means;
    causes = causes;
    counts = counts;
    asked = scenario_asked None (files.asked which.Scenario) status (unasked which.Scenario);
    device = device_asked None (files.asked which.Device) status (unasked which.Device);
    alone = record { unasked = refl; opens = refl; reads = refl; taken = refl };
    device_alone = record { unasked = refl; opens = refl; reads = refl; taken = refl };
    turn = in_turn files files status opened;
    taken = λ named. absurd (true≢false (sym named));
    device_taken = λ named. absurd (true≢false (sym named));
    closed = λ w h. h;
    same = λ name. refl;
  }

  pub load_ended : (lists : Lists) → RunLoad frames lists → Appends old.bytes new.bytes (text_of (load frames) lists) → new.faults ≡ old.faults
      → IsAnswer RunOf (Some (load frames)) (outside files old) (outside files new) (ending_of lists)
  load_ended lists ran written kept =
      load_answer (ending_of lists) (means_load frames (outside files old) (outside files new) lists ran written)
      (cause_ending (outside files old) (outside files new) lists (λ is. absurd (true≢false (sym is ∙ ran.faultless))))
      (record { opens = λ is w. refl; scenario = λ is. refl; device = λ is. refl; writes = λ is. kept })
      (ending_opened (ending_of lists) (is_ending lists.events lists.next))

  pub load_unwritten : (lists : Lists) (fault : Unwritten) → RunLoad frames lists → MeansWritten {T = Unit {0}} (text_of (load frames) lists) old new (Err fault) → RoseIfUnwritten {T = Unit {0}} old new (Err fault)
      → KeptUnlessUnwritten {T = Unit {0}} old new (Err fault) → IsAnswer RunOf (Some (load frames)) (outside files old) (outside files new) (status_of_unwritten fault)
  load_unwritten lists unwritten.Failed ran front rose kept =
      load_answer WriteFault (load frames, refl, (lists, ran.runs, front.0, front.1)) rose (record { opens = λ is w. refl; scenario = λ is. refl; device = λ is. refl; writes = λ is. absurd (true≢false is) }) refl
  load_unwritten lists unwritten.NoMemory ran nothing rose kept = load_answer NoMemory nothing tt (record { opens = λ is w. refl; scenario = λ is. refl; device = λ is. refl; writes = λ is. kept }) refl
