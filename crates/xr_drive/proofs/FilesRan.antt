-- How a run beside a device's file, or beside none, answers, by any way to run.
use Rattle.std.proofs.Common.{◌≡◌, ◌≢◌, ◌<◌, ◌+◌, inl, ℕ, true, false, true≢false, List, [], Some, None, sym, subst, ◌∙◌, arith}
use Rattle.std.specs.List.{list_any}
use Rattle.xr_io.specs.Outside.{Rose, Files}
use Rattle.xr_io.specs.declared.Which.{Which}
use Rattle.xr_io.specs.declared.Which.TheVariants as which
use Rattle.xr_types.specs.declared.device.DeviceEvent.{DeviceEvent}
use Rattle.xr_types.specs.declared.made.Lists.{Lists}
use Rattle.xr_types.specs.declared.scenario.Scenario.{Scenario}
use Rattle.xr_model.specs.report.RunEnding.{is_fault}
use Rattle.xr_model.specs.device_text.DeviceText.{ends}
use Rattle.xr_device.specs.Prospect.{Prospect}
use Rattle.xr_device.specs.Kinds.{Stored, of_list, TextReading, of_text}
use Rattle.xr_device.specs.Answers.{ReadsOn}
use Rattle.xr_drive.specs.Run.{HowRan}
use Rattle.xr_drive.specs.Top.{SameCounts, IsWithin, NoneLeftOpen, SameBytes}
use Rattle.xr_drive.specs.Files.{FilesUnrun, FilesRan, ReadAlone, ReadBeside, DeviceClosed}
use Rattle.xr_drive.specs.declared.faults.RunFault.TheVariants as run_fault
use Rattle.xr_drive.proofs.DeviceRead.{closed_which, ends_within, runs_so}
use Rattle.xr_runs.specs.Runs.{FailsBehind}

-- what a run says of how lists came beside a device that was so before it and is so behind it
abbrev pub CameSo : HowRan → Scenario → Prospect → Prospect → Lists → Type 0
CameSo How scenario start now lists = (count : ℕ) × (now.given ≡ start.given + count) × How scenario start.remaining count lists

-- ---- beside no device's file

none_rose : Rose 0 0 → ⊥
none_rose rose = omega (arith, rose)

-- the lists were made beside a device of no events
pub alone_ran : (How : HowRan) (file : List ℕ) (old new : Files) (scenario : Scenario) → ReadAlone file old new scenario → (first last : Stored) → first.events ≡ [] → (lists : Lists) → CameSo How scenario (of_list first) (of_list last) lists
    → (list_any is_fault lists.events ≡ true → Rose (of_list first).faults (of_list last).faults) → FilesRan How file None old new lists
alone_ran How file old new scenario read first last empty lists ran fault = record {
  means = record {
    text = read.is.text;
    is_all = read.is.is_all;
    scenario = scenario;
    reads = read.is.reads;
    runs = record {
      count = ran.0;
      ran = subst (λ (es : List DeviceEvent). How scenario (Some (record { events = es; ending = ends })) ran.0 lists) empty ran.2;
      fails = λ h. tt;
    };
  };
  cause = λ h. absurd (none_rose (fault h));
  opens = read.opens;
  scenario = read.sound;
  unfailed = λ h. read.device.reads;
  asked = read.asked;
  device_asked = read.none;
  alone = read.device;
  within = read.within;
  device_within = λ named. absurd (true≢false (sym named));
  closed = read.closed;
  same = read.same;
}

-- ---- beside the device's file

scenario_is_not : which.Scenario ≢ which.Device
scenario_is_not e = cc

one_at_least : (before now : ℕ) → before ≡ 0 → Rose before now → 0 < now
one_at_least before now none rose = omega (arith, none, rose)

-- the device's file was closed behind the run
module _ (file name : List ℕ) (old mid new : Files) (scenario : Scenario) (first last : TextReading) (read : ReadBeside file name old mid scenario first) (on : ReadsOn (of_text first) (of_text last)) (end : DeviceClosed last mid new) where
  of_device : last.source.which ≡ which.Device
  of_device = closed_which first last (old.bytes name) read.start on mid new end

  other : which.Scenario ≢ last.source.which
  other = λ e. scenario_is_not (e ∙ of_device)

  opens : SameCounts old.open_faults new.open_faults
  opens w = end.closed.opens w ∙ read.opens w

  sound : new.read_faults which.Scenario ≡ old.read_faults which.Scenario
  sound = end.closed.other which.Scenario other ∙ read.reads which.Scenario

  scenario_within : IsWithin 1048577 (new.taken which.Scenario)
  scenario_within = subst (IsWithin 1048577) (sym (end.closed.untaken which.Scenario other)) read.within

  device_within : IsWithin 16777217 (new.taken which.Device)
  device_within = ends_within first last (old.bytes name) read.start on mid new end

  closed : NoneLeftOpen old new
  closed which.Scenario h = absurd (true≢false (sym h ∙ end.closed.stays which.Scenario other ∙ read.closed))
  closed which.Device h = absurd (true≢false (sym h ∙ subst (λ (w : Which). new.is_open w ≡ false) of_device end.closed.closed))

  same : SameBytes old new
  same n = end.closed.bytes n ∙ read.same n

  rose : Rose (of_text first).faults (of_text last).faults → Rose (old.read_faults which.Device) (new.read_faults which.Device)
  rose r =
      let there : Rose (mid.read_faults which.Device) (new.read_faults which.Device) =
      subst (λ (w : Which). Rose (mid.read_faults w) (new.read_faults w)) of_device (end.closed.raised (one_at_least first.source.faults last.source.faults read.start.faults r)) in
      subst (λ (n : ℕ). Rose n (new.read_faults which.Device)) (read.reads which.Device) there

  -- the lists were made
  pub beside_ran : (How : HowRan) (lists : Lists) → CameSo How scenario (of_text first) (of_text last) lists → (list_any is_fault lists.events ≡ true → Rose (of_text first).faults (of_text last).faults)
      → (list_any is_fault lists.events ≡ false → (of_text last).faults ≡ (of_text first).faults) → (list_any is_fault lists.events ≡ true → FailsBehind (of_text first) (of_text last) lists.events) → FilesRan How file (Some name) old new lists
  beside_ran How lists ran fault unfailed failed = record {
    means = record {
      text = read.is.text;
      is_all = read.is.is_all;
      scenario = scenario;
      reads = read.is.reads;
      runs = runs_so first last (old.bytes name) read.start on mid new end How scenario ran.0 lists ran.1 ran.2 failed;
    };
    cause = λ h. rose (fault h);
    opens = opens;
    scenario = sound;
    unfailed = λ h. end.closed.kept (unfailed h ∙ read.start.faults) which.Device ∙ read.reads which.Device;
    asked = end.closed.asked which.Scenario ∙ read.asked;
    device_asked = end.closed.asked which.Device ∙ read.device_asked;
    alone = tt;
    within = scenario_within;
    device_within = λ named. device_within;
    closed = closed;
    same = same;
  }

  -- memory was short in the run
  pub beside_short : FilesUnrun file (Some name) old new run_fault.NoMemory
  beside_short = record {
    means = tt;
    cause = tt;
    counts = (opens, sound);
    asked = end.closed.asked which.Scenario ∙ read.asked;
    device_asked = inl (end.closed.asked which.Device ∙ read.device_asked);
    turn = tt;
    alone = tt;
    taken = inl scenario_within;
    device_taken = λ named. inl device_within;
    closed = closed;
    same = same;
  }
