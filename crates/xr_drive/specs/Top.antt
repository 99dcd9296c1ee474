-- What a top call means, and why each of its answers comes.
use Rattle.std.specs.Prelude.{◌≡◌, ◌≤◌, ◌⊎◌, ℕ, ◌+◌, Bool, true, false, List, take, Option, Some, None, option_map, option_and_then, is_some, map, String, string_bytes, Ok, Err, IfSome, ⊤}
use Rattle.std.specs.Io.KnownBytes.{Keeps, Appends}
use Rattle.xr_io.specs.Outside.{Rose, Files, Output}
use Rattle.xr_io.specs.declared.Taken.{Taken}
use Rattle.xr_io.specs.declared.Which.{Which}
use Rattle.xr_io.specs.declared.Which.TheVariants as which
use Rattle.xr_types.specs.declared.limits.TheConstants.{MOST_SCENARIO, MOST_DEVICE}
use Rattle.xr_types.specs.declared.made.Lists.{Lists}
use Rattle.xr_types.specs.declared.status.Status.{Status}
use Rattle.xr_types.specs.declared.status.Status.TheVariants.{Done, Usage, OpenFault, ReadFault, ScenarioRefused, DeviceFailed, DeviceGarbled, Stuck, WriteFault, NoMemory}
use Rattle.xr_model.specs.command_line.Words.{RunOptions, WordsForm, run, load, form_of}
use Rattle.xr_model.specs.scenario.Scenario.{scenario_of}
use Rattle.xr_model.specs.device_text.DeviceText.{DeviceStream, nothing_more, told_in}
use Rattle.xr_model.specs.report.RunEnding.{ending_of}
use Rattle.xr_model.specs.scenario.LoadScenario.{load_scenario, load_device}
use Rattle.xr_model.specs.report.Report.{report_of}
use Rattle.xr_model.specs.report.Summary.{summary_of}
use Rattle.xr_types.specs.declared.scenario.Scenario.{Scenario}
use Rattle.xr_drive.specs.Run.{KnownDevice}

-- ---- what is outside

-- What a top call is handed, as it is seen: the files, and the output of its report.
pub record Outside : Type 0 where
  pub files : Files
  pub output : Output

abbrev pub outside : Files → Output → Outside
outside files output = record { files = files; output = output }

-- nothing was written
abbrev pub WritesNothing : Outside → Outside → Type 0
WritesNothing old new = Keeps old.output.bytes new.output.bytes

-- this was written, and nothing else
abbrev pub Writes : Outside → Outside → List ℕ → Type 0
Writes old new bytes = Appends old.output.bytes new.output.bytes bytes

-- ---- what was run

-- What the words ask for, if they have a form.
abbrev pub form_by : {Z : Type 0} → List (String Z) → Option WordsForm
form_by words = form_of (map string_bytes words)

-- The words ask for a run of files, and this is so of its options.
abbrev pub OfRun : Option WordsForm → (RunOptions → Type 0) → Type 0
OfRun form P = (options : RunOptions) × (form ≡ Some (run options)) × P options

-- The words have a form, and this is so of it.
abbrev pub OfForm : Option WordsForm → (WordsForm → Type 0) → Type 0
OfForm form P = (f : WordsForm) × (form ≡ Some f) × P f

-- what the device is known to give: nothing where there is none, else what its file's text tells, where that is told
abbrev pub told_under : (List ℕ → Option (List ℕ)) → Option (List ℕ) → Option DeviceStream
told_under bytes None = Some nothing_more
told_under bytes (Some name) = option_map told_in (bytes name)

-- what is known of it behind the run: its text too, and how many bytes of that were taken
abbrev pub known_under : Files → Files → Option (List ℕ) → KnownDevice
known_under old new device = record { told = told_under old.bytes device; text = option_and_then old.bytes device; taken = (new.taken which.Device).count }

-- the device of a load tells its events, and has no text
abbrev pub made_device : KnownDevice
made_device = record { told = Some load_device; text = None; taken = 0 }

-- How lists come of a scenario beside a device of which this is known: by the round robin, say.
abbrev pub HowRun : Type 1
HowRun = Scenario → KnownDevice → Lists → Type 0

-- The scenario of a text was run so, and the text is all that stands under the scenario's file, where that is told.
pub record RunsText (How : HowRun) (all : Option (List ℕ)) (device : KnownDevice) (lists : Lists) : Type 0 where
  pub text : List ℕ
  pub is_all : IfSome all (λ bytes. bytes ≡ text)
  pub scenario : Scenario
  pub reads : scenario_of text ≡ Ok scenario
  pub runs : How scenario device lists

-- What a form asks for was run so, and these are the lists: the scenario of a file beside the device of another, or that of a load.
abbrev pub Made : HowRun → Files → Files → WordsForm → Lists → Type 0
Made How old new (run options) lists = RunsText How (old.bytes options.file) (known_under old new options.device) lists
Made How old new (load frames) lists = How (load_scenario frames) made_device lists

-- what is written of the lists: the report, or the summary of a load
abbrev pub text_of : WordsForm → Lists → List ℕ
text_of (run options) lists = report_of lists options.places
text_of (load frames) lists = summary_of frames lists

-- What the form asks for was run, the run ended so, and its whole text was written.
abbrev pub EndsSo : HowRun → Outside → Outside → Status → WordsForm → Type 0
EndsSo How old new status form = (lists : Lists) × Made How old.files new.files form lists × (ending_of lists ≡ status) × Writes old new (text_of form lists)

-- What was run, and a front of its text was written.
abbrev pub WritesFrontOf : HowRun → Outside → Outside → WordsForm → Type 0
WritesFrontOf How old new form = (lists : Lists) × Made How old.files new.files form lists × (n : ℕ) × Writes old new (take n (text_of form lists))

-- What each status says of the form of the words, of the bytes under each name, and of what the output had and has. A load opens no
-- file, and its device has a good end.
abbrev pub Means : HowRun → Option WordsForm → Outside → Outside → Status → Type 0
Means How form old new Done = OfForm form (EndsSo How old new Done)
Means How form old new Usage = (form ≡ None) × WritesNothing old new
Means How form old new OpenFault = OfRun form (λ options. WritesNothing old new)
Means How form old new ReadFault = OfRun form (λ options. WritesNothing old new)
Means How form old new (ScenarioRefused why) = OfRun form (λ options. IfSome (old.files.bytes options.file) (λ text. scenario_of text ≡ Err why) × WritesNothing old new)
Means How form old new DeviceFailed = OfRun form (λ options. EndsSo How old new DeviceFailed (run options))
Means How form old new (DeviceGarbled line) = OfRun form (λ options. EndsSo How old new (DeviceGarbled line) (run options))
Means How form old new Stuck = OfForm form (EndsSo How old new Stuck)
Means How form old new WriteFault = OfForm form (WritesFrontOf How old new)
Means How form old new NoMemory = WritesNothing old new

-- ---- causes

-- each fault comes only where its count rose
abbrev pub HasItsCause : Outside → Outside → Status → Type 0
HasItsCause old new OpenFault = Rose (old.files.open_faults which.Scenario) (new.files.open_faults which.Scenario) ⊎ Rose (old.files.open_faults which.Device) (new.files.open_faults which.Device)
HasItsCause old new ReadFault = Rose (old.files.read_faults which.Scenario) (new.files.read_faults which.Scenario)
HasItsCause old new DeviceFailed = Rose (old.files.read_faults which.Device) (new.files.read_faults which.Device)
HasItsCause old new WriteFault = Rose old.output.faults new.output.faults
HasItsCause old new _ = ⊤

-- ---- counts that stay

-- the counts of both files
abbrev pub SameCounts : (Which → ℕ) → (Which → ℕ) → Type 0
SameCounts old new = (which : Which) → new which ≡ old which

abbrev pub is_open_fault : Status → Bool
is_open_fault OpenFault = true
is_open_fault _ = false

abbrev pub is_read_fault : Status → Bool
is_read_fault ReadFault = true
is_read_fault _ = false

abbrev pub is_write_fault : Status → Bool
is_write_fault WriteFault = true
is_write_fault _ = false

-- Nothing was run: the words have no form, a file couldn't be opened or read, or its text is no scenario.
abbrev pub is_unrun : Status → Bool
is_unrun Usage = true
is_unrun OpenFault = true
is_unrun ReadFault = true
is_unrun (ScenarioRefused why) = true
is_unrun _ = false

-- the device may have failed: so it is told, or a fault of the output or want of memory came behind it
abbrev pub may_hide_device : Status → Bool
may_hide_device DeviceFailed = true
may_hide_device WriteFault = true
may_hide_device NoMemory = true
may_hide_device _ = false

-- Each count stays as it was, unless the status is its fault.
pub record OnlyItsFault (old new : Outside) (status : Status) : Type 0 where
  pub opens : is_open_fault status ≡ false → SameCounts old.files.open_faults new.files.open_faults
  pub scenario : is_read_fault status ≡ false → new.files.read_faults which.Scenario ≡ old.files.read_faults which.Scenario
  pub device : may_hide_device status ≡ false → new.files.read_faults which.Device ≡ old.files.read_faults which.Device
  pub writes : is_write_fault status ≡ false → new.output.faults ≡ old.output.faults

-- Of two openings that which failed is the scenario's, and then the device was not asked for, or it is the device's.
abbrev pub IsOpenedInTurn : Files → Files → Type 0
IsOpenedInTurn old new =
    ((new.asked which.Device ≡ None) × Rose (old.open_faults which.Scenario) (new.open_faults which.Scenario))
    ⊎ ((new.open_faults which.Scenario ≡ old.open_faults which.Scenario) × Rose (old.open_faults which.Device) (new.open_faults which.Device))

-- so where a file couldn't be opened
abbrev pub OpensInTurn : Files → Files → Status → Type 0
OpensInTurn old new OpenFault = IsOpenedInTurn old new
OpensInTurn old new _ = ⊤

-- ---- files that stay

-- No source is left open: one that is open now was so before.
abbrev pub NoneLeftOpen : Files → Files → Type 0
NoneLeftOpen old new = (which : Which) → new.is_open which ≡ true → old.is_open which ≡ true

-- the bytes under each name
abbrev pub SameBytes : Files → Files → Type 0
SameBytes old new = (name : List ℕ) → new.bytes name ≡ old.bytes name

-- ---- what was asked for

-- the file of the scenario, and that of the device, where the words name one
abbrev pub file_of : Option WordsForm → Option (List ℕ)
file_of (Some (run options)) = Some options.file
file_of (Some (load frames)) = None
file_of None = None

abbrev pub device_of : Option WordsForm → Option (List ℕ)
device_of (Some (run options)) = options.device
device_of (Some (load frames)) = None
device_of None = None

-- The scenario's file that was asked for is this one, if there is one. Where memory was short it may not have
-- been asked for yet.
abbrev pub IsAskedFor : Option (List ℕ) → Option (List ℕ) → Status → Type 0
IsAskedFor file asked NoMemory = (asked ≡ file) ⊎ (asked ≡ None)
IsAskedFor file asked _ = asked ≡ file

-- The device's file that was asked for is this one, if there is one. Where a file couldn't be opened or memory was short it
-- may not have been asked for yet.
abbrev pub IsDeviceAskedFor : Option (List ℕ) → Option (List ℕ) → Status → Type 0
IsDeviceAskedFor device asked OpenFault = (asked ≡ device) ⊎ (asked ≡ None)
IsDeviceAskedFor device asked NoMemory = (asked ≡ device) ⊎ (asked ≡ None)
IsDeviceAskedFor device asked _ = asked ≡ device

-- one of the two was not asked for, and its counts and what was taken of it are as they were
pub record KeepsFile (w : Which) (old new : Files) : Type 0 where
  pub unasked : new.asked w ≡ old.asked w
  pub opens : new.open_faults w ≡ old.open_faults w
  pub reads : new.read_faults w ≡ old.read_faults w
  pub taken : new.taken w ≡ old.taken w

-- this is so where no file is named
abbrev pub UnlessNamed : Option (List ℕ) → Type 0 → Type 0
UnlessNamed None P = P
UnlessNamed (Some name) P = ⊤

-- this is so where one is
abbrev pub IfNamed : Option (List ℕ) → Type 0 → Type 0
IfNamed name P = is_some name ≡ true → P

-- ---- what was taken

-- no more than so many bytes were taken, and no read was late: none came behind the end or a read that failed
abbrev pub IsWithin : ℕ → Taken → Type 0
IsWithin most taken = (taken.count ≤ most) × (taken.late ≡ false)

-- a file may not have been opened: the words have no form, it or another couldn't be opened, or memory was short
abbrev pub may_be_unopened : Status → Bool
may_be_unopened Usage = true
may_be_unopened OpenFault = true
may_be_unopened NoMemory = true
may_be_unopened _ = false

-- What was taken of a file is within its limit, or the file was not opened, and it is as it was.
abbrev pub TakesWithin : ℕ → Taken → Taken → Status → Type 0
TakesWithin most old new status = IsWithin most new ⊎ ((may_be_unopened status ≡ true) × (new ≡ old))

-- ---- all of it

-- What a status says, all of it: what it means, why it comes, and that no other count changed; that just the files of the words were
-- asked for, in their turn; that each was read no further than one byte past its limit, and never late; and that no source is left
-- open, and no file's bytes changed.
pub record IsAnswer (How : HowRun) (form : Option WordsForm) (old new : Outside) (status : Status) : Type 0 where
  pub means : Means How form old new status
  pub causes : HasItsCause old new status
  pub counts : OnlyItsFault old new status
  pub asked : IsAskedFor (file_of form) (new.files.asked which.Scenario) status
  pub device : IsDeviceAskedFor (device_of form) (new.files.asked which.Device) status
  pub alone : UnlessNamed (file_of form) (KeepsFile which.Scenario old.files new.files)
  pub device_alone : UnlessNamed (device_of form) (KeepsFile which.Device old.files new.files)
  pub turn : OpensInTurn old.files new.files status
  pub taken : IfNamed (file_of form) (TakesWithin (MOST_SCENARIO + 1) (old.files.taken which.Scenario) (new.files.taken which.Scenario) status)
  pub device_taken : IfNamed (device_of form) (TakesWithin (MOST_DEVICE + 1) (old.files.taken which.Device) (new.files.taken which.Device) status)
  pub closed : NoneLeftOpen old.files new.files
  pub same : SameBytes old.files new.files
