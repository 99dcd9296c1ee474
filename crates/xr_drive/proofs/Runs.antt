-- What a run over the bytes that were read says of the bytes that there were, and what its status means.
use Rattle.std.proofs.Common.{◌≡◌, ◌<◌, ◌≤◌, ◌+◌, inl, inr, ℕ, Bool, true, false, true≢false, List, length, take, nat_lt, Option, Some, None, IfSome, Ok, Err, refl, sym, subst, ap, ◌∙◌, arith}
use Rattle.std.proofs.lemmas.Grind.{common_steps}
use Rattle.std.proofs.lemmas.Bool.{ltb-true, ltb-false, lt-ltb}
use Rattle.std.proofs.lemmas.Option.{none-some, same_Some}
use Rattle.std.specs.List.{list_any}
use Rattle.xr_io.specs.Outside.{Files, Rose}
use Rattle.xr_io.specs.declared.Which.TheVariants as which
use Rattle.xr_types.specs.declared.made.Lists.{Lists}
use Rattle.xr_types.specs.declared.scenario.Scenario.{Scenario}
use Rattle.xr_types.specs.declared.status.Status.{Status}
use Rattle.xr_types.specs.declared.status.Status.TheVariants.{Done, Usage, OpenFault, ReadFault, ScenarioRefused, DeviceFailed, DeviceGarbled, Stuck, WriteFault, NoMemory}
use Rattle.xr_types.specs.declared.status.Refusal.{Refusal}
use Rattle.xr_types.specs.declared.status.Refusal.TheVariants.{TooLong}
use Rattle.xr_model.specs.command_line.Words.{RunOptions, WordsForm, run, load}
use Rattle.xr_model.specs.scenario.LoadScenario.{load_scenario, load_device}
use Rattle.xr_model.specs.scenario.Scenario.{scenario_of}
use Rattle.xr_model.specs.device_text.DeviceText.{DeviceStream, ends}
use Rattle.xr_serial.specs.Ran.{Ran}
use Rattle.xr_drive.specs.Run.{HowRan, RunBy, RunOf, IsClean}
use Rattle.xr_drive.specs.Top.{Outside, Writes, told_under, known_under, RunsText, text_of, EndsSo, Means, HasItsCause}
use Rattle.xr_drive.specs.TopLaws.{NoneRose, IsRun, IsComplete, GoodInputIsRunBy, GoodInputIsRun, KeepsClean, LoadsAreRun}
use Rattle.xr_drive.specs.inside.CallParts.{RunLoad, UnreadBy, fault_of_scenario}
use Rattle.xr_scenario.specs.inside.Shapes.{ReadsShape}
use Rattle.xr_scenario.specs.declared.fault.ScenarioFault.{ScenarioFault}
use Rattle.xr_scenario.specs.declared.fault.ScenarioFault.TheVariants as scenario_fault
use Rattle.xr_drive.proofs.Clean.{told_clean, run_clean}
use Rattle.xr_drive.proofs.Status.{IsEnding, is_ending, fault_of_failed, never_garbled}
use Rattle.xr_model.specs.report.RunEnding.{ending_of, is_fault}

long_take : (n : ℕ) (bytes : List ℕ) → n < length bytes → n < length (take (n + 1) bytes)
long_take n bytes h = grind (arith, common_steps)

whole_take : (n : ℕ) (bytes : List ℕ) → length bytes ≤ n → take (n + 1) bytes ≡ bytes
whole_take n bytes h = grind (arith, common_steps)

short_take : (n : ℕ) (bytes : List ℕ) → length (take (n + 1) bytes) ≤ n → bytes ≡ take (n + 1) bytes
short_take n bytes h = grind (arith, common_steps)

err_is_not : {T U : Type 0} (x : T) (y : U) → Err y ≡ Ok x → ⊥
err_is_not x y e = cc

-- one byte past the most that a scenario has is enough to refuse it
scenario_of-take : (bytes : List ℕ) → scenario_of (take 1048577 bytes) ≡ scenario_of bytes
scenario_of-take bytes = by (nat_lt 1048576 (length bytes)) refl
  where
    by : (b : Bool) → nat_lt 1048576 (length bytes) ≡ b → scenario_of (take 1048577 bytes) ≡ scenario_of bytes
    by true e =
        let long : 1048576 < length bytes = ltb-true 1048576 (length bytes) e in
        let read : 1048576 < length (take 1048577 bytes) = long_take 1048576 bytes long in
        rw (e, lt-ltb 1048576 (length (take 1048577 bytes)) read) refl
    by false e =
        let short : length bytes ≤ 1048576 = ltb-false 1048576 (length bytes) e in
        let all : take 1048577 bytes ≡ bytes = whole_take 1048576 bytes short in
        rw all refl

-- a scenario isn't too long
scenario_short : (text : List ℕ) (s : Scenario) → scenario_of text ≡ Ok s → length text ≤ 1048576
scenario_short text s e = by (nat_lt 1048576 (length text)) refl
  where
    by : (b : Bool) → nat_lt 1048576 (length text) ≡ b → length text ≤ 1048576
    by true h = absurd (err_is_not s TooLong (rw h at e))
    by false h = ltb-false 1048576 (length text) h

-- where what was read is a scenario, it is all that there was
whole_of_read : (bytes text : List ℕ) (s : Scenario) → text ≡ take 1048577 bytes → scenario_of text ≡ Ok s → bytes ≡ text
whole_of_read bytes text s e reads =
    let short : length (take 1048577 bytes) ≤ 1048576 = subst (λ (t : List ℕ). length t ≤ 1048576) e (scenario_short text s reads) in
    short_take 1048576 bytes short ∙ sym e

pub scenario_whole : (all : Option (List ℕ)) (text : List ℕ) (s : Scenario) → IfSome all (λ bytes. text ≡ take 1048577 bytes) → scenario_of text ≡ Ok s → IfSome all (λ bytes. bytes ≡ text)
scenario_whole None text s read reads = tt
scenario_whole (Some bytes) text s read reads = whole_of_read bytes text s read reads

-- what refuses the bytes that were read refuses all that there were
refused_if_told : (told : Option (List ℕ)) (text : List ℕ) (why : Refusal) → IfSome told (λ bytes. text ≡ take 1048577 bytes) → scenario_of text ≡ Err why → IfSome told (λ bytes. scenario_of bytes ≡ Err why)
refused_if_told None text why read e = tt
refused_if_told (Some bytes) text why read e = sym (scenario_of-take bytes) ∙ rw (← read) e

-- so a text that was read gives no scenario, or memory was short
pub refused_text : (all : Option (List ℕ)) (text : List ℕ) (old new : Files) (fault : ScenarioFault) → IfSome all (λ bytes. text ≡ take 1048577 bytes) → new.read_faults which.Scenario ≡ old.read_faults which.Scenario
    → ReadsShape {T = Scenario} (Err fault) (scenario_of text) → UnreadBy all old new (fault_of_scenario fault)
refused_text all text old new (scenario_fault.Refused why) read kept refused = (refused_if_told all text why read refused, kept)
refused_text all text old new scenario_fault.NoMemory read kept refused = kept

-- ---- what a status means

-- a load's device ends at the end of what it tells, and nothing of that is garbled
load_clean : (frames : ℕ) (lists : Lists) → RunLoad frames lists → IsClean lists.events
load_clean frames lists of = run_clean (load_scenario frames) load_device of.runs.count lists refl refl of.runs.ran

-- behind the whole text of a run of files
pub means_ending : (How : HowRan) (options : RunOptions) (old new : Outside) (lists : Lists) → RunsText (RunBy How) (old.files.bytes options.file) (known_under old.files new.files options.device) lists
    → Writes old new (text_of (run options) lists) → Means (RunBy How) (Some (run options)) old new (ending_of lists)
means_ending How options old new lists of written = by (ending_of lists) (is_ending lists.events lists.next) (lists, of, refl, written)
  where
    by : (status : Status) → IsEnding status → EndsSo (RunBy How) old new status (run options) → Means (RunBy How) (Some (run options)) old new status
    by Done ok so = (run options, refl, so)
    by DeviceFailed ok so = (options, refl, so)
    by (DeviceGarbled line) ok so = (options, refl, so)
    by Stuck ok so = (run options, refl, so)
    by Usage ok so = absurd ok
    by OpenFault ok so = absurd ok
    by ReadFault ok so = absurd ok
    by (ScenarioRefused why) ok so = absurd ok
    by WriteFault ok so = absurd ok
    by NoMemory ok so = absurd ok

-- behind that of a load
pub means_load : (frames : ℕ) (old new : Outside) (lists : Lists) → RunLoad frames lists → Writes old new (text_of (load frames) lists) → Means RunOf (Some (load frames)) old new (ending_of lists)
means_load frames old new lists of written = by (ending_of lists) refl (is_ending lists.events lists.next) (lists, of.runs, refl, written)
  where
    by : (status : Status) → ending_of lists ≡ status → IsEnding status → EndsSo RunOf old new status (load frames) → Means RunOf (Some (load frames)) old new status
    by Done is ok so = (load frames, refl, so)
    by DeviceFailed is ok so = absurd (true≢false (sym (fault_of_failed lists.events lists.next is) ∙ of.faultless))
    by (DeviceGarbled line) is ok so = absurd (never_garbled lists.events lists.next line (load_clean frames lists of) is)
    by Stuck is ok so = (load frames, refl, so)
    by Usage is ok so = absurd ok
    by OpenFault is ok so = absurd ok
    by ReadFault is ok so = absurd ok
    by (ScenarioRefused why) is ok so = absurd ok
    by WriteFault is ok so = absurd ok
    by NoMemory is ok so = absurd ok

pub cause_ending : (old new : Outside) (lists : Lists) → (list_any is_fault lists.events ≡ true → Rose (old.files.read_faults which.Device) (new.files.read_faults which.Device)) → HasItsCause old new (ending_of lists)
cause_ending old new lists cause = by (ending_of lists) refl (is_ending lists.events lists.next)
  where
    by : (status : Status) → ending_of lists ≡ status → IsEnding status → HasItsCause old new status
    by Done is ok = tt
    by DeviceFailed is ok = cause (fault_of_failed lists.events lists.next is)
    by (DeviceGarbled line) is ok = tt
    by Stuck is ok = tt
    by Usage is ok = absurd ok
    by OpenFault is ok = absurd ok
    by ReadFault is ok = absurd ok
    by (ScenarioRefused why) is ok = absurd ok
    by WriteFault is ok = absurd ok
    by NoMemory is ok = absurd ok

-- ---- completeness

abbrev IsRefusedIfTold : Refusal → Option (List ℕ) → Type 0
IsRefusedIfTold why told = IfSome told (λ bytes. scenario_of bytes ≡ Err why)

no_opening : (old new : Outside) → NoneRose old new → HasItsCause old new OpenFault → ⊥
no_opening old new none (inl rose) = none.opens which.Scenario rose
no_opening old new none (inr rose) = none.opens which.Device rose

-- a device that is known to end at the end of its text has no line that is none
no_garbled : (How : HowRan) → KeepsClean How → (old new : Files) (device : Option (List ℕ)) (all : Option (List ℕ)) (told : DeviceStream) (lists : Lists) (line : ℕ) → told_under old.bytes device ≡ Some told → told.ending ≡ ends
    → RunsText (RunBy How) all (known_under old new device) lists → ending_of lists ≡ DeviceGarbled line → ⊥
no_garbled How clean old new device all told lists line is end of status =
    let count : ℕ = of.runs.count in
    let ran : How of.scenario (Some told) count lists = subst (λ (t : Option DeviceStream). How of.scenario t count lists) is of.runs.ran in
    never_garbled lists.events lists.next line (clean of.scenario told count lists (told_clean old.bytes device told is) end ran) status

-- the options of a run
abbrev options_or : RunOptions → WordsForm → RunOptions
options_or other (run options) = options
options_or other (load frames) = other

same_options : (form : Option WordsForm) (options others : RunOptions) → form ≡ Some (run options) → form ≡ Some (run others) → options ≡ others
same_options form options others a b = ap (options_or others) (same_Some (run options) (run others) (sym a ∙ b))

-- good words, a good text, a good device and no fault leave a run that is done or stuck, or want of memory
complete : (How : HowRan) → KeepsClean How → (form : Option WordsForm) (old new : Outside) (status : Status) → Means (RunBy How) form old new status → HasItsCause old new status → IsComplete form old new status
complete How clean form old new Done means cause = λ options text scenario told is there good tells end none. inl refl
complete How clean form old new Usage means cause = λ options text scenario told is there good tells end none. absurd (none-some (run options) (sym means.0 ∙ is))
complete How clean form old new OpenFault means cause = λ options text scenario told is there good tells end none. absurd (no_opening old new none cause)
complete How clean form old new ReadFault means cause = λ options text scenario told is there good tells end none. absurd (none.reads which.Scenario cause)
complete How clean form old new (ScenarioRefused why) means cause = λ options text scenario told is there good tells end none.
    let same : means.0 ≡ options = same_options form means.0 options means.1 is in
    let refused : IsRefusedIfTold why (Some text) = subst (IsRefusedIfTold why) (ap (λ (o : RunOptions). old.files.bytes o.file) same ∙ there) means.2.0 in
    absurd (err_is_not scenario why (sym refused ∙ good))
complete How clean form old new DeviceFailed means cause = λ options text scenario told is there good tells end none. absurd (none.reads which.Device cause)
complete How clean form old new (DeviceGarbled line) means cause = λ options text scenario told is there good tells end none.
    let same : means.0 ≡ options = same_options form means.0 options means.1 is in
    let known : told_under old.files.bytes means.0.device ≡ Some told = ap (λ (o : RunOptions). told_under old.files.bytes o.device) same ∙ tells in
    let so : EndsSo (RunBy How) old new (DeviceGarbled line) (run means.0) = means.2 in
    absurd (no_garbled How clean old.files new.files means.0.device (old.files.bytes means.0.file) told so.0 line known end so.1 so.2)
complete How clean form old new Stuck means cause = λ options text scenario told is there good tells end none. inr (inl refl)
complete How clean form old new WriteFault means cause = λ options text scenario told is there good tells end none. absurd (none.writes cause)
complete How clean form old new NoMemory means cause = λ options text scenario told is there good tells end none. inr (inr refl)

-- so it is of each way to run beside which a device stays clean
pub good_input_is_run_by : (How : HowRan) → KeepsClean How → GoodInputIsRunBy How
good_input_is_run_by How clean form old new status answer = complete How clean form old new status answer.means answer.causes

pub good_input_is_run : GoodInputIsRun
good_input_is_run = good_input_is_run_by Ran run_clean

-- a load is no run of files
not_files : (frames : ℕ) (options : RunOptions) → Some (load frames) ≡ Some (run options) → ⊥
not_files frames options is = cc

load_runs : (frames : ℕ) (old new : Outside) (status : Status) → Means RunOf (Some (load frames)) old new status → HasItsCause old new status → NoneRose old new → IsRun status
load_runs frames old new Done means cause none = inl refl
load_runs frames old new Usage means cause none = absurd (none-some (load frames) (sym means.0))
load_runs frames old new OpenFault means cause none = absurd (not_files frames means.0 means.1)
load_runs frames old new ReadFault means cause none = absurd (not_files frames means.0 means.1)
load_runs frames old new (ScenarioRefused why) means cause none = absurd (not_files frames means.0 means.1)
load_runs frames old new DeviceFailed means cause none = absurd (not_files frames means.0 means.1)
load_runs frames old new (DeviceGarbled line) means cause none = absurd (not_files frames means.0 means.1)
load_runs frames old new Stuck means cause none = inr (inl refl)
load_runs frames old new WriteFault means cause none = absurd (none.writes cause)
load_runs frames old new NoMemory means cause none = inr (inr refl)

pub loads_are_run : LoadsAreRun
loads_are_run frames old new status answer = load_runs frames old new status answer.means answer.causes
