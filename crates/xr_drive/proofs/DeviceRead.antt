-- What a device that reads a text comes to behind a run, by its text and by its source.
use Rattle.std.proofs.Common.{◌≡◌, ◌≤◌, ◌+◌, ℕ, true, false, List, [], ◌∷◌, ◌++◌, length, take, drop, Option, Some, None, option_map, IfSome, Result, refl, sym, ap, subst, ◌∙◌, arith}
use Rattle.std.proofs.lemmas.Bool.{or_parts}
use Rattle.std.proofs.lemmas.List.{take_at}
use Rattle.xr_io.specs.declared.Taken.{Taken}
use Rattle.xr_io.specs.declared.Which.{Which}
use Rattle.xr_io.specs.declared.Which.TheVariants as which
use Rattle.xr_io.specs.Outside.{SourceState, left_of, Files, Closed}
use Rattle.xr_types.specs.declared.device.DeviceEvent.{DeviceEvent}
use Rattle.xr_types.specs.declared.device.DeviceEvent.TheVariants.{Fault}
use Rattle.xr_types.specs.declared.made.Lists.{Lists}
use Rattle.xr_types.specs.declared.scenario.Scenario.{Scenario}
use Rattle.xr_model.specs.report.RunEnding.{is_fault}
use Rattle.std.specs.List.{list_any}
use Rattle.xr_model.specs.device_text.DeviceText.{DeviceStream, ends, told_in}
use Rattle.xr_device.specs.Prospect.{Prospect}
use Rattle.xr_device.specs.Kinds.{TextReading, taken_by, begun_at, is_late, of_text}
use Rattle.xr_device.specs.Answers.{ReadsOn}
use Rattle.xr_device.specs.WholeLines.{told_whole, GaveWholeLines}
use Rattle.xr_drive.specs.Run.{HowRan, RunBy, FailsAtLines}
use Rattle.xr_drive.specs.Files.{IsStart, DeviceClosed}
use Rattle.xr_drive.specs.Top.{IsWithin}
use Rattle.xr_drive.specs.declared.input.Stop.{Stop}
use Rattle.xr_drive.specs.inside.Input.{TakesMore}
use Rattle.xr_drive.specs.inside.CallParts.{IsJustOpened}
use Rattle.xr_runs.specs.Runs.{FailsBehind}

-- all bytes are left of a file that was just opened
pub all_left : (bytes : Option (List ℕ)) → option_map (drop 0) bytes ≡ bytes
all_left None = refl
all_left (Some b) = refl

-- ---- the events of a device that failed

fails_at : (bytes : List ℕ) (taken count : ℕ) (start now : Prospect) (events : List DeviceEvent) → start.given ≡ 0 → start.remaining ≡ Some (told_in bytes) → now.text ≡ Some bytes → now.taken ≡ taken → now.given ≡ start.given + count
    → FailsBehind start now events → FailsAtLines (take taken bytes) count events
fails_at bytes taken count start now events none remaining text took counted f =
    let told : (rest : List DeviceEvent) × ((told_in bytes).events ≡ f.given ++ rest) =
    subst (λ (t : Option DeviceStream). IfSome t (λ t. (rest : List DeviceEvent) × (t.events ≡ f.given ++ rest))) remaining f.told in
    let lines : told_whole (take now.taken bytes) ≡ record { events = take now.given (told_in bytes).events; ending = ends } =
    subst (λ (t : Option (List ℕ)). GaveWholeLines t now.taken now.given) text f.lines in
    let given = f.count in
    let len : length f.given ≡ now.given = omega (arith, none, given) in
    let same : count ≡ length f.given = omega (arith, none, given, counted) in
    let front : take now.given (told_in bytes).events ≡ f.given = ap (take now.given) told.1 ∙ take_at f.given told.0 now.given len in
    let whole : told_whole (take taken bytes) ≡ record { events = f.given; ending = ends } =
    ap (λ (n : ℕ). told_whole (take n bytes)) (sym took) ∙ lines ∙ ap (λ (es : List DeviceEvent). let stream : DeviceStream = record { events = es; ending = ends } in stream) front in
    let are : (told_whole (take taken bytes)).events ≡ f.given = ap (λ (s : DeviceStream). s.events) whole in record {
      ending = ap (λ (s : DeviceStream). s.ending) whole;
      events_are = f.events_are ∙ ap (λ (es : List DeviceEvent). es ++ Fault ∷ []) (sym are);
      number = same ∙ ap length (sym are);
    }

-- ---- the source of a device

module _ (d : TextReading) (begun : begun_at d ≡ 0) (few : taken_by d ≤ 16777217) (within : taken_by d ≤ d.source.taken.count) where
  -- it took just what was taken of its source
  pub took_all : taken_by d ≡ d.source.taken.count
  took_all = omega (arith, begun, within)

  pub device_within : is_late d ≡ false → IsWithin 16777217 d.source.taken
  device_within in_time = (let same = took_all in omega (arith, same, few), (or_parts _ _ in_time).0)

-- ---- files that were just opened

pub left_fresh : (s : SourceState) (w : Which) → IsJustOpened w s → left_of s ≡ s.bytes
left_fresh s w fresh = ap (λ (t : Taken). option_map (drop t.count) s.bytes) fresh.taken ∙ all_left s.bytes

-- closed behind the reading of it all
pub closed_read : {T : Type 0} (s t : SourceState) (w : Which) (result : Result T Stop) (old new : Files) → IsJustOpened w s → t.which ≡ s.which → TakesMore 1048577 s t result → Closed t old new → IsWithin 1048577 (new.taken w)
closed_read s t w result old new fresh same more closed =
    let none : s.taken.count ≡ 0 = ap (λ (t : Taken). t.count) fresh.taken in
    let few = more.few in
    let within : IsWithin 1048577 t.taken = (omega (arith, none, few), more.late fresh.going ∙ ap (λ (t : Taken). t.late) fresh.taken) in
    subst (λ (x : Which). IsWithin 1048577 (new.taken x)) (same ∙ fresh.which) (subst (IsWithin 1048577) (sym closed.taken) within)

-- ---- a device behind a run

-- its source was closed
module _ (first last : TextReading) (bytes : Option (List ℕ)) (start : IsStart first bytes) (reads : ReadsOn (of_text first) (of_text last)) (old new : Files) (end : DeviceClosed last old new) where
  begun : begun_at last ≡ 0
  begun = reads.begun ∙ start.begun

  pub closed_which : last.source.which ≡ which.Device
  closed_which = reads.which ∙ start.which

  taken_is : new.taken which.Device ≡ last.source.taken
  taken_is = subst (λ (w : Which). new.taken w ≡ last.source.taken) closed_which end.closed.taken

  pub ends_within : IsWithin 16777217 (new.taken which.Device)
  ends_within = subst (IsWithin 16777217) (sym taken_is) (device_within last begun end.few end.within (reads.late start.late))

  -- what is known of it behind the run
  pub runs_so : (How : HowRan) (scenario : Scenario) (count : ℕ) (lists : Lists) → (of_text last).given ≡ (of_text first).given + count → How scenario (of_text first).remaining count lists
      → (list_any is_fault lists.events ≡ true → FailsBehind (of_text first) (of_text last) lists.events) → RunBy How scenario (record { told = option_map told_in bytes; text = bytes; taken = (new.taken which.Device).count }) lists
  runs_so How scenario count lists counted ran failed = record {
    count = count;
    ran = subst (λ (t : Option DeviceStream). How scenario t count lists) start.remaining ran;
    fails = λ h. by bytes start.remaining (reads.text ∙ start.text) (failed h);
  }
    where
      by : (all : Option (List ℕ)) → (of_text first).remaining ≡ option_map told_in all → (of_text last).text ≡ all → FailsBehind (of_text first) (of_text last) lists.events
          → IfSome all (λ b. FailsAtLines (take (new.taken which.Device).count b) count lists.events)
      by None remaining same f = tt
      by (Some b) remaining same f =
          fails_at b (new.taken which.Device).count count (of_text first) (of_text last) lists.events start.given remaining same (took_all last begun end.few end.within ∙ ap (λ (t : Taken). t.count) (sym taken_is)) counted f
