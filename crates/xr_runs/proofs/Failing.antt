-- What a device that couldn't be read on has done.
use Rattle.std.proofs.Common.{◌≡◌, ℕ, Bool, true, false, List, [], ◌∷◌, ◌++◌, length, take, Option, Some, None, IfSome, refl, sym, ap, subst, ◌∙◌, arith, append-nil, length-append, true≢false}
use Rattle.std.specs.Prelude.{◌||◌}
use Rattle.std.specs.List.{list_any}
use Rattle.std.proofs.lemmas.Bool.{or_left}
use Rattle.std.proofs.lemmas.List.Folds.{list_any-append}
use Rattle.std.proofs.lemmas.List.{take_at}
use Rattle.xr_types.specs.declared.device.DeviceEvent.{DeviceEvent}
use Rattle.xr_types.specs.declared.device.DeviceEvent.TheVariants as event
use Rattle.xr_model.specs.machine.Calls.{Exchange}
use Rattle.xr_model.specs.device_text.DeviceText.{DeviceStream, Ending, ends, garbled_at}
use Rattle.xr_model.specs.report.RunEnding.{is_fault}
use Rattle.xr_model.specs.runs.Robin.{last_event}
use Rattle.xr_model.specs.runs.Lists.{events_in}
use Rattle.xr_device.specs.Answers.{ReadsOn}
use Rattle.xr_device.specs.Prospect.{Prospect}
use Rattle.xr_runs.specs.Runs.{Gave, FailsBehind}
use Rattle.xr_runs.specs.Sides.{SideState, pending_list, Came, GaveAll, DeviceKept}

back_true : (a b : Bool) → a ≡ false → a || b ≡ true → b ≡ true
back_true a b none h = subst (λ (x : Bool). x || b ≡ true) none h

-- a fault among the calls made is the device's last
pub fault_last : (given closing made more : List DeviceEvent) → given ++ closing ≡ made ++ more → list_any is_fault given ≡ false → list_any is_fault made ≡ true → list_any is_fault closing ≡ true
fault_last given closing made more same none h =
    back_true (list_any is_fault given) (list_any is_fault closing) none
    (sym (list_any-append is_fault given closing) ∙ ap (list_any is_fault) same ∙ list_any-append is_fault made more ∙ or_left (list_any is_fault made) (list_any is_fault more) h)

pub reads_on : (a b c : Prospect) → ReadsOn a b → ReadsOn b c → ReadsOn a c
reads_on a b c first second = record {
  which = second.which ∙ first.which;
  begun = second.begun ∙ first.begun;
  text = second.text ∙ first.text;
  late = λ in_time. second.late (first.late in_time);
}

-- two lists with one more each
same_front : (xs ys : List DeviceEvent) (x y : DeviceEvent) → xs ++ x ∷ [] ≡ ys ++ y ∷ [] → xs ≡ ys
same_front xs ys x y same =
    let size : length (xs ++ x ∷ []) ≡ length (ys ++ y ∷ []) = ap length same in
    let left = length-append xs (x ∷ []) in
    let right = length-append ys (y ∷ []) in
    let len : length ys ≡ length xs = omega (arith, size, left, right) in
    sym (take_at xs (x ∷ []) (length xs) refl) ∙ ap (take (length xs)) same ∙ take_at ys (y ∷ []) (length xs) len

-- what comes last is a fault only where the device couldn't be read on
fault_is : (ending : Option Ending) → list_any is_fault (last_event ending) ≡ true → ending ≡ None
fault_is None h = refl
fault_is (Some ends) h = absurd (true≢false (sym h))
fault_is (Some (garbled_at line)) h = absurd (true≢false (sym h))

front_told : (told : Option DeviceStream) (count : ℕ) (given : List DeviceEvent) → Gave told count given None → IfSome told (λ t. (rest : List DeviceEvent) × (t.events ≡ given ++ rest))
front_told None count given gave = tt
front_told (Some t) count given gave = (gave.0, gave.1)

-- its fault was made, so all before it were
all_made : (given made : List DeviceEvent) (pending : Option DeviceEvent) → given ++ event.Fault ∷ [] ≡ made ++ pending_list pending → list_any is_fault given ≡ false → list_any is_fault made ≡ true → made ≡ given ++ event.Fault ∷ []
all_made given made None begun none some = sym (begun ∙ append-nil made)
all_made given made (Some e) begun none some =
    absurd (true≢false (sym some ∙ ap (list_any is_fault) (sym (same_front given made event.Fault e begun)) ∙ none))

module _ (side : SideState) (calls : List Exchange) (start now : Prospect) (d : DeviceKept side calls start now) (h : list_any is_fault side.events ≡ true) where
  made : list_any is_fault (events_in calls) ≡ true
  made = subst (λ (l : List DeviceEvent). list_any is_fault l ≡ true) d.events_are h

  closing : list_any is_fault d.closing ≡ true
  closing = fault_last d.given d.closing (events_in calls) (pending_list side.pending) d.begun d.faultless made

  behind : GaveAll start.remaining d.given d.closing start.faults now.faults → FailsBehind start now side.events
  behind all =
      let none : all.ending ≡ None = fault_is all.ending (subst (λ (l : List DeviceEvent). list_any is_fault l ≡ true) all.last closing) in
      let last : d.closing ≡ event.Fault ∷ [] = all.last ∙ ap last_event none in
      let begun : d.given ++ event.Fault ∷ [] ≡ events_in calls ++ pending_list side.pending = ap (λ (l : List DeviceEvent). d.given ++ l) (sym last) ∙ d.begun in
      record {
        given = d.given;
        events_are = d.events_are ∙ all_made d.given (events_in calls) side.pending begun d.faultless made;
        count = d.counted;
        told = front_told start.remaining (length d.given) d.given (subst (Gave start.remaining (length d.given) d.given) none all.gave);
        lines = d.lines closing;
      }

  by_end : (over : Bool) → Came start now d.given d.closing over → FailsBehind start now side.events
  by_end true all = behind all
  by_end false more = absurd (true≢false (sym closing ∙ ap (list_any is_fault) more.1))

  pub fails_behind : FailsBehind start now side.events
  fails_behind = by_end side.over d.came
