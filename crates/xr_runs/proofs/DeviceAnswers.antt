-- What the device has told, from one answer to the next.
use Rattle.std.proofs.Common.{◌≡◌, ◌≤◌, ℕ, true, false, List, [], ◌∷◌, ◌++◌, length, Option, Some, None, refl, sym, ap, subst, ◌∙◌, arith, append_assoc, append-nil, length-append, true≢false}
use Rattle.std.specs.Prelude.{◌||◌, ◌+◌, suc}
use Rattle.std.specs.List.{list_any}
use Rattle.std.proofs.lemmas.List.Folds.{list_any-append}
use Rattle.xr_types.specs.declared.device.DeviceEvent.{DeviceEvent}
use Rattle.xr_types.specs.declared.device.DeviceEvent.TheVariants as event
use Rattle.xr_io.specs.Outside.{Rose}
use Rattle.xr_model.specs.machine.Calls.{Outcome, Exchange}
use Rattle.xr_types.specs.declared.calls.Call.TheVariants as ask
use Rattle.xr_model.specs.laws.DeviceLaws.{is_of_line}
use Rattle.xr_model.specs.device_text.DeviceText.{DeviceStream, Ending, ends, garbled_at}
use Rattle.xr_model.specs.report.RunEnding.{is_fault, is_garbled}
use Rattle.xr_model.specs.runs.Robin.{last_event}
use Rattle.xr_model.specs.runs.Lists.{made_from, events_in}
use Rattle.xr_device.specs.Answers.{Tells, IsTold, GaveItsLines}
use Rattle.xr_device.specs.declared.Next.TheVariants as next
use Rattle.xr_device.specs.Prospect.{Prospect}
use Rattle.xr_device.specs.Told.{IsChecked}
use Rattle.xr_runs.specs.Runs.{Gave, IsLineEvent, AreLineEvents}
use Rattle.xr_runs.specs.Sides.{exchange_of, SideState, side_asked, side_with, pending_list, GivesMore, DeviceKept}
use Rattle.xr_runs.proofs.Listing.{made_snoc}

pub events_snoc : (calls : List Exchange) (e : DeviceEvent) (outcome : Outcome) → events_in (calls ++ exchange_of (ask.Device e) outcome ∷ []) ≡ events_in calls ++ e ∷ []
events_snoc [] e outcome = refl
events_snoc (t ∷ calls) e outcome = rw (events_snoc calls e outcome) (sym (append_assoc _ (events_in calls) (e ∷ [])))

made_length : (place : ℕ) (calls : List Exchange) → length (made_from place calls) ≡ length calls
made_length place [] = refl
made_length place (t ∷ calls) = ap suc (made_length (place + 1) calls)

-- ---- events of lines

line_faultless : (e : DeviceEvent) → is_of_line e ≡ true → is_fault e ≡ false
line_faultless event.Fault h = absurd (true≢false (sym h))
line_faultless _ h = refl

line_formed : (e : DeviceEvent) → is_of_line e ≡ true → is_garbled e ≡ false
line_formed (event.Garbled line) h = absurd (true≢false (sym h))
line_formed _ h = refl

line_event : (e : DeviceEvent) → IsTold e → IsLineEvent e
line_event e t = record { checked = t.checked; faultless = line_faultless e t.line; formed = line_formed e t.line }

one_more : (given : List DeviceEvent) (e : DeviceEvent) → AreLineEvents given → IsLineEvent e → AreLineEvents (given ++ e ∷ [])
one_more [] e all one = (one, tt)
one_more (x ∷ given) e all one = (all.0, one_more given e all.1 one)

pub told_done : (e : DeviceEvent) → IsTold e → IsChecked e
told_done e t = record { checked = t.checked }

none_more : (given : List DeviceEvent) (e : DeviceEvent) → list_any is_fault given ≡ false → is_fault e ≡ false → list_any is_fault (given ++ e ∷ []) ≡ false
none_more given e none this = list_any-append is_fault given (e ∷ []) ∙ rw (none, this) refl

-- ---- what the device has given

gives_event : (told now now2 : Option DeviceStream) (given : List DeviceEvent) (e : DeviceEvent) → GivesMore told now given → Tells now now2 (next.Event e) → GivesMore told now2 (given ++ e ∷ [])
gives_event None now now2 given e more tells = tt
gives_event (Some t) None now2 given e more tells = absurd more
gives_event (Some t) (Some before) None given e more tells = absurd tells
gives_event (Some t) (Some before) (Some rest) given e more tells = more ∙ rw tells (ap (λ (l : List DeviceEvent). let told : DeviceStream = record { events = l; ending = rest.ending } in told) (sym (append_assoc given (e ∷ []) rest.events)))

gives_end : (told now now2 : Option DeviceStream) (given : List DeviceEvent) → GivesMore told now given → Tells now now2 next.End → Gave told (length given) given (Some ends)
gives_end None now now2 given more tells = refl
gives_end (Some t) None now2 given more tells = absurd more
gives_end (Some t) (Some before) now2 given more tells = (rw (more, tells) (append-nil given), rw (more, tells) refl, omega arith)

gives_garbled : (told now now2 : Option DeviceStream) (given : List DeviceEvent) (line : ℕ) → GivesMore told now given → Tells now now2 (next.Garbled line) → Gave told (length given) given (Some (garbled_at line))
gives_garbled None now now2 given line more tells = refl
gives_garbled (Some t) None now2 given line more tells = absurd more
gives_garbled (Some t) (Some before) now2 given line more tells = (rw (more, tells) (append-nil given), rw (more, tells) refl, omega arith)

gives_front : (told now : Option DeviceStream) (given : List DeviceEvent) → GivesMore told now given → Gave told (length given) given None
gives_front None now given more = refl
gives_front (Some t) None given more = absurd more
gives_front (Some t) (Some before) given more = (before.events, rw more refl, refl)

rose_later : (a b c : ℕ) → a ≤ b → Rose b c → Rose a c
rose_later a b c h r = grind (arith, h, r)

given_more : (given : List DeviceEvent) (calls : List Exchange) (e : DeviceEvent) → given ++ [] ≡ events_in calls ++ [] → given ++ e ∷ [] ≡ events_in calls ++ e ∷ []
given_more given calls e same = ap (λ (l : List DeviceEvent). l ++ e ∷ []) (sym (append-nil given) ∙ same ∙ append-nil (events_in calls))

-- ---- what is kept of it

-- its side while its next event isn't known and more may come
abbrev pub is_open : SideState → SideState
is_open side = side_asked side None false

module _ (side : SideState) (calls : List Exchange) (start now now2 : Prospect) (grew : now.faults ≤ now2.faults) (d : DeviceKept (is_open side) calls start now) where
  open_begun : d.given ++ [] ≡ events_in calls ++ []
  open_begun = subst (λ (c : List DeviceEvent). d.given ++ c ≡ events_in calls ++ []) d.came.1 d.begun

  later : start.faults ≤ now2.faults
  later = let before = d.later in omega (arith, before, grew)

  -- no read has failed yet
  same_faults : now2.faults ≡ now.faults → now2.faults ≡ start.faults
  same_faults same = same ∙ d.unfailed (subst (λ (c : List DeviceEvent). list_any is_fault c ≡ false) (sym d.came.1) refl)

  pub tells_event : (e : DeviceEvent) → Tells now.remaining now2.remaining (next.Event e) → IsTold e → now2.faults ≡ now.faults → now2.given ≡ now.given + 1 → DeviceKept (side_asked side (Some e) false) calls start now2
  tells_event e tells sound same count = record {
    given = d.given ++ e ∷ [];
    closing = [];
    begun = append-nil (d.given ++ e ∷ []) ∙ given_more d.given calls e open_begun;
    came = (gives_event start.remaining now.remaining now2.remaining d.given e d.came.0 tells, refl);
    counted = let before = d.counted in let more : length (d.given ++ e ∷ []) ≡ length d.given + 1 = length-append d.given (e ∷ []) in omega (arith, before, more, count);
    faultless = none_more d.given e d.faultless (line_faultless e sound.line);
    sound = one_more d.given e d.sound (line_event e sound);
    done = told_done e sound;
    list_is = d.list_is;
    events_are = d.events_are;
    later = later;
    unfailed = λ e. same_faults same;
    lines = λ e. absurd (true≢false (sym e));
  }

  pub tells_end : Tells now.remaining now2.remaining next.End → now2.faults ≡ now.faults → now2.given ≡ now.given → DeviceKept (side_asked side None true) calls start now2
  tells_end tells same count = record {
    given = d.given;
    closing = [];
    begun = open_begun;
    came = record { ending = Some ends; gave = gives_end start.remaining now.remaining now2.remaining d.given d.came.0 tells; last = refl; fault = λ e. absurd (true≢false (sym e)) };
    counted = count ∙ d.counted;
    faultless = d.faultless;
    sound = d.sound;
    done = tt;
    list_is = d.list_is;
    events_are = d.events_are;
    later = later;
    unfailed = λ e. same_faults same;
    lines = λ e. absurd (true≢false (sym e));
  }

  -- it has ended early, which is its last call
  closes : (e : DeviceEvent) (ending : Option Ending) → IsChecked e → now2.given ≡ now.given → Gave start.remaining (length d.given) d.given ending → e ∷ [] ≡ last_event ending → (is_fault e || false ≡ true → Rose start.faults now2.faults) → (is_fault e || false ≡ false → now2.faults ≡ start.faults)
      → (is_fault e || false ≡ true → GaveItsLines now2) → DeviceKept (side_asked side (Some e) true) calls start now2
  closes e ending done count gave last fault unfailed lines = record {
    given = d.given;
    closing = e ∷ [];
    begun = given_more d.given calls e open_begun;
    came = record { ending = ending; gave = gave; last = last; fault = fault };
    counted = count ∙ d.counted;
    faultless = d.faultless;
    sound = d.sound;
    done = done;
    list_is = d.list_is;
    events_are = d.events_are;
    later = later;
    unfailed = unfailed;
    lines = lines;
  }

  pub tells_garbled : (line : ℕ) → Tells now.remaining now2.remaining (next.Garbled line) → now2.faults ≡ now.faults → now2.given ≡ now.given → DeviceKept (side_asked side (Some (event.Garbled line)) true) calls start now2
  tells_garbled line tells same count =
      closes (event.Garbled line) (Some (garbled_at line)) (record { checked = refl }) count (gives_garbled start.remaining now.remaining now2.remaining d.given line d.came.0 tells) refl (λ e. absurd (true≢false (sym e))) (λ e. same_faults same) (λ e. absurd (true≢false (sym e)))

  pub tells_fault : Rose now.faults now2.faults → now2.given ≡ now.given → GaveItsLines now2 → DeviceKept (side_asked side (Some event.Fault) true) calls start now2
  tells_fault rose count lines =
      closes event.Fault None (record { checked = refl }) count (gives_front start.remaining now.remaining d.given d.came.0) refl (λ e. rose_later start.faults now.faults now2.faults d.later rose) (λ e. absurd (true≢false e)) (λ e. lines)

-- the call of its next event was made
pub event_kept : (side : SideState) (calls : List Exchange) (start now : Prospect) (e : DeviceEvent) (outcome : Outcome) → side.pending ≡ Some e → DeviceKept side calls start now
    → DeviceKept (side_with side e (exchange_of (ask.Device e) outcome)) (calls ++ exchange_of (ask.Device e) outcome ∷ []) start now
event_kept side calls start now e outcome this d =
    let t : Exchange = exchange_of (ask.Device e) outcome in
    let size : length side.calls ≡ length calls = ap length d.list_is ∙ made_length 1 calls in
    let place : 1 + length calls ≡ length side.calls + 1 = omega (arith, size) in
    record {
      given = d.given;
      closing = d.closing;
      begun = d.begun ∙ ap (λ (p : Option DeviceEvent). events_in calls ++ pending_list p) this ∙ sym (append-nil (events_in (calls ++ t ∷ [])) ∙ events_snoc calls e outcome);
      came = d.came;
      counted = d.counted;
      faultless = d.faultless;
      sound = d.sound;
      done = tt;
      list_is = sym (made_snoc 1 calls t ∙ rw (place, ← d.list_is) refl);
      events_are = rw (events_snoc calls e outcome, d.events_are) refl;
      later = d.later;
      unfailed = d.unfailed;
      lines = d.lines;
    }
