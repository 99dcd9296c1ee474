-- The calls of the device's worker.
use Rattle.std.proofs.Common.{◌≡◌, ◌≤◌, ◌<◌, ◌+◌, ◌^◌, ◌∙◌, ℕ, pos, Bool, true, false, List, [], ◌∷◌, ◌++◌, length, Option, Some, None, refl, sym, ap, subst, arith, true≢false, append_assoc, append-nil, length-append}
use Rattle.std.specs.Prelude.{◌||◌, Ok, Err}
use Rattle.std.specs.List.{list_any}
use Rattle.std.proofs.lemmas.List.Folds.{list_any-append}
use Rattle.atomic_table.specs.Seated.{TableId}
use Rattle.xr_types.specs.declared.calls.NoMemory.{NoMemory}
use Rattle.xr_types.specs.declared.calls.Reply.{Reply}
use Rattle.xr_types.specs.declared.device.DeviceEvent.{DeviceEvent}
use Rattle.xr_types.specs.declared.device.DeviceEvent.TheVariants as event
use Rattle.xr_types.specs.declared.limits.TheConstants.{MOST_DEVICE}
use Rattle.xr_types.specs.declared.made.Made.{Made}
use Rattle.xr_types.specs.declared.names.CallName.TheVariants.{Device}
use Rattle.xr_device.specs.Answers.{ReadsOn}
use Rattle.xr_device.specs.Prospect.{Prospect}
use Rattle.xr_model.specs.device_text.DeviceText.{DeviceStream}
use Rattle.xr_model.specs.laws.Moments.{Moment, exchange_at}
use Rattle.xr_model.specs.machine.Machine.{step}
use Rattle.xr_model.specs.machine.Calls.{Entry, Exchange}
use Rattle.xr_types.specs.declared.calls.Call.TheVariants as ask
use Rattle.xr_model.specs.report.RunEnding.{is_fault}
use Rattle.xr_model.specs.runs.Lists.{made_at, made_from, events_in}
use Rattle.xr_model.specs.runs.Robin.{device_calls}
use Rattle.xr_rule.specs.View.{calls_in}
use Rattle.xr_runtime.specs.Calling.{behind, entry_by}
use Rattle.xr_runtime.specs.Passes.{IsDevice, Tells}
use Rattle.xr_runtime.specs.declared.passes.DevicePass.{DevicePass}
use Rattle.xr_runtime.proofs.Passing.{seat_is}
use Rattle.xr_device.specs.Told.{Comes}
use Rattle.xr_workers.specs.declared.device.DeviceMade.{DeviceMade}
use Rattle.xr_workers.specs.Workers.{WasAsked, TellsSoFar, RanDevice}
use Rattle.xr_workers.specs.inside.Telling.{MadeEvent, MadeEvents, side_of}
use Rattle.xr_workers.proofs.CallsMade.{fits_at, none_written, is_none, text_at}
use Rattle.xr_runs.specs.Sides.{exchange_of, GivesMore, DeviceKept, SideState, side_asked}
use Rattle.xr_runs.proofs.DeviceAnswers.{tells_event, tells_end, tells_garbled, tells_fault, event_kept}
use Rattle.xr_runs.proofs.Failing.{reads_on, fails_behind}

as_exchange : (m : Moment) (e : Entry) → exchange_at m e ≡ exchange_of e.call (step m.state e).1
unfolding exchange_at
as_exchange m e = refl

pub event_made : (table : TableId) (old new : DevicePass) (event : DeviceEvent) (reply : Reply) → IsDevice table old → Tells table old (ask.Device event) reply new → MadeEvent table old event reply new
event_made table old new event reply is t =
    let m : Moment = behind old.seat.me.0.know t.called.look in
    let e : Entry = entry_by old.seat.me.0.know (ask.Device event) reply in record {
      is = t.is;
      outcome = (step m.state e).1;
      adds = (seat_is old.seat.me new.seat.me (ask.Device event) reply t.before t.after is.rests.between t.called).calls ∙ ap (λ (x : Exchange). calls_in old.seat.me.0.know.own ++ x ∷ []) (as_exchange m e);
      replies = t.called.replies;
      writes = is_none (text_at m e) (fits_at m e reply t.called.replies ∙ none_written reply.gives);
    }

-- ---- all events

pub none_told : (table : TableId) (start : Prospect) (p : DevicePass) → IsDevice table p → start.bound ≤ MOST_DEVICE → MadeEvents table start start p p [] [] false
none_told table start p is few = record {
  is = is;
  calls = [];
  adds = sym (append-nil (calls_in p.seat.me.0.know.own));
  kept = record {
    given = [];
    closing = [];
    begun = refl;
    came = (nothing_given start.remaining, refl);
    counted = omega arith;
    faultless = refl;
    sound = tt;
    done = tt;
    list_is = refl;
    events_are = refl;
    later = omega arith;
    unfailed = λ h. refl;
    lines = λ h. absurd (true≢false (sym h));
  };
  few = λ h. omega (arith, few);
  ends = λ h. absurd (true≢false (sym h));
  reads = record { which = refl; begun = refl; text = refl; late = λ h. h };
}
  where
    nothing_given : (told : Option DeviceStream) → GivesMore told told []
    nothing_given None = tt
    nothing_given (Some t) = refl

-- what was asked for is known
asked_kept : (side : SideState) (calls : List Exchange) (start now now2 : Prospect) (event : Option DeviceEvent) (over : Bool) → now.faults ≤ now2.faults → Comes now now2 event over → DeviceKept (side_asked side None false) calls start now → DeviceKept (side_asked side event over) calls start now2
asked_kept side calls start now now2 (Some e) false grew f d = tells_event side calls start now now2 grew d e f.0 f.1 f.3 f.4
asked_kept side calls start now now2 None true grew f d = tells_end side calls start now now2 grew d f.0 f.2 f.3
asked_kept side calls start now now2 (Some event.Fault) true grew f d = tells_fault side calls start now now2 grew d f.0 f.2 f.3
asked_kept side calls start now now2 (Some (event.Garbled line)) true grew f d = tells_garbled side calls start now now2 grew d line f.0 f.2 f.3
asked_kept side calls start now now2 _ _ grew f d = absurd f

fewer_then : (now now2 : Prospect) (event : DeviceEvent) (over : Bool) → Comes now now2 (Some event) over → over ≡ false → now2.bound + 1 ≤ now.bound
fewer_then now now2 event false f is = let less = f.2 in omega (arith, less)
fewer_then now now2 event true f is = absurd (true≢false is)

-- where more may come and an event was told, it was given
asked_by : (events : List DeviceEvent) (list : List Made) (calls : List Exchange) (start now : Prospect) (over : Bool) → (k : DeviceKept (side_of events list over) calls start now) → (over ≡ true → now.over ≡ true) → (over ≡ false → 0 < length events)
    → WasAsked over now k.given
asked_by events list calls start now true k ends some = ends refl
asked_by events list calls start now false k ends some =
    let all = ap length (k.begun ∙ append-nil (events_in calls)) in
    let none = ap length k.came.1 in
    let told = ap length k.events_are in
    let more = some refl in
    omega (arith, all, none, told, more, length-append k.given k.closing)

-- what was made and told so far
told_so_far : (table : TableId) (start now : Prospect) (old new : DevicePass) (events : List DeviceEvent) (list : List Made) (over : Bool) → (t : MadeEvents table start now old new events list over) → (over ≡ false → 0 < length events)
    → TellsSoFar start now t.calls
told_so_far table start now old new events list over t some =
    let k = t.kept in record {
      given = k.given;
      closing = k.closing;
      over = over;
      asks = sym (k.begun ∙ append-nil (events_in t.calls));
      came = k.came;
      counted = k.counted;
      asked = asked_by events list t.calls start now over k t.ends some;
    }

module _ (table : TableId) (start now now2 : Prospect) (old mid : DevicePass) (events : List DeviceEvent) (list : List Made) (t : MadeEvents table start now old mid events list false) (grew : now.faults ≤ now2.faults) (on : ReadsOn now now2) where
  pub told_none : (event : Option DeviceEvent) (over : Bool) → event ≡ None → Comes now now2 event over → (over ≡ true → now2.over ≡ true) → MadeEvents table start now2 old mid events list over × (over ≡ true)
  told_none event over none f ends = by over (subst (λ (e : Option DeviceEvent). Comes now now2 e over) none f) ends
    where
      by : (o : Bool) → Comes now now2 None o → (o ≡ true → now2.over ≡ true) → MadeEvents table start now2 old mid events list o × (o ≡ true)
      by false g is = absurd g
      by true g is = (
        record {
          is = t.is;
          calls = t.calls;
          adds = t.adds;
          kept = asked_kept (side_of events list false) t.calls start now now2 None true grew g t.kept;
          few = λ h. absurd (true≢false h);
          ends = is;
          reads = reads_on start now now2 t.reads on;
        },
        refl,
      )

  pub few_told : IsDevice table old → old.calls ≡ 0 → mid.calls < 2 ^ 40
  few_told is none =
      let few : length t.calls + now.bound ≤ 16777216 = t.few refl in
      let before = is.counts in
      let here = t.is.counts in
      let more = ap length t.adds in
      omega (arith, few, before, here, more, none, length-append (calls_in old.seat.me.0.know.own) t.calls)

  pub told_event : (event : DeviceEvent) (over : Bool) (new : DevicePass) (reply : Reply) (made : Made) → Comes now now2 (Some event) over → (over ≡ true → now2.over ≡ true) → MadeEvent table mid event reply new
      → made ≡ record { op = length list + 1; name = Device; mark = 0; start = pos 0; reply = reply; text = [] } → MadeEvents table start now2 old new (events ++ event ∷ []) (list ++ made ∷ []) over
  told_event event over new reply made f ends m is =
      let x : Exchange = exchange_of (ask.Device event) m.outcome in
      let asked = asked_kept (side_of events list false) t.calls start now now2 (Some event) over grew f t.kept in
      let next = event_kept (side_asked (side_of events list false) (Some event) over) t.calls start now2 event m.outcome refl asked in
      let same : made_at (length list + 1) x ≡ made = rw (m.replies, m.writes, is) refl in record {
        is = m.is;
        calls = t.calls ++ x ∷ [];
        adds = m.adds ∙ (ap (λ (ts : List Exchange). ts ++ x ∷ []) t.adds ∙ append_assoc (calls_in old.seat.me.0.know.own) t.calls (x ∷ []));
        kept = subst (λ (z : Made). DeviceKept (side_of (events ++ event ∷ []) (list ++ z ∷ []) over) (t.calls ++ x ∷ []) start now2) same next;
        few = λ more. let few = t.few refl in let less = fewer_then now now2 event over f more in omega (arith, few, less, length-append t.calls (x ∷ []));
        ends = ends;
        reads = reads_on start now now2 t.reads on;
      }

  -- the call was made, and memory was short for its list
  pub short_event : (event : DeviceEvent) (over : Bool) (new : DevicePass) (reply : Reply) (short : NoMemory) → Comes now now2 (Some event) over → (over ≡ true → now2.over ≡ true) → MadeEvent table mid event reply new
      → RanDevice table start now2 old new (Err short)
  short_event event over new reply short f ends m =
      let made : Made = record { op = length list + 1; name = Device; mark = 0; start = pos 0; reply = reply; text = [] } in
      let told = told_event event over new reply made f ends m refl in
      record {
        is = told.is;
        calls = told.calls;
        made = told.adds;
        so_far = told_so_far table start now2 old new (events ++ event ∷ []) (list ++ made ∷ []) over told (λ h. omega (arith, length-append events (event ∷ [])));
        lists = tt;
        later = told.kept.later;
        reads = told.reads;
      }

-- the same of an equal pass and equal lists
pub told_at : (table : TableId) (start now : Prospect) (old p q : DevicePass) (es fs : List DeviceEvent) (ls ms : List Made) (over : Bool) → p ≡ q → es ≡ fs → ls ≡ ms → MadeEvents table start now old q fs ms over → MadeEvents table start now old p es ls over
told_at table start now old p q es fs ls ms over a b c t =
    subst (λ (x : DevicePass). MadeEvents table start now old x es ls over) (sym a) (subst (λ (x : List DeviceEvent). MadeEvents table start now old q x ls over) (sym b) (subst (λ (x : List Made). MadeEvents table start now old q fs x over) (sym c) t))

as_many : (place : ℕ) (calls : List Exchange) → length (made_from place calls) ≡ length calls
as_many place [] = refl
as_many place (t ∷ calls) = let rest = as_many (place + 1) calls in omega (arith, rest)

pub few_listed : (table : TableId) (start now : Prospect) (old new : DevicePass) (events : List DeviceEvent) (list : List Made) → MadeEvents table start now old new events list false → length list < 2147483648
few_listed table start now old new events list t =
    let few : length t.calls + now.bound ≤ 16777216 = t.few refl in
    let size = ap length t.kept.list_is in
    let same = as_many 1 t.calls in
    omega (arith, few, size, same)

pub event_calls : (table : TableId) (old new : DevicePass) (event : DeviceEvent) (reply : Reply) → IsDevice table old → MadeEvent table old event reply new → new.calls ≡ old.calls + 1
event_calls table old new event reply is m =
    let before = is.counts in
    let now = m.is.counts in
    let more = ap length m.adds in
    omega (arith, before, now, more, length-append (calls_in old.seat.me.0.know.own) (exchange_of (ask.Device event) m.outcome ∷ []))

-- ---- the end

module _ (table : TableId) (start now : Prospect) (old new : DevicePass) (list : DeviceMade) (over : Bool) (t : MadeEvents table start now old new list.events list.calls over) (is : over ≡ true) where
  k : DeviceKept (side_of list.events list.calls true) t.calls start now
  k = subst (λ (b : Bool). DeviceKept (side_of list.events list.calls b) t.calls start now) is t.kept

  all_events : list.events ≡ device_calls k.given k.came.ending
  all_events = k.events_are ∙ (sym (k.begun ∙ append-nil (events_in t.calls)) ∙ ap (λ (l : List DeviceEvent). k.given ++ l) k.came.last)

  as_any : list_any is_fault list.events ≡ list_any is_fault k.closing
  as_any = ap (list_any is_fault) (k.events_are ∙ sym (k.begun ∙ append-nil (events_in t.calls))) ∙ (list_any-append is_fault k.given k.closing ∙ ap (λ (b : Bool). b || list_any is_fault k.closing) k.faultless)

  pub ran_device : RanDevice table start now old new (Ok list)
  ran_device = record {
    is = t.is;
    calls = t.calls;
    made = t.adds;
    so_far = told_so_far table start now old new list.events list.calls over t (λ h. absurd (true≢false (sym is ∙ h)));
    lists = record {
      told = k.given;
      ending = k.came.ending;
      gave = k.came.gave;
      counted = k.counted;
      events_are = all_events;
      asks = sym k.events_are;
      calls_are = k.list_is;
      sound = record { told = k.given; ending = k.came.ending; events_are = all_events; each = k.sound };
      fault = λ h. k.came.fault (sym as_any ∙ h);
      unfailed = λ h. k.unfailed (sym as_any ∙ h);
      failed = λ h. fails_behind (side_of list.events list.calls true) t.calls start now k h;
    };
    later = k.later;
    reads = t.reads;
  }
