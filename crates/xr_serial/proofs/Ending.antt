-- Where nobody can go on: what the device gave, and who is left in the order of a round.
use Rattle.std.proofs.Common.{◌≡◌, ◌⊎◌, inl, inr, ◌+◌, ◌<◌, ◌≤◌, ℕ, zero, suc, Bool, true, false, List, [], ◌∷◌, ◌++◌, length, drop, take, get_or, Option, Some, None, refl, sym, ap, subst, ◌∙◌, arith, append_assoc, append-nil, length-append, true≢false, add-one}
use Rattle.std.specs.Prelude.{if◌then◌else◌, ◌≢◌}
use Rattle.std.proofs.lemmas.List.{take-append-drop, take_more, take_all}
use Rattle.std.specs.List.{list_any}
use Rattle.std.proofs.lemmas.Bool.{ne_eqb, eq-eqb}
use Rattle.xr_types.specs.declared.calls.Actor.{Actor}
use Rattle.xr_types.specs.declared.calls.Actor.TheVariants.{App, Compositor, Device}
use Rattle.xr_types.specs.declared.calls.Reply.{Reply}
use Rattle.xr_types.specs.declared.device.DeviceEvent.{DeviceEvent}
use Rattle.xr_types.specs.declared.device.DeviceEvent.TheVariants as event
use Rattle.xr_types.specs.declared.scenario.Op.{Op}
use Rattle.xr_types.specs.declared.scenario.Scenario.{Scenario}
use Rattle.xr_io.specs.Outside.{Rose}
use Rattle.xr_model.specs.machine.Calls.{is_actor, Exchange}
use Rattle.xr_model.specs.machine.State.{State}
use Rattle.xr_model.specs.device_text.DeviceText.{DeviceStream, Ending, ends, garbled_at}
use Rattle.xr_model.specs.report.RunEnding.{is_fault}
use Rattle.xr_model.specs.runs.Robin.{Agenda, actor_of, device_agendas, device_calls, last_event, agendas_of, scripts_to, in_round}
use Rattle.xr_model.specs.runs.Lists.{events_in}
use Rattle.xr_serial.specs.inside.RunState.{AppState, RunState}
use Rattle.xr_device.specs.Prospect.{Prospect}
use Rattle.xr_serial.specs.inside.Turns.{script_part, script_parts, compositor_part, device_part, from_turn, joined, AreHeldBack}
use Rattle.xr_serial.specs.inside.PastOfRun.{IsRest}
use Rattle.xr_serial.specs.inside.RunInvariant.{events_told}
use Rattle.xr_serial.proofs.TurnOrder.{held_append, joined-append, joined-snoc}
use Rattle.xr_serial.proofs.ActorParts.{AreAll, length-script_parts}
use Rattle.xr_runs.specs.Runs.{Gave, IsLineEvent, AreLineEvents, AreSound}
use Rattle.xr_runs.specs.Sides.{SideState, pending_list, GivesMore, Came, DeviceKept}
use Rattle.xr_runs.proofs.Failing.{fault_last}

-- ---- what the device gave

-- all that the device does, of which this is still to come
pub record Gives (side : SideState) (calls : List Exchange) (start now : Prospect) : Type 0 where
  pub rest : List DeviceEvent
  pub none : IsRest side.over rest
  pub events : List DeviceEvent
  pub ending : Option Ending
  pub count : ℕ
  pub counted : now.given ≡ start.given + count
  pub gave : Gave start.remaining count events ending
  pub calls_are : device_calls events ending ≡ events_told side calls ++ rest
  pub fault : list_any is_fault (events_in calls) ≡ true → Rose start.faults now.faults

open_calls : (given more last begun : List DeviceEvent) → given ++ [] ≡ begun → (given ++ more) ++ last ≡ begun ++ more ++ last
open_calls given more last begun same = ap (λ (l : List DeviceEvent). (l ++ more) ++ last) (sym (append-nil given) ∙ same)

-- a device that hasn't ended
open_gives : (made : SideState) (calls : List Exchange) (start now : Prospect) (given : List DeviceEvent) → made.over ≡ false → GivesMore start.remaining now.remaining given → given ++ [] ≡ events_told made calls → list_any is_fault given ≡ false → now.given ≡ start.given + length given → Gives made calls start now
open_gives made calls start now given going more begun faultless counted = by start.remaining now.remaining refl more
  where
    no_fault : list_any is_fault (events_in calls) ≡ true → Rose start.faults now.faults
    no_fault h = absurd (true≢false (sym (fault_last given [] (events_in calls) (pending_list made.pending) begun faultless h)))

    not_over : (rest : List DeviceEvent) → IsRest made.over rest
    not_over rest e = absurd (true≢false (sym e ∙ going))

    by : (told later : Option DeviceStream) → start.remaining ≡ told → GivesMore told later given → Gives made calls start now
    by None later is more = record {
      rest = [];
      none = λ e. refl;
      events = given;
      ending = Some ends;
      count = length given;
      counted = counted;
      gave = rw is refl;
      calls_are = begun ∙ sym (append-nil (events_told made calls));
      fault = no_fault;
    }
    by (Some t) None is more = absurd more
    by (Some t) (Some r) is more = record {
      rest = r.events ++ last_event (Some r.ending);
      none = not_over (r.events ++ last_event (Some r.ending));
      events = given ++ r.events;
      ending = Some r.ending;
      count = length given;
      counted = counted;
      gave = let all = length-append given r.events in rw (is, more) (refl, refl, omega (arith, all));
      calls_are = open_calls given r.events (last_event (Some r.ending)) (events_told made calls) begun ∙ append_assoc (events_told made calls) r.events (last_event (Some r.ending));
      fault = no_fault;
    }

pub gives : (side : SideState) (calls : List Exchange) (start now : Prospect) → DeviceKept side calls start now → Gives side calls start now
gives side calls start now d = by side.over refl
  where
    by : (over : Bool) → side.over ≡ over → Gives side calls start now
    by false is =
        let came : Came start now d.given d.closing false = subst (Came start now d.given d.closing) is d.came in
        open_gives side calls start now d.given is came.0 (subst (λ (c : List DeviceEvent). d.given ++ c ≡ events_told side calls) came.1 d.begun) d.faultless d.counted
    by true is =
        let came : Came start now d.given d.closing true = subst (Came start now d.given d.closing) is d.came in
        record {
          rest = [];
          none = λ e. refl;
          events = d.given;
          ending = came.ending;
          count = length d.given;
          counted = d.counted;
          gave = came.gave;
          calls_are = ap (λ (l : List DeviceEvent). d.given ++ l) (sym came.last) ∙ d.begun ∙ sym (append-nil (events_told side calls));
          fault = λ h. came.fault (fault_last d.given d.closing (events_in calls) (pending_list side.pending) d.begun d.faultless h);
        }

-- ---- what is listed of it

parts_same : (x y : DeviceEvent) (xs ys : List DeviceEvent) → x ∷ xs ≡ y ∷ ys → (x ≡ y) × (xs ≡ ys)
parts_same x y xs ys is = (ap (λ (l : List DeviceEvent). get_or l 0 x) is, ap (λ (l : List DeviceEvent). drop 1 l) is)

no_event : (x : DeviceEvent) (xs : List DeviceEvent) → [] ≡ x ∷ xs → ⊥
no_event x xs is = cc

all_of_none : (xs ys : List DeviceEvent) → [] ≡ xs ++ ys → xs ≡ []
all_of_none [] ys is = refl
all_of_none (x ∷ xs) ys is = absurd (no_event x (xs ++ ys) is)

-- a call behind all that were told is the last
last_sound : (ending : Option Ending) (m : DeviceEvent) (made more : List DeviceEvent) → last_event ending ≡ m ∷ (made ++ more) → AreSound (m ∷ made)
last_sound None m made more is =
    let parts = parts_same event.Fault m [] (made ++ more) is in
    record { told = []; ending = None; events_are = rw (all_of_none made more parts.1, parts.0) refl; each = tt }
last_sound (Some ends) m made more is = absurd (no_event m (made ++ more) is)
last_sound (Some (garbled_at line)) m made more is =
    let parts = parts_same (event.Garbled line) m [] (made ++ more) is in
    record { told = []; ending = Some (garbled_at line); events_are = rw (all_of_none made more parts.1, parts.0) refl; each = tt }

front_sound : (given made more : List DeviceEvent) (ending : Option Ending) → given ++ last_event ending ≡ made ++ more → AreLineEvents given → AreSound made
front_sound given [] more ending is all = record { told = []; ending = Some ends; events_are = refl; each = tt }
front_sound [] (m ∷ made) more ending is all = last_sound ending m made more is
front_sound (g ∷ given) (m ∷ made) more ending is all =
    let parts = parts_same g m (given ++ last_event ending) (made ++ more) is in
    let rest = front_sound given made more ending parts.1 all.1 in
    record { told = m ∷ rest.told; ending = rest.ending; events_are = ap (λ (l : List DeviceEvent). m ∷ l) rest.events_are; each = (subst IsLineEvent parts.0 all.0, rest.each) }

pub events_sound : (side : SideState) (calls : List Exchange) (start now : Prospect) → DeviceKept side calls start now → AreSound side.events
events_sound side calls start now d = subst AreSound (sym d.events_are) (by side.over refl)
  where
    by : (over : Bool) → side.over ≡ over → AreSound (events_in calls)
    by false is =
        let came : Came start now d.given d.closing false = subst (Came start now d.given d.closing) is d.came in
        front_sound d.given (events_in calls) (pending_list side.pending) (Some ends) (subst (λ (c : List DeviceEvent). d.given ++ c ≡ events_told side calls) came.1 d.begun) d.sound
    by true is =
        let came : Came start now d.given d.closing true = subst (Came start now d.given d.closing) is d.came in
        front_sound d.given (events_in calls) (pending_list side.pending) came.ending (subst (λ (c : List DeviceEvent). d.given ++ c ≡ events_told side calls) came.last d.begun) d.sound

-- ---- who is left, in the order of a round

agendas-append : (who : Actor) (xs ys : List Agenda) → agendas_of who (xs ++ ys) ≡ agendas_of who xs ++ agendas_of who ys
agendas-append who [] ys = refl
agendas-append who (x ∷ xs) ys = each (is_actor who (actor_of x)) (agendas-append who xs ys)
  where
    each : (b : Bool) → agendas_of who (xs ++ ys) ≡ agendas_of who xs ++ agendas_of who ys → (if b then x ∷ agendas_of who (xs ++ ys) else agendas_of who (xs ++ ys)) ≡ (if b then x ∷ agendas_of who xs else agendas_of who xs) ++ agendas_of who ys
    each true more = ap (λ (l : List Agenda). x ∷ l) more
    each false more = more

abbrev of_parts : Actor → List (List Agenda) → List Agenda
of_parts who parts = agendas_of who (joined parts)

of_parts-append : (who : Actor) (xs ys : List (List Agenda)) → of_parts who (xs ++ ys) ≡ of_parts who xs ++ of_parts who ys
of_parts-append who xs ys = ap (agendas_of who) (joined-append xs ys) ∙ agendas-append who (joined xs) (joined ys)

-- no part is of this actor
abbrev NoneOf : Actor → List (List Agenda) → Type 0
NoneOf who [] = Unit {0}
NoneOf who (x ∷ xs) = (agendas_of who x ≡ []) × NoneOf who xs

none_of : (who : Actor) (xs : List (List Agenda)) → NoneOf who xs → of_parts who xs ≡ []
none_of who [] none = refl
none_of who (x ∷ xs) none = agendas-append who x (joined xs) ∙ rw (none.0, none_of who xs none.1) refl

none-append : (who : Actor) (xs ys : List (List Agenda)) → NoneOf who xs → NoneOf who ys → NoneOf who (xs ++ ys)
none-append who [] ys a b = b
none-append who (x ∷ xs) ys a b = (a.0, none-append who xs ys a.1 b)

none-drop : (who : Actor) (n : ℕ) (xs : List (List Agenda)) → NoneOf who xs → NoneOf who (drop n xs)
none-drop who zero xs none = none
none-drop who (suc n) [] none = tt
none-drop who (suc n) (x ∷ xs) none = none-drop who n xs none.1

-- all parts but one are of others
abbrev IsOne : Actor → List (List Agenda) → Type 0
IsOne who [] = Unit {0}
IsOne who (x ∷ xs) = ((agendas_of who x ≡ []) × IsOne who xs) ⊎ NoneOf who xs

-- so it stands on one side of each place
on_one_side : (who : Actor) (n : ℕ) (parts : List (List Agenda)) → IsOne who parts → (of_parts who (take n parts) ≡ []) ⊎ (of_parts who (drop n parts) ≡ [])
on_one_side who zero parts one = inl refl
on_one_side who (suc n) [] one = inl refl
on_one_side who (suc n) (x ∷ xs) (inr none) = inr (none_of who (drop n xs) (none-drop who n xs none))
on_one_side who (suc n) (x ∷ xs) (inl one) = by (on_one_side who n xs one.1)
  where
    by : (of_parts who (take n xs) ≡ []) ⊎ (of_parts who (drop n xs) ≡ []) → (of_parts who (x ∷ take n xs) ≡ []) ⊎ (of_parts who (drop n xs) ≡ [])
    by (inl none) = inl (agendas-append who x (joined (take n xs)) ∙ rw (one.0, none) refl)
    by (inr none) = inr none

swapped : (a b : List Agenda) → (a ≡ []) ⊎ (b ≡ []) → b ++ a ≡ a ++ b
swapped a b (inl none) = rw none (append-nil b)
swapped a b (inr none) = rw none (sym (append-nil a))

-- whose turn it is doesn't matter
any_turn : (who : Actor) (turn : ℕ) (parts : List (List Agenda)) → IsOne who parts → of_parts who (from_turn turn parts) ≡ of_parts who parts
any_turn who turn parts one =
    of_parts-append who (drop turn parts) (take turn parts) ∙ swapped (of_parts who (take turn parts)) (of_parts who (drop turn parts)) (on_one_side who turn parts one)
    ∙ sym (of_parts-append who (take turn parts) (drop turn parts)) ∙ ap (of_parts who) (take-append-drop turn parts)

-- ---- the parts of a run

part_own : (number : ℕ) (ops : List Op) (app : AppState) → agendas_of (App number) (script_part number ops app) ≡ script_part number ops app
part_own number ops app = by app.has_left refl
  where
    by : (left : Bool) → app.has_left ≡ left → agendas_of (App number) (script_part number ops app) ≡ script_part number ops app
    by true e = rw e refl
    by false e = rw (e, eq-eqb number number refl) refl

part_other : (who : Actor) (number : ℕ) (ops : List Op) (app : AppState) → is_actor who (App number) ≡ false → agendas_of who (script_part number ops app) ≡ []
part_other who number ops app other = by app.has_left refl
  where
    by : (left : Bool) → app.has_left ≡ left → agendas_of who (script_part number ops app) ≡ []
    by true e = rw e refl
    by false e = rw (e, other) refl

other_app : (own number : ℕ) → own ≢ number → is_actor (App own) (App number) ≡ false
other_app own number apart = ne_eqb own number apart

-- scripts from a number on are of nobody else
scripts_none : (who : Actor) (number : ℕ) (scripts : List (List Op)) (apps : List AppState) → ((n : ℕ) → number ≤ n → is_actor who (App n) ≡ false) → NoneOf who (script_parts number scripts apps)
scripts_none who number [] apps other = tt
scripts_none who number (ops ∷ scripts) [] other = tt
scripts_none who number (ops ∷ scripts) (app ∷ apps) other =
    (part_other who number ops app (other number (omega arith)), scripts_none who (number + 1) scripts apps (λ n least. other n (omega (arith, least))))

device_own : (calls : List DeviceEvent) → agendas_of Device (device_agendas calls) ≡ device_agendas calls
device_own [] = refl
device_own (e ∷ es) = refl

device_app : (n : ℕ) (calls : List DeviceEvent) → agendas_of (App n) (device_agendas calls) ≡ []
device_app n [] = refl
device_app n (e ∷ es) = refl

device_compositor : (calls : List DeviceEvent) → agendas_of Compositor (device_agendas calls) ≡ []
device_compositor [] = refl
device_compositor (e ∷ es) = refl

compositor_own : (ended : Option Reply) (held : ℕ) → agendas_of Compositor (compositor_part ended held) ≡ compositor_part ended held
compositor_own None held = refl
compositor_own (Some reply) held = refl

compositor_app : (n : ℕ) (ended : Option Reply) (held : ℕ) → agendas_of (App n) (compositor_part ended held) ≡ []
compositor_app n None held = refl
compositor_app n (Some reply) held = refl

compositor_device : (ended : Option Reply) (held : ℕ) → agendas_of Device (compositor_part ended held) ≡ []
compositor_device None held = refl
compositor_device (Some reply) held = refl

module _ (device : List DeviceEvent) (ended : Option Reply) (held : ℕ) where
  abbrev last_two : List (List Agenda)
  last_two = device_agendas device ∷ compositor_part ended held ∷ []

  app_one : (own number place : ℕ) (scripts : List (List Op)) (apps : List AppState) → own ≡ number + place → IsOne (App own) (script_parts number scripts apps ++ last_two)
  app_one own number place [] apps is = inl (device_app own device, inl (compositor_app own ended held, tt))
  app_one own number place (ops ∷ scripts) [] is = inl (device_app own device, inl (compositor_app own ended held, tt))
  app_one own number zero (ops ∷ scripts) (app ∷ apps) is =
      inr (none-append (App own) (script_parts (number + 1) scripts apps) last_two (scripts_none (App own) (number + 1) scripts apps (λ n least. other_app own n (λ same. omega (arith, least, is, same)))) (device_app own device, (compositor_app own ended held, tt)))
  app_one own number (suc place) (ops ∷ scripts) (app ∷ apps) is =
      inl (part_other (App own) number ops app (other_app own number (λ same. omega (arith, is, same))), app_one own (number + 1) place scripts apps (omega (arith, is)))

  device_one : (number : ℕ) (scripts : List (List Op)) (apps : List AppState) → IsOne Device (script_parts number scripts apps ++ last_two)
  device_one number [] apps = inr (compositor_device ended held, tt)
  device_one number (ops ∷ scripts) [] = inr (compositor_device ended held, tt)
  device_one number (ops ∷ scripts) (app ∷ apps) = inl (part_other Device number ops app refl, device_one (number + 1) scripts apps)

  compositor_one : (number : ℕ) (scripts : List (List Op)) (apps : List AppState) → IsOne Compositor (script_parts number scripts apps ++ last_two)
  compositor_one number [] apps = inl (device_compositor device, inr tt)
  compositor_one number (ops ∷ scripts) [] = inl (device_compositor device, inr tt)
  compositor_one number (ops ∷ scripts) (app ∷ apps) = inl (part_other Compositor number ops app refl, compositor_one (number + 1) scripts apps)

-- an application's own part
own_at : (own number place : ℕ) (scripts : List (List Op)) (apps : List AppState) → own ≡ number + place → place < length (script_parts number scripts apps)
    → of_parts (App own) (script_parts number scripts apps) ≡ get_or (script_parts number scripts apps) place []
own_at own number place [] apps is within = let no : ⊥ = omega (arith, within) in absurd no
own_at own number place (ops ∷ scripts) [] is within = let no : ⊥ = omega (arith, within) in absurd no
own_at own number zero (ops ∷ scripts) (app ∷ apps) is within =
    let same : own ≡ number = omega (arith, is) in
    let others : of_parts (App own) (script_parts (number + 1) scripts apps) ≡ [] = none_of (App own) (script_parts (number + 1) scripts apps) (scripts_none (App own) (number + 1) scripts apps (λ n least. other_app own n (λ equal. omega (arith, least, is, equal)))) in
    agendas-append (App own) (script_part number ops app) (joined (script_parts (number + 1) scripts apps)) ∙ rw (others, same, part_own number ops app) (append-nil (script_part number ops app))
own_at own number (suc place) (ops ∷ scripts) (app ∷ apps) is within =
    agendas-append (App own) (script_part number ops app) (joined (script_parts (number + 1) scripts apps))
    ∙ rw (part_other (App own) number ops app (other_app own number (λ same. omega (arith, is, same)))) (own_at own (number + 1) place scripts apps (omega (arith, is)) (omega (arith, within)))

-- ---- who is left

module _ (scenario : Scenario) (s : State) (run : RunState) (rest : List DeviceEvent) (all : AreAll scenario run) (turn : ℕ) where
  abbrev holds : ℕ
  holds = length s.cells.held

  abbrev scripts : List (List Agenda)
  scripts = script_parts 1 scenario.scripts run.apps

  abbrev device : List DeviceEvent
  device = pending_list run.side.pending ++ rest

  abbrev two : List (List Agenda)
  two = device_agendas device ∷ compositor_part run.compositor.ended holds ∷ []

  abbrev left : List Agenda
  left = joined (from_turn turn (scripts ++ two))

  count : length scripts ≡ length scenario.scripts
  count = length-script_parts 1 scenario.scripts run.apps all

  app_left : (place : ℕ) → place < length scenario.scripts → agendas_of (App (suc place)) left ≡ get_or scripts place []
  app_left place within =
      let size = count in
      any_turn (App (suc place)) turn (scripts ++ two) (app_one device run.compositor.ended holds (suc place) 1 place scenario.scripts run.apps (omega arith)) ∙ of_parts-append (App (suc place)) scripts two
      ∙ rw (none_of (App (suc place)) two (device_app (suc place) device, (compositor_app (suc place) run.compositor.ended holds, tt)))
      (append-nil (of_parts (App (suc place)) scripts) ∙ own_at (suc place) 1 place scenario.scripts run.apps (omega arith) (omega (arith, within, size)))

  scripts_left : (n : ℕ) → n ≤ length scenario.scripts → scripts_to n left ≡ joined (take n scripts)
  scripts_left zero few = refl
  scripts_left (suc n) few =
      let size = count in
      rw (scripts_left n (omega (arith, few)), app_left n (omega (arith, few)))
      (sym (joined-snoc (take n scripts) (get_or scripts n [])) ∙ ap joined (sym (take_more scripts n [] (omega (arith, few, size))) ∙ ap (λ (m : ℕ). take m scripts) (add-one n)))

  device_left : agendas_of Device left ≡ device_agendas device
  device_left =
      any_turn Device turn (scripts ++ two) (device_one device run.compositor.ended holds 1 scenario.scripts run.apps) ∙ of_parts-append Device scripts two
      ∙ rw (none_of Device scripts (scripts_none Device 1 scenario.scripts run.apps (λ n least. refl)))
      (agendas-append Device (device_agendas device) (compositor_part run.compositor.ended holds ++ []) ∙ rw (append-nil (compositor_part run.compositor.ended holds), device_own device, compositor_device run.compositor.ended holds) (append-nil (device_agendas device)))

  compositor_left : agendas_of Compositor left ≡ compositor_part run.compositor.ended holds
  compositor_left =
      any_turn Compositor turn (scripts ++ two) (compositor_one device run.compositor.ended holds 1 scenario.scripts run.apps) ∙ of_parts-append Compositor scripts two
      ∙ rw (none_of Compositor scripts (scripts_none Compositor 1 scenario.scripts run.apps (λ n least. refl)))
      (agendas-append Compositor (device_agendas device) (compositor_part run.compositor.ended holds ++ []) ∙ rw (append-nil (compositor_part run.compositor.ended holds), device_compositor device, compositor_own run.compositor.ended holds) refl)

  -- in the order of a round
  pub in_round_is : in_round (length scenario.scripts) left ≡ joined scripts ++ device_part run.side.pending rest ++ compositor_part run.compositor.ended holds
  in_round_is =
      let size = count in
      rw (scripts_left (length scenario.scripts) (omega arith), device_left, compositor_left) (ap (λ (l : List (List Agenda)). joined l ++ device_agendas device ++ compositor_part run.compositor.ended holds) (take_all (length scenario.scripts) scripts (omega (arith, size))))

  -- ---- nobody can

  held_front : (xs ys : List Agenda) → AreHeldBack s (xs ++ ys) → AreHeldBack s xs
  held_front [] ys held = tt
  held_front (x ∷ xs) ys held = (held.0, held_front xs ys held.1)

  held_behind : (xs ys : List Agenda) → AreHeldBack s (xs ++ ys) → AreHeldBack s ys
  held_behind [] ys held = held
  held_behind (x ∷ xs) ys held = held_behind xs ys held.1

  -- the device among them
  pub device_held : AreHeldBack s left → AreHeldBack s (device_agendas device)
  device_held held =
      let parts : List (List Agenda) = scripts ++ two in
      let apart : AreHeldBack s (joined (drop turn parts) ++ joined (take turn parts)) = subst (AreHeldBack s) (joined-append (drop turn parts) (take turn parts)) held in
      let again : AreHeldBack s (joined (take turn parts) ++ joined (drop turn parts)) =
      held_append s (joined (take turn parts)) (joined (drop turn parts)) (held_behind (joined (drop turn parts)) (joined (take turn parts)) apart) (held_front (joined (drop turn parts)) (joined (take turn parts)) apart) in
      let all_of_them : AreHeldBack s (joined scripts ++ joined two) =
      subst (AreHeldBack s) (sym (joined-append (take turn parts) (drop turn parts)) ∙ ap joined (take-append-drop turn parts) ∙ joined-append scripts two) again in
      held_front (device_agendas device) (compositor_part run.compositor.ended holds ++ []) (held_behind (joined scripts) (joined two) all_of_them)
