-- Where nobody can go on, what was made is a whole run, or one that is stuck.
use Rattle.std.proofs.Common.{◌≡◌, ◌+◌, ◌<◌, ◌≤◌, ℕ, ℤ, zero, suc, pos, Bool, true, false, List, [], ◌∷◌, ◌++◌, length, map, drop, take, get_or, Option, Some, None, refl, sym, ap, subst, ◌∙◌, arith, append_assoc, append-nil, length-append, true≢false, add-one}
use Rattle.std.specs.List.{list_any}
use Rattle.std.proofs.lemmas.Bool.{or_parts}
use Rattle.std.proofs.lemmas.List.Folds.{list_any-append}
use Rattle.std.proofs.lemmas.List.{map-append, map_more, take_all, take-append-drop}
use Rattle.xr_types.specs.declared.calls.Actor.{Actor}
use Rattle.xr_types.specs.declared.calls.Actor.TheVariants.{App, Compositor, Device}
use Rattle.xr_types.specs.declared.calls.Reply.{Reply}
use Rattle.xr_types.specs.declared.device.DeviceEvent.{DeviceEvent}
use Rattle.xr_types.specs.declared.device.DeviceEvent.TheVariants as event
use Rattle.xr_types.specs.declared.made.Waiting.{Waiting}
use Rattle.xr_types.specs.declared.scenario.Op.{Op}
use Rattle.xr_types.specs.declared.scenario.Scenario.{Scenario}
use Rattle.xr_io.specs.Outside.{Rose}
use Rattle.xr_model.specs.machine.Calls.{Entry, Outcome, is_actor, Exchange}
use Rattle.xr_types.specs.declared.calls.Call.TheVariants as ask
use Rattle.xr_model.specs.machine.State.{State, opening}
use Rattle.xr_model.specs.machine.History.{calls_of, IsLegal}
use Rattle.xr_model.specs.runs.Scripts.{FollowsSoFar}
use Rattle.xr_model.specs.runs.Robin.{Agenda, script, events, compositor, actor_of, next_call, NextMove, next_move, IsCallOf, agendas_behind, is_ended, device_calls, first_agendas, IsRobinFrom, agendas_left, in_round}
use Rattle.xr_types.specs.declared.calls.Gives.TheVariants.{Ended}
use Rattle.xr_types.specs.declared.frames.Shown.{Shown}
use Rattle.xr_model.specs.laws.FrameLaws.{shown_from}
use Rattle.xr_model.specs.laws.MomentLaws.{are_by_callers}
use Rattle.xr_model.specs.machine.Machine.{step}
use Rattle.xr_model.specs.report.RunEnding.{is_fault}
use Rattle.xr_model.specs.runs.Lists.{end_of, done_from, frames_in, events_in, lists_to, lists_of, made_from, waiting_of}
use Rattle.xr_serial.specs.Ran.{Ran}
use Rattle.xr_serial.specs.inside.RunState.{AppState, RunState}
use Rattle.xr_device.specs.Prospect.{Prospect}
use Rattle.xr_serial.specs.inside.Turns.{script_part, script_parts, device_part, compositor_part, parts_of, actors_of, from_turn, joined, AreHeldBack}
use Rattle.xr_serial.specs.inside.PastOfRun.{IsRest}
use Rattle.xr_serial.specs.inside.RunInvariant.{AppKept, EndKept, events_told, RunInvariant}
use Rattle.xr_serial.specs.inside.AtEnd.{app_next, apps_next, next_name, next_calls, lists_at}
use Rattle.xr_serial.proofs.TurnOrder.{none_turn, all_held}
use Rattle.xr_serial.proofs.ActorParts.{AreAll, parts_count}
use Rattle.xr_serial.proofs.Callers.{robin_by_callers}
use Rattle.xr_serial.proofs.Ops.{name_is}
use Rattle.xr_serial.proofs.AppTurns.{all_of}
use Rattle.xr_serial.proofs.Ending.{Gives, gives, events_sound, in_round_is, device_held}
use Rattle.xr_runs.specs.Sides.{exchange_of, pending_list, AllGoOn}
use Rattle.xr_runs.specs.Runs.{settings_of, OfEachScript, GoesOn, a_frame, an_image, IsEnd, IsWhole, FailsBehind}
use Rattle.xr_runs.proofs.FramesOfRuns.{all_shown, all_submitted}
use Rattle.xr_runs.proofs.Failing.{fails_behind}

filled : (w : Waiting) (ws : List Waiting) → w ∷ ws ≡ [] → ⊥
filled w ws h = cc

-- ---- an application

follows_so_far : (ops : List Op) (app : AppState) (calls : List Exchange) → AppKept ops app calls → FollowsSoFar ops calls
follows_so_far ops app calls kept = by app.has_left refl
  where
    by : (left : Bool) → app.has_left ≡ left → FollowsSoFar ops calls
    by true e = kept.whole false e
    by false e = subst (FollowsSoFar ops) (append-nil calls) (kept.follows false [] e refl)

-- ---- the compositor

-- behind such a call it isn't told the end
not_the_end : (t : Exchange) → GoesOn t → is_ended t.outcome.reply.gives ≡ false
not_the_end t (a_frame is gives) = rw gives refl
not_the_end t (an_image is good gives) = rw gives refl

none_ended : (calls : List Exchange) → AllGoOn calls → end_of calls ≡ None
none_ended [] were = refl
none_ended (t ∷ calls) were = rw (not_the_end t were.0) (none_ended calls were.1)

last_ended : (front : List Exchange) (last : Outcome) → AllGoOn front → last.reply.gives ≡ Ended → end_of (front ++ exchange_of ask.NextFrame last ∷ []) ≡ Some last.reply
last_ended [] last were ends = rw ends refl
last_ended (t ∷ front) last were ends = rw (not_the_end t were.0) (last_ended front last were.1 ends)

ends_so : (ended : Option Reply) (calls : List Exchange) → EndKept ended calls → end_of calls ≡ ended
ends_so None calls were = none_ended calls were
ends_so (Some reply) calls end = rw end.2 (last_ended end.0 end.1 end.3 (ap (λ (r : Reply). r.gives) end.4 ∙ end.5) ∙ ap Some end.4)

ends_last : (front : List Exchange) (last : Outcome) → AllGoOn front → last.reply.gives ≡ Ended → IsEnd (front ++ exchange_of ask.NextFrame last ∷ [])
ends_last [] last were ends = (refl, ends)
ends_last (t ∷ []) last were ends = (were.0, (refl, ends))
ends_last (t ∷ u ∷ front) last were ends = (were.0, ends_last (u ∷ front) last were.1 ends)

ends_once : (ended : Option Reply) (calls : List Exchange) → EndKept ended calls → map waiting_of (compositor_part ended 0) ≡ [] → IsEnd calls
ends_once None calls none h = absurd (filled _ [] h)
ends_once (Some reply) calls end none = rw end.2 (ends_last end.0 end.1 end.3 (ap (λ (r : Reply). r.gives) end.4 ∙ end.5))

-- ---- those left

-- what is told of an application doesn't tell its clock
script_waits : (number place : ℕ) (ops : List Op) (values : List ℕ) (clock : ℤ) → waiting_of (script number place ops values clock) ≡ record { actor = App number; op = place; name = next_name ops }
script_waits number place [] values clock = refl
script_waits number place (o ∷ os) values clock = rw (name_is clock values o) refl

part_waits : (number : ℕ) (ops : List Op) (app : AppState) → map waiting_of (script_part number ops app) ≡ app_next number ops app
part_waits number ops app = by app.has_left refl
  where
    by : (left : Bool) → app.has_left ≡ left → map waiting_of (script_part number ops app) ≡ app_next number ops app
    by true e = rw e refl
    by false e = rw e (ap (λ (w : Waiting). w ∷ []) (script_waits number (app.made + 1) (drop app.made ops) app.names app.clock))

parts_wait : (number : ℕ) (scripts : List (List Op)) (apps : List AppState) → length apps ≡ length scripts → map waiting_of (joined (script_parts number scripts apps)) ≡ apps_next number scripts apps
parts_wait number [] apps a = refl
parts_wait number (ops ∷ scripts) [] a = refl
parts_wait number (ops ∷ scripts) (app ∷ apps) a =
    map-append waiting_of (script_part number ops app) (joined (script_parts (number + 1) scripts apps))
    ∙ rw (part_waits number ops app, parts_wait (number + 1) scripts apps (omega (arith, a))) refl

-- nor how many images the compositor holds
end_waits : (ended : Option Reply) (held : ℕ) → map waiting_of (compositor_part ended held) ≡ map waiting_of (compositor_part ended 0)
end_waits None held = refl
end_waits (Some reply) held = refl

-- what is still to come of a device is behind its next event
device_waits : (over : Bool) (pending : Option DeviceEvent) (rest : List DeviceEvent) → IsRest over rest → (pending ≡ None → over ≡ true) → map waiting_of (device_part pending rest) ≡ map waiting_of (device_part pending [])
device_waits over None rest ok known = rw (ok (known refl)) refl
device_waits over (Some e) rest ok known = refl

-- ---- where nobody is left

front_none : (xs ys : List Waiting) → xs ++ ys ≡ [] → xs ≡ []
front_none [] ys is = refl
front_none (x ∷ xs) ys is = absurd (filled x (xs ++ ys) is)

behind_none : (xs ys : List Waiting) → xs ++ ys ≡ [] → ys ≡ []
behind_none [] ys is = is
behind_none (x ∷ xs) ys is = absurd (filled x (xs ++ ys) is)

app_gone : (number : ℕ) (ops : List Op) (app : AppState) → app_next number ops app ≡ [] → app.has_left ≡ true
app_gone number ops app none = by app.has_left refl
  where
    by : (left : Bool) → app.has_left ≡ left → app.has_left ≡ true
    by true e = e
    by false e = absurd (filled _ [] (sym (part_next e) ∙ none))
      where
        part_next : app.has_left ≡ false → app_next number ops app ≡ record { actor = App number; op = app.made + 1; name = next_name (drop app.made ops) } ∷ []
        part_next e = rw e refl

all_gone : (number : ℕ) (scripts : List (List Op)) (apps : List AppState) (place : ℕ) (none : AppState) → length apps ≡ length scripts → apps_next number scripts apps ≡ [] → place < length scripts → (get_or apps place none).has_left ≡ true
all_gone number [] apps place none a is within = let no : ⊥ = omega (arith, within) in absurd no
all_gone number (ops ∷ scripts) [] place none a is within = let no : ⊥ = omega (arith, a) in absurd no
all_gone number (ops ∷ scripts) (app ∷ apps) zero none a is within = app_gone number ops app (front_none (app_next number ops app) (apps_next (number + 1) scripts apps) is)
all_gone number (ops ∷ scripts) (app ∷ apps) (suc place) none a is within =
    all_gone (number + 1) scripts apps place none (omega (arith, a)) (behind_none (app_next number ops app) (apps_next (number + 1) scripts apps) is) (omega (arith, within))

no_pending : (pending : Option DeviceEvent) → map waiting_of (device_part pending []) ≡ [] → pending ≡ None
no_pending None h = refl
no_pending (Some e) h = absurd (filled _ _ h)

pending_faultless : (pending : Option DeviceEvent) → (pending ≡ Some event.Fault → ⊥) → list_any is_fault (pending_list pending) ≡ false
pending_faultless None none = refl
pending_faultless (Some event.Fault) none = absurd (none refl)
pending_faultless (Some _) none = refl

-- from any turn on there are as many
as_many : (turn : ℕ) (parts : List (List Agenda)) → length (from_turn turn parts) ≡ length parts
as_many turn parts =
    let sum : length (take turn parts ++ drop turn parts) ≡ length (take turn parts) + length (drop turn parts) = length-append (take turn parts) (drop turn parts) in
    let back : length (drop turn parts ++ take turn parts) ≡ length (drop turn parts) + length (take turn parts) = length-append (drop turn parts) (take turn parts) in
    let whole : length (take turn parts ++ drop turn parts) ≡ length parts = ap length (take-append-drop turn parts) in
    omega (arith, sum, back, whole)

-- ---- the run

abbrev nobody : AppState
nobody = record { made = 0; names = []; calls = []; clock = pos 0; has_left = false }

module _ (scenario : Scenario) (turn : ℕ) (s : State) (run : RunState) (start now : Prospect) (inv : RunInvariant scenario turn (actors_of scenario) s run start now) (within : turn < actors_of scenario) where
  abbrev device : Gives run.side (inv.calls Device) start now
  device = gives run.side (inv.calls Device) start now inv.kept.device

  abbrev history : List Entry
  history = inv.standing.so_far.past ++ []

  calls_are : (who : Actor) → calls_of (settings_of scenario) who history ≡ inv.calls who
  calls_are who = inv.standing.so_far.made who [] ∙ append-nil (inv.calls who)

  all : AreAll scenario run
  all = all_of scenario s run inv.calls start now inv.kept

  abbrev left : List DeviceEvent → List Agenda
  left rest = joined (from_turn turn (parts_of scenario s run rest))

  abbrev calls : List DeviceEvent
  calls = device_calls device.events device.ending

  stands : (rest : List DeviceEvent) → IsRest run.side.over rest → (inv.standing.so_far.agendas rest ≡ left rest) × AreHeldBack s (left rest)
  stands rest ok =
      let size : length (parts_of scenario s run rest) ≡ actors_of scenario = parts_count scenario s run rest all in
      let from : length (from_turn turn (parts_of scenario s run rest)) ≡ length (parts_of scenario s run rest) = as_many turn (parts_of scenario s run rest) in
      all_held s (actors_of scenario) (from_turn turn (parts_of scenario s run rest)) (inv.standing.so_far.agendas rest) (omega (arith, size, from)) (inv.standing.order rest ok)

  -- a device of which more may come is asked for it, since it could tell what can be made at once
  known : run.side.pending ≡ None → run.side.over ≡ true
  known none = by run.side.over refl
    where
      by : (over : Bool) → run.side.over ≡ over → run.side.over ≡ true
      by true e = e
      by false e =
          let rest : List DeviceEvent = event.Clock (pos 0) ∷ [] in
          let ok : IsRest run.side.over rest = λ over. absurd (true≢false (sym over ∙ e)) in
          let held : AreHeldBack s (device_part run.side.pending rest) = device_held scenario s run rest all turn (stands rest ok).1 in
          let can : AreHeldBack s (device_part None rest) = subst (λ (p : Option DeviceEvent). AreHeldBack s (device_part p rest)) none held in
          absurd (true≢false can.0)

  robin : IsRobinFrom (opening (settings_of scenario)) (first_agendas scenario calls) history
  robin =
      let here = stands device.rest device.none in
      subst (λ (c : List DeviceEvent). IsRobinFrom (opening (settings_of scenario)) (first_agendas scenario c) history) (sym device.calls_are)
      (inv.standing.so_far.robin device.rest device.none [] (rw here.0 (none_turn s [] (left device.rest) here.1)))

  left_are : agendas_left (opening (settings_of scenario)) (first_agendas scenario calls) history ≡ left device.rest
  left_are =
      subst (λ (c : List DeviceEvent). agendas_left (opening (settings_of scenario)) (first_agendas scenario c) history ≡ left device.rest) (sym device.calls_are)
      (inv.standing.so_far.left device.rest device.none [] ∙ (stands device.rest device.none).0)

  next_are : map waiting_of (in_round (length scenario.scripts) (agendas_left (opening (settings_of scenario)) (first_agendas scenario calls) history)) ≡ next_calls scenario run
  next_are =
      let scripts : List Agenda = joined (script_parts 1 scenario.scripts run.apps) in
      let part : List Agenda = device_part run.side.pending device.rest in
      let ends : List Agenda = compositor_part run.compositor.ended (length s.cells.held) in
      ap (λ (l : List Agenda). map waiting_of (in_round (length scenario.scripts) l)) left_are ∙ ap (map waiting_of) (in_round_is scenario s run device.rest all turn)
      ∙ map-append waiting_of (scripts ++ part) ends ∙ ap (λ (l : List Waiting). l ++ map waiting_of ends) (map-append waiting_of scripts part)
      ∙ rw (parts_wait 1 scenario.scripts run.apps all, end_waits run.compositor.ended (length s.cells.held), device_waits run.side.over run.side.pending device.rest device.none known) refl

  kept_at : (place : ℕ) → place < length scenario.scripts → AppKept (get_or scenario.scripts place []) (get_or run.apps place nobody) (inv.calls (App (place + 1)))
  kept_at place within = inv.kept.apps.each place nobody within

  apps_are : (n : ℕ) → n ≤ length scenario.scripts → lists_to (settings_of scenario) n history ≡ map (λ (app : AppState). app.calls) (take n run.apps)
  apps_are zero few = refl
  apps_are (suc n) few =
      let size = all in
      let one : made_from 1 (calls_of (settings_of scenario) (App (suc n)) history) ≡ (get_or run.apps n nobody).calls = ap (made_from 1) (calls_are (App (suc n))) ∙ ap (λ (m : ℕ). made_from 1 (inv.calls (App m))) (sym (add-one n)) ∙ sym (kept_at n (omega (arith, few))).list_is in
      rw (apps_are n (omega (arith, few)), one) (sym (map_more (λ (app : AppState). app.calls) run.apps n nobody (omega (arith, few, size))) ∙ ap (λ (m : ℕ). map (λ (app : AppState). app.calls) (take m run.apps)) (add-one n))

  all_apps : lists_to (settings_of scenario) (length scenario.scripts) history ≡ map (λ (app : AppState). app.calls) run.apps
  all_apps = let size = all in apps_are (length scenario.scripts) (omega arith) ∙ ap (map (λ (app : AppState). app.calls)) (take_all (length scenario.scripts) run.apps (omega (arith, size)))

  done_are : done_from (opening (settings_of scenario)) history ≡ run.compositor.done
  done_are = inv.standing.so_far.done [] ∙ append-nil run.compositor.done

  lists_are : lists_at scenario run ≡ lists_of (settings_of scenario) history (agendas_left (opening (settings_of scenario)) (first_agendas scenario calls) history)
  lists_are = rw (next_are, all_apps, calls_are Device, calls_are Compositor, ← inv.kept.device.list_is, ← inv.kept.device.events_are, ends_so run.compositor.ended (inv.calls Compositor) inv.kept.compositor.end, ← inv.kept.compositor.frames_are, ← inv.kept.compositor.replies_are, done_are) refl

  follow_so_far : OfEachScript scenario history FollowsSoFar
  follow_so_far place within = rw (calls_are (App (place + 1))) (follows_so_far (get_or scenario.scripts place []) (get_or run.apps place nobody) (inv.calls (App (place + 1))) (kept_at place within))

  whole : next_calls scenario run ≡ [] → IsWhole scenario device.events device.ending history
  whole none =
      let apps : List Waiting = apps_next 1 scenario.scripts run.apps in
      let told : List Waiting = map waiting_of (device_part run.side.pending []) in
      let ends : List Waiting = map waiting_of (compositor_part run.compositor.ended 0) in
      let both : apps ++ told ≡ [] = front_none (apps ++ told) ends none in
      let unknown : run.side.pending ≡ None = no_pending run.side.pending (behind_none apps told both) in
      record {
        follow = λ place within. rw (calls_are (App (place + 1))) ((kept_at place within).whole true (all_gone 1 scenario.scripts run.apps place nobody all (front_none apps told both) within));
        ends = rw (calls_are Compositor) (ends_once run.compositor.ended (inv.calls Compositor) inv.kept.compositor.end (behind_none (apps ++ told) ends none));
        device =
            ap events_in (calls_are Device)
            ∙ sym
            (device.calls_are ∙ ap (λ (l : List DeviceEvent). events_told run.side (inv.calls Device) ++ l) (device.none (known unknown)) ∙ append-nil (events_told run.side (inv.calls Device))
            ∙ ap (λ (p : Option DeviceEvent). events_in (inv.calls Device) ++ pending_list p) unknown ∙ append-nil (events_in (inv.calls Device)));
      }

  legal : IsLegal (settings_of scenario) history
  legal = inv.standing.so_far.legal [] tt

  own : are_by_callers history ≡ true
  own = robin_by_callers (opening (settings_of scenario)) (first_agendas scenario calls) history robin

  shown : run.compositor.frames ≡ shown_from (opening (settings_of scenario)) history
  shown = inv.kept.compositor.frames_are ∙ ap frames_in (sym (calls_are Compositor)) ∙ all_shown (opening (settings_of scenario)) history own

  ran_so : Ran scenario start.remaining device.count (lists_at scenario run)
  ran_so = record {
    history = history;
    events = device.events;
    ending = device.ending;
    gave = device.gave;
    sound = events_sound run.side (inv.calls Device) start now inv.kept.device;
    legal = legal;
    robin = robin;
    follow = follow_so_far;
    device = (pending_list run.side.pending ++ device.rest, rw (calls_are Device) (device.calls_are ∙ append_assoc (events_in (inv.calls Device)) (pending_list run.side.pending) device.rest));
    whole = whole;
    shown = shown;
    submitted = λ none. shown ∙ all_submitted (settings_of scenario) history legal own (whole none).ends;
    made = lists_are;
  }

  pub ran : (count : ℕ) × (now.given ≡ start.given + count) × Ran scenario start.remaining count (lists_at scenario run)
  ran = (device.count, device.counted, ran_so)

  pub fault : list_any is_fault run.side.events ≡ true → Rose start.faults now.faults
  fault h = device.fault (subst (λ (l : List DeviceEvent). list_any is_fault l ≡ true) inv.kept.device.events_are h)

  pub failed : list_any is_fault run.side.events ≡ true → FailsBehind start now run.side.events
  failed h = fails_behind run.side (inv.calls Device) start now inv.kept.device h

  -- a fault is never left, since its call can always be made
  no_fault_left : run.side.pending ≡ Some event.Fault → ⊥
  no_fault_left is =
      let held : AreHeldBack s (device_part run.side.pending device.rest) = device_held scenario s run device.rest all turn (stands device.rest device.none).1 in
      let can : AreHeldBack s (device_part (Some event.Fault) device.rest) = subst (λ (p : Option DeviceEvent). AreHeldBack s (device_part p device.rest)) is held in
      true≢false can.0

  pub unfailed : list_any is_fault run.side.events ≡ false → now.faults ≡ start.faults
  unfailed h =
      let d = inv.kept.device in
      let made : list_any is_fault (events_in (inv.calls Device)) ≡ false = subst (λ (l : List DeviceEvent). list_any is_fault l ≡ false) d.events_are h in
      let all_made : list_any is_fault (d.given ++ d.closing) ≡ false =
      ap (list_any is_fault) d.begun ∙ list_any-append is_fault (events_in (inv.calls Device)) (pending_list run.side.pending) ∙ rw (made, pending_faultless run.side.pending no_fault_left) refl in
      d.unfailed (or_parts (list_any is_fault d.given) (list_any is_fault d.closing) (sym (list_any-append is_fault d.given d.closing) ∙ all_made)).1
