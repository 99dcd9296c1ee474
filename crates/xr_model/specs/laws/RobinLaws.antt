-- The round robin: rounds in which each actor has one turn, nobody who can go on is passed over, and what the compositor does in its turns.
use Rattle.std.specs.Prelude.{◌≡◌, ◌≤◌, ◌&&◌, Bool, true, false, List, [], ◌∷◌, ◌++◌, map}
use Rattle.std.specs.List.{list_any, list_all}
use Rattle.xr_types.specs.declared.calls.Actor.{Actor}
use Rattle.xr_types.specs.declared.calls.Actor.TheVariants.{Compositor}
use Rattle.xr_types.specs.declared.device.DeviceEvent.{DeviceEvent}
use Rattle.xr_types.specs.declared.frames.Image.{Image}
use Rattle.xr_types.specs.declared.scenario.Scenario.{Scenario}
use Rattle.xr_model.specs.machine.Calls.{Entry, is_actor}
use Rattle.xr_types.specs.declared.calls.Call.{Call}
use Rattle.xr_types.specs.declared.calls.Call.TheVariants as ask
use Rattle.xr_model.specs.machine.State.{Settings, opening}
use Rattle.xr_model.specs.machine.History.{after}
use Rattle.xr_model.specs.runs.Robin.{Agenda, actor_of, is_next_ready, first_agendas, agendas_left, IsRobin}
use Rattle.xr_model.specs.laws.RunLaws.{is_unfinished, has_turns, turns_of, count_of, comes_before}

-- ---- rounds

-- each of these comes before all that stand behind it, so each stands once
abbrev pub is_in_order : List Actor → Bool
is_in_order [] = true
is_in_order (x ∷ xs) = list_all (comes_before x) xs && is_in_order xs

-- These stand in the order of a round that goes on: those behind some place, and then those in front of it, are in order.
pub record StandInRound (actors : List Actor) : Type 0 where
  pub front : List Actor
  pub back : List Actor
  pub stand : actors ≡ front ++ back
  pub order : is_in_order (back ++ front) ≡ true

-- the actors that have further turns, in the order of their turns
abbrev pub turns_to_come : Settings → Scenario → List DeviceEvent → List Entry → List Actor
turns_to_come settings scenario calls es = map actor_of (agendas_left (opening settings) (first_agendas scenario calls) es)

-- At each place of a run the turns to come go round: the scripts in order, the device and the compositor, each once.
abbrev pub TurnsGoRound : Type 0
TurnsGoRound =
    (settings : Settings) (scenario : Scenario) (calls : List DeviceEvent) (es fs : List Entry) → IsRobin settings scenario calls (es ++ fs)
    → StandInRound (turns_to_come settings scenario calls es)

-- another actor has at most one of these turns, and exactly one where it is unfinished
pub record HasOneTurn (settings : Settings) (scenario : Scenario) (calls : List DeviceEvent) (es : List Entry) (turns : List Actor) (who : Actor) : Type 0 where
  pub most : count_of who turns ≤ 1
  pub least : is_unfinished settings scenario calls es who ≡ true → count_of who turns ≡ 1

-- Between two turns of an actor no other has two, also where one of them has finished since.
abbrev pub NobodyHasTwoTurns : Type 0
NobodyHasTwoTurns =
    (settings : Settings) (scenario : Scenario) (calls : List DeviceEvent) (es fs : List Entry) → IsRobin settings scenario calls (es ++ fs)
    → (a : Actor) (before mid later : List Actor) → turns_of settings scenario calls es ≡ before ++ (a ∷ (mid ++ (a ∷ later))) → count_of a mid ≡ 0
    → (b : Actor) → is_actor b a ≡ false → HasOneTurn settings scenario calls es mid b

-- ---- who is passed over

-- Where an actor's next call is ready, the call that is made next is its own, or that of one whose turn comes before its.
abbrev pub NobodyReadyIsPassedOver : Type 0
NobodyReadyIsPassedOver =
    (settings : Settings) (scenario : Scenario) (calls : List DeviceEvent) (es fs : List Entry) (e : Entry) → IsRobin settings scenario calls (es ++ e ∷ fs)
    → (before behind : List Agenda) (x : Agenda) → agendas_left (opening settings) (first_agendas scenario calls) es ≡ before ++ x ∷ behind
    → is_next_ready (after (opening settings) es) x ≡ true → has_turns (before ++ x ∷ []) e.actor ≡ true

-- So a run ends only where nobody can go on.
abbrev pub RunsEndWhereNobodyIsReady : Type 0
RunsEndWhereNobodyIsReady =
    (settings : Settings) (scenario : Scenario) (calls : List DeviceEvent) (es : List Entry) → IsRobin settings scenario calls es
    → list_any (is_next_ready (after (opening settings) es)) (agendas_left (opening settings) (first_agendas scenario calls) es) ≡ false

-- ---- the compositor's turns

-- the call of a compositor that holds these images
abbrev pub call_holding : List Image → Call
call_holding [] = ask.NextFrame
call_holding (i ∷ held) = ask.ImageDone

-- In a run the compositor gives back each image that it holds before it asks for the next frame.
abbrev pub ImagesAreGivenBackFirst : Type 0
ImagesAreGivenBackFirst =
    (settings : Settings) (scenario : Scenario) (calls : List DeviceEvent) (es fs : List Entry) (e : Entry) → IsRobin settings scenario calls (es ++ e ∷ fs)
    → e.actor ≡ Compositor → e.call ≡ call_holding (after (opening settings) es).cells.held
