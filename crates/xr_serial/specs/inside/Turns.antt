-- What each actor has still to do, and in which order the agendas stand from turn to turn.
use Rattle.std.specs.Prelude.{◌≡◌, ℕ, ◌+◌, false, nat_lt, List, [], ◌∷◌, ◌++◌, length, drop, take, Option, Some, None, if◌then◌else◌}
use Rattle.std.specs.List.{flat_map}
use Rattle.xr_types.specs.declared.calls.Reply.{Reply}
use Rattle.xr_types.specs.declared.device.DeviceEvent.{DeviceEvent}
use Rattle.xr_types.specs.declared.scenario.Op.{Op}
use Rattle.xr_types.specs.declared.scenario.Scenario.{Scenario}
use Rattle.xr_model.specs.machine.State.{State}
use Rattle.xr_model.specs.runs.Robin.{Agenda, script, compositor, device_agendas, is_next_ready}
use Rattle.xr_serial.specs.inside.RunState.{AppState, RunState}
use Rattle.xr_runs.specs.Sides.{pending_list}

-- ---- what is left of each actor: its agenda, or nothing where it has finished

-- an application of this number, by its script
abbrev pub script_part : ℕ → List Op → AppState → List Agenda
script_part number ops app = if app.has_left then [] else script number (app.made + 1) (drop app.made ops) app.names app.clock ∷ []

-- the applications from this number on
abbrev pub script_parts : ℕ → List (List Op) → List AppState → List (List Agenda)
script_parts number (ops ∷ scripts) (app ∷ apps) = script_part number ops app ∷ script_parts (number + 1) scripts apps
script_parts number _ _ = []

-- a device by its next event, where that is known, and those behind it
abbrev pub device_part : Option DeviceEvent → List DeviceEvent → List Agenda
device_part pending rest = device_agendas (pending_list pending ++ rest)

-- the compositor by the images that it holds, unless it was told the end
abbrev pub compositor_part : Option Reply → ℕ → List Agenda
compositor_part None held = compositor held ∷ []
compositor_part (Some ended) held = []

-- all actors in the order of a round, in this state
abbrev pub parts_of : Scenario → State → RunState → List DeviceEvent → List (List Agenda)
parts_of scenario s run rest =
    script_parts 1 scenario.scripts run.apps ++ device_part run.side.pending rest ∷ compositor_part run.compositor.ended (length s.cells.held) ∷ []

-- ---- turns

-- how many actors there are
abbrev pub actors_of : Scenario → ℕ
actors_of scenario = length scenario.scripts + 2

-- the turn behind this one
abbrev pub turn_behind : ℕ → ℕ → ℕ
turn_behind turn actors = if nat_lt (turn + 1) actors then turn + 1 else 0

-- those behind the actor whose turn it is, round to the one before it
abbrev pub others_of : ℕ → List (List Agenda) → List (List Agenda)
others_of turn parts = drop (turn + 1) parts ++ take turn parts

-- all, from the actor whose turn it is on
abbrev pub from_turn : ℕ → List (List Agenda) → List (List Agenda)
from_turn turn parts = drop turn parts ++ take turn parts

abbrev pub joined : List (List Agenda) → List Agenda
joined parts = flat_map (λ part. part) parts

-- none of these can make its call
abbrev pub AreHeldBack : State → List Agenda → Type 0
AreHeldBack s [] = Unit {0}
AreHeldBack s (x ∷ xs) = (is_next_ready s x ≡ false) × AreHeldBack s xs

-- How the agendas stand in a turn, where so many turns before it made no call: first those that were passed over in these,
-- none of whom can make its call, then those whose turn is to come.
pub record IsTurnOrder (s : State) (idle : ℕ) (order : List (List Agenda)) (agendas : List Agenda) : Type 0 where
  pub coming : List (List Agenda)
  pub passed : List (List Agenda)
  pub order_is : order ≡ coming ++ passed
  pub count : length passed ≡ idle
  pub held : AreHeldBack s (joined passed)
  pub agendas_are : agendas ≡ joined passed ++ joined coming
