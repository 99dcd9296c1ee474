-- What has been of a run: one past, legal and the round robin's, in which each actor made its calls.
use Rattle.std.specs.Prelude.{◌≡◌, ℕ, ℤ, Bool, true, List, [], ◌++◌}
use Rattle.xr_types.specs.declared.calls.Actor.{Actor}
use Rattle.xr_types.specs.declared.device.DeviceEvent.{DeviceEvent}
use Rattle.xr_types.specs.declared.scenario.Scenario.{Scenario}
use Rattle.xr_model.specs.machine.Calls.{Entry, Exchange}
use Rattle.xr_model.specs.machine.State.{State, opening}
use Rattle.xr_model.specs.machine.History.{opening_clocks, IsLegalFrom, calls_from}
use Rattle.xr_model.specs.runs.Robin.{Agenda, first_agendas, IsRobinFrom, agendas_left}
use Rattle.xr_model.specs.runs.Lists.{done_from}
use Rattle.xr_serial.specs.inside.Turns.{from_turn, IsTurnOrder}
use Rattle.xr_runs.specs.Runs.{settings_of}

-- What was made: each actor's calls, the clock after each application's last locked one, and for each image that was given back
-- how many locked calls came before it.
pub record Trace : Type 0 where
  pub calls : Actor → List Exchange
  pub clocks : List ℤ
  pub done : List ℕ

-- what may come of a device; nothing does where it has ended
abbrev pub IsRest : Bool → List DeviceEvent → Type 0
IsRest over rest = over ≡ true → rest ≡ []

-- Behind a past, in this state, the device has told these events so far. Whatever legal, round-robin calls come next, they
-- continue a past that was both, and in which this was made. The unfinished actors stand as the agendas say, by what may still
-- come of the device.
pub record Past (scenario : Scenario) (s : State) (over : Bool) (begun : List DeviceEvent) (trace : Trace) : Type 0 where
  pub past : List Entry
  pub agendas : List DeviceEvent → List Agenda
  pub legal : (more : List Entry) → IsLegalFrom s trace.clocks more → IsLegalFrom (opening (settings_of scenario)) (opening_clocks (settings_of scenario)) (past ++ more)
  pub robin : (rest : List DeviceEvent) → IsRest over rest → (more : List Entry) → IsRobinFrom s (agendas rest) more → IsRobinFrom (opening (settings_of scenario)) (first_agendas scenario (begun ++ rest)) (past ++ more)
  pub left : (rest : List DeviceEvent) → IsRest over rest → (more : List Entry) → agendas_left (opening (settings_of scenario)) (first_agendas scenario (begun ++ rest)) (past ++ more) ≡ agendas_left s (agendas rest) more
  pub made : (who : Actor) (more : List Entry) → calls_from (opening (settings_of scenario)) who (past ++ more) ≡ trace.calls who ++ calls_from s who more
  pub done : (more : List Entry) → done_from (opening (settings_of scenario)) (past ++ more) ≡ trace.done ++ done_from s more

-- The same in this turn, behind so many turns that made no call, where the actors have these parts left.
pub record Standing (scenario : Scenario) (turn idle : ℕ) (s : State) (over : Bool) (begun : List DeviceEvent) (parts : List DeviceEvent → List (List Agenda)) (trace : Trace) : Type 0 where
  pub so_far : Past scenario s over begun trace
  pub order : (rest : List DeviceEvent) → IsRest over rest → IsTurnOrder s idle (from_turn turn (parts rest)) (so_far.agendas rest)
