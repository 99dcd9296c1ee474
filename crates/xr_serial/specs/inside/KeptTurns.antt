-- That a turn keeps a run: it stands before it as the round robin's run would, and so it does behind it.
use Rattle.std.specs.Prelude.{◌<◌, ◌+◌, ℕ, Bool, if◌then◌else◌}
use Rattle.xr_types.specs.declared.scenario.Scenario.{Scenario}
use Rattle.xr_model.specs.machine.State.{State}
use Rattle.xr_device.specs.Prospect.{Prospect}
use Rattle.xr_serial.specs.inside.RunState.{RunState}
use Rattle.xr_serial.specs.inside.Turns.{actors_of, turn_behind}
use Rattle.xr_serial.specs.inside.RunInvariant.{RunInvariant}
use Rattle.xr_runs.specs.Sides.{SideState}

-- The run stands at this turn: fewer turns than there are actors went by in which no call was made.
abbrev pub StandsAt : Scenario → ℕ → State → RunState → Prospect → Type 0
StandsAt scenario turn s run now = (idle : ℕ) × (start : Prospect) × (idle < actors_of scenario) × RunInvariant scenario turn idle s run start now

-- The turn, in which a call was made or none, leads from here to there and keeps the run.
abbrev pub KeepsTurn : Scenario → ℕ → Bool → State → RunState → Prospect → State → RunState → Prospect → Type 0
KeepsTurn scenario turn went s run now after behind later =
    (idle : ℕ) (start : Prospect) → idle < actors_of scenario → RunInvariant scenario turn idle s run start now
    → RunInvariant scenario (turn_behind turn (actors_of scenario)) (if went then 0 else idle + 1) after behind start later

-- However the run began, it stands behind a turn of each actor in which no call was made.
abbrev pub RunsOut : Scenario → State → RunState → Prospect → State → RunState → Prospect → Type 0
RunsOut scenario s run now after behind later =
    (start : Prospect) → RunInvariant scenario 0 0 s run start now → (turn : ℕ) × (turn < actors_of scenario) × RunInvariant scenario turn (actors_of scenario) after behind start later

-- Whatever run this side of the device stands in, that run is kept with the other in its place.
abbrev pub KeepsRun : SideState → Prospect → SideState → Prospect → Type 0
KeepsRun old now new later =
    (scenario : Scenario) (turn idle : ℕ) (s : State) (run : RunState) (start : Prospect) → RunInvariant scenario turn idle s (record run { side = old }) start now → RunInvariant scenario turn idle s (record run { side = new }) start later
