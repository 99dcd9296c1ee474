-- What a run has made, where nobody can go on.
use Rattle.std.specs.Prelude.{ℕ, ◌+◌, List, [], ◌∷◌, ◌++◌, map, drop, Option, Some, None, if◌then◌else◌}
use Rattle.xr_types.specs.declared.calls.Actor.TheVariants.{App}
use Rattle.xr_types.specs.declared.made.Lists.{Lists}
use Rattle.xr_types.specs.declared.made.Waiting.{Waiting}
use Rattle.xr_types.specs.declared.names.CallName.{CallName}
use Rattle.xr_types.specs.declared.names.CallName.TheVariants as call
use Rattle.xr_types.specs.declared.scenario.Op.{Op}
use Rattle.xr_types.specs.declared.scenario.Scenario.{Scenario}
use Rattle.xr_types.specs.Op.{call_name}
use Rattle.xr_model.specs.runs.Lists.{waiting_of}
use Rattle.xr_serial.specs.inside.RunState.{AppState, RunState}
use Rattle.xr_serial.specs.inside.Turns.{device_part, compositor_part}

-- the name of the next call of a script with these ops left
abbrev pub next_name : List Op → CallName
next_name [] = call.Leave
next_name (o ∷ os) = call_name o

abbrev pub list_if : Option Waiting → List Waiting
list_if None = []
list_if (Some one) = one ∷ []

-- an application's next call, unless it has left
abbrev pub app_next : ℕ → List Op → AppState → List Waiting
app_next number ops app = if app.has_left then [] else record { actor = App number; op = app.made + 1; name = next_name (drop app.made ops) } ∷ []

-- those of the applications from this number on
abbrev pub apps_next : ℕ → List (List Op) → List AppState → List Waiting
apps_next number (ops ∷ scripts) (app ∷ apps) = app_next number ops app ++ apps_next (number + 1) scripts apps
apps_next number _ _ = []

-- of all that haven't finished, in the order of a round
abbrev pub next_calls : Scenario → RunState → List Waiting
next_calls scenario run = apps_next 1 scenario.scripts run.apps ++ map waiting_of (device_part run.side.pending []) ++ map waiting_of (compositor_part run.compositor.ended 0)

abbrev pub lists_at : Scenario → RunState → Lists
lists_at scenario run = record {
  apps = map (λ app. app.calls) run.apps;
  device = run.side.calls;
  compositor = run.compositor.frames;
  ended = run.compositor.ended;
  shown = run.compositor.replies;
  done = run.compositor.done;
  events = run.side.events;
  next = next_calls scenario run;
}
