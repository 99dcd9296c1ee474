use Rattle.std.proofs.Common.{◌≡◌, map}
use Rattle.xr_serial.specs.inside.RunState.{AppState}
use Rattle.xr_serial.proofs.lists.calls_of.Given as goal

abbrev pub invariant-loop-app : goal.invariant-loop-app
invariant-loop-app l = l.lists.items ≡ map (λ (app : AppState). app.calls) l.yielded
