use Rattle.std.proofs.Common.{◌≡◌, map, take}
use Rattle.xr_serial.specs.inside.Sides.{new_app}
use Rattle.xr_serial.proofs.rounds.start_apps.Given as goal

abbrev pub invariant-loop-ops : goal.invariant-loop-ops
invariant-loop-ops l = l.apps.items ≡ map new_app (take l.ops-index l.scripts)
