use Rattle.std.proofs.Common.{◌≡◌, ◌++◌, map, take, drop}
use Rattle.xr_model.specs.machine.Sets.{sealed_by}
use Rattle.xr_sets.proofs.set.seal_sets.Given as goal

abbrev pub invariant-loop-set : goal.invariant-loop-set
invariant-loop-set l = l.sets ≡ map (sealed_by l.handles) (take l.set-index l.initial.sets) ++ drop l.set-index l.initial.sets
