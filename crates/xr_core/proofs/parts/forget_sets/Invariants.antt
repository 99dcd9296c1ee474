use Rattle.std.proofs.Common.{◌≡◌, drop}
use Rattle.xr_model.specs.machine.Sets.{without_inputs}
use Rattle.xr_core.proofs.parts.forget_sets.Given as goal

abbrev pub invariant-loop-handle : goal.invariant-loop-handle
invariant-loop-handle l = without_inputs l.initial.sets l.handles ≡ without_inputs l.sets (drop l.handle-index l.handles)
