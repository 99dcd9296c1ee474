use Rattle.std.proofs.Common.{◌≡◌, drop}
use Rattle.xr_model.specs.machine.Spaces.{without_spaces}
use Rattle.xr_core.proofs.parts.forget_spaces.Given as goal

abbrev pub invariant-loop-handle : goal.invariant-loop-handle
invariant-loop-handle l = without_spaces l.initial.spaces l.handles ≡ without_spaces l.spaces (drop l.handle-index l.handles)
