use Rattle.std.proofs.Common.{◌≡◌, drop}
use Rattle.xr_model.specs.machine.Bindings.{without_suggestions}
use Rattle.xr_core.proofs.parts.forget_suggestions.Given as goal

abbrev pub invariant-loop-handle : goal.invariant-loop-handle
invariant-loop-handle l = without_suggestions l.initial.bindings l.handles ≡ without_suggestions l.bindings (drop l.handle-index l.handles)
