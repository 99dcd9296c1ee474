use Rattle.std.specs.Prelude.{false, slice_index_or}
use Rattle.std.proofs.Common.{◌≡◌, ◌++◌, map, take, drop}
use Rattle.xr_model.specs.machine.Spaces.{with_left}
use Rattle.xr_spaces.proofs.spaces.leave.Given as goal

abbrev pub invariant-loop-space : goal.invariant-loop-space
invariant-loop-space l = l.spaces ≡ map (with_left (λ place. slice_index_or l.there place false)) (take l.space-index l.initial.spaces) ++ drop l.space-index l.initial.spaces
