use Rattle.std.proofs.Common.{◌≡◌, ◌++◌, map, take, drop, false}
use Rattle.std.specs.Prelude.{slice_index_or}
use Rattle.xr_model.specs.machine.Sync.{left_columns}
use Rattle.xr_core.proofs.slots.leave_each.Given as goal

abbrev pub invariant-loop-own : goal.invariant-loop-own
invariant-loop-own l = l.columns ≡ map (left_columns (λ place. slice_index_or l.there place false)) (take l.own-index l.initial.columns) ++ drop l.own-index l.initial.columns
