use Rattle.std.proofs.Common.{◌≡◌, ◌++◌, [], map, take, drop}
use Rattle.std.specs.Prelude.{if◌then◌else◌}
use Rattle.xr_model.specs.machine.Handles.{free, goes}
use Rattle.xr_handles.proofs.row.clear.Given as goal

abbrev pub invariant-loop-slot : goal.invariant-loop-slot
invariant-loop-slot l = l.row ≡ map (λ s. if goes l.handle [] s then free else s) (take l.slot-index l.initial.row) ++ drop l.slot-index l.initial.row
