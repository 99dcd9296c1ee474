use Rattle.std.proofs.Common.{◌≡◌, length}
use Rattle.xr_handles.proofs.Sweeps.{SweptTo}
use Rattle.xr_handles.proofs.row.sweep.Given as goal

abbrev pub invariant-loop-i : goal.invariant-loop-i
invariant-loop-i l = (l.count ≡ length l.initial.row) × SweptTo l.handle l.above l.initial.row l.initial.destroyed.items l.i l.row l.destroyed.items
