use Rattle.std.proofs.Common.{◌≡◌, take}
use Rattle.xr_handles.proofs.row.copied.Given as goal

abbrev pub invariant-loop-handle : goal.invariant-loop-handle
invariant-loop-handle l = l.same.items ≡ take l.handle-index l.all.items
