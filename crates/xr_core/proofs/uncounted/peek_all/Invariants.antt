use Rattle.std.proofs.Common.{◌≡◌, drop, length}
use Rattle.xr_core.proofs.Touching.{IsPeeking}
use Rattle.xr_core.proofs.uncounted.peek_all.Given as goal

-- the images up to the index are looked at, and the others are to be, whatever is found
abbrev pub invariant-loop-image : goal.invariant-loop-image
invariant-loop-image g l = (length l.stamps.items ≡ l.image-index) × IsPeeking g.C.Cells.may g.C.Cells.does l.initial.cells l.cells l.images (drop l.image-index l.images) l.stamps.items
