use Rattle.std.proofs.Common.{drop}
use Rattle.xr_model.specs.machine.CellCalls.{pin_calls}
use Rattle.xr_core.proofs.Touching.{IsTouching}
use Rattle.xr_core.proofs.calls.frames.pin_all.Given as goal

-- the images up to the index are used once more, and the others are to be
abbrev pub invariant-loop-image : goal.invariant-loop-image
invariant-loop-image g l = IsTouching g.C.Cells.may g.C.Cells.does l.initial.cells l.cells (pin_calls l.images) (pin_calls (drop l.image-index l.images))
