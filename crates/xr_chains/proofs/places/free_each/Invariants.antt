use Rattle.std.proofs.Common.{◌≡◌, drop, length}
use Rattle.xr_chains.specs.ChainsLeft.{freed_where}
use Rattle.xr_chains.proofs.Freeing.{IsFreeing}
use Rattle.xr_chains.proofs.places.free_each.Given as goal

-- the images of the places up to the index are freed, and the others are to be
abbrev pub invariant-loop-place : goal.invariant-loop-place
invariant-loop-place g l = (l.count ≡ length l.places) × IsFreeing g.C.Cells.may g.C.Cells.does l.initial.cells l.cells (freed_where (g.S.Standing.is_live l.standing) 0 l.places) (freed_where (g.S.Standing.is_live l.standing) l.place (drop l.place l.places))
