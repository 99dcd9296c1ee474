use Rattle.std.proofs.Common.{◌≡◌, ◌++◌, take, drop, length}
use Rattle.xr_chains.specs.ChainsLeft.{left_where}
use Rattle.xr_chains.proofs.places.sweep_each.Given as goal

-- those up to the index are swept, and the others are to be
abbrev pub invariant-loop-place : goal.invariant-loop-place
invariant-loop-place g l = (l.count ≡ length l.initial.places) × (take l.place l.places ++ left_where (g.S.Standing.is_live l.standing) (g.S.Standing.is_used l.standing) l.place (drop l.place l.places) ≡ left_where (g.S.Standing.is_live l.standing) (g.S.Standing.is_used l.standing) 0 l.initial.places)
