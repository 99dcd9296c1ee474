use Rattle.std.proofs.Common.{◌≡◌, drop, length}
use Rattle.xr_model.specs.machine.Images.{stamp_among}
use Rattle.xr_core.proofs.showing.stamp_among.Given as goal

-- the image isn't among those up to the index
abbrev pub invariant-loop-place : goal.invariant-loop-place
invariant-loop-place l = (l.count ≡ length l.images) × (stamp_among l.images l.stamps l.image ≡ stamp_among (drop l.place l.images) (drop l.place l.stamps) l.image)
