use Rattle.std.proofs.Common.{◌≡◌, take}
use Rattle.xr_core.proofs.calls.frames.keep_images.Given as goal

-- the images up to the index are kept
abbrev pub invariant-loop-image : goal.invariant-loop-image
invariant-loop-image l = l.kept.items ≡ take l.image-index l.images
