use Rattle.std.proofs.Common.{◌≡◌, [], drop}
use Rattle.xr_model.specs.machine.Images.{with_images_of}
use Rattle.xr_layers.proofs.images.images_of.Given as goal

-- with those of the layers that are left these are all images
abbrev pub invariant-loop-layer : goal.invariant-loop-layer
invariant-loop-layer l = with_images_of l.images.items (drop l.layer-index l.layers) ≡ with_images_of [] l.layers
