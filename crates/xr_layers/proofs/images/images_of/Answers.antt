use Rattle.xr_layers.proofs.Few.{length-with_images-le}
use Rattle.xr_layers.proofs.images.images_of.Goals as goal

pub add_layer-requires : goal.add_layer-requires
add_layer-requires c = length-with_images-le c.loop-layer.images.items _ c.args.layers.now c.loop-layer.layer-index 16 _ c.loop-layer-test.true c.loop-layer.invariant c.requires
