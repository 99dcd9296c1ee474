-- What a frame is filled with, where nothing refuses it.
use Rattle.std.specs.Prelude.{ℤ, List, []}
use Rattle.xr_types.specs.declared.frames.Layer.{Layer}
use Rattle.xr_types.specs.Frames.{PendingFrame}
use Rattle.xr_model.specs.machine.Images.{with_images_of}
use Rattle.xr_model.specs.machine.Layers.{Look, layers_of}

-- its time, its layers by their images, and these images, each once
abbrev pub filled : PendingFrame → ℤ → Look → List Layer → PendingFrame
filled frame time look layers = record frame { time = time; layers = layers_of look layers; images = with_images_of [] (layers_of look layers) }
