-- Frames as contracts see them, with their layers and images as lists.
use Rattle.std.specs.Prelude.{ℕ, ℤ, List}
use Rattle.xr_types.specs.declared.frames.FrameLayer.{FrameLayer}
use Rattle.xr_types.specs.declared.frames.Image.{Image}

-- a frame that was ended: its number from 1, its time, its layers, and the distinct images that they use
pub record PendingFrame : Type 0 where
  pub number : ℕ
  pub time : ℤ
  pub layers : List FrameLayer
  pub images : List Image
