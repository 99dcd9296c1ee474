-- The law of what a frame is checked against.
use Rattle.std.specs.Prelude.{◌≡◌, ◌<◌, ℕ, Option, Some}
use Rattle.xr_types.specs.declared.frames.ChainInfo.{ChainInfo}
use Rattle.xr_types.specs.declared.frames.Image.{Image}
use Rattle.xr_types.specs.declared.handles.TheConstants.{SWAPCHAINS}
use Rattle.xr_model.specs.machine.Layers.{last_image}

-- What is told of chains, by their handles: an image that was released last has a place below the number of chains, and two of
-- one place are the same.
pub record AreSound (chain : ℕ → Option ChainInfo) : Type 0 where
  pub within : (handle : ℕ) (image : Image) → last_image (chain handle) ≡ Some image → image.place < SWAPCHAINS
  pub same : (handle other : ℕ) (i j : Image) → last_image (chain handle) ≡ Some i → last_image (chain other) ≡ Some j → i.place ≡ j.place → i ≡ j
