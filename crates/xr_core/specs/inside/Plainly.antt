-- What holds of a core beside plain cells.
use Rattle.std.specs.Prelude.{◌≤◌, length}
use Rattle.xr_model.specs.machine.PlainImages.{PlainImages}
use Rattle.xr_model.specs.machine.State.{WholeCore}
use Rattle.xr_model.specs.laws.Soundness.{AreCounted, IsSound}

-- The swapchains, frames and images are sound; no more frames are pending than calls were made; and the counts of images are
-- those of the frames.
pub record IsPlain (core : WholeCore) (cells : PlainImages) : Type 0 where
  pub sound : IsSound core.kept.handles.chains core.kept.chains core.kept.frames.pending core.kept.shown_images core.held
  pub few : length core.kept.frames.pending ≤ core.kept.locked
  pub counted : AreCounted cells core.kept.frames.pending core.held
