use Rattle.xr_model.proofs.ImageTurns.{frames_show_the_last_released}
use Rattle.xr_model.proofs.image_laws.frames_show_the_last_released.Goals as goal

pub returns : goal.returns
returns c = frames_show_the_last_released
