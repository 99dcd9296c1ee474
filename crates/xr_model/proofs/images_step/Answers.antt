use Rattle.xr_model.proofs.ImageOwners.{images_step}
use Rattle.xr_model.proofs.images_step.Goals as goal

pub returns : goal.returns
returns c = images_step
