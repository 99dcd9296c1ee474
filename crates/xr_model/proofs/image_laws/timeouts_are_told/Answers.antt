use Rattle.xr_model.proofs.Timeouts.{timeouts_are_told}
use Rattle.xr_model.proofs.image_laws.timeouts_are_told.Goals as goal

pub returns : goal.returns
returns c = timeouts_are_told
