use Rattle.xr_model.proofs.DeviceTold.{device_is_as_told}
use Rattle.xr_model.proofs.device_laws.device_is_as_told.Goals as goal

pub returns : goal.returns
returns c = device_is_as_told
