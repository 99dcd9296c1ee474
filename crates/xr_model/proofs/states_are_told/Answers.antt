use Rattle.xr_model.proofs.StatesTold.{states_are_told}
use Rattle.xr_model.proofs.states_are_told.Goals as goal

pub returns : goal.returns
returns c = states_are_told
