use Rattle.xr_model.proofs.ImageOwners.{owners_are_in_the_state}
use Rattle.xr_model.proofs.owners_are_in_the_state.Goals as goal

pub returns : goal.returns
returns c = owners_are_in_the_state
