use Rattle.xr_model.proofs.LostGetters.{lost_getters}
use Rattle.xr_model.proofs.getter_laws.lost_getters.Goals as goal

pub returns : goal.returns
returns c = lost_getters
