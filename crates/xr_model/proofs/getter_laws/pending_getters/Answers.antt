use Rattle.xr_model.proofs.PendingGetters.{pending_getters}
use Rattle.xr_model.proofs.getter_laws.pending_getters.Goals as goal

pub returns : goal.returns
returns c = pending_getters
