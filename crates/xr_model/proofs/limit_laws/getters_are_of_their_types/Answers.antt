use Rattle.xr_model.proofs.GetterTypes.{getters_are_of_their_types}
use Rattle.xr_model.proofs.limit_laws.getters_are_of_their_types.Goals as goal

pub returns : goal.returns
returns c = getters_are_of_their_types
