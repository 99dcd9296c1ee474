use Rattle.xr_model.proofs.GetterSets.{getters_are_of_attached_sets}
use Rattle.xr_model.proofs.limit_laws.getters_are_of_attached_sets.Goals as goal

pub returns : goal.returns
returns c = getters_are_of_attached_sets
