use Rattle.xr_model.proofs.NewBindings.{bindings_are_of_new_sets}
use Rattle.xr_model.proofs.limit_laws.bindings_are_of_new_sets.Goals as goal

pub returns : goal.returns
returns c = bindings_are_of_new_sets
