use Rattle.xr_model.proofs.AskedConditions.{instances_are_of_one_version}
use Rattle.xr_model.proofs.limit_laws.instances_are_of_one_version.Goals as goal

pub returns : goal.returns
returns c = instances_are_of_one_version
