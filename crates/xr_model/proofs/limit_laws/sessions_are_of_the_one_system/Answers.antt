use Rattle.xr_model.proofs.AskedConditions.{sessions_are_of_the_one_system}
use Rattle.xr_model.proofs.limit_laws.sessions_are_of_the_one_system.Goals as goal

pub returns : goal.returns
returns c = sessions_are_of_the_one_system
