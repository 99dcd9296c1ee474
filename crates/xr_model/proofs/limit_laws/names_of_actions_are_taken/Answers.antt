use Rattle.xr_model.proofs.TakenNames.{names_of_actions_are_taken}
use Rattle.xr_model.proofs.limit_laws.names_of_actions_are_taken.Goals as goal

pub returns : goal.returns
returns c = names_of_actions_are_taken
