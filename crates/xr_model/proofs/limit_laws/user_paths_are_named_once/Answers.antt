use Rattle.xr_model.proofs.TakenNames.{user_paths_are_named_once}
use Rattle.xr_model.proofs.limit_laws.user_paths_are_named_once.Goals as goal

pub returns : goal.returns
returns c = user_paths_are_named_once
