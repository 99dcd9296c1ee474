use Rattle.xr_model.proofs.NamesOfOps.{names_stand_for_values}
use Rattle.xr_model.proofs.names_stand_for_values.Goals as goal

pub returns : goal.returns
returns c = names_stand_for_values
