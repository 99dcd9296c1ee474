use Rattle.xr_model.proofs.PickNames.{picks_are_named}
use Rattle.xr_model.proofs.input_laws.picks_are_named.Goals as goal

pub returns : goal.returns
returns c = picks_are_named
