use Rattle.xr_model.proofs.PickNames.{picks_have_their_sources}
use Rattle.xr_model.proofs.input_laws.picks_have_their_sources.Goals as goal

pub returns : goal.returns
returns c = picks_have_their_sources
