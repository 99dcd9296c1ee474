use Rattle.xr_model.proofs.Locations.{locations_are_factors}
use Rattle.xr_model.proofs.space_laws.locations_are_factors.Goals as goal

pub returns : goal.returns
returns c = locations_are_factors
