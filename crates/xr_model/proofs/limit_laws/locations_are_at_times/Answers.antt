use Rattle.xr_model.proofs.AskedConditions.{locations_are_at_times}
use Rattle.xr_model.proofs.limit_laws.locations_are_at_times.Goals as goal

pub returns : goal.returns
returns c = locations_are_at_times
