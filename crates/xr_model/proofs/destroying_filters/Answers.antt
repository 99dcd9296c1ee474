use Rattle.xr_model.proofs.Filters.{destroying_filters}
use Rattle.xr_model.proofs.destroying_filters.Goals as goal

pub returns : goal.returns
returns c = destroying_filters
