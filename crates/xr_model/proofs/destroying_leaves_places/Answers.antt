use Rattle.xr_model.proofs.Places.{destroying_leaves_places}
use Rattle.xr_model.proofs.destroying_leaves_places.Goals as goal

pub returns : goal.returns
returns c = destroying_leaves_places
