use Rattle.xr_model.proofs.Places.{creating_leaves_places}
use Rattle.xr_model.proofs.creating_leaves_places.Goals as goal

pub returns : goal.returns
returns c = creating_leaves_places
