use Rattle.xr_model.proofs.AttachedItems.{sets_are_attached_once}
use Rattle.xr_model.proofs.limit_laws.sets_are_attached_once.Goals as goal

pub returns : goal.returns
returns c = sets_are_attached_once
