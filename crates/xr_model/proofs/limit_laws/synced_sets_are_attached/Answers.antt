use Rattle.xr_model.proofs.AttachedItems.{synced_sets_are_attached}
use Rattle.xr_model.proofs.limit_laws.synced_sets_are_attached.Goals as goal

pub returns : goal.returns
returns c = synced_sets_are_attached
