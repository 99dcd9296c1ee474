use Rattle.xr_model.proofs.QueueTraces.{events_add_up}
use Rattle.xr_model.proofs.events_add_up.Goals as goal

pub returns : goal.returns
returns c = events_add_up
