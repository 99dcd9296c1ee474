use Rattle.xr_model.proofs.HistoryEvents.{histories_add_up}
use Rattle.xr_model.proofs.histories_add_up.Goals as goal

pub returns : goal.returns
returns c = histories_add_up
