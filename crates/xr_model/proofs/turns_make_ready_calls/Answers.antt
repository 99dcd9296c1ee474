use Rattle.xr_model.proofs.RobinTurns.{turns_make_ready_calls}
use Rattle.xr_model.proofs.turns_make_ready_calls.Goals as goal

pub returns : goal.returns
returns c = turns_make_ready_calls
