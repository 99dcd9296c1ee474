use Rattle.xr_model.proofs.RobinTurns.{stuck_where_nobody_is_ready}
use Rattle.xr_model.proofs.stuck_where_nobody_is_ready.Goals as goal

pub returns : goal.returns
returns c = stuck_where_nobody_is_ready
