use Rattle.xr_model.proofs.RunEnds.{done_exactly_where_all_is_done}
use Rattle.xr_model.proofs.done_exactly_where_all_is_done.Goals as goal

pub returns : goal.returns
returns c = done_exactly_where_all_is_done
