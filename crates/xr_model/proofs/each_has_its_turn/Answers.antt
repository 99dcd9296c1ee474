use Rattle.xr_model.proofs.Unfinished.{each_has_its_turn}
use Rattle.xr_model.proofs.each_has_its_turn.Goals as goal

pub returns : goal.returns
returns c = each_has_its_turn
