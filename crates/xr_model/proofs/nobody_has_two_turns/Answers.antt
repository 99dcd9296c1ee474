use Rattle.xr_model.proofs.Rounds.{nobody_has_two_turns}
use Rattle.xr_model.proofs.nobody_has_two_turns.Goals as goal

pub returns : goal.returns
returns c = nobody_has_two_turns
