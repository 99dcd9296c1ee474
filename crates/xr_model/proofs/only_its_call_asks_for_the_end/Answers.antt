use Rattle.xr_model.proofs.LostAndAsked.{only_its_call_asks_for_the_end}
use Rattle.xr_model.proofs.only_its_call_asks_for_the_end.Goals as goal

pub returns : goal.returns
returns c = only_its_call_asks_for_the_end
