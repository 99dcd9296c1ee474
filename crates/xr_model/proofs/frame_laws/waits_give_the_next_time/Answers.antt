use Rattle.xr_model.proofs.GivenTimes.{waits_give_the_next_time}
use Rattle.xr_model.proofs.frame_laws.waits_give_the_next_time.Goals as goal

pub returns : goal.returns
returns c = waits_give_the_next_time
