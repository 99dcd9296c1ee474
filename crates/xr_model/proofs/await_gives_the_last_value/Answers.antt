use Rattle.xr_model.proofs.MarkValues.{await_gives_the_last_value}
use Rattle.xr_model.proofs.await_gives_the_last_value.Goals as goal

pub returns : goal.returns
returns c = await_gives_the_last_value
