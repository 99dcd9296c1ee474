use Rattle.xr_model.proofs.LoadCounts.{loads_end_their_waits}
use Rattle.xr_model.proofs.script_laws.loads_end_their_waits.Goals as goal

pub returns : goal.returns
returns c = loads_end_their_waits
