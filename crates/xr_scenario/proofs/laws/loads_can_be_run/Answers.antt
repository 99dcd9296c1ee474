use Rattle.xr_scenario.proofs.LoadForm.{loads_can_be_run}
use Rattle.xr_scenario.proofs.laws.loads_can_be_run.Goals as goal

pub returns : goal.returns
returns c = loads_can_be_run
