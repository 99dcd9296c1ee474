use Rattle.xr_model.proofs.LoadCounts.{loads_have_so_many_ops}
use Rattle.xr_model.proofs.script_laws.loads_have_so_many_ops.Goals as goal

pub returns : goal.returns
returns c = loads_have_so_many_ops
