use Rattle.std.proofs.Common.{sym}
use Rattle.xr_scenario.proofs.LoadCounts.{loads_have_so_many_ops}
use Rattle.xr_scenario.proofs.load.op_count.Goals as goal

pub returns : goal.returns
returns c = sym (loads_have_so_many_ops c.args.n)
