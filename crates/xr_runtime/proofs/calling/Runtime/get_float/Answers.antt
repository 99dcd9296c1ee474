use Rattle.std.proofs.Common.{[]}
use Rattle.xr_runtime.proofs.calling.Runtime.get_float.Goals as goal

pub returns : goal.returns
returns c = record { called = ([], c.getter.ensures.called []) }
