use Rattle.xr_model.specs.machine.State.{with_apps}
use Rattle.xr_core.proofs.PlainPairs.{opening_plain}
use Rattle.xr_core.proofs.plain_core.PlainCore.start.Goals as goal

pub invariant_of-result : goal.invariant_of-result
invariant_of-result c = rw (c.in_ok-core.ensures, c.new.ensures) (opening_plain (with_apps c.args.apps))
