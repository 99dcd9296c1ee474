use Rattle.xr_bench.proofs.Placed.{all_same}
use Rattle.xr_bench.proofs.calls.syncs.all_bindings.Goals as goal

pub loop-number-init : goal.loop-number-init
loop-number-init c = all_same 512 c.binding-list.result c.binding-list.ensures
