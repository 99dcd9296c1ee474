use Rattle.xr_runtime.specs.Passes.{table_of}
use Rattle.xr_compositor.proofs.Turning.{one_back}
use Rattle.xr_compositor.proofs.give_all_back.Goals as goal

pub loop-pass-preserved : goal.loop-pass-preserved
loop-pass-preserved c = one_back (table_of c.args.runtime.now) c.args.pass.now c.loop-pass.pass c.give_back.new.pass c.loop-pass.invariant c.give_back.ensures.gave
