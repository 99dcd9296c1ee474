use Rattle.std.proofs.Common.{sym, ◌∙◌}
use Rattle.xr_core.proofs.DestroyedAtOnce.{inputs_go, no_input_goes}
use Rattle.xr_core.proofs.parts.forget_sets.Goals as goal

pub loop-handle-preserved : goal.loop-handle-preserved
loop-handle-preserved c = rw c.remove.ensures (c.loop-handle.invariant ∙ inputs_go c.args.handles.now c.loop-handle.handle-index c.loop-handle-test.true c.loop-handle.sets)

pub returns : goal.returns
returns c = sym (c.loop-handle.invariant ∙ no_input_goes c.args.handles.now c.loop-handle.handle-index c.loop-handle-test.false c.loop-handle.sets)
