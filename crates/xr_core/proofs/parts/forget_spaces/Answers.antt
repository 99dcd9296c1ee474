use Rattle.std.proofs.Common.{sym, ◌∙◌}
use Rattle.xr_core.proofs.DestroyedAtOnce.{spaces_go, no_space_goes}
use Rattle.xr_core.proofs.parts.forget_spaces.Goals as goal

pub loop-handle-preserved : goal.loop-handle-preserved
loop-handle-preserved c = rw c.remove.ensures (c.loop-handle.invariant ∙ spaces_go c.args.handles.now c.loop-handle.handle-index c.loop-handle-test.true c.loop-handle.spaces)

pub returns : goal.returns
returns c = sym (c.loop-handle.invariant ∙ no_space_goes c.args.handles.now c.loop-handle.handle-index c.loop-handle-test.false c.loop-handle.spaces)
