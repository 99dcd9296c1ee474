use Rattle.std.proofs.Common.{sym, ◌∙◌}
use Rattle.xr_core.proofs.DestroyedAtOnce.{suggestions_go, no_suggestion_goes}
use Rattle.xr_core.proofs.parts.forget_suggestions.Goals as goal

pub loop-handle-preserved : goal.loop-handle-preserved
loop-handle-preserved c = rw c.forget.ensures (c.loop-handle.invariant ∙ suggestions_go c.args.handles.now c.loop-handle.handle-index c.loop-handle-test.true c.loop-handle.bindings)

pub returns : goal.returns
returns c = sym (c.loop-handle.invariant ∙ no_suggestion_goes c.args.handles.now c.loop-handle.handle-index c.loop-handle-test.false c.loop-handle.bindings)
