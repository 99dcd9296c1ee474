use Rattle.std.proofs.Common.{refl, sym, ◌∙◌, length-append}
use Rattle.xr_core.proofs.Suggesting.{bound_at, refused_at}
use Rattle.xr_core.proofs.parts.Parts.bound_by.Goals as goal

pub returns-in-Err-clause-bound : goal.returns-in-Err-clause-bound
returns-in-Err-clause-bound c =
    sym (c.loop-binding.invariant.0 ∙ refused_at c.args.self.now c.args.profile c.args.list.now c.loop-binding.binding-index _ c.loop-binding-test.true c.loop-binding.draft c.in-Err.code (sym c.in-Err.is ∙ c.pick_of.ensures))

pub loop-binding-preserved : goal.loop-binding-preserved
loop-binding-preserved c =
    let one = bound_at c.args.self.now c.args.profile c.args.list.now c.loop-binding.binding-index _ c.loop-binding-test.true c.loop-binding.draft c.in-Ok.pick (sym c.in-Ok.is ∙ c.pick_of.ensures) in
    (rw c.push.ensures (c.loop-binding.invariant.0 ∙ one), rw (c.push.ensures, length-append c.loop-binding.draft _, c.loop-binding.invariant.1) refl)
