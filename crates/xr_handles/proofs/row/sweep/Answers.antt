use Rattle.std.proofs.Common.{length, ◌<◌, ◌+◌, arith, refl, sym, ◌∙◌}
use Rattle.xr_model.specs.machine.Handles.{free}
use Rattle.xr_handles.proofs.Sweeps.{SweptTo, sweeps_one, keeps_one}
use Rattle.xr_handles.proofs.row.sweep.Goals.{then-leaves, else-leaves}
use Rattle.xr_handles.proofs.row.sweep.Goals as goal

pub loop-i-preserved : goal.loop-i-preserved
loop-i-preserved c =
    let within : c.loop-i.i < length c.loop-i.row = omega (arith, c.loop-i-test.true, c.loop-i.auto.row) in (
      refl,
      elim c.if-leaves.branch as (λ _. SweptTo c.args.handle c.args.above.now c.args.row.now c.args.destroyed.now.items (c.loop-i.i + 1) c.if-leaves.row c.if-leaves.destroyed.items) [
        | then-leaves w ↦ rw w.row-is (rw w.destroyed-is (rw w.push.ensures.items (sweeps_one _ _ _ _ _ _ _ free within c.loop-i.invariant.1 (sym c.leaves.ensures ∙ w.if-leaves.true))))
        | else-leaves w ↦ rw w.row-is (rw w.destroyed-is (keeps_one _ _ _ _ _ _ _ free within c.loop-i.invariant.1 (sym c.leaves.ensures ∙ w.if-leaves.false)))
      ],
    )
