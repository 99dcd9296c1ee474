use Rattle.std.proofs.Common.{rules, ◌+◌, ◌<◌, ◌∙◌, List, arith, length, length-append}
use Rattle.xr_types.specs.declared.scenario.Op.{Op}
use Rattle.xr_model.specs.scenario.LoadScenario.{frame_ops}
use Rattle.xr_scenario.proofs.LoadCounts.{frame_is_short}
use Rattle.xr_scenario.proofs.LoadFrames.{one_more}
use Rattle.xr_scenario.proofs.load.push_frames.Goals as goal

pub loop-i-preserved : goal.loop-i-preserved
loop-i-preserved c =
    let within : c.loop-i.i < c.args.n = search rules in
    let ops : List Op = c.loop-i.ops.items in
    let frame : List Op = frame_ops (c.loop-i.i + 1) (length ops + 1) in
    record {
      few = rw (c.in_ok-push_frame.ensures, length-append c.loop-i.ops.items (frame_ops (c.loop-i.i + 1) (length c.loop-i.ops.items + 1))) (omega (arith, c.loop-i.invariant.few, frame_is_short (c.loop-i.i + 1) (length c.loop-i.ops.items + 1)));
      made = rw (c.in_ok-push_frame.ensures) (c.loop-i.invariant.made ∙ one_more c.loop-i.ops.items c.args.n c.loop-i.i within);
    }
