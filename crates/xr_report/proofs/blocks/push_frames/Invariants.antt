use Rattle.std.proofs.Common.{◌≡◌, ◌++◌, drop}
use Rattle.xr_model.specs.report.Report.{frames_from}
use Rattle.xr_report.proofs.blocks.push_frames.Given as goal

abbrev pub invariant-loop-index : goal.invariant-loop-index
invariant-loop-index l = l.initial.out.items ++ frames_from l.places l.replies 0 l.frames ≡ l.out.items ++ frames_from l.places l.replies l.index (drop l.index l.frames)
