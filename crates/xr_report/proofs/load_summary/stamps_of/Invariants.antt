use Rattle.std.proofs.Common.{◌≡◌, ◌+◌, ◌%◌, ◌^◌, ◌<◌, drop}
use Rattle.xr_model.specs.report.Summary.{stamps_of}
use Rattle.xr_report.proofs.load_summary.stamps_of.Given as goal

abbrev pub invariant-loop-frame : goal.invariant-loop-frame
invariant-loop-frame l = record { small : l.sum < 2 ^ 64; same : stamps_of l.frames % 2 ^ 64 ≡ (l.sum + stamps_of (drop l.frame-index l.frames)) % 2 ^ 64 }
