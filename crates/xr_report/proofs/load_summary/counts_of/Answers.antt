use Rattle.std.proofs.Common.{refl}
use Rattle.xr_model.specs.report.Summary.{code_count}
use Rattle.xr_report.proofs.CodeCounts.{none_yet, all_to_come}
use Rattle.xr_report.proofs.load_summary.counts_of.Goals as goal

pub loop-made-init : goal.loop-made-init
loop-made-init c = (refl, (λ n h. none_yet 40 n), λ n h. all_to_come 40 n (code_count n c.args.calls.now))
