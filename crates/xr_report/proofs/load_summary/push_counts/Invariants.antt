use Rattle.std.proofs.Common.{◌≡◌, ◌++◌, drop}
use Rattle.xr_report.specs.inside.Counts.{lines_by}
use Rattle.xr_report.proofs.load_summary.push_counts.Given as goal

abbrev pub invariant-loop-code : goal.invariant-loop-code
invariant-loop-code l = l.initial.out.items ++ lines_by l.counts l.codes ≡ l.out.items ++ lines_by l.counts (drop l.code-index l.codes)
