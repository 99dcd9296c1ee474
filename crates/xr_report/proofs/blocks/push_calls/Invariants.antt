use Rattle.std.proofs.Common.{◌≡◌, ◌++◌, drop}
use Rattle.xr_model.specs.report.Report.{lines_of}
use Rattle.xr_report.proofs.blocks.push_calls.Given as goal

abbrev pub invariant-loop-made : goal.invariant-loop-made
invariant-loop-made l = l.initial.out.items ++ lines_of l.places l.calls ≡ l.out.items ++ lines_of l.places (drop l.made-index l.calls)
