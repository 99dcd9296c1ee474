use Rattle.std.proofs.Common.{◌≡◌, ◌++◌, drop}
use Rattle.xr_model.specs.report.Report.{waiting_lines}
use Rattle.xr_report.proofs.blocks.push_all_waiting.Given as goal

abbrev pub invariant-loop-waiting : goal.invariant-loop-waiting
invariant-loop-waiting l = l.initial.out.items ++ waiting_lines l.next ≡ l.out.items ++ waiting_lines (drop l.waiting-index l.next)
