use Rattle.std.proofs.Common.{◌≡◌, ◌+◌, ◌++◌, drop}
use Rattle.xr_model.specs.report.Report.{threads_from}
use Rattle.xr_report.proofs.blocks.push_threads.Given as goal

abbrev pub invariant-loop-calls : goal.invariant-loop-calls
invariant-loop-calls l = record {
  number : l.number ≡ l.calls-index;
  written : l.initial.out.items ++ threads_from l.places 1 l.apps ≡ l.out.items ++ threads_from l.places (l.calls-index + 1) (drop l.calls-index l.apps);
}
