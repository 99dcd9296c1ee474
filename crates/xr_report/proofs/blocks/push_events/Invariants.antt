use Rattle.std.proofs.Common.{◌≡◌, ◌+◌, ◌++◌, drop, length}
use Rattle.xr_model.specs.report.Report.{events_from}
use Rattle.xr_report.proofs.blocks.push_events.Given as goal

abbrev pub invariant-loop-event : goal.invariant-loop-event
invariant-loop-event l = record {
  number : l.number ≡ length l.yielded;
  written : l.initial.out.items ++ events_from l.places 1 l.events l.calls ≡ l.out.items ++ events_from l.places (l.number + 1) (drop l.number l.events) (drop l.number l.calls);
}
