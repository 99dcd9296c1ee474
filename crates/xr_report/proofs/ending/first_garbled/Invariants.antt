use Rattle.std.proofs.Common.{◌≡◌, drop}
use Rattle.xr_model.specs.report.RunEnding.{first_garbled}
use Rattle.xr_report.proofs.ending.first_garbled.Given as goal

abbrev pub invariant-loop-event : goal.invariant-loop-event
invariant-loop-event l = first_garbled l.events ≡ first_garbled (drop l.event-index l.events)
