use Rattle.std.proofs.Common.{◌-◌, ◌≤◌, ◌<◌, ◌+◌, ◌*◌}
use Rattle.xr_device.specs.Prospect.{Prospect}
use Rattle.xr_device.specs.Answers.{ReadsOn}
use Rattle.xr_serial.specs.inside.RunInvariant.{most_calls, calls_made, RunInvariant}
use Rattle.xr_serial.proofs.rounds.go_on.Given as goal

abbrev pub invariant-loop-idle : goal.invariant-loop-idle
invariant-loop-idle g l = record {
  most : l.idle ≤ l.actors;
  turn : l.turn < l.actors;
  kept : (start : Prospect)
      → RunInvariant l.scenario 0 0 l.fn.machine l.fn.run start (g.D.Device.prospect l.fn.device)
      → RunInvariant l.scenario l.turn l.idle l.machine l.run start (g.D.Device.prospect l.device);
  later : (g.D.Device.prospect l.fn.device).faults ≤ (g.D.Device.prospect l.device).faults;
  reads : ReadsOn (g.D.Device.prospect l.fn.device) (g.D.Device.prospect l.device);
}

-- a call that is made takes one of those that are to come; a round at most behind it makes none
abbrev pub decreases-loop-idle : goal.decreases-loop-idle
decreases-loop-idle g l = 11 * (most_calls l.scenario.scripts - calls_made l.machine l.run) + (l.actors - l.idle)
