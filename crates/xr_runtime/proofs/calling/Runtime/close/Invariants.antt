use Rattle.std.proofs.Common.{◌≡◌}
use Rattle.xr_rule.specs.Seats.{IsIdle}
use Rattle.xr_runtime.proofs.Gathering.{Gathered}
use Rattle.xr_runtime.specs.Passes.{table_of, apps_of}
use Rattle.xr_runtime.proofs.calling.Runtime.close.Given as goal

-- the closer is this table's and idle, and has joined all but the applications that are left
abbrev pub invariant-loop-pass : goal.invariant-loop-pass
invariant-loop-pass l =
    (l.closer.table_id ≡ table_of l.self) × IsIdle l.closer.me
    × Gathered (apps_of l.self) l.fn.passes.apps.items l.apps.items l.fn.passes.compositor.seat.me.0.know l.fn.passes.device.seat.me.0.know l.closer.me.0.know.own

abbrev pub decreases-loop-pass : goal.decreases-loop-pass
decreases-loop-pass l = goal.left-loop-pass l
