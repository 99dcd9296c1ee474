use Rattle.xr_runtime.specs.Passes.{table_of}
use Rattle.xr_tests.specs.Going.{GoesOn}
use Rattle.xr_tests.proofs.lock.calling.make_calls.Given as goal

-- the application has made no more calls than there were steps
abbrev pub invariant-loop-step : goal.invariant-loop-step
invariant-loop-step g l = GoesOn (table_of l.runtime) l.app l.step l.pass
