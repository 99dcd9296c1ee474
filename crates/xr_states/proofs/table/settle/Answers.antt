use Rattle.std.proofs.Common.{sym}
use Rattle.xr_states.proofs.SessionChanges.{goes_on, stops}
use Rattle.xr_states.proofs.table.settle.Goals as goal

pub returns-in_default-clause-state : goal.returns-in_default-clause-state
returns-in_default-clause-state c = (stops _ _ _ _ _ _ _ c.loop.invariant (sym c.in_default.ensures)).1

pub returns-in_default-clause-through : goal.returns-in_default-clause-through
returns-in_default-clause-through c = (stops _ _ _ _ _ _ _ c.loop.invariant (sym c.in_default.ensures)).0

pub loop-preserved : goal.loop-preserved
loop-preserved c = rw c.push.ensures (goes_on _ _ _ _ _ _ _ c.in-Some.to c.loop.invariant c.loop-test.true (sym c.in-Some.ensures))
