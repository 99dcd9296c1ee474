use Rattle.xr_states.proofs.SessionChanges.{ComesSoFar}
use Rattle.xr_states.proofs.table.settle.Given as goal

abbrev pub invariant-loop : goal.invariant-loop
invariant-loop l = ComesSoFar l.wish l.exit l.initial.state l.initial.out l.counter l.state l.out
