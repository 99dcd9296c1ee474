use Rattle.xr_bench.specs.Resting.{Rests}
use Rattle.xr_bench.proofs.turns.take_turns.Given as goal

abbrev pub invariant-loop : goal.invariant-loop
invariant-loop g l = Rests l.table.table.shared.table_id l.seat
