use Rattle.std.specs.Prelude.{All}
use Rattle.xr_sync.specs.Ranks.{IsPlaced}
use Rattle.xr_bench.proofs.calls.syncs.all_bindings.Given as goal

abbrev pub invariant-loop-number : goal.invariant-loop-number
invariant-loop-number l = All IsPlaced l.list
