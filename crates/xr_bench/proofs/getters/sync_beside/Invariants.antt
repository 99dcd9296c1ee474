use Rattle.xr_runtime.specs.Passes.{table_of, IsApp}
use Rattle.xr_bench.proofs.getters.sync_beside.Given as goal

abbrev pub invariant-loop : goal.invariant-loop
invariant-loop g l = IsApp (table_of l.runtime) l.pass
