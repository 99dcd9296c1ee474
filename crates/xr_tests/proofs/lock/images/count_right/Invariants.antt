use Rattle.xr_runtime.specs.Passes.{table_of, IsApp, IsCompositor}
use Rattle.xr_tests.proofs.lock.images.count_right.Given as goal

abbrev pub invariant-loop-number : goal.invariant-loop-number
invariant-loop-number g l = IsApp (table_of l.runtime) l.app × IsCompositor (table_of l.runtime) l.compositor
