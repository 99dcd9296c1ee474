use Rattle.std.proofs.Common.{◌<◌, length, sym, subst}
use Rattle.std.specs.Prelude.{slice_index_or}
use Rattle.xr_runtime.specs.Passes.{table_of, IsApp}
use Rattle.xr_runtime.specs.declared.passes.AppPass.{AppPass}
use Rattle.xr_bench.proofs.First.{all_apps}
use Rattle.xr_bench.proofs.getters.make_calls.Goals as goal

pub work_on-requires-clause-are : goal.work_on-requires-clause-are
work_on-requires-clause-are g c κs within =
    let table = table_of c.in_ok-runtime.runtime in
    subst (λ l. (i : _) (d : AppPass) → i < length l → IsApp table (slice_index_or l i d)) (sym c.as_mut_slice.ensures.value) (all_apps table c.in_ok-runtime.passes.apps.items c.in_ok-runtime.ensures.started.passes)
