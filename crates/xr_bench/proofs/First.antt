-- Passes of a start, before their calls.
use Rattle.std.proofs.Common.{ℕ, ◌<◌, List, length}
use Rattle.std.proofs.lemmas.Option.{slice_get-get_or}
use Rattle.std.specs.Prelude.{slice_index_or}
use Rattle.atomic_table.specs.Seated.{TableId}
use Rattle.xr_runtime.specs.Passes.{IsApp, AreFirst}
use Rattle.xr_runtime.specs.declared.passes.AppPass.{AppPass}

-- each is an application's
pub all_apps : (table : TableId) (l : List AppPass) → AreFirst table l → (i : ℕ) (d : AppPass) → i < length l → IsApp table (slice_index_or l i d)
all_apps table l first i d within = (first i (slice_index_or l i d) (slice_get-get_or l i d within)).is
