use Rattle.std.proofs.Common.{◌≡◌, ◌<◌, ℕ, max, drop, length}
use Rattle.std.specs.Prelude.{slice_index}
use Rattle.xr_sync.specs.Ranks.{top_of}
use Rattle.xr_sync.proofs.live.rank.Given as goal

abbrev pub invariant-loop-b : goal.invariant-loop-b
invariant-loop-b l = (length l.tops ≡ 150) × ((source : ℕ) → source < 150 → top_of l.active l.all source ≡ max (slice_index l.tops source) (top_of l.active (drop l.b-index l.all) source))
