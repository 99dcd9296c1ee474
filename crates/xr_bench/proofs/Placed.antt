-- Bindings that are all the same.
use Rattle.std.proofs.Common.{ℕ, zero, suc, arith}
use Rattle.std.specs.Prelude.{All, replicate}
use Rattle.xr_types.specs.declared.input.Ranked.{Ranked}
use Rattle.xr_sync.specs.Ranks.{IsPlaced}

pub all_same : (n : ℕ) (b : Ranked) → IsPlaced b → All IsPlaced (replicate n b)
all_same zero b placed k d within = absurd (omega (arith, within))
all_same (suc n) b placed zero d within = placed
all_same (suc n) b placed (suc k) d within = all_same n b placed k d (omega (arith, within))
