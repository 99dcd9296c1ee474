-- How a list of made calls grows.
use Rattle.std.proofs.Common.{◌≡◌, ◌+◌, ℕ, suc, List, [], ◌∷◌, ◌++◌, length, refl, ap, arith}
use Rattle.xr_types.specs.declared.made.Made.{Made}
use Rattle.xr_model.specs.machine.Calls.{Exchange}
use Rattle.xr_model.specs.runs.Lists.{made_at, made_from}

pub made_snoc : (place : ℕ) (calls : List Exchange) (t : Exchange) → made_from place (calls ++ t ∷ []) ≡ made_from place calls ++ made_at (place + length calls) t ∷ []
made_snoc place [] t = let same : place ≡ place + 0 = omega arith in rw (← same) refl
made_snoc place (u ∷ calls) t = let same : place + suc (length calls) ≡ place + 1 + length calls = omega arith in rw same (ap (λ (ms : List Made). made_at place u ∷ ms) (made_snoc (place + 1) calls t))
