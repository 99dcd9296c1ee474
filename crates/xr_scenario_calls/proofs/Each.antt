-- What holds of each item holds of the one at a place.
use Rattle.std.proofs.Common.{ℕ, zero, suc, ◌<◌, List, [], ◌∷◌, length, get_or, arith}
use Rattle.xr_model.specs.scenario.InRange.{Each}

pub each-item : {T : Type 0} (P : T → Type 0) (xs : List T) (i : ℕ) (d : T) → Each P xs → i < length xs → P (get_or xs i d)
each-item P [] i d all h = let none : ⊥ = omega (arith, h) in absurd none
each-item P (x ∷ xs) zero d all h = all.0
each-item P (x ∷ xs) (suc i) d all h = each-item P xs i d all.1 (omega (arith, h))

pub ruleset each_item = (each-item)
