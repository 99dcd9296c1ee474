-- What holds of scripts in form holds of each of their ops.
use Rattle.std.proofs.Common.{◌++◌, ◌<◌, ℕ, zero, suc, List, [], ◌∷◌, length, arith, get_or}
use Rattle.xr_types.specs.declared.scenario.Op.{Op}
use Rattle.xr_model.specs.scenario.ScriptForm.{IsPlaceOf, AreInForm, IsInForm, AllInForm, IsAnyPlace, IsInRange}
use Rattle.xr_model.proofs.InRange.{formed-weaker}

in_range-behind : (before ops : List Op) (i : ℕ) (d : Op) → AreInForm before ops → i < length ops → IsInRange (get_or ops i d)
in_range-behind before [] i d all h = let none : ⊥ = omega (arith, h) in absurd none
in_range-behind before (o ∷ ops) zero d all h = formed-weaker (IsPlaceOf before) IsAnyPlace (λ sort place here. tt) o all.0
in_range-behind before (o ∷ ops) (suc i) d all h = in_range-behind (before ++ o ∷ []) ops i d all.1 (omega (arith, h))

pub in_range-item : (ops : List Op) (i : ℕ) (d : Op) → IsInForm ops → i < length ops → IsInRange (get_or ops i d)
in_range-item ops i d all h = in_range-behind [] ops i d all h

pub in_form-item : (scripts : List (List Op)) (i : ℕ) (d : List Op) → AllInForm scripts → i < length scripts → IsInForm (get_or scripts i d)
in_form-item [] i d all h = let none : ⊥ = omega (arith, h) in absurd none
in_form-item (ops ∷ scripts) zero d all h = all.0
in_form-item (ops ∷ scripts) (suc i) d all h = in_form-item scripts i d all.1 (omega (arith, h))
