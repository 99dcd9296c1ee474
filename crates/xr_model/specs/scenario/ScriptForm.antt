-- Which ops are in range, and which scripts have only ops in form.
use Rattle.std.specs.Prelude.{◌≡◌, ℕ, ◌-◌, ◌≤◌, true, List, [], ◌∷◌, ◌++◌, Option, Some, None, ⊤, slice_get}
use Rattle.xr_types.specs.declared.scenario.Op.{Op}
use Rattle.xr_types.specs.declared.scenario.Sort.{Sort}
use Rattle.xr_types.specs.Op.{sort_of}
use Rattle.xr_model.specs.scenario.Names.{NamedOp, is_known}
use Rattle.xr_model.specs.scenario.InRange.{IsFormed}

-- any place will do
abbrev pub IsAnyPlace : Sort → ℕ → Type 0
IsAnyPlace sort place = ⊤

-- The op's fields have the forms, ranges and lengths of its row, whatever places they use.
abbrev pub IsInRange : Op → Type 0
IsInRange o = IsFormed IsAnyPlace o

-- a place from 1 to a number of ops
abbrev pub IsWithin : ℕ → Sort → ℕ → Type 0
IsWithin ops sort place = (1 ≤ place) × (place ≤ ops)

abbrev pub HasSort : Option Op → Sort → Type 0
HasSort None sort = ⊥
HasSort (Some o) sort = sort_of o ≡ Some sort

-- the place of one of these ops, whose name is of this sort
abbrev pub IsPlaceOf : List Op → Sort → ℕ → Type 0
IsPlaceOf ops sort place = (1 ≤ place) × HasSort (slice_get ops (place - 1)) sort

-- Behind these ops each op is in range, and the places that it uses are those of ops before it whose
-- names are of the field's sort.
abbrev pub AreInForm : List Op → List Op → Type 0
AreInForm before [] = ⊤
AreInForm before (o ∷ os) = IsFormed (IsPlaceOf before) o × AreInForm (before ++ o ∷ []) os

-- A script of ops in form.
abbrev pub IsInForm : List Op → Type 0
IsInForm ops = AreInForm [] ops

-- Scripts with only ops in form.
abbrev pub AllInForm : List (List Op) → Type 0
AllInForm [] = ⊤
AllInForm (ops ∷ scripts) = IsInForm ops × AllInForm scripts

-- a place that one of these names stands for, and the name is of this sort
abbrev pub IsKnownPlace : List NamedOp → Sort → ℕ → Type 0
IsKnownPlace names sort place = is_known names sort place ≡ true
