-- Cells that are lent: what was called on a loan was called on the cells that it lends.
use Rattle.std.proofs.Common.{◌≡◌, List, [], ◌∷◌, refl, ap, ◌∙◌}
use Rattle.xr_types.specs.declared.calls.Actor.{Actor}
use Rattle.xr_types.specs.declared.calls.Call.{Call}
use Rattle.xr_types.specs.declared.calls.Step.{Step}
use Rattle.xr_model.specs.machine.CellCalls.{CellCall, MayCall, Leads}
use Rattle.xr_model.specs.machine.CoreCalls.{Lent}
use Rattle.xr_model.specs.machine.OverCells.{World, AppliesOver}
use Rattle.xr_model.specs.machine.PlainImages.{PlainImages, PlainMay, PlainDoes}
use Rattle.xr_model.specs.machine.State.{WholeCore}

-- a loan by what it lends, and the name by which that is known afterwards
module _ {C N : Type 0} (now : C → PlainImages) (name : C → N) where
  abbrev pub LentMay : C → CellCall → Type 0
  LentMay c x = PlainMay (now c) x

  abbrev pub LentDoes : C → CellCall → C → Type 0
  LentDoes c x d = (name d ≡ name c) × PlainDoes (now c) x (now d)

  pub may_all : (calls : List CellCall) (c : C) → MayCall LentMay LentDoes c calls
  may_all [] c = tt
  may_all (x ∷ calls) c = (tt, λ d h. may_all calls d)

  pub lends : (calls : List CellCall) (c d : C) → Leads LentDoes c calls d → Leads PlainDoes (now c) calls (now d)
  lends [] c d leads = ap now leads
  lends (x ∷ calls) c d leads = (now leads.0, leads.1.1, lends calls leads.0 d leads.2)

  pub same_name : (calls : List CellCall) (c d : C) → Leads LentDoes c calls d → name d ≡ name c
  same_name [] c d leads = ap name leads
  same_name (x ∷ calls) c d leads = same_name calls leads.0 d leads.2 ∙ leads.1.0

  pub lent_applies : (core core2 : WholeCore) (c d : C) (lent lent2 : Lent) (who : Actor) (call : Call) (answer : Step)
      → AppliesOver LentDoes (record { core = core; cells = c; lent = lent }) (record { core = core2; cells = d; lent = lent2 }) who call answer
      → AppliesOver PlainDoes (record { core = core; cells = now c; lent = lent }) (record { core = core2; cells = now d; lent = lent2 }) who call answer
  lent_applies core core2 c d lent lent2 who call answer a =
      record { reads = a.reads; own = a.own; each = a.each; cells = lends _ c d a.cells; applies = a.applies; holds = a.holds }
