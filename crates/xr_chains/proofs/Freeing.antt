-- The calls on cells that free images: those made so far, and those that are left.
use Rattle.std.specs.Prelude.{List}
use Rattle.xr_types.specs.declared.frames.Image.{Image}
use Rattle.xr_model.specs.machine.CellCalls.{CellCall, free_calls, MayCall, Leads}

module _ {C : Type 0} (may : C → CellCall → Type 0) (does : C → CellCall → C → Type 0) where
  -- The images that are left may be freed from these cells, and wherever that leads, all of them lead from the first cells.
  pub record IsFreeing (first now : C) (all left : List Image) : Type 0 where
    pub may_go_on : MayCall may does now (free_calls left)
    pub goes_on : (d : C) → Leads does now (free_calls left) d → Leads does first (free_calls all) d
