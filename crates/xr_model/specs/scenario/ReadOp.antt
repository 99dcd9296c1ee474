-- What an op of a text is read as.
use Rattle.std.specs.Prelude.{ℕ, List, Option}
use Rattle.xr_types.specs.declared.scenario.Op.{Op}

-- an op, and the name that it gives
pub record ReadOp : Type 0 where
  pub op : Op
  pub name : Option (List ℕ)

abbrev pub read_op : Op → Option (List ℕ) → ReadOp
read_op o n = record { op = o; name = n }
