-- The row of an op: the keys of its object in order, and how an object is read by them. Both are made of the same fields.
use Rattle.std.specs.Prelude.{ℕ, List, [], ◌∷◌, Option, None, Result, Ok, Err}
use Rattle.serde_json.specs.Data.{Data}
use Rattle.xr_types.specs.declared.fields.FieldName.{FieldName}
use Rattle.xr_types.specs.declared.fields.FieldName.TheVariants as key
use Rattle.xr_types.specs.declared.scenario.Op.{Op}
use Rattle.xr_types.specs.declared.status.What.{What}
use Rattle.xr_types.specs.declared.status.What.TheVariants as what
use Rattle.xr_model.specs.scenario.Names.{NamedOp}
use Rattle.xr_model.specs.scenario.Fields.{and_then, field, optional, name_at}
use Rattle.xr_model.specs.scenario.ListItems.{list_in}
use Rattle.xr_model.specs.scenario.ReadOp.{ReadOp, read_op}

-- ---- how a value is read

-- how a value of an op's object is read, after ops that gave names
abbrev pub Reader : Type 0 → Type 0
Reader T = List NamedOp → Data → Option T

-- a value for which no name stands
abbrev pub plain : {T : Type 0} → (Data → Option T) → Reader T
plain read names d = read d

-- an array of at most so many
abbrev pub list_by : {T : Type 0} → Reader T → ℕ → Reader (List T)
list_by read greatest names d = list_in (read names) greatest d

-- ---- fields

-- The fields whose values an F takes, one after another, to make an op: their keys in order, and how an object is read by them.
pub record Fields (F : Type 0) : Type 0 where
  pub keys : List FieldName
  pub read : F → List NamedOp → Data → Result ReadOp What

infixr 20 ◌by◌then◌
infixr 10 ◌of◌
-- the field of a key, and then the others
abbrev pub ◌by◌then◌ : {T F : Type 0} → FieldName → Reader T → Fields F → Fields (T → F)
◌by◌then◌ k read rest = record {
  keys = k ∷ rest.keys;
  read = λ f names d. and_then (field (read names) k d) (λ x. rest.read (f x) names d);
}

-- the field of a key, one that may be missing and is read by what the first says, and then the others
abbrev pub optional_after : {T U F : Type 0} → FieldName → Reader T → FieldName → (List NamedOp → T → Data → Option U) → U → Fields F
    → Fields (T → U → F)
optional_after k read next read_next missing rest = record {
  keys = k ∷ next ∷ rest.keys;
  read = λ f names d.
      and_then (field (read names) k d) (λ x. and_then (optional (read_next names x) missing next d) (λ y. rest.read (f x y) names d));
}

-- last `as`, the name that the op may give
abbrev pub may_name : Fields Op
may_name = record { keys = key.As ∷ []; read = λ o names d. and_then (name_at d) (λ name. Ok (read_op o name)) }

-- nothing more, as the op gives no name
abbrev pub no_name : Fields Op
no_name = record { keys = []; read = λ o names d. Ok (read_op o None) }

-- ---- rows

-- the keys of an op's object in order, and what the object says as this op or which of its fields is wrong first
pub record Row : Type 0 where
  pub keys : List FieldName
  pub read : List NamedOp → Data → Result ReadOp What

-- the row of an op: the key `op`, by which the row was found, and then its fields
abbrev pub ◌of◌ : {F : Type 0} → F → Fields F → Row
◌of◌ f fields = record { keys = key.Op ∷ fields.keys; read = fields.read f }

-- the row of what is no op
abbrev pub no_row : Row
no_row = record { keys = []; read = λ names d. Err what.Op }
