-- An op of a script: which one it is, what it says, and what its name stands for.
use Rattle.std.specs.Prelude.{ℕ, ◌==◌, List, [], Option, Some, None, option_and_then, Result, Ok, Err, if◌then◌else◌}
use Rattle.std.specs.List.{find}
use Rattle.std.specs.Str.{bytes_eq}
use Rattle.serde_json.specs.Data.{Data}
use Rattle.serde_json.specs.Find.{get, as_str}
use Rattle.xr_types.specs.Field.{name_of_field}
use Rattle.xr_types.specs.declared.fields.FieldName.{FieldName}
use Rattle.xr_types.specs.declared.fields.FieldName.TheVariants.{Op}
use Rattle.xr_types.specs.declared.limits.TheConstants.{VERSION}
use Rattle.xr_types.specs.declared.names.CallName.{CallName}
use Rattle.xr_types.specs.declared.scenario.Sort.{Sort}
use Rattle.xr_types.specs.declared.status.What.{What}
use Rattle.xr_types.specs.declared.status.What.TheVariants as what
use Rattle.xr_types.specs.Op.{name_of_call, all_ops, sort_of}
use Rattle.xr_model.specs.scenario.Names.{NamedOp, given}
use Rattle.xr_model.specs.scenario.ReadOp.{ReadOp}
use Rattle.xr_model.specs.scenario.Fields.{and_then, only_keys}
use Rattle.xr_model.specs.scenario.OpRows.{row_of}

-- the op of a name
abbrev pub op_named : List ℕ → Option CallName
op_named t = find (λ c. bytes_eq t (name_of_call c)) all_ops

abbrev pub named_by : Option CallName → Result CallName What
named_by None = Err what.Op
named_by (Some name) = Ok name

-- which op an object is, if it is one
abbrev pub op_of : Data → Option CallName
op_of d = option_and_then op_named (option_and_then as_str (get (name_of_field Op) d))

abbrev pub op_name : Data → Result CallName What
op_name d = named_by (op_of d)

-- what an object says as this op
abbrev pub op_in : List NamedOp → Data → CallName → Result ReadOp What
op_in names d row = (row_of row).read names d

-- the keys of an op's object in a version of the format
abbrev pub keys_of : ℕ → CallName → List FieldName
keys_of version row = if version == VERSION then (row_of row).keys else []

-- the value, where the op has no other key than those of its row
abbrev pub only : {T : Type 0} → ℕ → CallName → Data → T → Result T What
only version row d x = if only_keys (keys_of version row) d then Ok x else Err what.Extra

-- the same, and it has no other key
abbrev pub only_op_in : ℕ → List NamedOp → Data → CallName → Result ReadOp What
only_op_in version names d row = and_then (op_in names d row) (only version row d)

-- an op of a script in a version of the format, after ops that gave these names, or what of it is wrong first
abbrev pub read_op_of : ℕ → List NamedOp → Data → Result ReadOp What
read_op_of version names d = and_then (op_name d) (only_op_in version names d)

abbrev pub with_name_of : ℕ → Option Sort → Option (List ℕ) → List NamedOp → List NamedOp
with_name_of place (Some sort) (Some name) names = given name place sort names
with_name_of place _ _ names = names

-- the names after an op
abbrev pub with_name : ℕ → ReadOp → List NamedOp → List NamedOp
with_name place l names = with_name_of place (sort_of l.op) l.name names
