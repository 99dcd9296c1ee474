-- Which texts are scenarios, and the first wrong place of the others.
use Rattle.std.specs.Prelude.{ℕ, ◌+◌, ◌==◌, ◌&&◌, nat_lt, nat_le, List, [], ◌∷◌, length, Option, Some, None, option_and_then, Result, Ok, Err, if◌then◌else◌}
use Rattle.std.specs.Str.{is_utf8}
use Rattle.serde_json.specs.Data.{Data, Items, no_items, item}
use Rattle.serde_json.specs.Read.{read}
use Rattle.serde_json.specs.Find.{get, as_number, as_u64, as_array}
use Rattle.xr_types.specs.Field.{name_of_field}
use Rattle.xr_types.specs.declared.fields.FieldName.TheVariants.{Version, Scripts}
use Rattle.xr_types.specs.declared.limits.TheConstants.{VERSION, MOST_SCENARIO, MOST_SCRIPTS}
use Rattle.xr_types.specs.declared.scenario.Op.{Op}
use Rattle.xr_types.specs.declared.scenario.Scenario.{Scenario}
use Rattle.xr_types.specs.declared.status.Refusal.{Refusal}
use Rattle.xr_types.specs.declared.status.Refusal.TheVariants.{TooLong, Json, BadShape}
use Rattle.xr_types.specs.declared.status.What.{What}
use Rattle.xr_types.specs.declared.status.What.TheVariants as what
use Rattle.xr_model.specs.scenario.Names.{NamedOp}
use Rattle.xr_model.specs.scenario.Fields.{only_keys}
use Rattle.xr_model.specs.scenario.ListItems.{count_items}
use Rattle.xr_model.specs.scenario.ReadOp.{ReadOp}
use Rattle.xr_model.specs.scenario.OpReading.{read_op_of, with_name}

-- ---- the ops of a script

-- one more at the front, where the rest is right
abbrev pub and_first : {T : Type 0} → T → Result (List T) Refusal → Result (List T) Refusal
and_first x (Ok xs) = Ok (x ∷ xs)
and_first x (Err e) = Err e

abbrev pub after_op : ℕ → ℕ → Result ReadOp What → (ReadOp → Result (List Op) Refusal) → Result (List Op) Refusal
after_op script place (Err wrong) more = Err (BadShape script place wrong)
after_op script place (Ok l) more = and_first l.op (more l)

-- the ops from a place of a script on, in a version of the format, after ops that gave these names
abbrev pub ops_from : ℕ → ℕ → ℕ → List NamedOp → Items → Result (List Op) Refusal
ops_from version script place names no_items = Ok []
ops_from version script place names (item d ds) = after_op script place (read_op_of version names d) (λ l. ops_from version script (place + 1) (with_name place l names) ds)

-- ---- the scripts

abbrev pub script_by : ℕ → ℕ → Option Items → Result (List Op) Refusal
script_by version script None = Err (BadShape script 0 what.Script)
script_by version script (Some ds) = ops_from version script 1 [] ds

-- a script is an array of ops
abbrev pub script_of : ℕ → ℕ → Data → Result (List Op) Refusal
script_of version script d = script_by version script (as_array d)

-- a script with all its ops comes before the next one's own shape
abbrev pub after_script : Result (List Op) Refusal → Result (List (List Op)) Refusal → Result (List (List Op)) Refusal
after_script (Err e) more = Err e
after_script (Ok ops) more = and_first ops more

-- the scripts from a number on
abbrev pub scripts_from : ℕ → ℕ → Items → Result (List (List Op)) Refusal
scripts_from version script no_items = Ok []
scripts_from version script (item d ds) = after_script (script_of version script d) (scripts_from version (script + 1) ds)

abbrev pub scripts_by : ℕ → Option Items → Result (List (List Op)) Refusal
scripts_by version None = Err (BadShape 0 0 what.Scripts)
scripts_by version (Some ds) = if nat_le 1 (count_items ds) && nat_le (count_items ds) MOST_SCRIPTS then scripts_from version 1 ds else Err (BadShape 0 0 what.Scripts)

-- the scripts are an array of 1 to 8
abbrev pub scripts_in : ℕ → Data → Result (List (List Op)) Refusal
scripts_in version d = scripts_by version (option_and_then as_array (get (name_of_field Scripts) d))

-- ---- the whole

-- the version of the format in which a scenario is written, where it is one that there is
abbrev pub version_of : Data → Option ℕ
version_of d =
    option_and_then (λ n. if n == VERSION then Some n else None)
    (option_and_then as_u64 (option_and_then as_number (get (name_of_field Version) d)))

abbrev pub scenario_by : ℕ → Result (List (List Op)) Refusal → Result Scenario Refusal
scenario_by version (Err e) = Err e
scenario_by version (Ok scripts) = Ok (record { version = version; scripts = scripts })

abbrev pub scenario_at : Data → Option ℕ → Result Scenario Refusal
scenario_at d None = Err (BadShape 0 0 what.Version)
scenario_at d (Some version) = scenario_by version (scripts_in version d)

-- an object with no other keys, then its version, and then its scripts
abbrev pub scenario_in : Data → Result Scenario Refusal
scenario_in d = if only_keys (Version ∷ Scripts ∷ []) d then scenario_at d (version_of d) else Err (BadShape 0 0 what.Top)

-- the value of the bytes, where the JSON reader by its own statement reads them
abbrev pub json_of : List ℕ → Option Data
json_of bytes = if is_utf8 bytes then read bytes else None

abbrev pub scenario_if : Option Data → Result Scenario Refusal
scenario_if None = Err Json
scenario_if (Some d) = scenario_in d

-- The scenario of a text of at most 1,048,576 bytes, or its first wrong place.
abbrev pub scenario_of : List ℕ → Result Scenario Refusal
scenario_of text = if nat_lt MOST_SCENARIO (length text) then Err TooLong else scenario_if (json_of text)
