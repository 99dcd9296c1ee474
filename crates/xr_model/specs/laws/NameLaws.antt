-- Names tell apart what they name, so each is found again by its name.
use Rattle.std.specs.Prelude.{◌≡◌, ◌≤◌, ℕ, List, Some}
use Rattle.serde_json.specs.Data.{string}
use Rattle.xr_types.specs.declared.code.Code.{Code}
use Rattle.xr_types.specs.declared.device.Wish.{Wish}
use Rattle.xr_types.specs.declared.fields.FieldName.{FieldName}
use Rattle.xr_types.specs.declared.frames.Blend.{Blend}
use Rattle.xr_types.specs.declared.input.ActionType.{ActionType}
use Rattle.xr_types.specs.declared.input.Profile.{Profile}
use Rattle.xr_types.specs.declared.input.User.{User}
use Rattle.xr_types.specs.declared.limits.TheConstants.{MOST_ROW}
use Rattle.xr_types.specs.declared.names.CallName.{CallName}
use Rattle.xr_types.specs.declared.scenario.Op.{Op}
use Rattle.xr_types.specs.declared.session.Form.{Form}
use Rattle.xr_types.specs.declared.session.SessionState.{SessionState}
use Rattle.xr_types.specs.declared.session.ViewConfig.{ViewConfig}
use Rattle.xr_types.specs.declared.spaces.Origin.{Origin}
use Rattle.xr_types.specs.declared.spaces.RefKind.{RefKind}
use Rattle.xr_types.specs.Code.{name_of_code}
use Rattle.xr_types.specs.Field.{name_of_field}
use Rattle.xr_types.specs.InputNames.{input_name}
use Rattle.xr_types.specs.Op.{call_name, name_of_call}
use Rattle.xr_types.specs.Printed.{form_name, all_forms, view_name, all_views, kind_name, all_kinds, action_type_name, all_action_types, blend_name, all_blends, state_name, wish_name, user_path, profile_name, origin_name}
use Rattle.xr_model.specs.scenario.Fields.{word_in}
use Rattle.xr_model.specs.scenario.OpReading.{op_named}

-- ---- names are different

-- two of these with one name are the same
abbrev pub AreDistinct : (T : Type 0) → (T → List ℕ) → Type 0
AreDistinct T name = (x y : T) → name x ≡ name y → x ≡ y

-- two inputs of rows 1 to 40 with one name are the same
abbrev pub InputsAreDistinct : Type 0
InputsAreDistinct = (j k : ℕ) → 1 ≤ j → j ≤ MOST_ROW → 1 ≤ k → k ≤ MOST_ROW → input_name j ≡ input_name k → j ≡ k

-- Two calls with one name are the same, and so are two keys, results, states, inputs, and values that have words.
pub record NamesAreDistinct : Type 0 where
  pub calls : AreDistinct CallName name_of_call
  pub keys : AreDistinct FieldName name_of_field
  pub codes : AreDistinct Code name_of_code
  pub states : AreDistinct SessionState state_name
  pub inputs : InputsAreDistinct
  pub forms : AreDistinct Form form_name
  pub views : AreDistinct ViewConfig view_name
  pub kinds : AreDistinct RefKind kind_name
  pub types : AreDistinct ActionType action_type_name
  pub blends : AreDistinct Blend blend_name
  pub wishes : AreDistinct Wish wish_name
  pub users : AreDistinct User user_path
  pub profiles : AreDistinct Profile profile_name
  pub origins : AreDistinct Origin origin_name

-- ---- what is printed is found

-- the name of an op names that op
abbrev pub OpsAreFound : Type 0
OpsAreFound = (o : Op) → op_named (name_of_call (call_name o)) ≡ Some (call_name o)

-- the text of a value's word is read as that value, by the words that a scenario has for such values
abbrev pub IsReadBack : (T : Type 0) → (T → List ℕ) → List T → Type 0
IsReadBack T printed listed = (x : T) → word_in printed listed (string (printed x)) ≡ Some x

-- each word of a scenario is read as the value whose word it is
pub record WordsAreFound : Type 0 where
  pub forms : IsReadBack Form form_name all_forms
  pub views : IsReadBack ViewConfig view_name all_views
  pub kinds : IsReadBack RefKind kind_name all_kinds
  pub types : IsReadBack ActionType action_type_name all_action_types
  pub blends : IsReadBack Blend blend_name all_blends
