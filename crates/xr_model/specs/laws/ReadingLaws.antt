-- What of an op of a script is told as wrong, what an op is read as, and which keys it has.
use Rattle.std.specs.Prelude.{◌≡◌, ◌↔◌, ◌⊎◌, ◌++◌, ℕ, false, List, [], ◌∷◌, Some, Ok, Err}
use Rattle.serde_json.specs.Data.{Data, object, Members, no_members, member}
use Rattle.serde_json.specs.Find.{get}
use Rattle.xr_types.specs.declared.fields.FieldName.{FieldName}
use Rattle.xr_types.specs.declared.limits.TheConstants.{VERSION}
use Rattle.xr_types.specs.declared.names.CallName.{CallName}
use Rattle.xr_types.specs.declared.scenario.Op.{Op}
use Rattle.xr_types.specs.declared.status.What.{What}
use Rattle.xr_types.specs.declared.status.What.TheVariants as what
use Rattle.xr_types.specs.Field.{name_of_field}
use Rattle.xr_types.specs.Op.{call_name}
use Rattle.xr_model.specs.scenario.Names.{NamedOp}
use Rattle.xr_model.specs.scenario.Fields.{only_keys}
use Rattle.xr_model.specs.scenario.OpReading.{op_of, op_in, keys_of, read_op_of}
use Rattle.xr_model.specs.scenario.ReadOp.{ReadOp}

-- ---- the first wrong place

-- two values have the same under each of these keys
abbrev pub AreAlike : List FieldName → Data → Data → Type 0
AreAlike [] d e = Unit {0}
AreAlike (key ∷ keys) d e = (get (name_of_field key) d ≡ get (name_of_field key) e) × AreAlike keys d e

-- a key is one of these
abbrev pub IsAmong : List FieldName → FieldName → Type 0
IsAmong [] key = ⊥
IsAmong (k ∷ keys) key = (key ≡ k) ⊎ IsAmong keys key

-- an object names no op
abbrev pub NamesNoOp : Data → Type 0
NamesNoOp d = (o : Op) → op_of d ≡ Some (call_name o) → ⊥

-- A key stands in its op's row. As long as what stands under it and under the keys before it stays as it is, it is told as wrong,
-- whatever comes behind. And it is the first: whatever comes under it and behind, no key before it is told.
pub record IsFirstWrongKey (names : List NamedOp) (d : Data) (key : FieldName) : Type 0 where
  pub call : CallName
  pub before : List FieldName
  pub behind : List FieldName
  pub named : op_of d ≡ Some call
  pub row : keys_of VERSION call ≡ before ++ key ∷ behind
  pub told : (e : Data) → AreAlike (before ++ key ∷ []) d e → read_op_of VERSION names e ≡ Err (what.Field key)
  pub first : (e : Data) → AreAlike before d e → (other : FieldName) → IsAmong before other → read_op_of VERSION names e ≡ Err (what.Field other) → ⊥

-- No key of the row is told as wrong, and there are others than the row's.
pub record HasOtherKeys (names : List NamedOp) (d : Data) : Type 0 where
  pub call : CallName
  pub read : ReadOp
  pub named : op_of d ≡ Some call
  pub right : op_in names d call ≡ Ok read
  pub others : only_keys (keys_of VERSION call) d ≡ false

-- what is wrong first: that it names no op, a key of its row, or that it has other keys
abbrev pub IsFirstWrong : List NamedOp → Data → What → Type 0
IsFirstWrong names d what.Op = NamesNoOp d
IsFirstWrong names d (what.Field key) = IsFirstWrongKey names d key
IsFirstWrong names d what.Extra = HasOtherKeys names d
IsFirstWrong names d _ = ⊥

abbrev pub FirstWrongPlaceIsTold : Type 0
FirstWrongPlaceIsTold = (names : List NamedOp) (d : Data) (wrong : What) → read_op_of VERSION names d ≡ Err wrong → IsFirstWrong names d wrong

-- ---- what an op is read as

-- what is read is the op that the object names
abbrev pub OpsAreWhatTheyAreCalled : Type 0
OpsAreWhatTheyAreCalled =
    (version : ℕ) (names : List NamedOp) (d : Data) (l : ReadOp) → read_op_of version names d ≡ Ok l → op_of d ≡ Some (call_name l.op)

-- ---- its keys

-- a text is the name of one of these keys
abbrev pub IsNameAmong : List FieldName → List ℕ → Type 0
IsNameAmong [] text = ⊥
IsNameAmong (key ∷ keys) text = (text ≡ name_of_field key) ⊎ IsNameAmong keys text

-- a text stands as a key in an object
abbrev pub IsKeyIn : Members → List ℕ → Type 0
IsKeyIn no_members text = ⊥
IsKeyIn (member k d ms) text = (text ≡ k) ⊎ IsKeyIn ms text

-- an object each of whose keys is the name of one of these
pub record HasOnly (keys : List FieldName) (d : Data) : Type 0 where
  pub members : Members
  pub is : d ≡ object members
  pub each : (text : List ℕ) → IsKeyIn members text → IsNameAmong keys text

-- an object with a key that is the name of none of these
pub record HasAnother (keys : List FieldName) (d : Data) : Type 0 where
  pub members : Members
  pub text : List ℕ
  pub is : d ≡ object members
  pub stands : IsKeyIn members text
  pub other : IsNameAmong keys text → ⊥

-- An object whose fields are right for an op is read as that op exactly where all its keys are the row's, and it is told to have
-- another key exactly where it has one.
pub record KeysDecide (version : ℕ) (names : List NamedOp) (d : Data) (call : CallName) (l : ReadOp) : Type 0 where
  pub only : (read_op_of version names d ≡ Ok l) ↔ HasOnly (keys_of version call) d
  pub another : (read_op_of version names d ≡ Err what.Extra) ↔ HasAnother (keys_of version call) d

abbrev pub KeysAreTheRows : Type 0
KeysAreTheRows =
    (version : ℕ) (names : List NamedOp) (d : Data) (call : CallName) (l : ReadOp) → op_of d ≡ Some call → op_in names d call ≡ Ok l
    → KeysDecide version names d call l
