-- The keys that each op of a row has, and an object that has room for no other.
use Rattle.std.specs.Prelude.{◌≡◌, ⊤, ℕ, ◌+◌, ◌==◌, ◌&&◌, ◌||◌, nat_lt, Bool, true, false, List, [], ◌∷◌, length, Option, Some, None, is_some, if◌then◌else◌}
use Rattle.serde_json.specs.Data.{Data, null, boolean, number, string, array, object, Members, no_members, member}
use Rattle.serde_json.specs.Find.{get}
use Rattle.xr_types.specs.Field.{name_of_field}
use Rattle.xr_types.specs.declared.fields.FieldName.{FieldName}
use Rattle.xr_types.specs.declared.fields.FieldName.TheVariants as key

abbrev pub is_found : FieldName → Data → Bool
is_found k d = is_some (get (name_of_field k) d)

-- a key that an op may lack, which is the last of its row
abbrev pub may_lack : FieldName → Bool
may_lack key.As = true
may_lack key.Value = true
may_lack _ = false

-- the keys of a row without the last, where an op may lack it
abbrev pub needed : List FieldName → List FieldName
needed [] = []
needed (k ∷ []) = if may_lack k then [] else k ∷ []
needed (k ∷ next ∷ keys) = k ∷ needed (next ∷ keys)

-- each of these keys is there
abbrev pub HasAll : List FieldName → Data → Type 0
HasAll [] d = ⊤
HasAll (k ∷ keys) d = (is_found k d ≡ true) × HasAll keys d

abbrev pub last_of : List FieldName → Option FieldName
last_of [] = None
last_of (k ∷ []) = Some k
last_of (k ∷ next ∷ keys) = last_of (next ∷ keys)

abbrev pub is_found_by : Option FieldName → Data → Bool
is_found_by None d = true
is_found_by (Some k) d = if may_lack k then is_found k d else true

-- the last key of a row is there, if an op may lack it
abbrev pub has_last : List FieldName → Data → Bool
has_last keys d = is_found_by (last_of keys) d

abbrev pub count_members : Members → ℕ
count_members no_members = 0
count_members (member k d ms) = 1 + count_members ms

-- an object has fewer members than there are keys, or as many and the last key
abbrev pub is_full : List FieldName → Data → Bool
is_full keys null = false
is_full keys (boolean b) = false
is_full keys (number n) = false
is_full keys (string s) = false
is_full keys (array ds) = false
is_full keys (object ms) = nat_lt (count_members ms) (length keys) || (count_members ms == length keys && has_last keys (object ms))
