-- Fields of an op: what a JSON value says, or which place of the op is wrong.
use Rattle.std.specs.Prelude.{ℕ, ℤ, pos, negsuc, int_le, ◌-◌, ◌^◌, ◌==◌, ◌&&◌, ◌||◌, nat_lt, nat_le, Bool, true, false, List, length, codes, Option, Some, None, option_and_then, option_map, Result, Ok, Err, if◌then◌else◌}
use Rattle.std.specs.List.{list_all, list_any}
use Rattle.std.specs.Str.{bytes_eq}
use Rattle.serde_json.specs.Data.{Data, Members, no_members, member}
use Rattle.serde_json.specs.Find.{get, as_str, as_number, as_u64, as_i64, as_object}
use Rattle.xr_types.specs.Field.{name_of_field}
use Rattle.xr_types.specs.Words.{named}
use Rattle.xr_types.specs.declared.fields.FieldName.{FieldName}
use Rattle.xr_types.specs.declared.fields.FieldName.TheVariants.{As}
use Rattle.xr_types.specs.declared.limits.TheConstants.{MOST_TEXT, MOST_GIVEN, MOST_MARK, MOST_HANDLE_MARK}
use Rattle.xr_types.specs.declared.scenario.Sort.{Sort}
use Rattle.xr_types.specs.declared.scenario.Sort.TheVariants as sort
use Rattle.xr_types.specs.declared.scenario.Use.{Use}
use Rattle.xr_types.specs.declared.scenario.Use.TheVariants.{Number, Of}
use Rattle.xr_types.specs.declared.status.What.{What}
use Rattle.xr_types.specs.declared.status.What.TheVariants.{Field}
use Rattle.xr_model.specs.scenario.Names.{NamedOp, place_named}

-- first this, and then with its value the rest; what is wrong first is what is told
abbrev pub and_then : {T U : Type 0} → Result T What → (T → Result U What) → Result U What
and_then (Err wrong) rest = Err wrong
and_then (Ok x) rest = rest x

-- the value of a field, or that field is wrong
abbrev pub at : {T : Type 0} → FieldName → Option T → Result T What
at key None = Err (Field key)
at key (Some x) = Ok x

-- the field of a key, as `read` reads it
abbrev pub field : {T : Type 0} → (Data → Option T) → FieldName → Data → Result T What
field read key d = at key (option_and_then read (get (name_of_field key) d))

abbrev pub optional_by : {T : Type 0} → (Data → Option T) → T → FieldName → Option Data → Result T What
optional_by read missing key None = Ok missing
optional_by read missing key (Some d) = at key (read d)

-- a field that may be missing
abbrev pub optional : {T : Type 0} → (Data → Option T) → T → FieldName → Data → Result T What
optional read missing key d = optional_by read missing key (get (name_of_field key) d)

-- ---- numbers

-- 2^63 - 1
abbrev pub most : ℕ
most = 2 ^ 63 - 1

-- 2^32 - 1
abbrev pub most_u32 : ℕ
most_u32 = 2 ^ 32 - 1

abbrev pub least_i64 : ℤ
least_i64 = negsuc (2 ^ 63 - 1)

abbrev pub most_i64 : ℤ
most_i64 = pos (2 ^ 63 - 1)

-- a whole number up to a greatest one
abbrev pub number_in : ℕ → Data → Option ℕ
number_in greatest d = option_and_then (λ n. if nat_le n greatest then Some n else None) (option_and_then as_u64 (as_number d))

-- a whole number of a range
abbrev pub integer_in : ℤ → ℤ → Data → Option ℤ
integer_in least greatest d = option_and_then (λ n. if int_le least n && int_le n greatest then Some n else None) (option_and_then as_i64 (as_number d))

-- a mark's number, 1 to 64
abbrev pub mark_in : Data → Option ℕ
mark_in d = option_and_then (λ n. if nat_le 1 n && nat_le n MOST_MARK then Some n else None) (option_and_then as_u64 (as_number d))

abbrev pub timeout_by : Data → Option (List ℕ) → Option ℤ
timeout_by d (Some text) = if bytes_eq text (codes "inf") then Some most_i64 else None
timeout_by d None = integer_in (pos 0) most_i64 d

-- a whole number below 2^63, or `inf` for the greatest
abbrev pub timeout_in : Data → Option ℤ
timeout_in d = timeout_by d (as_str d)

-- ---- names and numbers

-- a name of a sort, or else a whole number of a range
abbrev pub use_by : Sort → ℤ → ℤ → List NamedOp → Data → Option (List ℕ) → Option Use
use_by kind least greatest names d (Some name) = option_map Of (place_named kind name names)
use_by kind least greatest names d None = option_map Number (integer_in least greatest d)

abbrev pub use_in : Sort → ℤ → ℤ → List NamedOp → Data → Option Use
use_in kind least greatest names d = use_by kind least greatest names d (as_str d)

-- a handle is a name of its sort, or 0
abbrev pub handle_in : List NamedOp → Data → Option Use
handle_in = use_in sort.Handle (pos 0) (pos 0)

-- an atom is a name of its sort, or a number below 2^63
abbrev pub atom_in : List NamedOp → Data → Option Use
atom_in = use_in sort.Atom (pos 0) most_i64

-- a system is a name of the number sort, or a number below 2^63
abbrev pub system_in : List NamedOp → Data → Option Use
system_in = use_in sort.Number (pos 0) most_i64

-- a time is a name of the number sort, or a number of 64 bits
abbrev pub time_in : List NamedOp → Data → Option Use
time_in = use_in sort.Number least_i64 most_i64

-- the value of a mark is a handle for marks 1 to 32, and an atom for the others
abbrev pub value_in : List NamedOp → ℕ → Data → Option Use
value_in names mark d = if nat_le mark MOST_HANDLE_MARK then handle_in names d else atom_in names d

-- ---- words

-- a text of at most 1024 bytes
abbrev pub text_in : Data → Option (List ℕ)
text_in d = option_and_then (λ t. if nat_le (length t) MOST_TEXT then Some t else None) (as_str d)

-- a value of a few, by its word
abbrev pub word_in : {T : Type 0} → (T → List ℕ) → List T → Data → Option T
word_in printed listed d = option_and_then (named printed listed) (as_str d)

-- ---- the name that an op gives

-- `a` to `z`, `0` to `9` and `_`
abbrev pub is_name_byte : ℕ → Bool
is_name_byte b = (nat_le 97 b && nat_le b 122) || (nat_le 48 b && nat_le b 57) || b == 95

-- a name has 1 to 32 bytes
abbrev pub is_name : List ℕ → Bool
is_name t = nat_lt 0 (length t) && nat_le (length t) MOST_GIVEN && list_all is_name_byte t

abbrev pub name_in : Data → Option (List ℕ)
name_in d = option_and_then (λ t. if is_name t then Some t else None) (as_str d)

abbrev pub name_by : Option Data → Result (Option (List ℕ)) What
name_by None = Ok None
name_by (Some d) = at As (option_map Some (name_in d))

-- the name under `as`, which may be missing
abbrev pub name_at : Data → Result (Option (List ℕ)) What
name_at d = name_by (get (name_of_field As) d)

-- ---- keys

abbrev pub is_key : List FieldName → List ℕ → Bool
is_key keys k = list_any (λ key. bytes_eq (name_of_field key) k) keys

abbrev pub are_keys : List FieldName → Members → Bool
are_keys keys no_members = true
are_keys keys (member k d ms) = is_key keys k && are_keys keys ms

abbrev pub only_keys_by : List FieldName → Option Members → Bool
only_keys_by keys None = false
only_keys_by keys (Some ms) = are_keys keys ms

-- an object with no other key than these
abbrev pub only_keys : List FieldName → Data → Bool
only_keys keys d = only_keys_by keys (as_object d)
