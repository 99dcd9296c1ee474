-- An object that has each of some keys, and no more members than keys, has no other key; and an op that is read has those that
-- its row needs.
use Rattle.std.proofs.Common.{Ordering, Less, Equal, Greater, ◌≡◌, ℕ, suc, ◌+◌, ◌-◌, ◌≤◌, ◌==◌, ◌&&◌, ◌||◌, not, Bool, true, false, List, [], ◌∷◌, length, Option, Some, None, Result, Ok, Err, refl, sym, ap, ◌∙◌, true≢false, arith, inl, inr, ◌⊎◌}
use Rattle.std.proofs.lemmas.Bool.{and_from, or_cases, or_left, or_right}
use Rattle.std.proofs.lemmas.Map.Text.{is_eq-slice_cmp}
use Rattle.std.proofs.lemmas.Slice.Eq.{bytes_eq-Decides}
use Rattle.std.specs.declared.alloc.Global.{Global}
use Rattle.std.specs.Prelude.{String, slice_get, nat_lt, is_some, if◌then◌else◌, option_and_then}
use Rattle.std.specs.Ordering.{match_ordering, is_eq, nat_cmp}
use Rattle.std.specs.Cmp.Lexicographic.{slice_cmp}
use Rattle.std.specs.Str.{bytes_eq}
use Rattle.serde_json.specs.Data.{Data, null, boolean, number, string, array, object, Members, no_members, member}
use Rattle.serde_json.specs.Find.{get, get_member, as_str}
use Rattle.serde_json.specs.View.{members_view}
use Rattle.serde_json.specs.declared.value.Value.{Value}
use Rattle.xr_types.specs.Field.{name_of_field}
use Rattle.xr_types.specs.declared.fields.FieldName.{FieldName}
use Rattle.xr_types.specs.declared.fields.FieldName.TheVariants as key
use Rattle.xr_types.specs.declared.limits.TheConstants.{VERSION}
use Rattle.xr_types.specs.declared.names.CallName.{CallName}
use Rattle.xr_types.specs.declared.names.CallName.TheVariants as call
use Rattle.xr_types.specs.declared.status.What.{What}
use Rattle.xr_types.specs.declared.status.What.TheVariants as what
use Rattle.xr_model.specs.scenario.Names.{NamedOp}
use Rattle.xr_model.specs.scenario.Fields.{and_then, at, field, is_key, are_keys, only_keys}
use Rattle.xr_model.specs.scenario.OpReading.{named_by, op_named, op_name, op_in, keys_of, only, only_op_in, read_op_of}
use Rattle.xr_model.specs.scenario.OpRows.{row_of}
use Rattle.xr_model.specs.scenario.ReadOp.{ReadOp}
use Rattle.xr_model.proofs.Rows.{both_of, neither_of, not_true}
use Rattle.xr_model.proofs.RowOrder.{all_differ, behind_first, rows_differ}
use Rattle.xr_scenario.specs.inside.Keys.{is_found, may_lack, needed, HasAll, last_of, has_last, count_members, is_full}

-- ---- members

abbrev is_in : List ℕ → Members → Bool
is_in k no_members = false
is_in k (member l d ms) = bytes_eq k l || is_in k ms

-- the members but the first of this key
abbrev without : List ℕ → Members → Members
without k no_members = no_members
without k (member l d ms) = if bytes_eq k l then ms else member l d (without k ms)

found_in : (k : List ℕ) (ms : Members) → is_some (get_member k ms) ≡ true → is_in k ms ≡ true
found_in k no_members h = h
found_in k (member l d ms) h = by (slice_cmp nat_cmp k l) (is_eq-slice_cmp k l) h (found_in k ms)
  where
    by : (o : Ordering) → is_eq o ≡ bytes_eq k l → is_some (match_ordering o (get_member k ms) (Some d) (get_member k ms)) ≡ true
        → (is_some (get_member k ms) ≡ true → is_in k ms ≡ true) → bytes_eq k l || is_in k ms ≡ true
    by Less same h more = or_right (bytes_eq k l) (is_in k ms) (more h)
    by Equal same h more = or_left (bytes_eq k l) (is_in k ms) (sym same)
    by Greater same h more = or_right (bytes_eq k l) (is_in k ms) (more h)

count_without : (k : List ℕ) (ms : Members) → is_in k ms ≡ true → count_members ms ≡ 1 + count_members (without k ms)
count_without k no_members h = absurd (true≢false (sym h))
count_without k (member l d ms) h = by (bytes_eq k l) h (count_without k ms)
  where
    by : (b : Bool) → b || is_in k ms ≡ true → (is_in k ms ≡ true → count_members ms ≡ 1 + count_members (without k ms))
        → 1 + count_members ms ≡ 1 + count_members (if b then ms else member l d (without k ms))
    by true h more = refl
    by false h more = ap (λ n. 1 + n) (more h)

in_without : (j k : List ℕ) (ms : Members) → bytes_eq j k ≡ false → is_in j ms ≡ true → is_in j (without k ms) ≡ true
in_without j k no_members differ h = h
in_without j k (member l d ms) differ h = by (bytes_eq k l) refl h (in_without j k ms differ)
  where
    same : (c : Bool) → bytes_eq j l ≡ c → bytes_eq k l ≡ true → c || is_in j ms ≡ true → is_in j ms ≡ true
    same true one two h =
        let both : j ≡ k = (bytes_eq-Decides j l).0 one ∙ sym ((bytes_eq-Decides k l).0 two) in
        absurd (true≢false (sym ((bytes_eq-Decides j k).1 both) ∙ differ))
    same false one two h = h

    other : (c : Bool) → c || is_in j ms ≡ true → (is_in j ms ≡ true → is_in j (without k ms) ≡ true) → c || is_in j (without k ms) ≡ true
    other true h more = refl
    other false h more = more h

    by : (b : Bool) → bytes_eq k l ≡ b → bytes_eq j l || is_in j ms ≡ true → (is_in j ms ≡ true → is_in j (without k ms) ≡ true)
        → is_in j (if b then ms else member l d (without k ms)) ≡ true
    by true two h more = same (bytes_eq j l) refl two h
    by false two h more = other (bytes_eq j l) h more

-- ---- keys

abbrev AllIn : List FieldName → Members → Type 0
AllIn [] ms = Unit {0}
AllIn (k ∷ keys) ms = (is_in (name_of_field k) ms ≡ true) × AllIn keys ms

all_in : (keys : List FieldName) (ms : Members) → HasAll keys (object ms) → AllIn keys ms
all_in [] ms all = tt
all_in (k ∷ keys) ms all = (found_in (name_of_field k) ms all.0, all_in keys ms all.1)

all_without : (keys : List FieldName) (k : List ℕ) (ms : Members) → is_key keys k ≡ false → AllIn keys ms → AllIn keys (without k ms)
all_without [] k ms none all = tt
all_without (j ∷ keys) k ms none all =
    let both = neither_of (bytes_eq (name_of_field j) k) (is_key keys k) none in
    (in_without (name_of_field j) k ms both.0 all.0, all_without keys k ms both.1 all.1)

-- with one key more
more_keys : (k : FieldName) (keys : List FieldName) (ms : Members) → are_keys keys ms ≡ true → are_keys (k ∷ keys) ms ≡ true
more_keys k keys no_members h = refl
more_keys k keys (member l d ms) h =
    let both = both_of (is_key keys l) (are_keys keys ms) h in
    and_from (bytes_eq (name_of_field k) l || is_key keys l) (are_keys (k ∷ keys) ms) (or_right (bytes_eq (name_of_field k) l) (is_key keys l) both.0) (more_keys k keys ms both.1)

keys_with : (k : FieldName) (keys : List FieldName) (ms : Members) → are_keys keys (without (name_of_field k) ms) ≡ true → are_keys (k ∷ keys) ms ≡ true
keys_with k keys no_members h = refl
keys_with k keys (member l d ms) h = by (bytes_eq (name_of_field k) l) h (keys_with k keys ms)
  where
    by : (b : Bool) → are_keys keys (if b then ms else member l d (without (name_of_field k) ms)) ≡ true
        → (are_keys keys (without (name_of_field k) ms) ≡ true → are_keys (k ∷ keys) ms ≡ true) → (b || is_key keys l) && are_keys (k ∷ keys) ms ≡ true
    by true h more = more_keys k keys ms h
    by false h more =
        let both = both_of (is_key keys l) (are_keys keys (without (name_of_field k) ms)) h in
        and_from (is_key keys l) (are_keys (k ∷ keys) ms) both.0 (more both.1)

-- different keys that are all there, and no more members than keys
few_members : (keys : List FieldName) (ms : Members) → all_differ keys ≡ true → AllIn keys ms → count_members ms ≤ length keys → are_keys keys ms ≡ true
few_members [] no_members differ all few = refl
few_members [] (member k d ms) differ all few = absurd (omega (arith, few))
few_members (k ∷ keys) ms differ all few =
    let both = both_of (not (is_key keys (name_of_field k))) (all_differ keys) differ in
    let new : is_key keys (name_of_field k) ≡ false = not_true (is_key keys (name_of_field k)) both.0 in
    let fewer = count_without (name_of_field k) ms all.0 in
    keys_with k keys ms (few_members keys (without (name_of_field k) ms) both.1 (all_without keys (name_of_field k) ms new all.1) (omega (arith, fewer, few)))

-- ---- the last key of a row

needed_is_key : (keys : List FieldName) (t : List ℕ) → is_key (needed keys) t ≡ true → is_key keys t ≡ true
needed_is_key [] t h = h
needed_is_key (k ∷ []) t h = by (may_lack k) h
  where
    by : (b : Bool) → is_key (if b then [] else k ∷ []) t ≡ true → is_key (k ∷ []) t ≡ true
    by true h = absurd (true≢false (sym h))
    by false h = h
needed_is_key (k ∷ next ∷ keys) t h = by (bytes_eq (name_of_field k) t) h (needed_is_key (next ∷ keys) t)
  where
    by : (b : Bool) → b || is_key (needed (next ∷ keys)) t ≡ true → (is_key (needed (next ∷ keys)) t ≡ true → is_key (next ∷ keys) t ≡ true) → b || is_key (next ∷ keys) t ≡ true
    by true h more = refl
    by false h more = more h

needed_are_keys : (keys : List FieldName) (ms : Members) → are_keys (needed keys) ms ≡ true → are_keys keys ms ≡ true
needed_are_keys keys no_members h = refl
needed_are_keys keys (member k d ms) h =
    let both = both_of (is_key (needed keys) k) (are_keys (needed keys) ms) h in
    and_from (is_key keys k) (are_keys keys ms) (needed_is_key keys k both.0) (needed_are_keys keys ms both.1)

needed_differ : (keys : List FieldName) → all_differ keys ≡ true → all_differ (needed keys) ≡ true
needed_differ [] h = refl
needed_differ (k ∷ []) h = by (may_lack k)
  where
    by : (b : Bool) → all_differ (if b then [] else k ∷ []) ≡ true
    by true = refl
    by false = refl
needed_differ (k ∷ next ∷ keys) h =
    let both = both_of (not (is_key (next ∷ keys) (name_of_field k))) (all_differ (next ∷ keys)) h in
    and_from (not (is_key (needed (next ∷ keys)) (name_of_field k))) (all_differ (needed (next ∷ keys)))
    (none (is_key (needed (next ∷ keys)) (name_of_field k)) (needed_is_key (next ∷ keys) (name_of_field k)) (not_true (is_key (next ∷ keys) (name_of_field k)) both.0)) (needed_differ (next ∷ keys) both.1)
  where
    none : (b : Bool) → (b ≡ true → is_key (next ∷ keys) (name_of_field k) ≡ true) → is_key (next ∷ keys) (name_of_field k) ≡ false → not b ≡ true
    none true more new = absurd (true≢false (sym (more refl) ∙ new))
    none false more new = refl

one_fewer : (keys : List FieldName) → length keys ≤ 1 + length (needed keys)
one_fewer [] = omega arith
one_fewer (k ∷ []) = by (may_lack k)
  where
    by : (b : Bool) → 1 ≤ 1 + length (if b then [] else k ∷ [])
    by true = omega arith
    by false = omega arith
one_fewer (k ∷ next ∷ keys) = omega (arith, one_fewer (next ∷ keys))

with_last : (keys : List FieldName) (d : Data) → HasAll (needed keys) d → has_last keys d ≡ true → HasAll keys d
with_last [] d all last = tt
with_last (k ∷ []) d all last = by (may_lack k) all last
  where
    by : (b : Bool) → HasAll (if b then [] else k ∷ []) d → (if b then is_found k d else true) ≡ true → HasAll (k ∷ []) d
    by true all last = (last, tt)
    by false all last = all
with_last (k ∷ next ∷ keys) d all last = (all.0, with_last (next ∷ keys) d all.1 last)

pub last_key : (keys : List FieldName) → slice_get keys (length keys - 1) ≡ last_of keys
last_key [] = refl
last_key (k ∷ []) = refl
last_key (k ∷ next ∷ keys) =
    let same : length (k ∷ next ∷ keys) - 1 ≡ suc (length (next ∷ keys) - 1) = omega arith in
    rw same (last_key (next ∷ keys))

-- ---- full rows

full_keys : (keys : List FieldName) (d : Data) → all_differ keys ≡ true → HasAll (needed keys) d → is_full keys d ≡ true → only_keys keys d ≡ true
full_keys keys null differ all full = full
full_keys keys (boolean b) differ all full = full
full_keys keys (number n) differ all full = full
full_keys keys (string s) differ all full = full
full_keys keys (array ds) differ all full = full
full_keys keys (object ms) differ all full = by (or_cases (nat_lt (count_members ms) (length keys)) (count_members ms == length keys && has_last keys (object ms)) full)
  where
    by : (nat_lt (count_members ms) (length keys) ≡ true) ⊎ ((count_members ms == length keys && has_last keys (object ms)) ≡ true) → are_keys keys ms ≡ true
    by (inl fewer) =
        let few : count_members ms ≤ length (needed keys) = grind (arith, fewer, one_fewer keys) in
        needed_are_keys keys ms (few_members (needed keys) ms (needed_differ keys differ) (all_in (needed keys) ms all) few)
    by (inr last) =
        let both = both_of (count_members ms == length keys) (has_last keys (object ms)) last in
        let few : count_members ms ≤ length keys = grind (arith, both.0) in
        few_members keys ms differ (all_in keys ms (with_last keys (object ms) all both.1)) few

keys_differ : (version : ℕ) (c : CallName) → all_differ (keys_of version c) ≡ true
keys_differ version c = by (version == VERSION)
  where
    by : (b : Bool) → all_differ (if b then (row_of c).keys else []) ≡ true
    by true = rows_differ c
    by false = refl

pub full_row : (version : ℕ) (c : CallName) (d : Data) → HasAll (needed (keys_of version c)) d → is_full (keys_of version c) d ≡ true → only_keys (keys_of version c) d ≡ true
full_row version c d all full = full_keys (keys_of version c) d (keys_differ version c) all full

-- ---- what an op that is read has

record Has (keys : List FieldName) (read : Data → Result ReadOp What) : Type 0 where
  has : (d : Data) (l : ReadOp) → read d ≡ Ok l → HasAll keys d

no_more : {read : Data → Result ReadOp What} → Has [] read
no_more = record { has = λ d l e. tt }

key_then : {T : Type 0} {keys : List FieldName} {k : FieldName} {value : Data → Option T} {more : T → Data → Result ReadOp What}
    → ((x : T) → Has keys (more x)) → Has (k ∷ keys) (λ d. and_then (field value k d) (λ x. more x d))
key_then {T = T} {keys = keys} {k = k} {value = value} {more = more} rest = record { has = λ d l e. by d (get (name_of_field k) d) l e }
  where
    behind : (d : Data) (o : Option T) (l : ReadOp) → and_then (at k o) (λ x. more x d) ≡ Ok l → HasAll keys d
    behind d None l e = cc
    behind d (Some x) l e = (rest x).has d l e

    by : (d : Data) (o : Option Data) (l : ReadOp) → and_then (at k (option_and_then value o)) (λ x. more x d) ≡ Ok l → (is_some o ≡ true) × HasAll keys d
    by d None l e = cc
    by d (Some f) l e = (refl, behind d (value f) l e)

module _ (names : List NamedOp) where
  row_has : (c : CallName) → Has (behind_first (needed (row_of c).keys)) (λ d. op_in names d c)
  row_has call.Leave = no_more
  row_has call.Device = no_more
  row_has call.NextFrame = no_more
  row_has call.ImageDone = no_more
  row_has _ = search (key_then, no_more) depth 12

with_op : (c : CallName) (d : Data) → is_found key.Op d ≡ true → HasAll (behind_first (needed (row_of c).keys)) d → HasAll (needed (row_of c).keys) d
with_op call.Leave d op all = tt
with_op call.Device d op all = tt
with_op call.NextFrame d op all = tt
with_op call.ImageDone d op all = tt
with_op _ d op all = (op, all)

op_found : (d : Data) (c : CallName) → op_name d ≡ Ok c → is_found key.Op d ≡ true
op_found d c e = by (get (name_of_field key.Op) d) e
  where
    by : (o : Option Data) → named_by (option_and_then op_named (option_and_then as_str o)) ≡ Ok c → is_some o ≡ true
    by None e = cc
    by (Some x) e = refl

read_has : (version : ℕ) (names : List NamedOp) (d : Data) (c : CallName) (l : ReadOp) → op_name d ≡ Ok c → op_in names d c ≡ Ok l
    → HasAll (needed (keys_of version c)) d
read_has version names d c l named read = by (version == VERSION)
  where
    by : (b : Bool) → HasAll (needed (if b then (row_of c).keys else [])) d
    by true = with_op c d (op_found d c named) ((row_has names c).has d l read)
    by false = tt

-- what is read of an op, by a test that tells whether it has other keys if it has those that it needs
module _ (version : ℕ) (names : List NamedOp) (d : Data) (c : CallName) (l : ReadOp) (alone : Bool) (named : op_name d ≡ Ok c) (read : op_in names d c ≡ Ok l)
    (told : HasAll (needed (keys_of version c)) d → alone ≡ only_keys (keys_of version c) d) where
  read_by : read_op_of version names d ≡ (if alone then Ok l else Err what.Extra)
  read_by =
      ap (λ r. and_then r (only_op_in version names d)) named ∙ ap (λ r. and_then r (only version c d)) read
      ∙ ap (λ (b : Bool). if b then Ok l else Err what.Extra) (sym (told (read_has version names d c l named read)))

  pub read_alone : alone ≡ true → read_op_of version names d ≡ Ok l
  read_alone is = read_by ∙ ap (λ (b : Bool). if b then Ok l else Err what.Extra) is

  pub read_with_another : alone ≡ false → read_op_of version names d ≡ Err what.Extra
  read_with_another is = read_by ∙ ap (λ (b : Bool). if b then Ok l else Err what.Extra) is

-- ---- counts

pub count-members_view : (ms : List (String Global × Value)) → count_members (members_view ms) ≡ length ms
count-members_view [] = refl
count-members_view (m ∷ ms) = omega (arith, count-members_view ms)

pub ruleset members_counted = (count-members_view)
