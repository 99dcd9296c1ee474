-- An op is read as what it is called, and its keys are just those of its row.
use Rattle.std.proofs.Common.{◌≡◌, ◌&&◌, ◌||◌, ◌⊎◌, inl, inr, ℕ, Bool, true, false, List, [], ◌∷◌, Option, Some, None, Result, Ok, Err, refl, sym, ap, subst, ◌∙◌, true≢false}
use Rattle.std.specs.Prelude.{◌↔◌, if◌then◌else◌}
use Rattle.std.specs.Str.{bytes_eq}
use Rattle.std.proofs.lemmas.Slice.Eq.{bytes_eq-Decides}
use Rattle.serde_json.specs.Data.{Data, null, boolean, number, string, array, object, Members, no_members, member}
use Rattle.xr_types.specs.declared.fields.FieldName.{FieldName}
use Rattle.xr_types.specs.declared.names.CallName.{CallName}
use Rattle.xr_types.specs.declared.names.CallName.TheVariants as call
use Rattle.xr_types.specs.declared.status.What.{What}
use Rattle.xr_types.specs.declared.status.What.TheVariants as what
use Rattle.xr_types.specs.Field.{name_of_field}
use Rattle.xr_types.specs.Op.{call_name}
use Rattle.xr_model.specs.scenario.Names.{NamedOp}
use Rattle.xr_model.specs.scenario.Fields.{and_then, is_key, are_keys, only_keys}
use Rattle.xr_model.specs.scenario.OpReading.{named_by, op_of, op_in, keys_of, only, only_op_in, read_op_of}
use Rattle.xr_model.specs.scenario.ReadOp.{ReadOp}
use Rattle.xr_model.specs.laws.ReadingLaws.{OpsAreWhatTheyAreCalled, IsNameAmong, IsKeyIn, HasOnly, HasAnother, KeysAreTheRows}
use Rattle.xr_model.proofs.Rows.{both_of, neither_of}

-- ---- what is read

-- what is read, if anything, is such an op
record IsOf (c : CallName) (r : Result ReadOp What) : Type 0 where
  is : (l : ReadOp) → r ≡ Ok l → call_name l.op ≡ c

then_of : {T : Type 0} {c : CallName} (first : Result T What) (more : T → Result ReadOp What) → ((x : T) → IsOf c (more x)) → IsOf c (and_then first more)
then_of {T = T} {c = c} first more rest = record { is = λ l e. by first l e }
  where
    by : (r : Result T What) (l : ReadOp) → and_then r more ≡ Ok l → call_name l.op ≡ c
    by (Err wrong) l e = cc
    by (Ok x) l e = (rest x).is l e

ok_is : (l m : ReadOp) (r : Result ReadOp What) → r ≡ Ok l → r ≡ Ok m → l ≡ m
ok_is l m r e f = cc

is_of : {c : CallName} {l : ReadOp} → call_name l.op ≡ c → IsOf c (Ok l)
is_of {c = c} {l = l} named = record { is = λ m e. ap (λ (k : ReadOp). call_name k.op) (sym (ok_is l m (Ok l) refl e)) ∙ named }

none_of : {c : CallName} {wrong : What} → IsOf c (Err wrong)
none_of {c = c} {wrong = wrong} = record { is = λ l e. absurd (never l e) }
  where
    never : (l : ReadOp) → Err wrong ≡ Ok l → ⊥
    never l e = cc

module _ (names : List NamedOp) (d : Data) where
  reads_as : (c : CallName) → IsOf c (op_in names d c)
  reads_as call.Leave = none_of
  reads_as call.Device = none_of
  reads_as call.NextFrame = none_of
  reads_as call.ImageDone = none_of
  reads_as _ = search (then_of, is_of) depth 12

pub ops_are_what_they_are_called : OpsAreWhatTheyAreCalled
ops_are_what_they_are_called version names d l is = by_name (op_of d) refl is
  where
    by_keys : (c : CallName) (m : ReadOp) (b : Bool) → (if b then Ok m else Err what.Extra) ≡ Ok l → call_name m.op ≡ c → call_name l.op ≡ c
    by_keys c m true is named = ap (λ (k : ReadOp). call_name k.op) (sym one) ∙ named
      where
        one : m ≡ l
        one = cc
    by_keys c m false is named = cc

    by_op : (c : CallName) (r : Result ReadOp What) → op_in names d c ≡ r → and_then r (only version c d) ≡ Ok l → call_name l.op ≡ c
    by_op c (Err wrong) read is = cc
    by_op c (Ok m) read is = by_keys c m (only_keys (keys_of version c) d) is ((reads_as names d c).is m read)

    by_name : (o : Option CallName) → op_of d ≡ o → and_then (named_by o) (only_op_in version names d) ≡ Ok l → op_of d ≡ Some (call_name l.op)
    by_name None named is = cc
    by_name (Some c) named is = named ∙ ap (λ x. Some x) (sym (by_op c (op_in names d c) refl is))

-- ---- its keys

name_among : (keys : List FieldName) (text : List ℕ) → is_key keys text ≡ true → IsNameAmong keys text
name_among [] text is = absurd (true≢false (sym is))
name_among (k ∷ keys) text is = by (bytes_eq (name_of_field k) text) refl is (name_among keys text)
  where
    by : (b : Bool) → bytes_eq (name_of_field k) text ≡ b → b || is_key keys text ≡ true → (is_key keys text ≡ true → IsNameAmong keys text)
        → (text ≡ name_of_field k) ⊎ IsNameAmong keys text
    by true same is more = inl (sym ((bytes_eq-Decides (name_of_field k) text).0 same))
    by false same is more = inr (more is)

no_name_among : (keys : List FieldName) (text : List ℕ) → is_key keys text ≡ false → IsNameAmong keys text → ⊥
no_name_among [] text none among = among
no_name_among (k ∷ keys) text none (inl is) =
    true≢false (sym ((bytes_eq-Decides (name_of_field k) text).1 (sym is)) ∙ (neither_of (bytes_eq (name_of_field k) text) (is_key keys text) none).0)
no_name_among (k ∷ keys) text none (inr among) =
    no_name_among keys text (neither_of (bytes_eq (name_of_field k) text) (is_key keys text) none).1 among

each_is_key : (keys : List FieldName) (ms : Members) → are_keys keys ms ≡ true → (text : List ℕ) → IsKeyIn ms text → IsNameAmong keys text
each_is_key keys no_members all text stands = absurd stands
each_is_key keys (member k d ms) all text (inl is) =
    subst (λ t. IsNameAmong keys t) (sym is) (name_among keys k (both_of (is_key keys k) (are_keys keys ms) all).0)
each_is_key keys (member k d ms) all text (inr stands) = each_is_key keys ms (both_of (is_key keys k) (are_keys keys ms) all).1 text stands

some_is_none : (keys : List FieldName) (ms : Members) → are_keys keys ms ≡ false
    → (text : List ℕ) × IsKeyIn ms text × (IsNameAmong keys text → ⊥)
some_is_none keys no_members none = absurd (true≢false none)
some_is_none keys (member k d ms) none = by (is_key keys k) refl none (some_is_none keys ms)
  where
    by : (b : Bool) → is_key keys k ≡ b → b && are_keys keys ms ≡ false
        → (are_keys keys ms ≡ false → (text : List ℕ) × IsKeyIn ms text × (IsNameAmong keys text → ⊥))
        → (text : List ℕ) × IsKeyIn (member k d ms) text × (IsNameAmong keys text → ⊥)
    by true is none more = let found = more none in (found.0, inr found.1, found.2)
    by false is none more = (k, inl refl, no_name_among keys k is)

same_members : (a b : Members) → object a ≡ object b → a ≡ b
same_members a b e = cc

-- an object that has the row's keys alone, and one that has another, by whether the test holds
module _ (version : ℕ) (names : List NamedOp) (ms : Members) (c : CallName) (l : ReadOp) (read : Result ReadOp What) where
  never_both : HasOnly (keys_of version c) (object ms) → HasAnother (keys_of version c) (object ms) → ⊥
  never_both only another =
      let same = sym (same_members ms another.members another.is) ∙ same_members ms only.members only.is in
      another.other (only.each another.text (subst (λ m. IsKeyIn m another.text) same another.stands))

  decide : (b : Bool) → are_keys (keys_of version c) ms ≡ b → read ≡ (if b then Ok l else Err what.Extra)
      → ((read ≡ Ok l) ↔ HasOnly (keys_of version c) (object ms)) × ((read ≡ Err what.Extra) ↔ HasAnother (keys_of version c) (object ms))
  decide true all is =
      let only : HasOnly (keys_of version c) (object ms) = record { members = ms; is = refl; each = each_is_key (keys_of version c) ms all } in
      ((λ e. only, λ h. is), (λ e. cc, λ another. absurd (never_both only another)))
  decide false none is =
      let found = some_is_none (keys_of version c) ms none in
      let another : HasAnother (keys_of version c) (object ms) = record { members = ms; text = found.0; is = refl; stands = found.1; other = found.2 } in
      ((λ e. cc, λ only. absurd (never_both only another)), (λ e. another, λ h. is))

by_object : (version : ℕ) (names : List NamedOp) (d : Data) (c : CallName) (l : ReadOp) → op_of d ≡ Some c
    → read_op_of version names d ≡ (if only_keys (keys_of version c) d then Ok l else Err what.Extra)
    → ((read_op_of version names d ≡ Ok l) ↔ HasOnly (keys_of version c) d) × ((read_op_of version names d ≡ Err what.Extra) ↔ HasAnother (keys_of version c) d)
by_object version names (object ms) c l named is =
    decide version names ms c l (read_op_of version names (object ms)) (are_keys (keys_of version c) ms) refl is
by_object version names null c l named is = cc
by_object version names (boolean b) c l named is = cc
by_object version names (number n) c l named is = cc
by_object version names (string text) c l named is = cc
by_object version names (array items) c l named is = cc

pub keys_are_the_rows : KeysAreTheRows
keys_are_the_rows version names d c l named right =
    let both = by_object version names d c l named
    (ap (λ o. and_then (named_by o) (only_op_in version names d)) named ∙ ap (λ r. and_then r (only version c d)) right) in
    record { only = both.0; another = both.1 }
