-- A reader that takes the keys of a row one after another tells the first that is wrong.
use Rattle.std.proofs.Common.{◌≡◌, ℕ, ◌&&◌, inl, inr, Bool, true, not, List, [], ◌∷◌, ◌++◌, Option, Some, None, Result, Ok, Err, refl, sym, ap, subst, ◌∙◌, true≢false}
use Rattle.std.specs.Prelude.{option_and_then}
use Rattle.std.specs.Str.{bytes_eq}
use Rattle.std.proofs.lemmas.Slice.Eq.{bytes_eq-Decides}
use Rattle.serde_json.specs.Data.{Data}
use Rattle.serde_json.specs.Find.{get}
use Rattle.xr_types.specs.declared.fields.FieldName.{FieldName}
use Rattle.xr_types.specs.declared.fields.FieldName.TheVariants.{As}
use Rattle.xr_types.specs.declared.names.CallName.{CallName}
use Rattle.xr_types.specs.declared.names.CallName.TheVariants as call
use Rattle.xr_types.specs.declared.status.What.{What}
use Rattle.xr_types.specs.declared.status.What.TheVariants.{Field}
use Rattle.xr_types.specs.Field.{name_of_field}
use Rattle.xr_model.specs.scenario.Fields.{and_then, at, field, optional_by, optional, name_by, name_at, is_key}
use Rattle.xr_model.specs.scenario.OpRows.{row_of}
use Rattle.xr_model.specs.scenario.ReadOp.{ReadOp}
use Rattle.xr_model.specs.laws.ReadingLaws.{AreAlike, IsAmong}
use Rattle.xr_model.proofs.Rows.{both_of, not_true, or_true}

-- ---- readers

-- what is told of a value is one of these keys, and stays as long as what stands under it and under those before it does
pub record Told (keys : List FieldName) (read : Data → Result ReadOp What) (d : Data) (wrong : What) : Type 0 where
  pub key : FieldName
  pub before : List FieldName
  pub behind : List FieldName
  pub is : wrong ≡ Field key
  pub row : keys ≡ before ++ key ∷ behind
  pub told : (e : Data) → AreAlike (before ++ key ∷ []) d e → read e ≡ Err (Field key)

pub record InOrder (keys : List FieldName) (read : Data → Result ReadOp What) : Type 0 where
  pub tells : (d : Data) (wrong : What) → read d ≡ Err wrong → Told keys read d wrong

-- first one key, and then the others
module _ {T : Type 0} (keys : List FieldName) (key : FieldName) (value : Option Data → Result T What) (more : T → Data → Result ReadOp What)
    (own : (o : Option Data) (wrong : What) → value o ≡ Err wrong → wrong ≡ Field key) (later : (x : T) → InOrder keys (more x)) where
  key_first : InOrder (key ∷ keys) (λ d. and_then (value (get (name_of_field key) d)) (λ x. more x d))
  key_first = record { tells = λ d wrong is. by d wrong (value (get (name_of_field key) d)) refl is }
    where
      by : (d : Data) (wrong : What) (r : Result T What) → value (get (name_of_field key) d) ≡ r → and_then r (λ x. more x d) ≡ Err wrong
          → Told (key ∷ keys) (λ d. and_then (value (get (name_of_field key) d)) (λ x. more x d)) d wrong
      by d wrong (Err w) found is =
          let same : w ≡ wrong = cc in
          let e : w ≡ Field key = own (get (name_of_field key) d) w found in
          record {
            key = key;
            before = [];
            behind = keys;
            is = sym same ∙ e;
            row = refl;
            told = λ other alike.
                ap (λ o. and_then (value o) (λ x. more x other)) (sym alike.0) ∙ ap (λ r. and_then r (λ x. more x other)) found ∙ ap (λ w. Err w) e;
          }
      by d wrong (Ok x) found is =
          let t = (later x).tells d wrong is in
          record {
            key = t.key;
            before = key ∷ t.before;
            behind = t.behind;
            is = t.is;
            row = ap (λ ks. key ∷ ks) t.row;
            told = λ other alike.
                ap (λ o. and_then (value o) (λ x. more x other)) (sym alike.0) ∙ ap (λ r. and_then r (λ x. more x other)) found ∙ t.told other alike.1;
          }

-- a value that isn't there
missing_tells : {T : Type 0} (key : FieldName) (o : Option T) (wrong : What) → at key o ≡ Err wrong → wrong ≡ Field key
missing_tells key None wrong is = cc
missing_tells key (Some x) wrong is = cc

pub field_first : {T : Type 0} {keys : List FieldName} {key : FieldName} {value : Data → Option T} {more : T → Data → Result ReadOp What}
    → ((x : T) → InOrder keys (more x)) → InOrder (key ∷ keys) (λ d. and_then (field value key d) (λ x. more x d))
field_first {keys = keys} {key = key} {value = value} {more = more} later =
    key_first keys key (λ o. at key (option_and_then value o)) more (λ o wrong is. missing_tells key (option_and_then value o) wrong is) later

pub optional_first : {T : Type 0} {keys : List FieldName} {key : FieldName} {more : T → Data → Result ReadOp What} (value : Data → Option T) (missing : T)
    → ((x : T) → InOrder keys (more x)) → InOrder (key ∷ keys) (λ d. and_then (optional value missing key d) (λ x. more x d))
optional_first {keys = keys} {key = key} {more = more} value missing later = key_first keys key (optional_by value missing key) more own later
  where
    own : (o : Option Data) (wrong : What) → optional_by value missing key o ≡ Err wrong → wrong ≡ Field key
    own None wrong is = cc
    own (Some d) wrong is = missing_tells key (value d) wrong is

pub name_first : {more : Option (List ℕ) → Data → Result ReadOp What} → ((x : Option (List ℕ)) → InOrder [] (more x))
    → InOrder (As ∷ []) (λ d. and_then (name_at d) (λ x. more x d))
name_first {more = more} later = key_first [] As name_by more own later
  where
    own : (o : Option Data) (wrong : What) → name_by o ≡ Err wrong → wrong ≡ Field As
    own None wrong is = cc
    own (Some d) wrong is = missing_tells As _ wrong is

-- and then nothing more is wrong
pub all_read : {l : ReadOp} → InOrder [] (λ d. Ok l)
all_read {l = l} = record { tells = λ d wrong is. absurd (never wrong is) }
  where
    never : (wrong : What) → Ok l ≡ Err wrong → ⊥
    never wrong is = cc

-- ---- rows of different keys

abbrev pub behind_first : List FieldName → List FieldName
behind_first [] = []
behind_first (k ∷ keys) = keys

abbrev pub all_differ : List FieldName → Bool
all_differ [] = true
all_differ (key ∷ keys) = not (is_key keys (name_of_field key)) && all_differ keys

-- those of each op do
pub rows_differ : (c : CallName) → all_differ (row_of c).keys ≡ true
rows_differ call.CreateInstance = refl
rows_differ _ = refl

among_is_key : (keys : List FieldName) (key : FieldName) → IsAmong keys key → is_key keys (name_of_field key) ≡ true
among_is_key [] key among = absurd among
among_is_key (k ∷ keys) key (inl is) =
    rw ((bytes_eq-Decides (name_of_field k) (name_of_field key)).1 (ap name_of_field (sym is))) refl
among_is_key (k ∷ keys) key (inr among) = rw (among_is_key keys key among) (or_true (bytes_eq (name_of_field k) (name_of_field key)))

-- the first of different keys isn't among the others
not_again : (key : FieldName) (keys : List FieldName) → all_differ (key ∷ keys) ≡ true → IsAmong keys key → ⊥
not_again key keys differ among =
    true≢false (sym (among_is_key keys key among) ∙ not_true (is_key keys (name_of_field key)) (both_of (not (is_key keys (name_of_field key))) (all_differ keys) differ).0)

later_differ : (key : FieldName) (keys : List FieldName) → all_differ (key ∷ keys) ≡ true → all_differ keys ≡ true
later_differ key keys differ = (both_of (not (is_key keys (name_of_field key))) (all_differ keys) differ).1

among_behind : (before : List FieldName) (key : FieldName) (behind : List FieldName) → IsAmong (before ++ key ∷ behind) key
among_behind [] key behind = inl refl
among_behind (k ∷ before) key behind = inr (among_behind before key behind)

pub not_before : (before : List FieldName) (key : FieldName) (behind : List FieldName) → all_differ (before ++ key ∷ behind) ≡ true → IsAmong before key → ⊥
not_before [] key behind differ among = among
not_before (k ∷ before) key behind differ (inl is) =
    not_again k (before ++ key ∷ behind) differ (subst (λ x. IsAmong (before ++ key ∷ behind) x) is (among_behind before key behind))
not_before (k ∷ before) key behind differ (inr among) = not_before before key behind (later_differ k (before ++ key ∷ behind) differ) among

same_head : (a b : FieldName) (more others : List FieldName) → a ∷ more ≡ b ∷ others → a ≡ b
same_head a b more others e = cc

same_rest : (a b : FieldName) (more others : List FieldName) → a ∷ more ≡ b ∷ others → more ≡ others
same_rest a b more others e = cc

-- a key that stands before another stands there however the row is split
pub earlier : (before : List FieldName) (key : FieldName) (behind front : List FieldName) (other : FieldName) (back : List FieldName)
    → all_differ (before ++ key ∷ behind) ≡ true → before ++ key ∷ behind ≡ front ++ other ∷ back → IsAmong before other
    → (rest : List FieldName) × (before ≡ front ++ other ∷ rest)
earlier [] key behind front other back differ split among = absurd among
earlier (k ∷ before) key behind [] other back differ split among =
    (before, ap (λ x. x ∷ before) (same_head k other (before ++ key ∷ behind) back split))
earlier (k ∷ before) key behind (f ∷ front) other back differ split (inl is) =
    let rest = same_rest k f (before ++ key ∷ behind) (front ++ other ∷ back) split in
    let again : IsAmong (before ++ key ∷ behind) other = subst (λ ks. IsAmong ks other) (sym rest) (among_behind front other back) in
    absurd (not_again k (before ++ key ∷ behind) differ (subst (λ x. IsAmong (before ++ key ∷ behind) x) is again))
earlier (k ∷ before) key behind (f ∷ front) other back differ split (inr among) =
    let more = earlier before key behind front other back (later_differ k (before ++ key ∷ behind) differ)
    (same_rest k f (before ++ key ∷ behind) (front ++ other ∷ back) split) among in
    (more.0, ap (λ x. x ∷ before) (same_head k f (before ++ key ∷ behind) (front ++ other ∷ back) split) ∙ ap (λ ks. f ∷ ks) more.1)

-- the other way round, and of fewer keys
pub alike_back : (front : List FieldName) (other : FieldName) (rest : List FieldName) (d e : Data) → AreAlike (front ++ other ∷ rest) d e
    → AreAlike (front ++ other ∷ []) e d
alike_back [] other rest d e alike = (sym alike.0, tt)
alike_back (k ∷ front) other rest d e alike = (sym alike.0, alike_back front other rest d e alike.1)

pub alike_itself : (keys : List FieldName) (d : Data) → AreAlike keys d d
alike_itself [] d = tt
alike_itself (k ∷ keys) d = (refl, alike_itself keys d)
