-- The first wrong place of an op is told: a key of its row, in the row's order.
use Rattle.std.proofs.Common.{◌≡◌, Bool, true, false, List, [], ◌∷◌, ◌++◌, Option, Some, None, Result, Ok, Err, refl, sym, ap, subst, ◌∙◌, true≢false}
use Rattle.std.specs.Prelude.{option_and_then, if◌then◌else◌}
use Rattle.serde_json.specs.Data.{Data}
use Rattle.serde_json.specs.Find.{as_str}
use Rattle.xr_types.specs.declared.fields.FieldName.{FieldName}
use Rattle.xr_types.specs.declared.fields.FieldName.TheVariants as key
use Rattle.xr_types.specs.declared.limits.TheConstants.{VERSION}
use Rattle.xr_types.specs.declared.names.CallName.{CallName}
use Rattle.xr_types.specs.declared.names.CallName.TheVariants as call
use Rattle.xr_types.specs.declared.status.What.{What}
use Rattle.xr_types.specs.declared.status.What.TheVariants as what
use Rattle.xr_types.specs.declared.scenario.Op.{Op}
use Rattle.xr_types.specs.declared.scenario.Op.TheVariants as op
use Rattle.xr_types.specs.Op.{call_name}
use Rattle.xr_model.specs.scenario.Names.{NamedOp}
use Rattle.xr_model.specs.scenario.Fields.{and_then, only_keys}
use Rattle.xr_model.specs.scenario.OpReading.{op_named, named_by, op_of, op_in, keys_of, only, only_op_in, read_op_of}
use Rattle.xr_model.specs.scenario.OpRows.{row_of}
use Rattle.xr_model.specs.scenario.ReadOp.{ReadOp}
use Rattle.xr_model.specs.laws.ReadingLaws.{AreAlike, IsAmong, NamesNoOp, IsFirstWrongKey, HasOtherKeys, FirstWrongPlaceIsTold}
use Rattle.xr_model.proofs.RowOrder.{Told, InOrder, field_first, optional_first, name_first, all_read, all_differ, behind_first, rows_differ, not_before, earlier, alike_back, alike_itself}

-- ---- ops

-- what stands in scripts
abbrev pub is_op : CallName → Bool
is_op call.Leave = false
is_op call.Device = false
is_op call.NextFrame = false
is_op call.ImageDone = false
is_op _ = true

-- each op does
ops_are_ops : (o : Op) → is_op (call_name o) ≡ true
ops_are_ops (op.CreateInstance major minor) = refl
ops_are_ops _ = refl

-- what doesn't is told to be none
no_op : (names : List NamedOp) (d : Data) (c : CallName) → is_op c ≡ false → op_in names d c ≡ Err what.Op
no_op names d call.Leave none = refl
no_op names d call.Device none = refl
no_op names d call.NextFrame none = refl
no_op names d call.ImageDone none = refl
no_op names d _ none = absurd (true≢false none)

-- ---- the row of each

abbrev pub fields_of : CallName → List FieldName
fields_of c = behind_first (row_of c).keys

row_begins : (c : CallName) → is_op c ≡ true → keys_of VERSION c ≡ key.Op ∷ fields_of c
row_begins call.Leave op = absurd (true≢false (sym op))
row_begins call.Device op = absurd (true≢false (sym op))
row_begins call.NextFrame op = absurd (true≢false (sym op))
row_begins call.ImageDone op = absurd (true≢false (sym op))
row_begins _ op = refl

module _ (names : List NamedOp) where
  pub reads_row : (c : CallName) → is_op c ≡ true → InOrder (fields_of c) (λ d. op_in names d c)
  reads_row call.Leave op = absurd (true≢false (sym op))
  reads_row call.Device op = absurd (true≢false (sym op))
  reads_row call.NextFrame op = absurd (true≢false (sym op))
  reads_row call.ImageDone op = absurd (true≢false (sym op))
  reads_row call.Mark op = field_first (λ mark. optional_first _ _ (λ value. all_read))
  reads_row _ op = search (field_first, name_first, all_read) depth 12

-- ---- what is told

-- a key of the row that is told, as long as it and those before it stay: the op's name and some fields
record KeyTold (names : List NamedOp) (d : Data) (told_key : FieldName) : Type 0 where
  call : CallName
  before : List FieldName
  behind : List FieldName
  named : op_of d ≡ Some call
  row : keys_of VERSION call ≡ (key.Op ∷ before) ++ told_key ∷ behind
  told : (e : Data) → AreAlike ((key.Op ∷ before) ++ told_key ∷ []) d e → read_op_of VERSION names e ≡ Err (what.Field told_key)

-- which of the three it is
abbrev IsTold : List NamedOp → Data → What → Type 0
IsTold names d what.Op = NamesNoOp d
IsTold names d (what.Field told_key) = KeyTold names d told_key
IsTold names d what.Extra = HasOtherKeys names d
IsTold names d _ = ⊥

one_is_told : (r : Result ReadOp What) (v w : What) → r ≡ Err v → r ≡ Err w → v ≡ w
one_is_told r v w one other = cc

module _ (names : List NamedOp) (d : Data) (wrong : What) where
  -- a key that the op's reader tells
  by_reader : (c : CallName) → op_of d ≡ Some c → is_op c ≡ true → Told (fields_of c) (λ e. op_in names e c) d wrong → IsTold names d wrong
  by_reader c named op t = subst (λ w. IsTold names d w) (sym t.is) (record {
    call = c;
    before = t.before;
    behind = t.behind;
    named = named;
    row = row_begins c op ∙ ap (λ ks. key.Op ∷ ks) t.row;
    told = λ e alike.
        ap (λ o. and_then (named_by (option_and_then op_named (option_and_then as_str o))) (only_op_in VERSION names e)) (sym alike.0)
        ∙ ap (λ o. and_then (named_by o) (only_op_in VERSION names e)) named
        ∙ ap (λ r. and_then r (only VERSION c e)) (t.told e alike.1);
  })

  by_keys : (c : CallName) (l : ReadOp) → op_of d ≡ Some c → op_in names d c ≡ Ok l → (b : Bool) → only_keys (keys_of VERSION c) d ≡ b
      → (if b then Ok l else Err what.Extra) ≡ Err wrong → IsTold names d wrong
  by_keys c l named right true keys is = absurd (never is)
    where
      never : Ok l ≡ Err wrong → ⊥
      never e = cc
  by_keys c l named right false keys is = subst (λ w. IsTold names d w) same (record { call = c; read = l; named = named; right = right; others = keys })
    where
      same : what.Extra ≡ wrong
      same = cc

  -- no op
  by_none : NamesNoOp d → what.Op ≡ wrong → IsTold names d wrong
  by_none none same = subst (λ w. IsTold names d w) same none

  by_op : (c : CallName) → op_of d ≡ Some c → is_op c ≡ true → (r : Result ReadOp What) → op_in names d c ≡ r → and_then r (only VERSION c d) ≡ Err wrong
      → IsTold names d wrong
  by_op c named op (Err w) read is = by_reader c named op ((reads_row names c op).tells d wrong (read ∙ is))
  by_op c named op (Ok l) read is = by_keys c l named read (only_keys (keys_of VERSION c) d) refl is

  by_call : (c : CallName) → op_of d ≡ Some c → (b : Bool) → is_op c ≡ b → and_then (op_in names d c) (only VERSION c d) ≡ Err wrong
      → IsTold names d wrong
  by_call c named true op is = by_op c named op (op_in names d c) refl is
  by_call c named false op is =
      by_none (λ o other. true≢false (sym (ops_are_ops o) ∙ ap is_op (one o other) ∙ op))
      (one_is_told (and_then (op_in names d c) (only VERSION c d)) what.Op wrong (ap (λ r. and_then r (only VERSION c d)) (no_op names d c op)) is)
    where
      one : (o : Op) → op_of d ≡ Some (call_name o) → call_name o ≡ c
      one o other = cc

  by_name : (o : Option CallName) → op_of d ≡ o → and_then (named_by o) (only_op_in VERSION names d) ≡ Err wrong → IsTold names d wrong
  by_name None named is =
      by_none (λ o other. never o (sym named ∙ other)) (one_is_told (and_then (named_by None) (only_op_in VERSION names d)) what.Op wrong refl is)
    where
      never : (o : Op) → None ≡ Some (call_name o) → ⊥
      never o e = cc
  by_name (Some c) named is = by_call c named (is_op c) refl is

is_told : (names : List NamedOp) (d : Data) (wrong : What) → read_op_of VERSION names d ≡ Err wrong → IsTold names d wrong
is_told names d wrong is = by_name names d wrong (op_of d) refl is

-- ---- it is the first

same_key : (r : Result ReadOp What) (j k : FieldName) → r ≡ Err (what.Field j) → r ≡ Err (what.Field k) → j ≡ k
same_key r j k one other = cc

-- a key before the one that is told isn't told, whatever comes behind
module _ (names : List NamedOp) (d e : Data) (told_key other : FieldName) (t : KeyTold names d told_key) (u : KeyTold names e other)
    (alike : AreAlike (key.Op ∷ t.before) d e) (among : IsAmong (key.Op ∷ t.before) other) where
  same_call : t.call ≡ u.call
  same_call = one (sym t.named ∙ ap (λ o. option_and_then op_named (option_and_then as_str o)) alike.0 ∙ u.named)
    where
      one : Some t.call ≡ Some u.call → t.call ≡ u.call
      one e = cc

  differ : all_differ ((key.Op ∷ t.before) ++ told_key ∷ t.behind) ≡ true
  differ = subst (λ ks. all_differ ks ≡ true) t.row (rows_differ t.call)

  never_before : ⊥
  never_before =
      let split = earlier (key.Op ∷ t.before) told_key t.behind (key.Op ∷ u.before) other u.behind differ
      (sym t.row ∙ ap (keys_of VERSION) same_call ∙ u.row) among in
      let back = alike_back (key.Op ∷ u.before) other split.0 d e (subst (λ ks. AreAlike ks d e) split.1 alike) in
      let same = same_key (read_op_of VERSION names d) other told_key (u.told d back)
      (t.told d (alike_itself ((key.Op ∷ t.before) ++ told_key ∷ []) d)) in
      not_before (key.Op ∷ t.before) told_key t.behind differ (subst (λ k. IsAmong (key.Op ∷ t.before) k) same among)

first_wrong_key : (names : List NamedOp) (d : Data) (told_key : FieldName) → KeyTold names d told_key → IsFirstWrongKey names d told_key
first_wrong_key names d told_key t = record {
  call = t.call;
  before = key.Op ∷ t.before;
  behind = t.behind;
  named = t.named;
  row = t.row;
  told = t.told;
  first = λ e alike other among is. never_before names d e told_key other t (is_told names e (what.Field other) is) alike among;
}

pub first_wrong_place_is_told : FirstWrongPlaceIsTold
first_wrong_place_is_told names d what.Op is = is_told names d what.Op is
first_wrong_place_is_told names d (what.Field told_key) is = first_wrong_key names d told_key (is_told names d (what.Field told_key) is)
first_wrong_place_is_told names d what.Extra is = is_told names d what.Extra is
first_wrong_place_is_told names d what.Top is = is_told names d what.Top is
first_wrong_place_is_told names d what.Version is = is_told names d what.Version is
first_wrong_place_is_told names d what.Scripts is = is_told names d what.Scripts is
first_wrong_place_is_told names d what.Script is = is_told names d what.Script is
