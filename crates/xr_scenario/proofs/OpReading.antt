-- Ops and scripts read so far, and those that follow.
use Rattle.std.proofs.Common.{◌≡◌, ℕ, zero, suc, ◌+◌, ◌<◌, ◌≤◌, List, [], ◌∷◌, ◌++◌, length, drop, get_or, Option, Some, None, Result, Ok, Err, refl, sym, ap, ◌∙◌, append_assoc, add-one, drop-cons, arith}
use Rattle.serde_json.specs.Data.{Data, null, boolean, number, string, array, object, item}
use Rattle.serde_json.specs.View.{view, items_view}
use Rattle.serde_json.specs.declared.value.Value.{Value}
use Rattle.xr_types.specs.declared.scenario.Op.{Op}
use Rattle.xr_types.specs.declared.scenario.Sort.{Sort}
use Rattle.xr_types.specs.declared.status.Refusal.{Refusal}
use Rattle.xr_model.specs.scenario.Names.{NamedOp}
use Rattle.xr_model.specs.scenario.ReadOp.{ReadOp}
use Rattle.xr_model.specs.scenario.OpReading.{read_op_of, with_name, with_name_of}
use Rattle.xr_model.specs.scenario.Scenario.{and_first, after_op, ops_from, script_of, after_script, scripts_from}
use Rattle.xr_scenario_fields.proofs.Items.{count_items-view}
use Rattle.xr_scenario.specs.Size.{size, items_size}

-- these, and then the rest, or the rest's wrong place
abbrev pub prepend : {T : Type 0} → List T → Result (List T) Refusal → Result (List T) Refusal
prepend xs (Ok more) = Ok (xs ++ more)
prepend xs (Err e) = Err e

pub prepend_first : {T : Type 0} (xs : List T) (x : T) (more : Result (List T) Refusal) → prepend xs (and_first x more) ≡ prepend (xs ++ x ∷ []) more
prepend_first xs x (Ok more) = ap Ok (sym (append_assoc xs (x ∷ []) more))
prepend_first xs x (Err e) = refl

pub prepend_none : {T : Type 0} (more : Result (List T) Refusal) → prepend [] more ≡ more
prepend_none (Ok more) = refl
prepend_none (Err e) = refl

pub ruleset prepended = (prepend_first, prepend_none)

items_step : (vs : List Value) (i : ℕ) (d : Value) → i < length vs → items_view (drop i vs) ≡ item (view (get_or vs i d)) (items_view (drop (i + 1) vs))
items_step vs i d h = rw (add-one, drop-cons vs i d) refl

-- what is read from the value at i on
pub ops_step : (version script place : ℕ) (names : List NamedOp) (vs : List Value) (i : ℕ) (d : Value) → i < length vs
    → ops_from version script place names (items_view (drop i vs)) ≡ after_op script place (read_op_of version names (view (get_or vs i d))) (λ l. ops_from version script (place + 1) (with_name place l names) (items_view (drop (i + 1) vs)))
ops_step version script place names vs i d h = ap (ops_from version script place names) (items_step vs i d h)

-- an op that is read, and the rest
pub ops_more : (version script place : ℕ) (names : List NamedOp) (vs : List Value) (i : ℕ) (d : Value) (ops : List Op) (l : ReadOp) → i < length vs → read_op_of version names (view (get_or vs i d)) ≡ Ok l
    → prepend ops (ops_from version script place names (items_view (drop i vs))) ≡ prepend (ops ++ l.op ∷ []) (ops_from version script (place + 1) (with_name place l names) (items_view (drop (i + 1) vs)))
ops_more version script place names vs i d ops l h e =
    ap (prepend ops) (ops_step version script place names vs i d h ∙ ap (λ r. after_op script place r (λ m. ops_from version script (place + 1) (with_name place m names) (items_view (drop (i + 1) vs)))) e) ∙ prepend_first ops l.op _

pub scripts_step : (version script : ℕ) (vs : List Value) (i : ℕ) (d : Value) → i < length vs
    → scripts_from version script (items_view (drop i vs)) ≡ after_script (script_of version script (view (get_or vs i d))) (scripts_from version (script + 1) (items_view (drop (i + 1) vs)))
scripts_step version script vs i d h = ap (scripts_from version script) (items_step vs i d h)

-- a script that is read, and the rest
pub scripts_more : (version script : ℕ) (vs : List Value) (i : ℕ) (d : Value) (scripts : List (List Op)) (ops : List Op) → i < length vs → script_of version script (view (get_or vs i d)) ≡ Ok ops
    → prepend scripts (scripts_from version script (items_view (drop i vs))) ≡ prepend (scripts ++ ops ∷ []) (scripts_from version (script + 1) (items_view (drop (i + 1) vs)))
scripts_more version script vs i d scripts ops h e =
    ap (prepend scripts) (scripts_step version script vs i d h ∙ ap (λ r. after_script r (scripts_from version (script + 1) (items_view (drop (i + 1) vs)))) e) ∙ prepend_first scripts ops _

pub ruleset script_steps = (prepend_first, prepend_none, scripts_step)

-- an op that gives no name leaves the names as they are, whatever a name of it would stand for
pub no_name : (place : ℕ) (sort : Option Sort) (names : List NamedOp) → names ≡ with_name_of place sort None names
no_name place None names = refl
no_name place (Some sort) names = refl

-- ---- counts and sizes

pub ruleset items_counted = (count_items-view)

-- a value has a size
pub size-positive : (d : Data) → 1 ≤ size d
size-positive null = omega arith
size-positive (boolean b) = omega arith
size-positive (number n) = omega arith
size-positive (string s) = omega arith
size-positive (array ds) = omega arith
size-positive (object ms) = omega arith

pub length-size : (vs : List Value) → length vs ≤ items_size (items_view vs)
length-size [] = omega arith
length-size (v ∷ vs) = omega (arith, length-size vs, size-positive (view v))

pub size-item : (vs : List Value) (i : ℕ) (d : Value) → i < length vs → size (view (get_or vs i d)) ≤ items_size (items_view vs)
size-item [] i d h = omega (arith, h)
size-item (v ∷ vs) zero d h = omega arith
size-item (v ∷ vs) (suc i) d h = omega (arith, size-item vs i d (omega (arith, h)))

pub ruleset list_sizes = (length-size, size-item)
