-- A text holds fewer ops than bytes.
use Rattle.std.proofs.Common.{◌≡◌, ℕ, ◌+◌, ◌<◌, ◌≤◌, Bool, true, false, List, [], ◌∷◌, length, Option, Some, None, option_and_then, Result, Ok, Err, Ordering, Less, Equal, Greater, refl, sym, ap, ◌∙◌, subst, arith}
use Rattle.std.specs.List.{sum_by}
use Rattle.std.proofs.lemmas.List.Sums.{sum_by-cons}
use Rattle.std.proofs.lemmas.Bool.{ltb-false}
use Rattle.std.specs.Prelude.{⊤, nat_lt, if◌then◌else◌}
use Rattle.std.specs.Str.{is_utf8}
use Rattle.std.specs.Ordering.{match_ordering, nat_cmp}
use Rattle.std.specs.Cmp.Lexicographic.{slice_cmp}
use Rattle.serde_json.specs.Data.{Data, null, boolean, number, string, array, object, Items, no_items, item, Members, no_members, member}
use Rattle.serde_json.specs.Find.{get, get_member, as_array}
use Rattle.serde_json.specs.Read.{read}
use Rattle.xr_types.specs.Field.{name_of_field}
use Rattle.xr_types.specs.declared.fields.FieldName.TheVariants.{Scripts}
use Rattle.xr_types.specs.declared.scenario.Op.{Op}
use Rattle.xr_types.specs.declared.scenario.Scenario.{Scenario}
use Rattle.xr_types.specs.declared.status.Refusal.{Refusal}
use Rattle.xr_types.specs.declared.status.What.{What}
use Rattle.xr_model.specs.scenario.Names.{NamedOp}
use Rattle.xr_model.specs.scenario.ReadOp.{ReadOp}
use Rattle.xr_model.specs.scenario.OpReading.{read_op_of, with_name}
use Rattle.xr_model.specs.scenario.Scenario.{and_first, after_op, ops_from, script_of, after_script, scripts_from, scripts_by, scripts_in, version_of, scenario_by, scenario_at, scenario_in, scenario_if, scenario_of}
use Rattle.xr_scenario.specs.Size.{size, items_size, members_size}
use Rattle.xr_scenario.specs.Few.{FewOps}
use Rattle.xr_scenario.proofs.Sizes.{holds_less}
use Rattle.xr_scenario.proofs.OpReading.{size-positive}

abbrev AtMost : {T : Type 0} → (T → ℕ) → ℕ → Result T Refusal → Type 0
AtMost f n (Ok x) = f x ≤ n
AtMost f n (Err e) = ⊤

-- ---- ops and scripts

-- how many ops there are, script by script
abbrev total : List (List Op) → ℕ
total [] = 0
total (ops ∷ more) = length ops + total more

total_is : (scripts : List (List Op)) → total scripts ≡ sum_by length scripts
total_is [] = refl
total_is (ops ∷ scripts) = ap (λ n. length ops + n) (total_is scripts) ∙ sym (sum_by-cons length ops scripts)

more_ops : (op : Op) (n m : ℕ) (r : Result (List Op) Refusal) → 1 + n ≤ m → AtMost length n r → AtMost length m (and_first op r)
more_ops op n m (Ok ops) le x = omega (arith, le, x)
more_ops op n m (Err e) le x = tt

ops_few : (version script place : ℕ) (names : List NamedOp) (ds : Items) → AtMost length (items_size ds) (ops_from version script place names ds)
ops_few version script place names no_items = omega arith
ops_few version script place names (item d ds) = by (read_op_of version names d) (λ l. ops_few version script (place + 1) (with_name place l names) ds)
  where
    by : (r : Result ReadOp What) → ((l : ReadOp) → AtMost length (items_size ds) (ops_from version script (place + 1) (with_name place l names) ds))
        → AtMost length (size d + items_size ds) (after_op script place r (λ l. ops_from version script (place + 1) (with_name place l names) ds))
    by (Ok l) h = more_ops l.op (items_size ds) (size d + items_size ds) (ops_from version script (place + 1) (with_name place l names) ds) (omega (arith, size-positive d)) (h l)
    by (Err e) h = tt

script_few : (version script : ℕ) (d : Data) → AtMost length (size d) (script_of version script d)
script_few version script null = tt
script_few version script (boolean b) = tt
script_few version script (number n) = tt
script_few version script (string s) = tt
script_few version script (array ds) = weaker (ops_from version script 1 [] ds) (ops_few version script 1 [] ds)
  where
    weaker : (r : Result (List Op) Refusal) → AtMost length (items_size ds) r → AtMost length (2 + items_size ds) r
    weaker (Ok ops) h = omega (arith, h)
    weaker (Err e) h = tt
script_few version script (object ms) = tt

scripts_few : (version script : ℕ) (ds : Items) → AtMost total (items_size ds) (scripts_from version script ds)
scripts_few version script no_items = omega arith
scripts_few version script (item d ds) = by (script_of version script d) (scripts_from version (script + 1) ds) (script_few version script d) (scripts_few version (script + 1) ds)
  where
    by : (r : Result (List Op) Refusal) (more : Result (List (List Op)) Refusal) → AtMost length (size d) r → AtMost total (items_size ds) more → AtMost total (size d + items_size ds) (after_script r more)
    by (Err e) more x y = tt
    by (Ok ops) (Err e) x y = tt
    by (Ok ops) (Ok more) x y = omega (arith, x, y)

-- ---- what an object has

abbrev SizeAtMost : ℕ → Option Data → Type 0
SizeAtMost n None = ⊤
SizeAtMost n (Some d) = size d ≤ n

get_member-size : (k : List ℕ) (ms : Members) → SizeAtMost (members_size ms) (get_member k ms)
get_member-size k no_members = tt
get_member-size k (member l d ms) = by (slice_cmp nat_cmp k l) (weaker (get_member k ms) (get_member-size k ms))
  where
    weaker : (o : Option Data) → SizeAtMost (members_size ms) o → SizeAtMost (1 + size d + members_size ms) o
    weaker None h = tt
    weaker (Some e) h = omega (arith, h)

    by : (o : Ordering) → SizeAtMost (1 + size d + members_size ms) (get_member k ms) → SizeAtMost (1 + size d + members_size ms) (match_ordering o (get_member k ms) (Some d) (get_member k ms))
    by Less h = h
    by Equal h = omega arith
    by Greater h = h

get-size : (k : List ℕ) (d : Data) → SizeAtMost (size d) (get k d)
get-size k null = tt
get-size k (boolean b) = tt
get-size k (number n) = tt
get-size k (string s) = tt
get-size k (array ds) = tt
get-size k (object ms) = weaker (get_member k ms) (get_member-size k ms)
  where
    weaker : (o : Option Data) → SizeAtMost (members_size ms) o → SizeAtMost (2 + members_size ms) o
    weaker None h = tt
    weaker (Some e) h = omega (arith, h)

-- ---- the whole

abbrev most_of : List (List Op) → ℕ
most_of scripts = 2 + total scripts

abbrev most_in : Scenario → ℕ
most_in s = most_of s.scripts

if_few : {T : Type 0} (f : T → ℕ) (n : ℕ) (b : Bool) (r : Result T Refusal) (e : Refusal) → AtMost f n r → AtMost f n (if b then r else Err e)
if_few f n true r e h = h
if_few f n false r e h = tt

found_few : (version n : ℕ) (o : Option Data) → SizeAtMost n o → AtMost most_of n (scripts_by version (option_and_then as_array o))
found_few version n None h = tt
found_few version n (Some null) h = tt
found_few version n (Some (boolean b)) h = tt
found_few version n (Some (number x)) h = tt
found_few version n (Some (string s)) h = tt
found_few version n (Some (array ds)) h = if_few most_of n _ (scripts_from version 1 ds) _ (weaker (scripts_from version 1 ds) (scripts_few version 1 ds))
  where
    weaker : (r : Result (List (List Op)) Refusal) → AtMost total (items_size ds) r → AtMost most_of n r
    weaker (Ok scripts) x = omega (arith, x, h)
    weaker (Err e) x = tt
found_few version n (Some (object ms)) h = tt

by_few : (version n : ℕ) (r : Result (List (List Op)) Refusal) → AtMost most_of n r → AtMost most_in n (scenario_by version r)
by_few version n (Ok scripts) h = h
by_few version n (Err e) h = tt

scenario_few : (d : Data) → AtMost most_in (size d) (scenario_in d)
scenario_few d = if_few most_in (size d) _ (scenario_at d (version_of d)) _ (at (version_of d))
  where
    at : (o : Option ℕ) → AtMost most_in (size d) (scenario_at d o)
    at None = tt
    at (Some version) = by_few version (size d) (scripts_in version d) (found_few version (size d) (get (name_of_field Scripts) d) (get-size (name_of_field Scripts) d))

value_few : (text : List ℕ) → length text ≤ 1048576 → (o : Option Data) → read text ≡ o → AtMost most_in 1048577 (scenario_if o)
value_few text short None e = tt
value_few text short (Some d) e = by (scenario_in d) (scenario_few d)
  where
    by : (r : Result Scenario Refusal) → AtMost most_in (size d) r → AtMost most_in 1048577 r
    by (Ok s) x = omega (arith, x, short, holds_less text d e)
    by (Err why) x = tt

text_few : (text : List ℕ) → AtMost most_in 1048577 (scenario_of text)
text_few text = by (nat_lt 1048576 (length text)) refl
  where
    utf8 : (b : Bool) → length text ≤ 1048576 → AtMost most_in 1048577 (scenario_if (if b then read text else None))
    utf8 true short = value_few text short (read text) refl
    utf8 false short = tt

    by : (b : Bool) → nat_lt 1048576 (length text) ≡ b → AtMost most_in 1048577 (scenario_of text)
    by true h = rw h tt
    by false h = rw h (utf8 (is_utf8 text) (ltb-false 1048576 (length text) h))

pub few_read : (text : List ℕ) (s : Scenario) → scenario_of text ≡ Ok s → sum_by length s.scripts < 1048576
few_read text s e = let few : AtMost most_in 1048577 (Ok s) = subst (AtMost most_in 1048577) e (text_few text) in let same = total_is s.scripts in omega (arith, few, same)

pub few_ops : FewOps
few_ops = few_read

-- ---- for the reader's places

abbrev ItemsAtMost : ℕ → Option Items → Type 0
ItemsAtMost n None = ⊤
ItemsAtMost n (Some ds) = items_size ds ≤ n

as_array-size : (d : Data) → ItemsAtMost (size d) (as_array d)
as_array-size null = tt
as_array-size (boolean b) = tt
as_array-size (number n) = tt
as_array-size (string s) = tt
as_array-size (array ds) = omega arith
as_array-size (object ms) = tt

pub array_size : (d : Data) (ds : Items) → as_array d ≡ Some ds → items_size ds ≤ size d
array_size d ds e = subst (ItemsAtMost (size d)) e (as_array-size d)

pub get_size : (k : List ℕ) (d e : Data) → get k d ≡ Some e → size e ≤ size d
get_size k d e found = subst (SizeAtMost (size d)) found (get-size k d)
