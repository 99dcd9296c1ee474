-- Items read so far, and those that follow.
use Rattle.std.proofs.Common.{◌≡◌, ℕ, ◌+◌, ◌<◌, List, [], ◌∷◌, ◌++◌, length, drop, get_or, Option, Some, None, option_map, refl, sym, ap, append_assoc, add-one, drop-cons, arith}
use Rattle.std.specs.Prelude.{option_and_then}
use Rattle.serde_json.specs.Data.{Data}
use Rattle.serde_json.specs.View.{view, items_view}
use Rattle.serde_json.specs.declared.value.Value.{Value}
use Rattle.xr_model.specs.scenario.InRange.{Each}
use Rattle.xr_model.specs.scenario.ListItems.{all_of, count_items}

-- these, and then the rest, where there is a rest
abbrev pub prepend : {T : Type 0} → List T → Option (List T) → Option (List T)
prepend xs more = option_map (λ ys. xs ++ ys) more

prepend_one : {T : Type 0} (xs : List T) (x : T) (more : Option (List T)) → prepend xs (option_map (λ ys. x ∷ ys) more) ≡ prepend (xs ++ x ∷ []) more
prepend_one xs x None = refl
prepend_one xs x (Some ys) = ap Some (sym (append_assoc xs (x ∷ []) ys))

pub prepend_none : {T : Type 0} (more : Option (List T)) → prepend [] more ≡ more
prepend_none None = refl
prepend_none (Some ys) = refl

all_step : {T : Type 0} (read : Data → Option T) (vs : List Value) (i : ℕ) (d : Value) → i < length vs
    → all_of read (items_view (drop i vs)) ≡ option_and_then (λ x. option_map (λ xs. x ∷ xs) (all_of read (items_view (drop (i + 1) vs)))) (read (view (get_or vs i d)))
all_step read vs i d h = rw (add-one, drop-cons vs i d) refl

-- a value that is an item
pub all_more : {T : Type 0} (read : Data → Option T) (vs : List Value) (xs : List T) (i : ℕ) (d : Value) (x : T) → i < length vs → read (view (get_or vs i d)) ≡ Some x
    → prepend xs (all_of read (items_view (drop i vs))) ≡ prepend (xs ++ x ∷ []) (all_of read (items_view (drop (i + 1) vs)))
all_more read vs xs i d x h e = rw (all_step read vs i d h, e) (prepend_one xs x _)

-- a value that is none
pub all_wrong : {T : Type 0} (read : Data → Option T) (vs : List Value) (xs : List T) (i : ℕ) (d : Value) → i < length vs → read (view (get_or vs i d)) ≡ None
    → prepend xs (all_of read (items_view (drop i vs))) ≡ None
all_wrong read vs xs i d h e = rw (all_step read vs i d h, e) refl

-- one more item in form
pub each_more : {T : Type 0} (P : T → Type 0) (xs : List T) (x : T) → Each P xs → P x → Each P (xs ++ x ∷ [])
each_more P [] x each p = (p, tt)
each_more P (y ∷ xs) x each p = (each.0, each_more P xs x each.1 p)

pub count_items-view : (vs : List Value) → count_items (items_view vs) ≡ length vs
count_items-view [] = refl
count_items-view (v ∷ vs) = omega (arith, count_items-view vs)

pub ruleset items_counted = (count_items-view)
