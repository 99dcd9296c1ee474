-- That the spaces, the action sets and the actions that a core keeps are live ones, call by call.
use Rattle.std.proofs.Common.{◌≡◌, ◌==◌, ◌++◌, ℕ, suc, Bool, true, false, not, List, [], ◌∷◌, length, map, refl, ap, ◌∙◌}
use Rattle.std.specs.Prelude.{is_some, if◌then◌else◌}
use Rattle.std.specs.List.{filter}
use Rattle.xr_types.specs.declared.handles.Kind.TheVariants as kind
use Rattle.xr_model.specs.machine.Handles.{Handles, is_among, first_free, going, with_handle, without, without_alone, destroyed_by, destroyed_instances, destroyed_parents}
use Rattle.xr_model.specs.machine.Sets.{Set, Action, Sets, without_inputs, sealed_by, with_sealed}
use Rattle.xr_model.specs.machine.Spaces.{Space, Spaces, without_space, without_spaces, left_spaces}
use Rattle.xr_model.proofs.Rows.{any_more}
use Rattle.xr_core.specs.inside.Housed.{KeepsLive}
use Rattle.xr_core.proofs.Housed.{housed_more, housed_left, housed_alone}
use Rattle.xr_core.proofs.LeftPlaces.{names_stay}

-- ---- the handles of what is kept

-- those of a list with one more
pub names_more : {T : Type 0} (f : T → ℕ) (xs : List T) (x : T) → map f (xs ++ x ∷ []) ≡ map f xs ++ f x ∷ []
names_more f [] x = refl
names_more f (y ∷ ys) x = ap (λ (l : List ℕ). f y ∷ l) (names_more f ys x)

pub names_count : {T : Type 0} (f : T → ℕ) (xs : List T) → length (map f xs) ≡ length xs
names_count f [] = refl
names_count f (x ∷ xs) = ap (λ n. suc n) (names_count f xs)

names_left : {T : Type 0} (f : T → ℕ) (keeps : ℕ → Bool) (xs : List T) → map f (filter (λ x. keeps (f x)) xs) ≡ filter keeps (map f xs)
names_left f keeps [] = refl
names_left f keeps (x ∷ xs) = by (keeps (f x)) (names_left f keeps xs)
  where
    by : (b : Bool) → map f (filter (λ y. keeps (f y)) xs) ≡ filter keeps (map f xs)
        → map f (if b then x ∷ filter (λ y. keeps (f y)) xs else filter (λ y. keeps (f y)) xs) ≡ (if b then f x ∷ filter keeps (map f xs) else filter keeps (map f xs))
    by true more = ap (λ (l : List ℕ). f x ∷ l) more
    by false more = more

sealed_name : (handles : List ℕ) (x : Set) → (sealed_by handles x).handle ≡ x.handle
sealed_name handles x = by (is_among handles x.handle)
  where
    by : (b : Bool) → (if b then record x { sealed = true } else x).handle ≡ x.handle
    by true = refl
    by false = refl

sealed_names : (handles : List ℕ) (xs : List Set) → map (λ x. x.handle) (map (sealed_by handles) xs) ≡ map (λ x. x.handle) xs
sealed_names handles [] = refl
sealed_names handles (x ∷ xs) = ap (λ (n : ℕ). n ∷ map (λ (y : Set). y.handle) (map (sealed_by handles) xs)) (sealed_name handles x) ∙ ap (λ (l : List ℕ). x.handle ∷ l) (sealed_names handles xs)

-- ---- what goes with a handle

module _ (h : Handles) (handle k : ℕ) (stays : is_among (destroyed_by h handle) k ≡ false) where
  front : is_among ((destroyed_parents h handle ++ going handle (destroyed_parents h handle) h.actions) ++ going handle (destroyed_parents h handle) h.spaces) k ≡ false
  front = (any_more (λ g. g == k) ((destroyed_parents h handle ++ going handle (destroyed_parents h handle) h.actions) ++ going handle (destroyed_parents h handle) h.spaces) (going handle (destroyed_parents h handle) h.chains) stays).0

  upper : (is_among (destroyed_parents h handle) k ≡ false) × (is_among (going handle (destroyed_parents h handle) h.actions) k ≡ false)
  upper = any_more (λ g. g == k) (destroyed_parents h handle) (going handle (destroyed_parents h handle) h.actions)
      (any_more (λ g. g == k) (destroyed_parents h handle ++ going handle (destroyed_parents h handle) h.actions) (going handle (destroyed_parents h handle) h.spaces) front).0

  space_among : is_among (going handle (destroyed_parents h handle) h.spaces) k ≡ false
  space_among = (any_more (λ g. g == k) (destroyed_parents h handle ++ going handle (destroyed_parents h handle) h.actions) (going handle (destroyed_parents h handle) h.spaces) front).1

  action_among : is_among (going handle (destroyed_parents h handle) h.actions) k ≡ false
  action_among = upper.1

  set_among : is_among (going handle (destroyed_instances h handle) h.sets) k ≡ false
  set_among = (any_more (λ g. g == k) (destroyed_instances h handle ++ going handle (destroyed_instances h handle) h.sessions) (going handle (destroyed_instances h handle) h.sets) upper.0).1

-- ---- what each call keeps

pub kept_left : (spaces : Spaces) (sets : Sets) (h : Handles) (handle : ℕ) → KeepsLive spaces sets h → KeepsLive (without_spaces spaces (destroyed_by h handle)) (without_inputs sets (destroyed_by h handle)) (without h handle)
kept_left spaces sets h handle kept =
    let keeps = λ (k : ℕ). not (is_among (destroyed_by h handle) k) in
    record {
      spaces = rw (names_left (λ (x : Space). x.handle) keeps spaces.spaces) (housed_left (map (λ x. x.handle) spaces.spaces) h.spaces handle (destroyed_parents h handle) (destroyed_by h handle) kept.spaces (λ k stays. space_among h handle k stays));
      sets = rw (names_left (λ (x : Set). x.handle) keeps sets.sets) (housed_left (map (λ x. x.handle) sets.sets) h.sets handle (destroyed_instances h handle) (destroyed_by h handle) kept.sets (λ k stays. set_among h handle k stays));
      actions = rw (names_left (λ (x : Action). x.handle) keeps sets.actions) (housed_left (map (λ x. x.handle) sets.actions) h.actions handle (destroyed_parents h handle) (destroyed_by h handle) kept.actions (λ k stays. action_among h handle k stays));
    }

-- spaces that move with nothing any more are kept all the same
pub kept_roots : (spaces : Spaces) (sets : Sets) (h : Handles) (there : ℕ → Bool) → KeepsLive spaces sets h → KeepsLive (left_spaces there spaces) sets h
kept_roots spaces sets h there kept = record { spaces = rw (names_stay there spaces.spaces) kept.spaces; sets = kept.sets; actions = kept.actions }

-- a handle of another kind was given
pub kept_same : (spaces : Spaces) (sets : Sets) (h new taken : Handles) → new ≡ taken → taken.spaces ≡ h.spaces → taken.sets ≡ h.sets → taken.actions ≡ h.actions → KeepsLive spaces sets h → KeepsLive spaces sets new
kept_same spaces sets h new taken is a b c kept = rw is (record { spaces = rw a kept.spaces; sets = rw b kept.sets; actions = rw c kept.actions })

-- a space more
pub kept_space : (spaces : Spaces) (sets : Sets) (h new : Handles) (x : Space) (parent given : ℕ) → KeepsLive spaces sets h → x.handle ≡ given → (given == 0) ≡ false → is_some (first_free h.spaces) ≡ true
    → new ≡ with_handle h kind.Space parent given → KeepsLive (record spaces { spaces = spaces.spaces ++ x ∷ [] }) sets new
kept_space spaces sets h new x parent given kept named nz room is = rw is (record {
  spaces = rw (names_more (λ (y : Space). y.handle) spaces.spaces x, named) (housed_more (map (λ y. y.handle) spaces.spaces) h.spaces given parent kept.spaces nz room);
  sets = kept.sets;
  actions = kept.actions;
})

-- an action set more
pub kept_set : (spaces : Spaces) (sets : Sets) (h new : Handles) (x : Set) (parent given : ℕ) → KeepsLive spaces sets h → x.handle ≡ given → (given == 0) ≡ false → is_some (first_free h.sets) ≡ true
    → new ≡ with_handle h kind.ActionSet parent given → KeepsLive spaces (record sets { sets = sets.sets ++ x ∷ [] }) new
kept_set spaces sets h new x parent given kept named nz room is = rw is (record {
  spaces = kept.spaces;
  sets = rw (names_more (λ (y : Set). y.handle) sets.sets x, named) (housed_more (map (λ y. y.handle) sets.sets) h.sets given parent kept.sets nz room);
  actions = kept.actions;
})

-- an action more
pub kept_action : (spaces : Spaces) (sets : Sets) (h new : Handles) (x : Action) (parent given : ℕ) → KeepsLive spaces sets h → x.handle ≡ given → (given == 0) ≡ false → is_some (first_free h.actions) ≡ true
    → new ≡ with_handle h kind.Action parent given → KeepsLive spaces (record sets { actions = sets.actions ++ x ∷ [] }) new
kept_action spaces sets h new x parent given kept named nz room is = rw is (record {
  spaces = kept.spaces;
  sets = kept.sets;
  actions = rw (names_more (λ (y : Action). y.handle) sets.actions x, named) (housed_more (map (λ y. y.handle) sets.actions) h.actions given parent kept.actions nz room);
})

-- sets are sealed
pub kept_sealed : (spaces : Spaces) (sets : Sets) (h : Handles) (handles : List ℕ) → KeepsLive spaces sets h → KeepsLive spaces (with_sealed sets handles) h
kept_sealed spaces sets h handles kept = record { spaces = kept.spaces; sets = rw (sealed_names handles sets.sets) kept.sets; actions = kept.actions }

-- a space goes alone
pub kept_alone : (spaces : Spaces) (sets : Sets) (h : Handles) (space : ℕ) → KeepsLive spaces sets h → KeepsLive (without_space spaces space) sets (without_alone h kind.Space space)
kept_alone spaces sets h space kept = record {
  spaces = rw (names_left (λ (x : Space). x.handle) (λ k. not (k == space)) spaces.spaces) (housed_alone (map (λ x. x.handle) spaces.spaces) h.spaces space kept.spaces);
  sets = kept.sets;
  actions = kept.actions;
}
