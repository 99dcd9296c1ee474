-- The kind and the parent of a handle that stands in one place.
use Rattle.std.proofs.Common.{◌≡◌, ◌≤◌, ◌+◌, ◌==◌, ◌||◌, ℕ, Bool, true, false, List, [], ◌∷◌, Option, Some, None, refl, sym, ap, arith, true≢false}
use Rattle.std.specs.Prelude.{is_some, option_map, if◌then◌else◌}
use Rattle.xr_types.specs.declared.handles.Kind.{Kind}
use Rattle.xr_types.specs.declared.handles.Kind.TheVariants.{Instance, Session, ActionSet, Action, Space, Swapchain}
use Rattle.xr_types.specs.declared.handles.Slot.{Slot}
use Rattle.xr_model.specs.machine.Handles.{Handles, has, is_live, row_of}
use Rattle.xr_model.specs.machine.HandlePlaces.{kind_of, parent_of, parent_of_kind, slot_in}
use Rattle.xr_model.specs.laws.HandleLaws.{count_in, places_with, StandOnce}
use Rattle.xr_model.proofs.Rows.{uncounted, counted, neither_of}

module _ (h : Handles) (handle : ℕ) (once : StandOnce h) (nz : (handle == 0) ≡ false) where
  -- it stands in no second row
  elsewhere : (here row : List Slot) → has here handle ≡ true → count_in here handle + count_in row handle ≤ places_with h handle → has row handle ≡ false
  elsewhere here row there part =
      let all = once handle nz in
      let one = counted here handle there in
      uncounted row handle (omega (arith, part, all, one))

  -- a handle that a row has is of the kind of that row
  kind_is : (kind : Kind) → has (row_of h kind) handle ≡ true → kind_of h handle ≡ Some kind
  kind_is Instance there = rw (nz, there) refl
  kind_is Session there = rw (nz, elsewhere h.sessions h.instances there (omega arith), there) refl
  kind_is ActionSet there = rw (nz, elsewhere h.sets h.instances there (omega arith), elsewhere h.sets h.sessions there (omega arith), there) refl
  kind_is Action there = rw (nz, elsewhere h.actions h.instances there (omega arith), elsewhere h.actions h.sessions there (omega arith), elsewhere h.actions h.sets there (omega arith), there) refl
  kind_is Space there =
      rw (nz, elsewhere h.spaces h.instances there (omega arith), elsewhere h.spaces h.sessions there (omega arith), elsewhere h.spaces h.sets there (omega arith), elsewhere h.spaces h.actions there (omega arith), there) refl
  kind_is Swapchain there =
      rw (nz, elsewhere h.chains h.instances there (omega arith), elsewhere h.chains h.sessions there (omega arith), elsewhere h.chains h.sets there (omega arith), elsewhere h.chains h.actions there (omega arith), elsewhere h.chains h.spaces there (omega arith), there) refl

-- a row that hasn't a handle has no slot of it
no_slot : (row : List Slot) (handle : ℕ) → has row handle ≡ false → slot_in row handle ≡ None
no_slot [] handle none = refl
no_slot (s ∷ ss) handle none = let two = neither_of (s.handle == handle) (has ss handle) none in rw two.0 (no_slot ss handle two.1)

-- a row has a slot exactly of the handles that it has
pub slot_is_there : (row : List Slot) (handle : ℕ) → is_some (option_map (λ (s : Slot). s.parent) (slot_in row handle)) ≡ has row handle
slot_is_there [] handle = refl
slot_is_there (s ∷ ss) handle = by (s.handle == handle) (slot_is_there ss handle)
  where
    by : (b : Bool) → is_some (option_map (λ (s : Slot). s.parent) (slot_in ss handle)) ≡ has ss handle
        → is_some (option_map (λ (s : Slot). s.parent) (if b then Some s else slot_in ss handle)) ≡ b || has ss handle
    by true more = refl
    by false more = more

taken : (b : Bool) → b ≡ true → (x y : Option ℕ) → x ≡ y → x ≡ (if b then y else None)
taken true is x y same = same
taken false is x y same = absurd (true≢false (sym is))

untaken : (b : Bool) → b ≡ false → (x y : Option ℕ) → x ≡ None → x ≡ (if b then y else None)
untaken true is x y same = absurd (true≢false is)
untaken false is x y same = same

-- the parent in the row of a kind is the parent of a handle of that kind
pub parent_is_there : (h : Handles) (kind : Kind) (handle : ℕ) → StandOnce h → (handle == 0) ≡ false
    → option_map (λ (s : Slot). s.parent) (slot_in (row_of h kind) handle) ≡ (if is_live h kind handle then parent_of h handle else None)
parent_is_there h kind handle once nz = by (has (row_of h kind) handle) refl
  where
    by : (b : Bool) → has (row_of h kind) handle ≡ b → option_map (λ (s : Slot). s.parent) (slot_in (row_of h kind) handle) ≡ (if is_live h kind handle then parent_of h handle else None)
    by true there =
        let live : is_live h kind handle ≡ true = rw (nz, there) refl in
        taken (is_live h kind handle) live (option_map (λ (s : Slot). s.parent) (slot_in (row_of h kind) handle)) (parent_of h handle)
        (sym (ap (λ (k : Option Kind). parent_of_kind h k handle) (kind_is h handle once nz kind there)))
    by false none =
        let gone : is_live h kind handle ≡ false = rw (nz, none) refl in
        untaken (is_live h kind handle) gone (option_map (λ (s : Slot). s.parent) (slot_in (row_of h kind) handle)) (parent_of h handle) (rw (no_slot (row_of h kind) handle none) refl)
