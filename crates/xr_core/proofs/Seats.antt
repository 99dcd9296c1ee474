-- Slots: no two handles stand in one, a handle keeps its own when others are given or destroyed, and what a slot keeps once one has changed.
use Rattle.std.proofs.Common.{◌≡◌, ◌≤◌, ◌<◌, ◌+◌, ◌==◌, ℕ, zero, suc, Bool, true, false, List, [], ◌∷◌, length, Option, Some, None, option_map, refl, sym, ap, subst, ◌∙◌, arith, true≢false}
use Rattle.std.specs.Prelude.{slice_index_or, slice_set, if◌then◌else◌}
use Rattle.std.specs.List.{position_from}
use Rattle.xr_types.specs.declared.handles.Slot.{Slot}
use Rattle.xr_model.specs.laws.HandleLaws.{count_in}
use Rattle.xr_model.specs.machine.HandlePlaces.{place_in, handle_at}
use Rattle.xr_model.specs.machine.Handles.{has, free, first_free, put_in, goes, cleared}
use Rattle.xr_model.proofs.Rows.{one_later, put_first, put_is_first, same_key, not_zero, hasnt_cleared, uncounted}
use Rattle.xr_core.specs.inside.Seats.{in_slot, with_in_slot}
use Rattle.xr_core.proofs.Listed.{zero_is, next_is}

-- ---- whose place it is

handle_there : (row : List Slot) (k place : ℕ) → place_in row k ≡ Some place → handle_at row place ≡ k
handle_there [] k place e = cc
handle_there (s ∷ ss) k place e = by (s.handle == k) refl e (λ q more. handle_there ss k q more)
  where
    by : (b : Bool) → (s.handle == k) ≡ b → (if b then Some 0 else position_from (λ t. t.handle == k) 1 ss) ≡ Some place → ((q : ℕ) → place_in ss k ≡ Some q → handle_at ss q ≡ k) → handle_at (s ∷ ss) place ≡ k
    by true is e more = rw (zero_is place e) (same_key s.handle k is)
    by false is e more =
        let next = next_is place (place_in ss k) (sym (one_later (λ t. t.handle == k) 0 ss) ∙ e) in
        rw next.2 (more next.0 next.1)

-- what stands in one place is one handle
pub same_place : (row : List Slot) (a b place : ℕ) → place_in row a ≡ Some place → place_in row b ≡ Some place → a ≡ b
same_place row a b place here there = sym (handle_there row a place here) ∙ handle_there row b place there

-- a place further down a row
later : (xs ys : List Slot) (k : ℕ) → place_in xs k ≡ place_in ys k → position_from (λ t. t.handle == k) 1 xs ≡ position_from (λ t. t.handle == k) 1 ys
later xs ys k same = one_later (λ t. t.handle == k) 0 xs ∙ ap (λ (o : Option ℕ). option_map (λ n. suc n) o) same ∙ sym (one_later (λ t. t.handle == k) 0 ys)

-- ---- a handle is given

stays_first : (new : Slot) (row : List Slot) (k : ℕ) → (k == 0) ≡ false → (new.handle == k) ≡ false → place_in (put_first new row) k ≡ place_in row k
unfolding put_first
stays_first new [] k nz other = refl
stays_first new (s ∷ ss) k nz other = by (s.handle == 0) refl (stays_first new ss k nz other)
  where
    by : (z : Bool) → (s.handle == 0) ≡ z → place_in (put_first new ss) k ≡ place_in ss k → place_in (if z then new ∷ ss else s ∷ put_first new ss) k ≡ place_in (s ∷ ss) k
    by true ez more =
        let away : (s.handle == k) ≡ false = subst (λ (n : ℕ). (n == k) ≡ false) (sym (same_key s.handle 0 ez)) (not_zero k nz) in
        rw (other, away) refl
    by false ez more = ap (λ (o : Option ℕ). if s.handle == k then Some 0 else o) (later (put_first new ss) ss k more)

-- the others stay where they are
pub stays_given : (new : Slot) (row : List Slot) (k : ℕ) → (k == 0) ≡ false → (new.handle == k) ≡ false → place_in (put_in row new (first_free row)) k ≡ place_in row k
stays_given new row k nz other = ap (λ (l : List Slot). place_in l k) (put_is_first new row) ∙ stays_first new row k nz other

-- ---- handles are destroyed

-- what is left stays where it is
pub stays_left : (handle : ℕ) (above : List ℕ) (row : List Slot) (k : ℕ) → (k == 0) ≡ false → count_in row k ≤ 1 → has (cleared handle above row) k ≡ true → place_in (cleared handle above row) k ≡ place_in row k
stays_left handle above [] k nz few there = refl
stays_left handle above (s ∷ ss) k nz few there = by (goes handle above s) (s.handle == k) refl few there (λ fewer here. stays_left handle above ss k nz fewer here)
  where
    by : (g b : Bool) → (s.handle == k) ≡ b → (if b then count_in ss k + 1 else count_in ss k) ≤ 1 → has ((if g then free else s) ∷ cleared handle above ss) k ≡ true
        → (count_in ss k ≤ 1 → has (cleared handle above ss) k ≡ true → place_in (cleared handle above ss) k ≡ place_in ss k)
        → place_in ((if g then free else s) ∷ cleared handle above ss) k ≡ place_in (s ∷ ss) k
    by true true eb few there more =
        let none = hasnt_cleared handle above ss k nz (uncounted ss k (omega (arith, few))) in
        let gone : has (free ∷ cleared handle above ss) k ≡ false = rw (not_zero k nz) none in
        absurd (true≢false (sym there ∙ gone))
    by true false eb few there more =
        let here : has (cleared handle above ss) k ≡ true = rw (not_zero k nz) at there in
        rw (not_zero k nz, eb) (later (cleared handle above ss) ss k (more few here))
    by false true eb few there more = rw eb refl
    by false false eb few there more =
        let here : has (cleared handle above ss) k ≡ true = rw eb at there in
        rw eb (later (cleared handle above ss) ss k (more few here))

-- ---- what a slot keeps has changed

module _ {T : Type 0} (new : T) where
  slot_here : (kept : List T) (slot : ℕ) (x : T) → slot < length kept → slice_index_or (slice_set kept slot x) slot new ≡ x
  slot_here [] slot x within = absurd (omega (arith, within))
  slot_here (k ∷ ks) zero x within = refl
  slot_here (k ∷ ks) (suc slot) x within = slot_here ks slot x (omega (arith, within))

  slot_else : (kept : List T) (slot other : ℕ) (x : T) → (slot ≡ other → ⊥) → slice_index_or (slice_set kept slot x) other new ≡ slice_index_or kept other new
  slot_else [] slot other x apart = refl
  slot_else (k ∷ ks) zero zero x apart = absurd (apart refl)
  slot_else (k ∷ ks) zero (suc other) x apart = refl
  slot_else (k ∷ ks) (suc slot) zero x apart = refl
  slot_else (k ∷ ks) (suc slot) (suc other) x apart = slot_else ks slot other x (λ e. apart (ap (λ n. suc n) e))

  slot_new : (kept : List T) (slot : ℕ) → slice_index_or (slice_set kept slot new) slot new ≡ new
  slot_new [] slot = refl
  slot_new (k ∷ ks) zero = refl
  slot_new (k ∷ ks) (suc slot) = slot_new ks slot

  -- what a new session has is what a slot has, also where there is none
  pub in_new : (kept : List T) (o : Option ℕ) → in_slot new (with_in_slot kept o new) o ≡ new
  in_new kept None = refl
  in_new kept (Some slot) = slot_new kept slot

  module _ (row : List Slot) (session : ℕ) where
    -- the slots of the others keep what they keep
    pub others_keep : (kept : List T) (x : T) (k : ℕ) → (k ≡ session → ⊥) → in_slot new (with_in_slot kept (place_in row session) x) (place_in row k) ≡ in_slot new kept (place_in row k)
    others_keep kept x k apart = by (place_in row session) (place_in row k) refl refl
      where
        by : (o p : Option ℕ) → place_in row session ≡ o → place_in row k ≡ p → in_slot new (with_in_slot kept o x) p ≡ in_slot new kept p
        by None p eo ep = refl
        by (Some slot) None eo ep = refl
        by (Some slot) (Some q) eo ep = slot_else kept slot q x (λ same. apart (same_place row k session slot (subst (λ (n : ℕ). place_in row k ≡ Some n) (sym same) ep) eo))

    pub own_changes : (kept : List T) (slot : ℕ) (x : T) → place_in row session ≡ Some slot → slot < length kept → in_slot new (slice_set kept slot x) (place_in row session) ≡ x
    own_changes kept slot x placed within = ap (λ (o : Option ℕ). in_slot new (slice_set kept slot x) o) placed ∙ slot_here kept slot x within

    pub others_stay : (kept : List T) (slot : ℕ) (x : T) (k : ℕ) → place_in row session ≡ Some slot → (k ≡ session → ⊥) → in_slot new (slice_set kept slot x) (place_in row k) ≡ in_slot new kept (place_in row k)
    others_stay kept slot x k placed apart = ap (λ (o : Option ℕ). in_slot new (with_in_slot kept o x) (place_in row k)) (sym placed) ∙ others_keep kept x k apart

-- in a slot stands the same, whatever would stand where there is none
pub any_default : {T : Type 0} (kept : List T) (slot : ℕ) (d e : T) → slot < length kept → slice_index_or kept slot d ≡ slice_index_or kept slot e
any_default [] slot d e within = absurd (omega (arith, within))
any_default (k ∷ ks) zero d e within = refl
any_default (k ∷ ks) (suc slot) d e within = any_default ks slot d e (omega (arith, within))

pub as_many : {T : Type 0} (kept : List T) (slot : ℕ) (x : T) → length (slice_set kept slot x) ≡ length kept
as_many [] slot x = refl
as_many (k ∷ ks) zero x = refl
as_many (k ∷ ks) (suc slot) x = ap (λ n. suc n) (as_many ks slot x)
