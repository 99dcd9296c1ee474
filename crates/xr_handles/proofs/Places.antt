-- Where a handle stands in a row.
use Rattle.std.proofs.Common.{◌≡◌, ◌≤◌, ◌<◌, ◌+◌, ◌==◌, ◌||◌, ℕ, zero, suc, Bool, true, false, not, List, [], ◌∷◌, length, Some, refl, sym, ap, ◌∙◌, arith, nat_lt}
use Rattle.std.proofs.lemmas.Bool.Decides.{nat_tests}
use Rattle.std.specs.Prelude.{slice_index_or, is_some, if◌then◌else◌}
use Rattle.std.specs.List.{position_from}
use Rattle.xr_types.specs.declared.handles.Slot.{Slot}
use Rattle.xr_model.specs.machine.Destroyed.{has_action}
use Rattle.xr_model.specs.machine.Handles.{free, has}
use Rattle.xr_model.specs.machine.HandlePlaces.{place_in}

found_from : (row : List Slot) (handle i : ℕ) → is_some (position_from (λ s. s.handle == handle) i row) ≡ has row handle
found_from [] handle i = refl
found_from (s ∷ ss) handle i = by (s.handle == handle) (found_from ss handle (i + 1))
  where
    by : (b : Bool) → is_some (position_from (λ s. s.handle == handle) (i + 1) ss) ≡ has ss handle
        → is_some (if b then Some i else position_from (λ s. s.handle == handle) (i + 1) ss) ≡ b || has ss handle
    by true more = refl
    by false more = more

-- it has a place exactly where the row has it
pub place_is_there : (row : List Slot) (handle : ℕ) → is_some (place_in row handle) ≡ has row handle
place_is_there row handle = found_from row handle 0

-- an item past the end of a list is the other one
past : {A : Type 0} (xs : List A) (i : ℕ) (d : A) → length xs ≤ i → slice_index_or xs i d ≡ d
past [] i d most = refl
past (x ∷ xs) zero d most = absurd (omega (arith, most))
past (x ∷ xs) (suc i) d most = past xs i d (omega (arith, most))

-- the places in which an action stands are told by those of the row
pub told_by_places : (row : List Slot) (there : List Bool) (n : ℕ) → length row ≡ n → length there ≡ n
    → ((i : ℕ) → i < n → slice_index_or there i false ≡ not ((slice_index_or row i free).handle == 0)) → (place : ℕ) → slice_index_or there place false ≡ has_action row place
told_by_places row there n long long2 each place = by (nat_lt place n) refl
  where
    by : (b : Bool) → nat_lt place n ≡ b → slice_index_or there place false ≡ has_action row place
    by true within = each place (grind (arith, nat_tests))
    by false beyond =
        let over : n ≤ place = grind (arith, nat_tests) in
        past there place false (omega (arith, over, long2)) ∙ ap (λ (s : Slot). not (s.handle == 0)) (sym (past row place free (omega (arith, over, long))))
