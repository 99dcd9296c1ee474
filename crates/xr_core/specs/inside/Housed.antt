-- What is listed by its handle is live, so there is room for one more wherever a place is free.
use Rattle.std.specs.Prelude.{◌≡◌, ◌≤◌, ◌+◌, ◌==◌, ℕ, true, false, not, List, [], ◌∷◌, map, if◌then◌else◌}
use Rattle.std.specs.List.{list_all}
use Rattle.xr_types.specs.declared.handles.Slot.{Slot}
use Rattle.xr_model.specs.machine.Handles.{Handles}
use Rattle.xr_model.specs.machine.Sets.{Sets}
use Rattle.xr_model.specs.machine.Spaces.{Spaces}
use Rattle.xr_model.specs.laws.HandleLaws.{count_in}

-- how often a handle is listed
abbrev pub count_listed : List ℕ → ℕ → ℕ
count_listed [] k = 0
count_listed (x ∷ xs) k = if x == k then count_listed xs k + 1 else count_listed xs k

-- the handle 0 isn't listed, and each handle stands in as many places of the row as it is listed, or in more
pub record AreHoused (xs : List ℕ) (row : List Slot) : Type 0 where
  pub named : list_all (λ x. not (x == 0)) xs ≡ true
  pub housed : (k : ℕ) → (k == 0) ≡ false → count_listed xs k ≤ count_in row k

-- The spaces, the action sets and the actions that are kept are live ones.
pub record KeepsLive (kept : Spaces) (inputs : Sets) (h : Handles) : Type 0 where
  pub spaces : AreHoused (map (λ x. x.handle) kept.spaces) h.spaces
  pub sets : AreHoused (map (λ x. x.handle) inputs.sets) h.sets
  pub actions : AreHoused (map (λ x. x.handle) inputs.actions) h.actions
