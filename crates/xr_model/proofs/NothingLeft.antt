-- With the instance all actions go, since there is one place for an instance.
use Rattle.std.proofs.Common.{◌≡◌, ◌==◌, ◌&&◌, ◌||◌, ℕ, not, Bool, true, false, List, [], ◌∷◌, length, refl, sym, subst, ◌∙◌, true≢false}
use Rattle.std.specs.Prelude.{is_some}
use Rattle.std.specs.List.{find}
use Rattle.xr_types.specs.declared.handles.Kind.TheVariants as kind
use Rattle.xr_types.specs.declared.handles.Slot.{Slot}
use Rattle.xr_model.specs.machine.Handles.{has, is_live, cleared, without, destroyed_by}
use Rattle.xr_model.specs.machine.Sets.{Action, without_inputs}
use Rattle.xr_model.specs.machine.State.{CoreState}
use Rattle.xr_model.specs.laws.HandleLaws.{StandOnce, is_under, AreUnder}
use Rattle.xr_model.proofs.FrameOrder.{only_row}
use Rattle.xr_model.proofs.ListSteps.{Has}
use Rattle.xr_model.proofs.Lists.{Kept, kept_gone}
use Rattle.xr_model.proofs.Orphans.{without_under}
use Rattle.xr_model.proofs.Rows.{same_key, itself, both_of, not_true, not_zero, hasnt_cleared, cleared_away}

-- no handle stands in a row
abbrev IsEmpty : List Slot → Type 0
IsEmpty row = (p : ℕ) → (p == 0) ≡ false → has row p ≡ false

-- a row of one place is empty without what stands in it
only_cleared : (row : List Slot) (p : ℕ) → length row ≡ 1 → (p == 0) ≡ false → has row p ≡ true → IsEmpty (cleared p [] row)
only_cleared row p one nz there q other = by (has (cleared p [] row) q) refl (has row q) refl
  where
    by : (b : Bool) → has (cleared p [] row) q ≡ b → (c : Bool) → has row q ≡ c → b ≡ false
    by false eb c ec = refl
    by true eb true ec = absurd (true≢false (sym eb ∙ subst (λ (n : ℕ). has (cleared p [] row) n ≡ false) (only_row row p q one there ec) (cleared_away p [] row nz)))
    by true eb false ec = absurd (true≢false (sym eb ∙ hasnt_cleared p [] row q other ec))

-- nothing stands below nothing
empty_below : (above row : List Slot) → IsEmpty above → is_under above row ≡ true → IsEmpty row
empty_below above [] none under p nz = refl
empty_below above (s ∷ ss) none under p nz =
    let two = both_of ((s.handle == 0) || (not (s.parent == 0) && has above s.parent)) (is_under above ss) under in
    by (s.handle == 0) refl (s.parent == 0) refl two.0 (empty_below above ss none two.1 p nz)
  where
    by : (b : Bool) → (s.handle == 0) ≡ b → (c : Bool) → (s.parent == 0) ≡ c → b || (not c && has above s.parent) ≡ true → has ss p ≡ false → (s.handle == p) || has ss p ≡ false
    by true eb c ec here rest = let free : (s.handle == p) ≡ false = subst (λ (n : ℕ). (n == p) ≡ false) (sym (same_key s.handle 0 eb)) (not_zero p nz) in rw (free, rest) refl
    by false eb true ec here rest = absurd (true≢false (sym here))
    by false eb false ec here rest = absurd (true≢false (sym here ∙ none s.parent ec))

nothing_listed : (xs : List Action) → ((k : ℕ) → is_some (find (λ y. y.handle == k) xs) ≡ false) → xs ≡ []
nothing_listed [] none = refl
nothing_listed (x ∷ xs) none = let first = none x.handle in absurd (true≢false (rw (itself x.handle) at first))

-- no action is left once an instance went
pub none_left : (s : CoreState) (instance : ℕ) → length s.handles.instances ≡ 1 → is_live s.handles kind.Instance instance ≡ true → AreUnder s.handles → StandOnce s.handles → Has Kept s
    → (without_inputs s.inputs (destroyed_by s.handles instance)).actions ≡ []
none_left s instance one live under once kept =
    let two = both_of (not (instance == 0)) (has s.handles.instances instance) live in
    let below = without_under s.handles instance under in
    let sets = empty_below (without s.handles instance).instances (without s.handles instance).sets (only_cleared s.handles.instances instance one (not_true (instance == 0) two.0) two.1) below.sets in
    let none = empty_below (without s.handles instance).sets (without s.handles instance).actions sets below.actions in
    nothing_listed (without_inputs s.inputs (destroyed_by s.handles instance)).actions (λ k. (kept_gone s.handles s.room s.inputs s.suggestions kept instance once).actions k ∙ by none k (k == 0) refl)
  where
    by : IsEmpty (without s.handles instance).actions → (k : ℕ) (b : Bool) → (k == 0) ≡ b → not b && has (without s.handles instance).actions k ≡ false
    by none k true eb = refl
    by none k false eb = none k eb
