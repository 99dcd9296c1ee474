-- What goes handle by handle is what goes at once.
use Rattle.std.proofs.Common.{◌≡◌, ◌≤◌, ◌<◌, ◌+◌, ◌==◌, ◌||◌, ℕ, Bool, true, false, not, List, [], ◌∷◌, length, drop, refl, sym, ap, subst, ◌∙◌, true≢false}
use Rattle.std.proofs.lemmas.List.{drop_all, drop_more}
use lib.ListN.{get_or}
use Rattle.std.specs.Prelude.{if◌then◌else◌}
use Rattle.std.specs.List.{filter}
use Rattle.xr_types.specs.declared.input.Bound.{Bound}
use Rattle.xr_model.specs.machine.Bindings.{without_suggestions, without_suggestions_of}
use Rattle.xr_model.specs.machine.Handles.{is_among}
use Rattle.xr_model.specs.machine.Sets.{Set, Action, Sets, without_input, without_inputs}
use Rattle.xr_model.specs.machine.Spaces.{Space, Spaces, without_space, without_spaces}
use Rattle.xr_model.proofs.Rows.{same_key, itself}

pub equals_back : (a b : ℕ) → (a == b) ≡ (b == a)
equals_back a b = by (a == b) refl (b == a) refl
  where
    by : (x : Bool) → (a == b) ≡ x → (y : Bool) → (b == a) ≡ y → x ≡ y
    by true ex true ey = refl
    by false ex false ey = refl
    by true ex false ey = absurd (true≢false (sym (itself b) ∙ subst (λ (n : ℕ). (b == n) ≡ false) (same_key a b ex) ey))
    by false ex true ey = absurd (true≢false (sym (itself a) ∙ subst (λ (n : ℕ). (a == n) ≡ false) (same_key b a ey) ex))

-- those of a list, by what names them
one_first : {T : Type 0} (f : T → ℕ) (handle : ℕ) (handles : List ℕ) (xs : List T)
    → filter (λ x. not (is_among (handle ∷ handles) (f x))) xs ≡ filter (λ x. not (is_among handles (f x))) (filter (λ x. not (f x == handle)) xs)
one_first f handle handles [] = refl
one_first {T = T} f handle handles (x ∷ xs) = by (handle == f x) (f x == handle) (equals_back handle (f x)) (is_among handles (f x)) refl (one_first f handle handles xs)
  where
    by : (a b : Bool) → a ≡ b → (c : Bool) → is_among handles (f x) ≡ c
        → filter (λ y. not (is_among (handle ∷ handles) (f y))) xs ≡ filter (λ y. not (is_among handles (f y))) (filter (λ y. not (f y == handle)) xs)
        → (if not (a || c) then x ∷ filter (λ y. not (is_among (handle ∷ handles) (f y))) xs else filter (λ y. not (is_among (handle ∷ handles) (f y))) xs)
        ≡ filter (λ y. not (is_among handles (f y))) (if not b then x ∷ filter (λ y. not (f y == handle)) xs else filter (λ y. not (f y == handle)) xs)
    by true true same c ec more = more
    by true false same c ec more = absurd (true≢false same)
    by false true same c ec more = absurd (true≢false (sym same))
    by false false same true ec more = rw ec more
    by false false same false ec more = rw ec (ap (λ (l : List T). x ∷ l) more)

none_goes : {T : Type 0} (xs : List T) → filter (λ x. true) xs ≡ xs
none_goes [] = refl
none_goes {T = T} (x ∷ xs) = ap (λ (l : List T). x ∷ l) (none_goes xs)

-- ---- spaces, action sets with actions, and suggestions

module _ (handles : List ℕ) (i : ℕ) (within : i < length handles) where
  pub spaces_go : (s : Spaces) → without_spaces s (drop i handles) ≡ without_spaces (without_space s (get_or handles i 0)) (drop (i + 1) handles)
  spaces_go s = rw (drop_more handles i 0 within) (ap (λ (l : List Space). record s { spaces = l }) (one_first (λ (x : Space). x.handle) (get_or handles i 0) (drop (i + 1) handles) s.spaces))

  pub inputs_go : (s : Sets) → without_inputs s (drop i handles) ≡ without_inputs (without_input s (get_or handles i 0)) (drop (i + 1) handles)
  inputs_go s =
      rw (drop_more handles i 0 within)
      (ap (λ (l : List Set). record s { sets = l; actions = filter (λ x. not (is_among (get_or handles i 0 ∷ drop (i + 1) handles) x.handle)) s.actions }) (one_first (λ (x : Set). x.handle) (get_or handles i 0) (drop (i + 1) handles) s.sets)
      ∙ ap (λ (l : List Action). record s { sets = filter (λ x. not (is_among (drop (i + 1) handles) x.handle)) (filter (λ x. not (x.handle == get_or handles i 0)) s.sets); actions = l }) (one_first (λ (x : Action). x.handle) (get_or handles i 0) (drop (i + 1) handles) s.actions))

  pub suggestions_go : (s : List (List Bound)) → without_suggestions s (drop i handles) ≡ without_suggestions (without_suggestions_of s (get_or handles i 0)) (drop (i + 1) handles)
  suggestions_go s = rw (drop_more handles i 0 within) (by s)
    where
      by : (s : List (List Bound)) → without_suggestions s (get_or handles i 0 ∷ drop (i + 1) handles) ≡ without_suggestions (without_suggestions_of s (get_or handles i 0)) (drop (i + 1) handles)
      by [] = refl
      by (bs ∷ s) =
          ap (λ (l : List Bound). l ∷ without_suggestions s (get_or handles i 0 ∷ drop (i + 1) handles)) (one_first (λ (b : Bound). b.action) (get_or handles i 0) (drop (i + 1) handles) bs)
          ∙ ap (λ (l : List (List Bound)). filter (λ b. not (is_among (drop (i + 1) handles) b.action)) (filter (λ b. not (b.action == get_or handles i 0)) bs) ∷ l) (by s)

module _ (handles : List ℕ) (i : ℕ) (behind : length handles ≤ i) where
  pub no_space_goes : (s : Spaces) → without_spaces s (drop i handles) ≡ s
  no_space_goes s = rw (drop_all i handles behind) (ap (λ (l : List Space). record s { spaces = l }) (none_goes s.spaces))

  pub no_input_goes : (s : Sets) → without_inputs s (drop i handles) ≡ s
  no_input_goes s =
      rw (drop_all i handles behind)
      (ap (λ (l : List Set). record s { sets = l; actions = filter (λ x. true) s.actions }) (none_goes s.sets) ∙ ap (λ (l : List Action). record s { actions = l }) (none_goes s.actions))

  pub no_suggestion_goes : (s : List (List Bound)) → without_suggestions s (drop i handles) ≡ s
  no_suggestion_goes s = rw (drop_all i handles behind) (by s)
    where
      by : (s : List (List Bound)) → without_suggestions s [] ≡ s
      by [] = refl
      by (bs ∷ s) = ap (λ (l : List Bound). l ∷ without_suggestions s []) (none_goes bs) ∙ ap (λ (l : List (List Bound)). bs ∷ l) (by s)
