-- The lists of what is kept by its handle, after every legal history.
use Rattle.std.proofs.Common.{◌≡◌, ◌≢◌, ◌≤◌, ◌+◌, ◌==◌, ◌&&◌, ◌||◌, ◌⊎◌, inl, inr, ℕ, ℤ, not, Bool, true, false, List, [], ◌∷◌, ◌++◌, map, Option, Some, None, refl, sym, ap, subst, ◌∙◌, arith, true≢false, zero, suc}
use Rattle.std.specs.Prelude.{is_some, if◌then◌else◌, slice_set, filter_map, option_map, replicate, is_none}
use Rattle.std.specs.List.{filter, list_all, position_from, cons_option}
use Rattle.xr_types.specs.declared.handles.Kind.TheVariants.{Action, Space}
use Rattle.xr_types.specs.declared.handles.Slot.{Slot}
use Rattle.xr_types.specs.declared.input.Bound.{Bound}
use Rattle.xr_model.specs.machine.Calls.{Entry}
use Rattle.xr_model.specs.machine.Handles.{Handles, has, is_live, is_among, was_given, first_free, put_in, going, cleared, destroyed_instances, destroyed_parents, destroyed_by, without, without_alone, with_handle, free, goes}
use Rattle.xr_model.specs.machine.Sets as inputs
use Rattle.xr_model.specs.machine.Sets.{Sets, Set, action_at, set_at, sealed_by, with_action, without_inputs, is_in_sealed_set}
use Rattle.xr_model.specs.machine.Spaces as spaces
use Rattle.xr_model.specs.machine.Destroyed.{has_action, spaces_left}
use Rattle.xr_model.specs.machine.Spaces.{Spaces, space_at, with_left, without_space, without_spaces}
use Rattle.xr_model.specs.machine.State.{CoreState, State, Settings, opening}
use Rattle.xr_model.specs.machine.Machine.{step, reads_of, IsAllowed}
use Rattle.xr_model.specs.laws.HandleLaws.{count_in, places_with, StandOnce}
use Rattle.xr_model.proofs.Rows.{itself, same_key, is_false, both_of, not_true, not_zero, neither_of, counted, uncounted, hasnt_cleared, put_first, put_is_first, one_later, later_is_some, has_put, hasnt_free}
use Rattle.xr_model.proofs.Keyed.{IsRow, row_more, row_left, found_map, which_more, which_left}
use Rattle.xr_model.proofs.HandleSteps.{gives_handle, first_fails}
use Rattle.xr_model.proofs.DestroyingTakes.{any_append, none_going, one_going, one_cleared, parent_in}
use Rattle.xr_types.specs.declared.code.Code.TheVariants.{HandleInvalid, ActionsetsAlreadyAttached, PathInvalid, PathUnsupported}
use Rattle.xr_types.specs.declared.handles.TheConstants.{ACTION_SETS, ACTIONS, SPACES}
use Rattle.xr_types.specs.declared.input.Binding.{Binding}
use Rattle.xr_types.specs.declared.input.Pick.{Pick}
use Rattle.xr_types.specs.declared.input.Profile.{Profile}
use Rattle.xr_model.specs.machine.Bindings.{without_suggestions, profile_place}
use Rattle.xr_model.specs.machine.Refusals.{when, first_of}
use Rattle.xr_model.specs.machine.Paths.{text_at}
use Rattle.xr_model.specs.machine.History.{after, opening_clocks, clocks_after, IsLegal, IsLegalFrom}
use Rattle.xr_model.specs.machine.Rules.Bindings.{pick_of, binding_checks, bindings_checks, bound_of, suggested}
use Rattle.xr_model.proofs.ListSteps.{Has, kept_by_step, none_behind, none_front}
use Rattle.xr_model.proofs.Destroying.{known_step, known_opening}
use Rattle.xr_model.proofs.StandOnce.{given_one, once_step, none_once}
use Rattle.xr_model.specs.laws.Soundness.{AreKnown}

-- ---- what goes with a handle is what isn't live behind it

module _ (h : Handles) (top : ℕ) (once : StandOnce h) (k : ℕ) (nz : (k == 0) ≡ false) where
  -- among all that goes, by the row that it stood in
  by_rows : is_among (destroyed_by h top) k
      ≡ ((((is_among (destroyed_instances h top) k || is_among (going top (destroyed_instances h top) h.sessions) k) || is_among (going top (destroyed_instances h top) h.sets) k) || is_among (going top (destroyed_parents h top) h.actions) k)
      || is_among (going top (destroyed_parents h top) h.spaces) k) || is_among (going top (destroyed_parents h top) h.chains) k
  by_rows =
      let i = destroyed_instances h top in
      let a = going top (destroyed_instances h top) h.sessions in
      let b = going top (destroyed_instances h top) h.sets in
      let c = going top (destroyed_parents h top) h.actions in
      let d = going top (destroyed_parents h top) h.spaces in
      let f = going top (destroyed_parents h top) h.chains in
      any_append (λ g. g == k) ((((i ++ a) ++ b) ++ c) ++ d) f
      ∙ ap (λ x. x || is_among f k) (any_append (λ g. g == k) (((i ++ a) ++ b) ++ c) d)
      ∙ ap (λ x. (x || is_among d k) || is_among f k) (any_append (λ g. g == k) ((i ++ a) ++ b) c)
      ∙ ap (λ x. ((x || is_among c k) || is_among d k) || is_among f k) (any_append (λ g. g == k) (i ++ a) b)
      ∙ ap (λ x. (((x || is_among b k) || is_among c k) || is_among d k) || is_among f k) (any_append (λ g. g == k) i a)

  gone_from : (above : List ℕ) (row : List Slot) → has row k ≡ true → count_in row k ≤ places_with h k → not (is_among (going top above row) k) ≡ has (cleared top above row) k
  gone_from above row there part =
      let all = once k nz in
      let most : count_in row k ≤ 1 = omega (arith, part, all) in
      ap (λ b. not b) (one_going top above k nz row there most) ∙ sym (one_cleared top above k nz row there most)

  aside : (row other : List Slot) → has row k ≡ true → count_in row k + count_in other k ≤ places_with h k → has other k ≡ false
  aside row other there both = let all = once k nz in let here = counted row k there in uncounted other k (omega (arith, both, all, here))

  or_false : (b : Bool) → b || false ≡ b
  or_false true = refl
  or_false false = refl

  pub set_gone : has h.sets k ≡ true → not (is_among (destroyed_by h top) k) ≡ has (without h top).sets k
  set_gone there =
      let i = none_going top [] h.instances k (aside h.sets h.instances there (omega arith)) in
      let a = none_going top (destroyed_instances h top) h.sessions k (aside h.sets h.sessions there (omega arith)) in
      let c = none_going top (destroyed_parents h top) h.actions k (aside h.sets h.actions there (omega arith)) in
      let d = none_going top (destroyed_parents h top) h.spaces k (aside h.sets h.spaces there (omega arith)) in
      let f = none_going top (destroyed_parents h top) h.chains k (aside h.sets h.chains there (omega arith)) in
      ap (λ b. not b) (by_rows ∙ rw (i, a, c, d, f) (or_false _ ∙ or_false _ ∙ or_false (is_among (going top (destroyed_instances h top) h.sets) k))) ∙ gone_from (destroyed_instances h top) h.sets there (omega arith)

  pub action_gone : has h.actions k ≡ true → not (is_among (destroyed_by h top) k) ≡ has (without h top).actions k
  action_gone there =
      let i = none_going top [] h.instances k (aside h.actions h.instances there (omega arith)) in
      let a = none_going top (destroyed_instances h top) h.sessions k (aside h.actions h.sessions there (omega arith)) in
      let b = none_going top (destroyed_instances h top) h.sets k (aside h.actions h.sets there (omega arith)) in
      let d = none_going top (destroyed_parents h top) h.spaces k (aside h.actions h.spaces there (omega arith)) in
      let f = none_going top (destroyed_parents h top) h.chains k (aside h.actions h.chains there (omega arith)) in
      ap (λ b. not b) (by_rows ∙ rw (i, a, b, d, f) (or_false _ ∙ or_false (is_among (going top (destroyed_parents h top) h.actions) k))) ∙ gone_from (destroyed_parents h top) h.actions there (omega arith)

  pub space_gone : has h.spaces k ≡ true → not (is_among (destroyed_by h top) k) ≡ has (without h top).spaces k
  space_gone there =
      let i = none_going top [] h.instances k (aside h.spaces h.instances there (omega arith)) in
      let a = none_going top (destroyed_instances h top) h.sessions k (aside h.spaces h.sessions there (omega arith)) in
      let b = none_going top (destroyed_instances h top) h.sets k (aside h.spaces h.sets there (omega arith)) in
      let c = none_going top (destroyed_parents h top) h.actions k (aside h.spaces h.actions there (omega arith)) in
      let f = none_going top (destroyed_parents h top) h.chains k (aside h.spaces h.chains there (omega arith)) in
      ap (λ b. not b) (by_rows ∙ rw (i, a, b, c, f) (or_false (is_among (going top (destroyed_parents h top) h.spaces) k))) ∙ gone_from (destroyed_parents h top) h.spaces there (omega arith)

-- ---- the parent of a handle in a row

parent_first : (new : Slot) (row : List Slot) (p : ℕ) → (p == 0) ≡ false → (new.handle == p) ≡ false → parent_in (put_first new row) p ≡ parent_in row p
unfolding put_first parent_in
parent_first new [] p nz other = refl
parent_first new (s ∷ ss) p nz other = by (s.handle == 0) refl (parent_first new ss p nz other)
  where
    by : (b : Bool) → (s.handle == 0) ≡ b → parent_in (put_first new ss) p ≡ parent_in ss p → parent_in (if b then new ∷ ss else s ∷ put_first new ss) p ≡ parent_in (s ∷ ss) p
    by true eb more = let free : (s.handle == p) ≡ false = subst (λ (n : ℕ). (n == p) ≡ false) (sym (same_key s.handle 0 eb)) (not_zero p nz) in rw (other, free) refl
    by false eb more = ap (λ (n : ℕ). if s.handle == p then s.parent else n) more

parent_new : (new : Slot) (row : List Slot) → has row new.handle ≡ false → is_some (first_free row) ≡ true → parent_in (put_first new row) new.handle ≡ new.parent
unfolding put_first parent_in
parent_new new [] none room = absurd (true≢false (sym room))
parent_new new (s ∷ ss) none room =
    let two = neither_of (s.handle == new.handle) (has ss new.handle) none in
    by (s.handle == 0) room two.0 (parent_new new ss two.1)
  where
    by : (b : Bool) → is_some (if b then Some 0 else position_from (λ x. x.handle == 0) 1 ss) ≡ true → (s.handle == new.handle) ≡ false → (is_some (first_free ss) ≡ true → parent_in (put_first new ss) new.handle ≡ new.parent)
        → parent_in (if b then new ∷ ss else s ∷ put_first new ss) new.handle ≡ new.parent
    by true room here more = rw (itself new.handle) refl
    by false room here more = rw here (more (sym (later_is_some (first_free ss)) ∙ sym (ap is_some (one_later (λ x. x.handle == 0) 0 ss)) ∙ room))

pub parent_cleared : (h : ℕ) (above : List ℕ) (row : List Slot) (p : ℕ) → (p == 0) ≡ false → has (cleared h above row) p ≡ true → count_in row p ≤ 1 → parent_in (cleared h above row) p ≡ parent_in row p
unfolding parent_in
parent_cleared h above [] p nz there most = refl
parent_cleared h above (s ∷ ss) p nz there most = by (goes h above s) (s.handle == p) refl there most (parent_cleared h above ss p nz)
  where
    gone : count_in ss p + 1 ≤ 1 → has (cleared h above ss) p ≡ true → ⊥
    gone most there =
        let zero : count_in ss p ≡ 0 = omega (arith, most) in
        true≢false (sym there ∙ hasnt_cleared h above ss p nz (uncounted ss p zero))

    by : (g b : Bool) → (s.handle == p) ≡ b → has ((if g then free else s) ∷ cleared h above ss) p ≡ true → (if b then count_in ss p + 1 else count_in ss p) ≤ 1
        → (has (cleared h above ss) p ≡ true → count_in ss p ≤ 1 → parent_in (cleared h above ss) p ≡ parent_in ss p)
        → parent_in ((if g then free else s) ∷ cleared h above ss) p ≡ (if b then s.parent else parent_in ss p)
    by true true eb there most more = absurd (gone most (rw (not_zero p nz) at there))
    by true false eb there most more = let rest : has (cleared h above ss) p ≡ true = rw (not_zero p nz) at there in rw (not_zero p nz) (more rest most)
    by false true eb there most more = rw eb refl
    by false false eb there most more = let rest : has (cleared h above ss) p ≡ true = rw eb at there in rw eb (more rest most)

-- ---- tests of all suggestions

pub all_weaker : {T : Type 0} (p q : T → Bool) → ((x : T) → p x ≡ true → q x ≡ true) → (xs : List T) → list_all p xs ≡ true → list_all q xs ≡ true
all_weaker p q more [] each = refl
all_weaker p q more (x ∷ xs) each = let two = both_of (p x) (list_all p xs) each in rw (more x two.0) (all_weaker p q more xs two.1)

pub all_left : {T : Type 0} (p q kept : T → Bool) → ((x : T) → p x ≡ true → kept x ≡ true → q x ≡ true) → (xs : List T) → list_all p xs ≡ true → list_all q (filter kept xs) ≡ true
all_left p q kept more [] each = refl
all_left p q kept more (x ∷ xs) each = let two = both_of (p x) (list_all p xs) each in by (kept x) refl two.0 (all_left p q kept more xs two.1)
  where
    by : (b : Bool) → kept x ≡ b → p x ≡ true → list_all q (filter kept xs) ≡ true → list_all q (if b then x ∷ filter kept xs else filter kept xs) ≡ true
    by true eb here rest = rw (more x here eb) rest
    by false eb here rest = rest

pub all_set : {T : Type 0} (p : T → Bool) (xs : List T) (i : ℕ) (a : T) → list_all p xs ≡ true → p a ≡ true → list_all p (slice_set xs i a) ≡ true
all_set p [] i a each good = refl
all_set p (x ∷ xs) zero a each good = let two = both_of (p x) (list_all p xs) each in rw (good, two.1) refl
all_set p (x ∷ xs) (suc i) a each good = let two = both_of (p x) (list_all p xs) each in rw two.0 (all_set p xs i a two.1 good)

pub all_map : {T : Type 0} (p q : T → Bool) (f : T → T) → ((x : T) → p x ≡ true → q (f x) ≡ true) → (xs : List T) → list_all p xs ≡ true → list_all q (map f xs) ≡ true
all_map p q f more [] each = refl
all_map p q f more (x ∷ xs) each = let two = both_of (p x) (list_all p xs) each in rw (more x two.0) (all_map p q f more xs two.1)

abbrev AreFor : Handles → List (List Bound) → Type 0
AreFor h su = list_all (list_all (λ b. is_live h Action b.action)) su ≡ true

-- what a call suggests is for live actions
bound_for : (s : CoreState) (which : Profile) (list : List Binding) → first_of (bindings_checks s (Some which) list) ≡ None → list_all (λ b. is_live s.handles Action b.action) (filter_map (bound_of s which) list) ≡ true
bound_for s which [] none = refl
bound_for s which (b ∷ list) none = by (pick_of s which b) (bound_for s which list (none_behind (binding_checks s which b) (bindings_checks s (Some which) list) none))
  where
    live : is_live s.handles Action b.action ≡ true
    live = first_fails (is_live s.handles Action b.action) HandleInvalid
        (when (is_in_sealed_set s.inputs b.action) ActionsetsAlreadyAttached ∷ when (is_none (text_at s.atoms b.path)) PathInvalid ∷ when (is_none (pick_of s which b)) PathUnsupported ∷ [])
        (none_front (binding_checks s which b) (bindings_checks s (Some which) list) none)

    by : (o : Option Pick) → list_all (λ x. is_live s.handles Action x.action) (filter_map (bound_of s which) list) ≡ true
        → list_all (λ x. is_live s.handles Action x.action) (cons_option (option_map (λ pick. record { action = b.action; pick = pick }) o) (filter_map (bound_of s which) list)) ≡ true
    by None rest = rest
    by (Some pick) rest = rw live rest

suggested_for : (s : CoreState) (o : Option Profile) (list : List Binding) → first_of (bindings_checks s o list) ≡ None → AreFor s.handles s.suggestions → AreFor s.handles (suggested s o list)
suggested_for s None list none each = each
suggested_for s (Some which) list none each = all_set (list_all (λ b. is_live s.handles Action b.action)) s.suggestions (profile_place which) (filter_map (bound_of s which) list) each (bound_for s which list none)

-- ---- what is kept is live

pub record Kept (h : Handles) (sp : Spaces) (st : Sets) (su : List (List Bound)) : Type 0 where
  pub spaces : IsRow (λ (x : spaces.Space). x.handle) sp.spaces h.spaces
  pub sets : IsRow (λ (x : Set). x.handle) st.sets h.sets
  pub actions : IsRow (λ (x : inputs.Action). x.handle) st.actions h.actions
  pub above : (k : ℕ) (x : inputs.Action) → action_at st k ≡ Some x → parent_in h.actions k ≡ x.set
  pub suggested : AreFor h su

sealed_named : (handles : List ℕ) (x : Set) → (sealed_by handles x).handle ≡ x.handle
sealed_named handles x = by (is_among handles x.handle)
  where
    by : (b : Bool) → (if b then record x { sealed = true } else x).handle ≡ x.handle
    by true = refl
    by false = refl

-- a listed action is live
module _ (h : Handles) (sp : Spaces) (st : Sets) (su : List (List Bound)) (kept : Kept h sp st su) where
  pub listed_live : (k : ℕ) (x : inputs.Action) → action_at st k ≡ Some x → ((k == 0) ≡ false) × (has h.actions k ≡ true)
  listed_live k x found =
      let live : not (k == 0) && has h.actions k ≡ true = sym (kept.actions k) ∙ ap (λ (o : Option inputs.Action). is_some o) found in
      let two = both_of (not (k == 0)) (has h.actions k) live in
      (not_true (k == 0) two.0, two.1)

  module _ (given : ℕ) (nz : (given == 0) ≡ false) (absent : has h.actions given ≡ false) (x : inputs.Action) (named : x.handle ≡ given) (room : is_some (first_free h.actions) ≡ true) where
    slot : Slot
    slot = record { handle = given; parent = x.set }

    kept_action : Kept (with_handle h Action x.set given) sp (with_action st x) su
    unfolding slot
    kept_action = record {
      spaces = kept.spaces;
      sets = kept.sets;
      actions = row_more (λ (y : inputs.Action). y.handle) st.actions x h.actions slot kept.actions named nz room;
      above = λ k y found. cases k y (which_more (λ (z : inputs.Action). z.handle) st.actions x k y found);
      suggested = all_weaker (list_all (λ b. is_live h Action b.action)) (list_all (λ b. is_live (with_handle h Action x.set given) Action b.action)) (λ bs each. all_weaker (λ b. is_live h Action b.action) (λ b. is_live (with_handle h Action x.set given) Action b.action) (λ b live. still b.action live) bs each) su kept.suggested;
    }
      where
        still : (k : ℕ) → is_live h Action k ≡ true → is_live (with_handle h Action x.set given) Action k ≡ true
        still k live = let two = both_of (not (k == 0)) (has h.actions k) live in rw (two.0, has_put slot h.actions k (not_true (k == 0) two.0) two.1) refl

        cases : (k : ℕ) (y : inputs.Action) → (action_at st k ≡ Some y) ⊎ ((x.handle ≡ k) × (y ≡ x)) → parent_in (put_in h.actions slot (first_free h.actions)) k ≡ y.set
        cases k y (inl there) =
            let here = listed_live k y there in
            let other : (given == k) ≡ false = is_false (given == k) (λ e. true≢false (sym here.1 ∙ subst (λ (n : ℕ). has h.actions n ≡ false) (same_key given k e) absent)) in
            ap (λ (l : List Slot). parent_in l k) (put_is_first slot h.actions) ∙ parent_first slot h.actions k here.0 other ∙ kept.above k y there
        cases k y (inr new) =
            ap (λ (l : List Slot). parent_in l k) (put_is_first slot h.actions) ∙ ap (λ (n : ℕ). parent_in (put_first slot h.actions) n) (sym (sym named ∙ new.0)) ∙ parent_new slot h.actions absent room ∙ ap (λ (z : inputs.Action). z.set) (sym new.1)

  module _ (top : ℕ) (once : StandOnce h) where
    gone_suggestions : AreFor (without h top) (without_suggestions su (destroyed_by h top))
    gone_suggestions = all_map (list_all (λ b. is_live h Action b.action)) (list_all (λ b. is_live (without h top) Action b.action)) (λ bs. filter (λ b. not (is_among (destroyed_by h top) b.action)) bs)
        (λ bs each. all_left (λ b. is_live h Action b.action) (λ b. is_live (without h top) Action b.action) (λ b. not (is_among (destroyed_by h top) b.action)) (λ b live stays. still b.action live stays) bs each) su kept.suggested
      where
        still : (k : ℕ) → is_live h Action k ≡ true → not (is_among (destroyed_by h top) k) ≡ true → is_live (without h top) Action k ≡ true
        still k live stays =
            let two = both_of (not (k == 0)) (has h.actions k) live in
            let there = sym (action_gone h top once k (not_true (k == 0) two.0) two.1) ∙ stays in
            rw (two.0, there) refl

    pub kept_gone : Kept (without h top) (spaces_left h top sp) (without_inputs st (destroyed_by h top)) (without_suggestions su (destroyed_by h top))
    kept_gone = record {
      spaces = λ k.
          found_map (λ (x : spaces.Space). x.handle) (with_left (has_action (without h top).actions)) (λ x. refl) (without_spaces sp (destroyed_by h top)).spaces k
          ∙ row_left (λ (x : spaces.Space). x.handle) (λ n. not (is_among (destroyed_by h top) n)) sp.spaces h.spaces (without h top).spaces kept.spaces (space_gone h top once) (hasnt_cleared top (destroyed_parents h top) h.spaces) k;
      sets = row_left (λ (x : Set). x.handle) (λ k. not (is_among (destroyed_by h top) k)) st.sets h.sets (without h top).sets kept.sets (set_gone h top once) (hasnt_cleared top (destroyed_instances h top) h.sets);
      actions = row_left (λ (x : inputs.Action). x.handle) (λ k. not (is_among (destroyed_by h top) k)) st.actions h.actions (without h top).actions kept.actions (action_gone h top once) (hasnt_cleared top (destroyed_parents h top) h.actions);
      above = λ k x found.
          let there = which_left (λ (y : inputs.Action). y.handle) (λ n. not (is_among (destroyed_by h top) n)) st.actions k x found in
          let here = listed_live k x there.0 in
          let all = once k here.0 in
          let most : count_in h.actions k ≤ 1 = omega (arith, all) in
          parent_cleared top (destroyed_parents h top) h.actions k here.0 (sym (action_gone h top once k here.0 here.1) ∙ there.1) most ∙ kept.above k x there.0;
      suggested = gone_suggestions;
    }

    kept_alone : Kept (without_alone h Space top) (without_space sp top) st su
    kept_alone = record {
      spaces = row_left (λ (x : spaces.Space). x.handle) (λ k. not (k == top)) sp.spaces h.spaces (cleared top [] h.spaces) kept.spaces
          (λ k nz there. let all = once k nz in let most : count_in h.spaces k ≤ 1 = omega (arith, all) in ap (λ b. not b) (sym (or_no (k == top))) ∙ sym (one_cleared top [] k nz h.spaces there most)) (hasnt_cleared top [] h.spaces);
      sets = kept.sets;
      actions = kept.actions;
      above = kept.above;
      suggested = kept.suggested;
    }
      where
        or_no : (b : Bool) → b || false ≡ b
        or_no true = refl
        or_no false = refl

pub kept_step : (s : State) (e : Entry) → IsAllowed s e → AreKnown s.core.handles → StandOnce s.core.handles → Has Kept s.core → Has Kept (step s e).0.core
kept_step s e allowed known once kept = kept_by_step Kept s.core (reads_of s e.call) e (record {
  same = kept;
  instance = λ gives. record { spaces = kept.spaces; sets = kept.sets; actions = kept.actions; above = kept.above; suggested = kept.suggested };
  session = λ gives instance. record { spaces = kept.spaces; sets = kept.sets; actions = kept.actions; above = kept.above; suggested = kept.suggested };
  set = λ gives room instance name localized priority. record {
    spaces = kept.spaces;
    sets = row_more (λ (x : Set). x.handle) s.core.inputs.sets _ s.core.handles.sets (record { handle = e.given; parent = instance }) kept.sets refl (some gives) room;
    actions = kept.actions;
    above = kept.above;
    suggested = kept.suggested;
  };
  action = λ gives room x named live free. kept_action s.core.handles s.core.room s.core.inputs s.core.suggestions kept e.given (some gives) (known e.given (some gives) (fresh gives).1).actions x named room;
  space = λ gives room session root offset. record {
    spaces = row_more (λ (x : spaces.Space). x.handle) s.core.room.spaces _ s.core.handles.spaces (record { handle = e.given; parent = session }) kept.spaces refl (some gives) room;
    sets = kept.sets;
    actions = kept.actions;
    above = kept.above;
    suggested = kept.suggested;
  };
  chain = λ gives session. record { spaces = kept.spaces; sets = kept.sets; actions = kept.actions; above = kept.above; suggested = kept.suggested };
  gone = λ handle. kept_gone s.core.handles s.core.room s.core.inputs s.core.suggestions kept handle once;
  alone = λ space. kept_alone s.core.handles s.core.room s.core.inputs s.core.suggestions kept space once;
  chain_alone = λ chain. record { spaces = kept.spaces; sets = kept.sets; actions = kept.actions; above = kept.above; suggested = kept.suggested };
  suggest = λ o list none. record { spaces = kept.spaces; sets = kept.sets; actions = kept.actions; above = kept.above; suggested = suggested_for s.core o list none kept.suggested };
  attach = λ handles. record {
    spaces = kept.spaces;
    sets = λ k. found_map (λ (x : Set). x.handle) (sealed_by handles) (sealed_named handles) s.core.inputs.sets k ∙ kept.sets k;
    actions = kept.actions;
    above = kept.above;
    suggested = kept.suggested;
  };
  sample = λ what time pose. record { spaces = kept.spaces; sets = kept.sets; actions = kept.actions; above = kept.above; suggested = kept.suggested };
})
  where
    fresh : gives_handle s.core (reads_of s e.call) e ≡ true → (e.given ≢ 0) × (was_given s.core.handles e.given ≡ false)
    fresh gives = given_one (gives_handle s.core (reads_of s e.call) e) s.core.handles e.given gives allowed.handle

    some : gives_handle s.core (reads_of s e.call) e ≡ true → (e.given == 0) ≡ false
    some gives = is_false (e.given == 0) (λ is. (fresh gives).0 (same_key e.given 0 is))

kept_after : (s : State) (clocks : List ℤ) (es : List Entry) → IsLegalFrom s clocks es → AreKnown s.core.handles → StandOnce s.core.handles → Has Kept s.core → Has Kept (after s es).core
kept_after s clocks [] legal known once kept = kept
kept_after s clocks (e ∷ es) legal known once kept =
    kept_after (step s e).0 (clocks_after clocks e (step s e).0) es legal.3 (known_step s e known) (once_step s e legal.0 known once) (kept_step s e legal.0 known once kept)

pub none_kept : (settings : Settings) → Has Kept (opening settings).core
none_kept settings = record { spaces = λ k. none SPACES k; sets = λ k. none ACTION_SETS k; actions = λ k. none ACTIONS k; above = λ k x found. cc; suggested = refl }
  where
    none : (n : ℕ) (k : ℕ) → false ≡ not (k == 0) && has (replicate n free) k
    none n k = by (k == 0) refl
      where
        by : (b : Bool) → (k == 0) ≡ b → false ≡ not b && has (replicate n free) k
        by true is = refl
        by false is = sym (hasnt_free n k is)

pub all_kept : (settings : Settings) (es : List Entry) → IsLegal settings es → Has Kept (after (opening settings) es).core
all_kept settings es legal = kept_after (opening settings) (opening_clocks settings) es legal (known_opening settings) none_once (none_kept settings)
