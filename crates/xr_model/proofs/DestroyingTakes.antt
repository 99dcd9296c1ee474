-- A call that destroys a handle takes it and what is below it by parents, and nothing else that lives.
use Rattle.std.proofs.Common.{◌≡◌, ◌≤◌, ◌+◌, ◌==◌, ◌&&◌, ◌||◌, ℕ, suc, not, Bool, true, false, List, [], ◌∷◌, ◌++◌, Some, None, option_map, refl, sym, ap, subst, ◌∙◌, arith, true≢false}
use Rattle.std.specs.Prelude.{if◌then◌else◌}
use Rattle.std.specs.List.{list_any, list_all}
use Rattle.xr_types.specs.Code.{is_success}
use Rattle.xr_types.specs.declared.handles.Kind.{Kind}
use Rattle.xr_types.specs.declared.handles.Kind.TheVariants.{Instance, Session, ActionSet, Action, Space, Swapchain}
use Rattle.xr_types.specs.declared.handles.Slot.{Slot}
use Rattle.xr_model.specs.machine.Calls.{Entry}
use Rattle.xr_types.specs.declared.calls.Call.{Call}
use Rattle.xr_types.specs.declared.calls.Call.TheVariants as ask
use Rattle.xr_model.specs.machine.Handles.{Handles, free, has, is_live, row_of, put_in, first_free, goes, going, cleared, destroyed_instances, destroyed_parents, without}
use Rattle.xr_model.specs.machine.HandlePlaces.{slot_in, parent_of}
use Rattle.xr_model.specs.laws.HandleLaws.{count_in, places_with, is_under, AreUnder, StandOnce, is_within, destroys, DestroyingTakes}
use Rattle.xr_model.specs.machine.State.{State, opening}
use Rattle.xr_model.specs.machine.Machine.{step, rule, reads_of}
use Rattle.xr_model.specs.machine.History.{after}
use Rattle.xr_model.proofs.Rows.{uncounted, counted, same_key, both_of, neither_of, not_true, not_zero, hasnt_cleared, put_is_first, each_put}
use Rattle.xr_model.proofs.HandleSteps.{kept_by_step}
use Rattle.xr_model.proofs.Destroying.{destroyed}
use Rattle.xr_model.proofs.DestroyedForGood.{alone_is_whole, chain_is_whole}
use Rattle.xr_model.proofs.Orphans.{no_orphans}
use Rattle.xr_model.proofs.StandOnce.{handles_stand_once}

or_false : (b : Bool) → b || false ≡ b
or_false true = refl
or_false false = refl

-- ---- one row

-- the parent of a handle in a row, 0 where it doesn't stand there
unfoldable pub parent_in : List Slot → ℕ → ℕ
parent_in [] p = 0
parent_in (s ∷ ss) p = if s.handle == p then s.parent else parent_in ss p

slot_parent : (row : List Slot) (p : ℕ) → has row p ≡ true → option_map (λ s. s.parent) (slot_in row p) ≡ Some (parent_in row p)
unfolding parent_in
slot_parent [] p there = absurd (true≢false (sym there))
slot_parent (s ∷ ss) p there = by (s.handle == p) there (slot_parent ss p)
  where
    by : (b : Bool) → b || has ss p ≡ true → (has ss p ≡ true → option_map (λ s. s.parent) (slot_in ss p) ≡ Some (parent_in ss p))
        → option_map (λ s. s.parent) (if b then Some s else slot_in ss p) ≡ Some (if b then s.parent else parent_in ss p)
    by true there more = refl
    by false there more = more there

-- the parent of a live handle stands in the row above
pub under_parent : (above row : List Slot) (p : ℕ) → (p == 0) ≡ false → is_under above row ≡ true → has row p ≡ true → ((parent_in row p == 0) ≡ false) × (has above (parent_in row p) ≡ true)
unfolding parent_in
under_parent above [] p nz under there = absurd (true≢false (sym there))
under_parent above (s ∷ ss) p nz under there =
    let two = both_of ((s.handle == 0) || (not (s.parent == 0) && has above s.parent)) (is_under above ss) under in
    by (s.handle == p) refl there two.0 (under_parent above ss p nz two.1)
  where
    by : (b : Bool) → (s.handle == p) ≡ b → b || has ss p ≡ true → (s.handle == 0) || (not (s.parent == 0) && has above s.parent) ≡ true
        → (has ss p ≡ true → ((parent_in ss p == 0) ≡ false) × (has above (parent_in ss p) ≡ true))
        → (((if b then s.parent else parent_in ss p) == 0) ≡ false) × (has above (if b then s.parent else parent_in ss p) ≡ true)
    by true e there here more =
        let z : (s.handle == 0) ≡ false = subst (λ (n : ℕ). (n == 0) ≡ false) (sym (same_key s.handle p e)) nz in
        let parts = both_of (not (s.parent == 0)) (has above s.parent) (rw z at here) in
        (not_true (s.parent == 0) parts.0, parts.1)
    by false e there here more = more there

-- a slot of this handle goes where it is the destroyed one, or where its parent goes
named : (h : ℕ) (above : List ℕ) (s : Slot) (p : ℕ) → (p == 0) ≡ false → (s.handle == p) ≡ true → goes h above s ≡ (p == h) || list_any (λ g. g == s.parent) above
unfolding goes
named h above s p nz e =
    let same = same_key s.handle p e in
    let z : (s.handle == 0) ≡ false = subst (λ (n : ℕ). (n == 0) ≡ false) (sym same) nz in
    rw z (ap (λ (n : ℕ). (n == h) || list_any (λ g. g == s.parent) above) same)

pub none_going : (h : ℕ) (above : List ℕ) (row : List Slot) (p : ℕ) → has row p ≡ false → list_any (λ g. g == p) (going h above row) ≡ false
none_going h above [] p none = refl
none_going h above (s ∷ ss) p none = let two = neither_of (s.handle == p) (has ss p) none in by (goes h above s) two.0 (none_going h above ss p two.1)
  where
    by : (g : Bool) → (s.handle == p) ≡ false → list_any (λ g. g == p) (going h above ss) ≡ false → list_any (λ g. g == p) (if g then s.handle ∷ going h above ss else going h above ss) ≡ false
    by true here more = rw here more
    by false here more = more

-- one place of it in a row is the first, or is behind it
behind_first : (n : ℕ) → n + 1 ≤ 1 → n ≡ 0
behind_first n most = omega (arith, most)

module _ (h : ℕ) (above : List ℕ) (p : ℕ) (nz : (p == 0) ≡ false) where
  pub one_going : (row : List Slot) → has row p ≡ true → count_in row p ≤ 1 → list_any (λ g. g == p) (going h above row) ≡ (p == h) || list_any (λ g. g == parent_in row p) above
  unfolding parent_in
  one_going [] there most = absurd (true≢false (sym there))
  one_going (s ∷ ss) there most = by (s.handle == p) refl there most (one_going ss)
    where
      first : (g : Bool) → (s.handle == p) ≡ true → has ss p ≡ false → list_any (λ g. g == p) (if g then s.handle ∷ going h above ss else going h above ss) ≡ g
      first true e none = rw e refl
      first false e none = none_going h above ss p none

      later : (g : Bool) → (s.handle == p) ≡ false → list_any (λ g. g == p) (if g then s.handle ∷ going h above ss else going h above ss) ≡ list_any (λ g. g == p) (going h above ss)
      later true e = rw e refl
      later false e = refl

      by : (b : Bool) → (s.handle == p) ≡ b → b || has ss p ≡ true → (if b then count_in ss p + 1 else count_in ss p) ≤ 1
          → (has ss p ≡ true → count_in ss p ≤ 1 → list_any (λ g. g == p) (going h above ss) ≡ (p == h) || list_any (λ g. g == parent_in ss p) above)
          → list_any (λ g. g == p) (if goes h above s then s.handle ∷ going h above ss else going h above ss) ≡ (p == h) || list_any (λ g. g == (if b then s.parent else parent_in ss p)) above
      by true e there most more = first (goes h above s) e (uncounted ss p (behind_first (count_in ss p) most)) ∙ named h above s p nz e
      by false e there most more = later (goes h above s) e ∙ more there most

  pub one_cleared : (row : List Slot) → has row p ≡ true → count_in row p ≤ 1 → has (cleared h above row) p ≡ not ((p == h) || list_any (λ g. g == parent_in row p) above)
  unfolding parent_in
  one_cleared [] there most = absurd (true≢false (sym there))
  one_cleared (s ∷ ss) there most = by (s.handle == p) refl there most (one_cleared ss)
    where
      first : (g : Bool) → (s.handle == p) ≡ true → has ss p ≡ false → has ((if g then free else s) ∷ cleared h above ss) p ≡ not g
      first true e none = rw (not_zero p nz) (hasnt_cleared h above ss p nz none)
      first false e none = rw e refl

      later : (g : Bool) → (s.handle == p) ≡ false → has ((if g then free else s) ∷ cleared h above ss) p ≡ has (cleared h above ss) p
      later true e = rw (not_zero p nz) refl
      later false e = rw e refl

      by : (b : Bool) → (s.handle == p) ≡ b → b || has ss p ≡ true → (if b then count_in ss p + 1 else count_in ss p) ≤ 1
          → (has ss p ≡ true → count_in ss p ≤ 1 → has (cleared h above ss) p ≡ not ((p == h) || list_any (λ g. g == parent_in ss p) above))
          → has ((if goes h above s then free else s) ∷ cleared h above ss) p ≡ not ((p == h) || list_any (λ g. g == (if b then s.parent else parent_in ss p)) above)
      by true e there most more = first (goes h above s) e (uncounted ss p (behind_first (count_in ss p) most)) ∙ ap (λ b. not b) (named h above s p nz e)
      by false e there most more = later (goes h above s) e ∙ more there most

pub any_append : (f : ℕ → Bool) (xs ys : List ℕ) → list_any f (xs ++ ys) ≡ list_any f xs || list_any f ys
any_append f [] ys = refl
any_append f (x ∷ xs) ys = by (f x) (any_append f xs ys)
  where
    by : (b : Bool) → list_any f (xs ++ ys) ≡ list_any f xs || list_any f ys → b || list_any f (xs ++ ys) ≡ (b || list_any f xs) || list_any f ys
    by true more = refl
    by false more = more

-- ---- instances have no parent

abbrev pub AreRoots : Handles → Type 0
AreRoots h = list_all (λ s. s.parent == 0) h.instances ≡ true

root_parent : (row : List Slot) (p : ℕ) → list_all (λ s. s.parent == 0) row ≡ true → parent_in row p ≡ 0
unfolding parent_in
root_parent [] p roots = refl
root_parent (s ∷ ss) p roots = let two = both_of (s.parent == 0) (list_all (λ s. s.parent == 0) ss) roots in by (s.handle == p) (same_key s.parent 0 two.0) (root_parent ss p two.1)
  where
    by : (b : Bool) → s.parent ≡ 0 → parent_in ss p ≡ 0 → (if b then s.parent else parent_in ss p) ≡ 0
    by true here more = here
    by false here more = more

roots_cleared : (h : ℕ) (above : List ℕ) (row : List Slot) → list_all (λ s. s.parent == 0) row ≡ true → list_all (λ s. s.parent == 0) (cleared h above row) ≡ true
roots_cleared h above [] roots = refl
roots_cleared h above (s ∷ ss) roots = let two = both_of (s.parent == 0) (list_all (λ s. s.parent == 0) ss) roots in by (goes h above s) two.0 (roots_cleared h above ss two.1)
  where
    by : (g : Bool) → (s.parent == 0) ≡ true → list_all (λ s. s.parent == 0) (cleared h above ss) ≡ true → list_all (λ s. s.parent == 0) ((if g then free else s) ∷ cleared h above ss) ≡ true
    by true here more = more
    by false here more = rw here more

roots_put : (given : ℕ) (row : List Slot) → list_all (λ s. s.parent == 0) row ≡ true → list_all (λ s. s.parent == 0) (put_in row (record { handle = given; parent = 0 }) (first_free row)) ≡ true
roots_put given row roots =
    let new : Slot = record { handle = given; parent = 0 } in
    subst (λ l. list_all (λ s. s.parent == 0) l ≡ true) (sym (put_is_first new row)) (each_put (λ s. s.parent == 0) new row roots refl)

roots_step : (s : State) (e : Entry) → AreRoots s.core.handles → AreRoots (step s e).0.core.handles
roots_step s e roots = kept_by_step (λ h. list_all (λ s. s.parent == 0) h.instances ≡ true) s.core (reads_of s e.call) e (record {
  same = roots;
  instance = λ gives. roots_put e.given s.core.handles.instances roots;
  session = λ gives instance live. roots;
  set = λ gives instance live. roots;
  action = λ gives set live. roots;
  space = λ gives session live. roots;
  chain = λ is gives session live. roots;
  without = λ handle. roots_cleared handle [] s.core.handles.instances roots;
  alone = λ space. roots;
  chain_alone = λ chain. roots;
})

pub roots_after : (s : State) (es : List Entry) → AreRoots s.core.handles → AreRoots (after s es).core.handles
roots_after s [] roots = roots
roots_after s (e ∷ es) roots = roots_after (step s e).0 es (roots_step s e roots)

-- ---- all rows

module _ (h : Handles) (top : ℕ) (some : (top == 0) ≡ false) (once : StandOnce h) (under : AreUnder h) (roots : AreRoots h) where
  -- a handle that stands in a row stands in no other
  most : (row : List Slot) (p : ℕ) → (p == 0) ≡ false → count_in row p ≤ places_with h p → count_in row p ≤ 1
  most row p nz part = let all = once p nz in omega (arith, part, all)

  aside : (row other : List Slot) (p : ℕ) → (p == 0) ≡ false → has row p ≡ true → count_in row p + count_in other p ≤ places_with h p → has other p ≡ false
  aside row other p nz there both = let all = once p nz in let here = counted row p there in uncounted other p (omega (arith, both, all, here))

  module _ (p : ℕ) (nz : (p == 0) ≡ false) where
    instance_parent : has h.instances p ≡ true → parent_of h p ≡ Some 0
    instance_parent there = rw (nz, there) (slot_parent h.instances p there ∙ ap Some (root_parent h.instances p roots))

    session_parent : has h.sessions p ≡ true → parent_of h p ≡ Some (parent_in h.sessions p)
    session_parent there = rw (nz, there, aside h.sessions h.instances p nz there (omega arith)) (slot_parent h.sessions p there)

    set_parent : has h.sets p ≡ true → parent_of h p ≡ Some (parent_in h.sets p)
    set_parent there = rw (nz, there, aside h.sets h.instances p nz there (omega arith), aside h.sets h.sessions p nz there (omega arith)) (slot_parent h.sets p there)

    pub action_parent : has h.actions p ≡ true → parent_of h p ≡ Some (parent_in h.actions p)
    action_parent there =
        let a = aside h.actions h.instances p nz there (omega arith) in
        let b = aside h.actions h.sessions p nz there (omega arith) in
        let c = aside h.actions h.sets p nz there (omega arith) in
        rw (nz, there, a, b, c) (slot_parent h.actions p there)

    space_parent : has h.spaces p ≡ true → parent_of h p ≡ Some (parent_in h.spaces p)
    space_parent there =
        let a = aside h.spaces h.instances p nz there (omega arith) in
        let b = aside h.spaces h.sessions p nz there (omega arith) in
        let c = aside h.spaces h.sets p nz there (omega arith) in
        let d = aside h.spaces h.actions p nz there (omega arith) in
        rw (nz, there, a, b, c, d) (slot_parent h.spaces p there)

    chain_parent : has h.chains p ≡ true → parent_of h p ≡ Some (parent_in h.chains p)
    chain_parent there =
        let a = aside h.chains h.instances p nz there (omega arith) in
        let b = aside h.chains h.sessions p nz there (omega arith) in
        let c = aside h.chains h.sets p nz there (omega arith) in
        let d = aside h.chains h.actions p nz there (omega arith) in
        let f = aside h.chains h.spaces p nz there (omega arith) in
        rw (nz, there, a, b, c, d, f) (slot_parent h.chains p there)

    -- a handle with this parent is within where it is the top, or its parent is within
    within_more : (n q : ℕ) → parent_of h p ≡ Some q → is_within (suc n) h p top ≡ (p == top) || is_within n h q top
    within_more n q e = ap (λ o. (p == top) || elim o [ None ↦ false | Some parent ↦ is_within n h parent top ]) e

  -- what is known to go of the rows above is what is within them
  instance_within : (p : ℕ) → (p == 0) ≡ false → has h.instances p ≡ true → list_any (λ g. g == p) (destroyed_instances h top) ≡ is_within 1 h p top
  instance_within p nz there =
      one_going top [] p nz h.instances there (most h.instances p nz (omega arith))
      ∙ sym (within_more p nz 0 0 (instance_parent p nz there) ∙ ap (λ b. (p == top) || b) (not_zero top some))

  -- where nothing is below the parent's parent
  below_instance : (row : List Slot) (p : ℕ) → (p == 0) ≡ false → is_under h.instances row ≡ true → has row p ≡ true → list_any (λ g. g == parent_in row p) (destroyed_instances h top) ≡ (parent_in row p == top)
  below_instance row p nz u there =
      let parent = under_parent h.instances row p nz u there in
      one_going top [] (parent_in row p) parent.0 h.instances parent.1 (most h.instances (parent_in row p) parent.0 (omega arith)) ∙ or_false (parent_in row p == top)

  session_within : (p : ℕ) → (p == 0) ≡ false → has h.sessions p ≡ true → list_any (λ g. g == p) (destroyed_parents h top) ≡ is_within 1 h p top
  session_within p nz there =
      let a = none_going top [] h.instances p (aside h.sessions h.instances p nz there (omega arith)) in
      let c = none_going top (destroyed_instances h top) h.sets p (aside h.sessions h.sets p nz there (omega arith)) in
      let here = one_going top (destroyed_instances h top) p nz h.sessions there (most h.sessions p nz (omega arith)) in
      any_append (λ g. g == p) (destroyed_instances h top ++ going top (destroyed_instances h top) h.sessions) (going top (destroyed_instances h top) h.sets)
      ∙ ap (λ b. b || list_any (λ g. g == p) (going top (destroyed_instances h top) h.sets)) (any_append (λ g. g == p) (destroyed_instances h top) (going top (destroyed_instances h top) h.sessions))
      ∙ rw (a, c) (or_false (list_any (λ g. g == p) (going top (destroyed_instances h top) h.sessions)))
      ∙ here ∙ ap (λ b. (p == top) || b) (below_instance h.sessions p nz under.sessions there)
      ∙ sym (within_more p nz 0 (parent_in h.sessions p) (session_parent p nz there))

  set_within : (p : ℕ) → (p == 0) ≡ false → has h.sets p ≡ true → list_any (λ g. g == p) (destroyed_parents h top) ≡ is_within 1 h p top
  set_within p nz there =
      let a = none_going top [] h.instances p (aside h.sets h.instances p nz there (omega arith)) in
      let b = none_going top (destroyed_instances h top) h.sessions p (aside h.sets h.sessions p nz there (omega arith)) in
      let here = one_going top (destroyed_instances h top) p nz h.sets there (most h.sets p nz (omega arith)) in
      any_append (λ g. g == p) (destroyed_instances h top ++ going top (destroyed_instances h top) h.sessions) (going top (destroyed_instances h top) h.sets)
      ∙ ap (λ b. b || list_any (λ g. g == p) (going top (destroyed_instances h top) h.sets)) (any_append (λ g. g == p) (destroyed_instances h top) (going top (destroyed_instances h top) h.sessions))
      ∙ rw (a, b) refl
      ∙ here ∙ ap (λ b. (p == top) || b) (below_instance h.sets p nz under.sets there)
      ∙ sym (within_more p nz 0 (parent_in h.sets p) (set_parent p nz there))

  -- a row whose parents go as they are within
  row_takes : (above : List ℕ) (row : List Slot) (other : ℕ) → (other == 0) ≡ false → count_in row other ≤ places_with h other
      → (has row other ≡ true → list_any (λ g. g == parent_in row other) above ≡ is_within 1 h (parent_in row other) top)
      → (has row other ≡ true → parent_of h other ≡ Some (parent_in row other))
      → has (cleared top above row) other ≡ has row other && not (is_within 2 h other top)
  row_takes above row other nz part goes_so parent_so = by (has row other) refl
    where
      by : (b : Bool) → has row other ≡ b → has (cleared top above row) other ≡ b && not (is_within 2 h other top)
      by true there =
          one_cleared top above other nz row there (most row other nz part) ∙ ap (λ b. not ((other == top) || b)) (goes_so there)
          ∙ sym (ap (λ b. not b) (within_more other nz 1 (parent_in row other) (parent_so there)))
      by false there = hasnt_cleared top above row other nz there

  -- 0 is below nothing
  nothing_within : false ≡ is_within 1 h 0 top
  nothing_within = rw (not_zero top some) refl

  live_takes : (kind : Kind) (other : ℕ) → (other == 0) ≡ false → has (row_of (without h top) kind) other ≡ has (row_of h kind) other && not (is_within 2 h other top)
  live_takes Instance other nz =
      row_takes [] h.instances other nz (omega arith) (λ there. nothing_within ∙ ap (λ n. is_within 1 h n top) (sym (root_parent h.instances other roots)))
      (λ there. instance_parent other nz there ∙ ap Some (sym (root_parent h.instances other roots)))
  live_takes Session other nz =
      row_takes (destroyed_instances h top) h.sessions other nz (omega arith)
      (λ there. let parent = under_parent h.instances h.sessions other nz under.sessions there in instance_within (parent_in h.sessions other) parent.0 parent.1)
      (session_parent other nz)
  live_takes ActionSet other nz =
      row_takes (destroyed_instances h top) h.sets other nz (omega arith)
      (λ there. let parent = under_parent h.instances h.sets other nz under.sets there in instance_within (parent_in h.sets other) parent.0 parent.1)
      (set_parent other nz)
  live_takes Action other nz =
      row_takes (destroyed_parents h top) h.actions other nz (omega arith)
      (λ there. let parent = under_parent h.sets h.actions other nz under.actions there in set_within (parent_in h.actions other) parent.0 parent.1)
      (action_parent other nz)
  live_takes Space other nz =
      row_takes (destroyed_parents h top) h.spaces other nz (omega arith)
      (λ there. let parent = under_parent h.sessions h.spaces other nz under.spaces there in session_within (parent_in h.spaces other) parent.0 parent.1)
      (space_parent other nz)
  live_takes Swapchain other nz =
      row_takes (destroyed_parents h top) h.chains other nz (omega arith)
      (λ there. let parent = under_parent h.sessions h.chains other nz under.chains there in session_within (parent_in h.chains other) parent.0 parent.1)
      (chain_parent other nz)

  pub without_takes : (kind : Kind) (other : ℕ) → is_live (without h top) kind other ≡ is_live h kind other && not (is_within 2 h other top)
  without_takes kind other = by (other == 0) refl
    where
      by : (z : Bool) → (other == 0) ≡ z → not z && has (row_of (without h top) kind) other ≡ (not z && has (row_of h kind) other) && not (is_within 2 h other top)
      by true e = refl
      by false e = live_takes kind other e

-- ---- the law

abbrev Takes : Handles → ℕ → Handles → Type 0
Takes h handle new = (kind : Kind) (other : ℕ) → is_live new kind other ≡ is_live h kind other && not (is_within 2 h other handle)

takes_step : (s : State) (e : Entry) (handle : ℕ) → StandOnce s.core.handles → AreUnder s.core.handles → AreRoots s.core.handles → destroys e.call handle ≡ true → is_success (step s e).1.reply.code ≡ true
    → Takes s.core.handles handle (step s e).0.core.handles
takes_step s e handle once under roots = by e.call
  where
    taken : (kind : Kind) (named : ℕ) → (named == handle) ≡ true → is_live s.core.handles kind named ≡ true → Takes s.core.handles handle (without s.core.handles named)
    taken kind named names live =
        let some = not_true (named == 0) (both_of (not (named == 0)) _ live).0 in
        subst (λ (n : ℕ). Takes s.core.handles n (without s.core.handles named)) (same_key named handle names) (without_takes s.core.handles named some once under roots)

    by : (r : Call) → destroys r handle ≡ true → is_success (step s (record e { call = r })).1.reply.code ≡ true → Takes s.core.handles handle (step s (record e { call = r })).0.core.handles
    by (ask.DestroyInstance instance) names good =
        destroyed (λ new. Takes s.core.handles handle new) s.core (is_live s.core.handles Instance instance) (rule s.core (reads_of s (ask.DestroyInstance instance)) (record e { call = ask.DestroyInstance instance })).effect good
        (λ live. taken Instance instance names live)
    by (ask.DestroySession session) names good =
        destroyed (λ new. Takes s.core.handles handle new) s.core (is_live s.core.handles Session session) (rule s.core (reads_of s (ask.DestroySession session)) (record e { call = ask.DestroySession session })).effect good
        (λ live. taken Session session names live)
    by (ask.DestroySpace space) names good =
        destroyed (λ new. Takes s.core.handles handle new) s.core (is_live s.core.handles Space space) (rule s.core (reads_of s (ask.DestroySpace space)) (record e { call = ask.DestroySpace space })).effect good
        (λ live. subst (λ (h : Handles). Takes s.core.handles handle h) (sym (alone_is_whole s.core.handles space once live)) (taken Space space names live))
    by (ask.DestroyActionSet set) names good =
        destroyed (λ new. Takes s.core.handles handle new) s.core (is_live s.core.handles ActionSet set) (rule s.core (reads_of s (ask.DestroyActionSet set)) (record e { call = ask.DestroyActionSet set })).effect good
        (λ live. taken ActionSet set names live)
    by (ask.DestroyAction action) names good =
        destroyed (λ new. Takes s.core.handles handle new) s.core (is_live s.core.handles Action action) (rule s.core (reads_of s (ask.DestroyAction action)) (record e { call = ask.DestroyAction action })).effect good
        (λ live. taken Action action names live)
    by (ask.DestroySwapchain chain) names good =
        destroyed (λ new. Takes s.core.handles handle new) s.core (is_live s.core.handles Swapchain chain) (rule s.core (reads_of s (ask.DestroySwapchain chain)) (record e { call = ask.DestroySwapchain chain })).effect good
        (λ live. subst (λ (h : Handles). Takes s.core.handles handle h) (sym (chain_is_whole s.core.handles chain once live)) (taken Swapchain chain names live))
    by _ names good = absurd (true≢false (sym names))

pub destroying_takes : DestroyingTakes
destroying_takes settings es e handle legal names good =
    let s = after (opening settings) es in
    takes_step (after (opening settings) es) e handle (handles_stand_once settings es legal) (no_orphans settings es) (roots_after (opening settings) es refl) names good

-- ---- the parent of a space and of a chain

some_same : (a b : ℕ) → Some a ≡ Some b → a ≡ b
some_same a b e = cc

-- it is a live session
pub live_parent : (h : Handles) → StandOnce h → AreUnder h → AreRoots h → (space session : ℕ) → is_live h Space space ≡ true → parent_of h space ≡ Some session → is_live h Session session ≡ true
live_parent h once under roots space session live is =
    let parts = both_of (not (space == 0)) (has h.spaces space) live in
    let nz = not_true (space == 0) parts.0 in
    let parent = under_parent h.sessions h.spaces space nz under.spaces parts.1 in
    let same = some_same (parent_in h.spaces space) session (sym (space_parent h 1 refl once under roots space nz parts.1) ∙ is) in
    subst (λ (n : ℕ). is_live h Session n ≡ true) same (rw (parent.0, parent.1) refl)

pub live_chain_parent : (h : Handles) → StandOnce h → AreUnder h → AreRoots h → (chain session : ℕ) → is_live h Swapchain chain ≡ true → parent_of h chain ≡ Some session → is_live h Session session ≡ true
live_chain_parent h once under roots chain session live is =
    let parts = both_of (not (chain == 0)) (has h.chains chain) live in
    let nz = not_true (chain == 0) parts.0 in
    let parent = under_parent h.sessions h.chains chain nz under.chains parts.1 in
    let same = some_same (parent_in h.chains chain) session (sym (chain_parent h 1 refl once under roots chain nz parts.1) ∙ is) in
    subst (λ (n : ℕ). is_live h Session n ≡ true) same (rw (parent.0, parent.1) refl)
