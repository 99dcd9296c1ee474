-- A handle that was destroyed is never live again.
use Rattle.std.proofs.Common.{arith, ◌≤◌, ◌+◌, ◌≡◌, ℕ, ℤ, ◌==◌, not, true, false, List, [], ◌∷◌, ◌++◌, refl, sym, ap, ◌∙◌, subst, true≢false}
use Rattle.xr_types.specs.Code.{is_success}
use Rattle.xr_types.specs.declared.handles.Kind.{Kind}
use Rattle.xr_types.specs.declared.handles.Kind.TheVariants.{Instance, Session, ActionSet, Action, Space, Swapchain}
use Rattle.xr_types.specs.declared.handles.Slot.{Slot}
use Rattle.xr_model.specs.machine.Calls.{Entry}
use Rattle.xr_types.specs.declared.calls.Call.{Call}
use Rattle.xr_types.specs.declared.calls.Call.TheVariants as ask
use Rattle.xr_model.specs.machine.Handles.{Handles, has, is_live, row_of, without, without_alone}
use Rattle.xr_model.specs.machine.HandlePlaces.{kind_of}
use Rattle.xr_model.specs.machine.State.{State, opening}
use Rattle.xr_model.specs.machine.Machine.{step, rule, reads_of}
use Rattle.xr_model.specs.machine.History.{after, opening_clocks, clocks_after, IsLegalFrom}
use Rattle.xr_model.specs.laws.HandleLaws.{destroys, DestroyedForGood, count_in, places_with, StandOnce}
use Rattle.xr_model.proofs.Histories.{after_is_in_turn, fronts_are_legal}
use Rattle.xr_model.proofs.Rows.{same_key, both_of, not_true, uncounted, counted, cleared_same, going_none}
use Rattle.xr_model.proofs.StandOnce.{handles_stand_once}
use Rattle.xr_model.proofs.Destroying.{IsOver, and_false, absent_kind, known_after, known_opening, over_after, over_without, destroyed}
use Rattle.xr_model.specs.laws.Soundness.{AreKnown}

-- ---- nothing stands below a space or a swapchain

-- a live handle stands in no other row
elsewhere : (h : Handles) (kind : Kind) (handle : ℕ) → StandOnce h → is_live h kind handle ≡ true → (row : List Slot)
    → count_in (row_of h kind) handle + count_in row handle ≤ places_with h handle → has row handle ≡ false
elsewhere h kind handle once live row part =
    let two = both_of (not (handle == 0)) (has (row_of h kind) handle) live in
    let all = once handle (not_true (handle == 0) two.0) in
    let here = counted (row_of h kind) handle two.1 in
    uncounted row handle (omega (arith, part, all, here))

pub alone_is_whole : (h : Handles) (space : ℕ) → StandOnce h → is_live h Space space ≡ true → without_alone h Space space ≡ without h space
alone_is_whole h space once live =
    let a = elsewhere h Space space once live h.instances (omega arith) in
    let b = elsewhere h Space space once live h.sessions (omega arith) in
    let c = elsewhere h Space space once live h.sets (omega arith) in
    let d = elsewhere h Space space once live h.actions (omega arith) in
    let f = elsewhere h Space space once live h.chains (omega arith) in
    rw (
      going_none space h.instances a,
      cleared_same space h.instances a,
      going_none space h.sessions b,
      cleared_same space h.sessions b,
      going_none space h.sets c,
      cleared_same space h.sets c,
      cleared_same space h.actions d,
      cleared_same space h.chains f,
    ) refl

pub chain_is_whole : (h : Handles) (chain : ℕ) → StandOnce h → is_live h Swapchain chain ≡ true → without_alone h Swapchain chain ≡ without h chain
chain_is_whole h chain once live =
    let a = elsewhere h Swapchain chain once live h.instances (omega arith) in
    let b = elsewhere h Swapchain chain once live h.sessions (omega arith) in
    let c = elsewhere h Swapchain chain once live h.sets (omega arith) in
    let d = elsewhere h Swapchain chain once live h.actions (omega arith) in
    let f = elsewhere h Swapchain chain once live h.spaces (omega arith) in
    rw (
      going_none chain h.instances a,
      cleared_same chain h.instances a,
      going_none chain h.sessions b,
      cleared_same chain h.sessions b,
      going_none chain h.sets c,
      cleared_same chain h.sets c,
      cleared_same chain h.actions d,
      cleared_same chain h.spaces f,
    ) refl

over_destroyed : (s : State) (e : Entry) (handle : ℕ) → AreKnown s.core.handles → StandOnce s.core.handles → destroys e.call handle ≡ true → is_success (step s e).1.reply.code ≡ true → IsOver handle (step s e).0.core.handles
over_destroyed s e handle known once = by e.call
  where
    by : (r : Call) → destroys r handle ≡ true → is_success (step s (record e { call = r })).1.reply.code ≡ true → IsOver handle (step s (record e { call = r })).0.core.handles
    by (ask.DestroyInstance instance) names good =
        destroyed (IsOver handle) s.core (is_live s.core.handles Instance instance) (rule s.core (reads_of s (ask.DestroyInstance instance)) (record e { call = ask.DestroyInstance instance })).effect good
        (λ live. subst (λ (n : ℕ). IsOver n (without s.core.handles instance)) (same_key instance handle names)
        (over_without s.core.handles Instance instance known live (λ a. rw a.instances (and_false (not (instance == 0))))))
    by (ask.DestroySession session) names good =
        destroyed (IsOver handle) s.core (is_live s.core.handles Session session) (rule s.core (reads_of s (ask.DestroySession session)) (record e { call = ask.DestroySession session })).effect good
        (λ live. subst (λ (n : ℕ). IsOver n (without s.core.handles session)) (same_key session handle names)
        (over_without s.core.handles Session session known live (λ a. rw a.sessions (and_false (not (session == 0))))))
    by (ask.DestroySpace space) names good =
        destroyed (IsOver handle) s.core (is_live s.core.handles Space space) (rule s.core (reads_of s (ask.DestroySpace space)) (record e { call = ask.DestroySpace space })).effect good
        (λ live. subst (λ (h : Handles). IsOver handle h) (sym (alone_is_whole s.core.handles space once live)) (subst (λ (n : ℕ). IsOver n (without s.core.handles space)) (same_key space handle names)
        (over_without s.core.handles Space space known live (λ a. rw a.spaces (and_false (not (space == 0)))))))
    by (ask.DestroyActionSet set) names good =
        destroyed (IsOver handle) s.core (is_live s.core.handles ActionSet set) (rule s.core (reads_of s (ask.DestroyActionSet set)) (record e { call = ask.DestroyActionSet set })).effect good
        (λ live. subst (λ (n : ℕ). IsOver n (without s.core.handles set)) (same_key set handle names)
        (over_without s.core.handles ActionSet set known live (λ a. rw a.sets (and_false (not (set == 0))))))
    by (ask.DestroyAction action) names good =
        destroyed (IsOver handle) s.core (is_live s.core.handles Action action) (rule s.core (reads_of s (ask.DestroyAction action)) (record e { call = ask.DestroyAction action })).effect good
        (λ live. subst (λ (n : ℕ). IsOver n (without s.core.handles action)) (same_key action handle names)
        (over_without s.core.handles Action action known live (λ a. rw a.actions (and_false (not (action == 0))))))
    by (ask.DestroySwapchain chain) names good =
        destroyed (IsOver handle) s.core (is_live s.core.handles Swapchain chain) (rule s.core (reads_of s (ask.DestroySwapchain chain)) (record e { call = ask.DestroySwapchain chain })).effect good
        (λ live. subst (λ (h : Handles). IsOver handle h) (sym (chain_is_whole s.core.handles chain once live)) (subst (λ (n : ℕ). IsOver n (without s.core.handles chain)) (same_key chain handle names)
        (over_without s.core.handles Swapchain chain known live (λ a. rw a.chains (and_false (not (chain == 0)))))))
    by _ names good = absurd (true≢false (sym names))

-- ---- the law

-- the clocks after a history
abbrev pub clocks_behind : State → List ℤ → List Entry → List ℤ
clocks_behind s clocks [] = clocks
clocks_behind s clocks (e ∷ es) = clocks_behind (step s e).0 (clocks_after clocks e (step s e).0) es

-- the end of a legal history is legal from where its front leads
pub legal_behind : (s : State) (clocks : List ℤ) (es fs : List Entry) → IsLegalFrom s clocks (es ++ fs) → IsLegalFrom (after s es) (clocks_behind s clocks es) fs
legal_behind s clocks [] fs legal = legal
legal_behind s clocks (e ∷ es) fs legal = legal_behind (step s e).0 (clocks_after clocks e (step s e).0) es fs legal.3

pub destroyed_for_good : DestroyedForGood
destroyed_for_good settings es fs e handle legal names good =
    let known = known_after (opening settings) es (known_opening settings) in
    let front = fronts_are_legal (opening settings) (opening_clocks settings) es (e ∷ fs) legal in
    let clocks = clocks_behind (opening settings) (opening_clocks settings) es in
    let there = after (opening settings) es in
    let rest = legal_behind (opening settings) (opening_clocks settings) es (e ∷ fs) legal in
    let over = over_after (step there e).0 (clocks_after clocks e (step there e).0) fs handle rest.3 (over_destroyed (after (opening settings) es) e handle known (handles_stand_once settings es front) names good) in
    ap (λ (t : State). kind_of t.core.handles handle) (after_is_in_turn (opening settings) es (e ∷ fs)) ∙ absent_kind (after (step (after (opening settings) es) e).0 fs).core.handles handle over.absent
