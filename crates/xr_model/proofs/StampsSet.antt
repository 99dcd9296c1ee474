-- Which stamps an entry sets: those of a new swapchain, and the one that is painted.
use Rattle.std.proofs.Common.{◌≡◌, ◌+◌, ◌*◌, ◌<◌, ◌==◌, ◌&&◌, ℕ, zero, suc, Bool, true, false, not, List, [], ◌∷◌, length, Option, Some, None, unwrap_or, slice_get, slice_set, refl, sym, ap, subst, ◌∙◌, arith, true≢false}
use Rattle.std.specs.Prelude.{if◌then◌else◌}
use Rattle.xr_types.specs.Code.{is_success}
use Rattle.xr_types.specs.declared.code.Code.TheVariants.{SwapchainFormatUnsupported, ValidationFailure, LimitReached}
use Rattle.xr_types.specs.declared.calls.Call.{Call}
use Rattle.xr_types.specs.declared.calls.Call.TheVariants as ask
use Rattle.xr_types.specs.declared.frames.Image.{Image}
use Rattle.xr_types.specs.declared.handles.Kind.TheVariants.{Swapchain}
use Rattle.xr_types.specs.declared.handles.TheConstants.{SWAPCHAINS}
use Rattle.xr_model.specs.machine.Calls.{Entry}
use Rattle.xr_model.specs.machine.Chains.{Chain, new_chain, is_chain, chain_at, place_of_chain, first_place, is_format, is_size, no_place, has_free_place, is_paint_wrong, oldest_of, with_chain}
use Rattle.xr_model.specs.machine.Handles.{no_room, was_given}
use Rattle.xr_model.specs.machine.Images.{Stamped, slot_of, stamp_in, with_stamps, unstamped}
use Rattle.xr_model.specs.machine.Refusals.{when}
use Rattle.xr_model.specs.machine.Rule.{Effect, Rule, refusal, told_on}
use Rattle.xr_model.specs.machine.Rules.Session.{life_of}
use Rattle.xr_model.specs.machine.Rules.Spaces.{session_above}
use Rattle.xr_model.specs.machine.SessionRule.{loss_of}
use Rattle.xr_model.specs.machine.State.{State, opening}
use Rattle.xr_model.specs.machine.Machine.{IsAllowed, IsGiven, effect, reads_of, rule, step}
use Rattle.xr_model.specs.machine.History.{after, opening_clocks}
use Rattle.xr_model.specs.laws.ImageLaws.{IsPlaced}
use Rattle.xr_model.specs.laws.ImageUseLaws.{is_place_of, stamp_of_entry, StampsAreSet}
use Rattle.xr_model.specs.laws.Soundness.{OptIsSound, PlaceIsSound, StateIsSound}
use Rattle.xr_model.proofs.ChainOrder.{chains_history, given_nonzero, has_chain, new_given}
use Rattle.xr_model.proofs.ChainPlaces.{any_found, found_at, new_is_set, set_at}
use Rattle.xr_model.proofs.DestroyedForGood.{legal_behind}
use Rattle.xr_model.proofs.FrameImages.{slots_apart}
use Rattle.xr_model.proofs.FrameOrder.{by_rule, clear, goes, none_first, not_false}
use Rattle.xr_model.proofs.HeldFits.{did_kept}
use Rattle.xr_model.proofs.Histories.{fronts_are_legal}
use Rattle.xr_model.proofs.ImageStamps.{set_other}
use Rattle.xr_model.proofs.ImageSteps.{was_waited}
use Rattle.xr_model.proofs.Rows.{is_false, itself, neither_of, same_key}
use Rattle.xr_model.proofs.SoundImages.{paint_some, sound_history}
use Rattle.xr_model.proofs.SoundPlaces.{oldest_below}
use Rattle.xr_model.proofs.Successes.{success_succeeds}

-- ---- there is a stamp for each image

set_long : (xs : List ℕ) (k v : ℕ) → length (slice_set xs k v) ≡ length xs
set_long [] k v = refl
set_long (x ∷ xs) zero v = refl
set_long (x ∷ xs) (suc k) v = ap (λ (n : ℕ). suc n) (set_long xs k v)

stamped_long : (xs : List Stamped) (stamps : List ℕ) → length (with_stamps xs stamps) ≡ length stamps
stamped_long [] stamps = refl
stamped_long (x ∷ xs) stamps = stamped_long xs (slice_set stamps (slot_of x.image) x.stamp) ∙ set_long stamps (slot_of x.image) x.stamp

all_stamps : (s : State) (es : List Entry) → length (after s es).cells.stamps ≡ length s.cells.stamps
all_stamps s [] = refl
all_stamps s (e ∷ es) = all_stamps (step s e).0 es ∙ stamped_long (effect s.core (reads_of s e.call) e).did.stamped s.cells.stamps

-- ---- one stamp is set

set_own : (xs : List ℕ) (k v : ℕ) → k < length xs → slice_get (slice_set xs k v) k ≡ Some v
set_own [] k v below = absurd (omega (arith, below))
set_own (x ∷ xs) zero v below = refl
set_own (x ∷ xs) (suc k) v below = set_own xs k v (omega (arith, below))

-- an image is among all
slot_below : (i : Image) → IsPlaced i → slot_of i < 3 * SWAPCHAINS
slot_below i placed = let place = placed.0 in let index = placed.1 in omega (arith, place, index)

-- the stamp of an image, once one of a place has another
stamp_set : (stamps : List ℕ) (i : Image) (place index v : ℕ) → length stamps ≡ 3 * SWAPCHAINS → IsPlaced i → index < 3
    → stamp_in (slice_set stamps (3 * place + index) v) i ≡ (if (place == i.place) && (index == i.index) then v else stamp_in stamps i)
stamp_set stamps i place index v long placed below = by (place == i.place) refl (index == i.index) refl
  where
    same : place ≡ i.place → index ≡ i.index → stamp_in (slice_set stamps (3 * place + index) v) i ≡ v
    same p k =
        let slot : 3 * place + index ≡ slot_of i = omega (arith, p, k) in
        let few = slot_below i placed in
        subst (λ (n : ℕ). unwrap_or (slice_get (slice_set stamps n v) (slot_of i)) 0 ≡ v) (sym slot)
        (ap (λ (o : Option ℕ). unwrap_or o 0) (set_own stamps (slot_of i) v (omega (arith, few, long))))

    away : ((place ≡ i.place) → (index ≡ i.index) → ⊥) → stamp_in (slice_set stamps (3 * place + index) v) i ≡ stamp_in stamps i
    away apart =
        let other = is_false (3 * place + index == slot_of i) (λ eq. let two = slots_apart i place index placed.1 below (sym (same_key (3 * place + index) (slot_of i) eq)) in apart (sym two.0) (sym two.1)) in
        ap (λ (o : Option ℕ). unwrap_or o 0) (set_other stamps (3 * place + index) (slot_of i) v other)

    by : (a : Bool) → (place == i.place) ≡ a → (b : Bool) → (index == i.index) ≡ b → stamp_in (slice_set stamps (3 * place + index) v) i ≡ (if a && b then v else stamp_in stamps i)
    by true ea true eb = same (same_key place i.place ea) (same_key index i.index eb)
    by true ea false eb = away (λ p k. true≢false (sym (subst (λ (n : ℕ). (index == n) ≡ true) k (itself index)) ∙ eb))
    by false ea b eb = away (λ p k. true≢false (sym (subst (λ (n : ℕ). (place == n) ≡ true) p (itself place)) ∙ ea))

-- those of a place
place_set : (stamps : List ℕ) (i : Image) (place : ℕ) → length stamps ≡ 3 * SWAPCHAINS → IsPlaced i
    → stamp_in (with_stamps (unstamped place) stamps) i ≡ (if place == i.place then 0 else stamp_in stamps i)
place_set stamps i place long placed =
    let one = slice_set stamps (3 * place + 0) 0 in
    let two = slice_set one (3 * place + 1) 0 in
    let long_one : length one ≡ 3 * SWAPCHAINS = set_long stamps (3 * place + 0) 0 ∙ long in
    let long_two : length two ≡ 3 * SWAPCHAINS = set_long one (3 * place + 1) 0 ∙ long_one in
    stamp_set two i place 2 0 long_two placed (omega arith)
    ∙ ap (λ (n : ℕ). if (place == i.place) && (2 == i.index) then 0 else n) (stamp_set one i place 1 0 long_one placed (omega arith))
    ∙ ap (λ (n : ℕ). if (place == i.place) && (2 == i.index) then 0 else (if (place == i.place) && (1 == i.index) then 0 else n)) (stamp_set stamps i place 0 0 long placed (omega arith))
    ∙ by (place == i.place) i.index placed.1
  where
    by : (a : Bool) (k : ℕ) → k < 3 → (if a && (2 == k) then 0 else (if a && (1 == k) then 0 else (if a && (0 == k) then 0 else stamp_in stamps i))) ≡ (if a then 0 else stamp_in stamps i)
    by false k below = refl
    by true zero below = refl
    by true (suc zero) below = refl
    by true (suc (suc zero)) below = refl
    by true (suc (suc (suc k))) below = absurd (omega (arith, below))

-- ---- an entry

abbrev Sets : State → Entry → Image → Effect → Type 0
Sets s e i x = stamp_in (with_stamps x.did.stamped s.cells.stamps) i ≡ (if is_success x.code then unwrap_or (stamp_of_entry s e i) (stamp_in s.cells.stamps i) else stamp_in s.cells.stamps i)

module _ (s : State) (e : Entry) (i : Image) (allowed : IsAllowed s e) (placed : IsPlaced i) (long : length s.cells.stamps ≡ 3 * SWAPCHAINS) (sound : StateIsSound s) (absent : (q : ℕ) → (q == 0) ≡ false → was_given s.core.handles q ≡ false → has_chain s.core.chains q ≡ false) where
  same_if : (b : Bool) (n : ℕ) → n ≡ (if b then n else n)
  same_if true n = refl
  same_if false n = refl

  -- no place has a handle that none of them has
  nowhere : (chains : List Chain) (g p : ℕ) → has_chain chains g ≡ false → is_place_of g (slice_get chains p) ≡ false
  nowhere [] g p none = refl
  nowhere (c ∷ cs) g zero none = (neither_of (c.handle == g) (has_chain cs g) none).0
  nowhere (c ∷ cs) g (suc p) none = nowhere cs g p (neither_of (c.handle == g) (has_chain cs g) none).1

  created : (session format width height : ℕ) (fixed : Bool) → e.call ≡ ask.CreateSwapchain session format width height fixed → Sets s (record e { call = ask.CreateSwapchain session format width height fixed }) i (effect s.core (reads_of s (ask.CreateSwapchain session format width height fixed)) (record e { call = ask.CreateSwapchain session format width height fixed }))
  created session format width height fixed is = by_rule (Sets s x i) s.core f e.short refl (λ r failed. rw failed refl) made
    where
      x : Entry
      x = record e { call = ask.CreateSwapchain session format width height fixed }

      f : Rule
      f = rule s.core (reads_of s (ask.CreateSwapchain session format width height fixed)) x

      new : Chain
      new = new_chain e.given width height fixed

      made : refusal e.short f ≡ None → Sets s x i (told_on f.on f.effect)
      made none =
          let behind = (clear f e.short none).behind in
          let one = none_first (not (is_format format)) SwapchainFormatUnsupported (when (not (is_size width && is_size height)) ValidationFailure ∷ no_place s.core.chains ∷ no_room s.core.handles Swapchain ∷ []) behind in
          let two = none_first (not (is_size width && is_size height)) ValidationFailure (no_place s.core.chains ∷ no_room s.core.handles Swapchain ∷ []) one.1 in
          let free = not_false (has_free_place s.core.chains) (none_first (not (has_free_place s.core.chains)) LimitReached (no_room s.core.handles Swapchain ∷ []) two.1).0 in
          let done_is = goes s.core (refusal e.short f) (told_on f.on f.effect) none in
          let good = success_succeeds (loss_of (life_of s.core session)) in
          let was = subst (λ (c : Call). IsAllowed s (record e { call = c })) is allowed in
          let given = new_given true s.core.handles e.given refl (subst (λ (b : Bool). IsGiven b s.core.handles e.given) (ap (λ (y : Effect). is_success y.code) done_is ∙ good) was.handle) in
          let found = any_found (λ c. c.handle == 0) s.core.chains free in
          let at : slice_get (with_chain s.core.chains new) i.place ≡ (if first_place s.core.chains == i.place then Some new else slice_get s.core.chains i.place) =
          ap (λ (l : List Chain). slice_get l i.place) (new_is_set s.core.chains new found.0 found.1) ∙ set_at s.core.chains (first_place s.core.chains) i.place new found.0 (found_at (λ c. c.handle == 0) s.core.chains found.0 found.1) in
          let state : (step s x).0.core.chains ≡ with_chain s.core.chains new = ap (λ (y : Effect). y.state.chains) done_is in
          rw (good, state, at) (place_set s.cells.stamps i (first_place s.core.chains) long placed ∙ by (first_place s.core.chains == i.place) (absent e.given (given_nonzero e.given given.0) given.1))
        where
          by : (b : Bool) → has_chain s.core.chains e.given ≡ false
              → (if b then 0 else stamp_in s.cells.stamps i) ≡ unwrap_or (if is_place_of e.given (if b then Some new else slice_get s.core.chains i.place) then Some 0 else None) (stamp_in s.cells.stamps i)
          by true none = rw (itself e.given) refl
          by false none = rw (nowhere s.core.chains e.given i.place none) refl

  painted : (chain stamp : ℕ) → Sets s (record e { call = ask.Paint chain stamp }) i (effect s.core (reads_of s (ask.Paint chain stamp)) (record e { call = ask.Paint chain stamp }))
  painted chain stamp = by_rule (Sets s x i) s.core f e.short refl (λ r failed. rw failed refl) made
    where
      x : Entry
      x = record e { call = ask.Paint chain stamp }

      f : Rule
      f = rule s.core (reads_of s (ask.Paint chain stamp)) x

      made : refusal e.short f ≡ None → Sets s x i (told_on f.on f.effect)
      made none =
          let order = (clear f e.short none).order in
          let some = paint_some (chain_at s.core.chains chain) order in
          let waited = was_waited some.0 (sym (ap is_paint_wrong some.1) ∙ order) in
          let place : PlaceIsSound s.core.handles.chains some.0 = subst (OptIsSound (PlaceIsSound s.core.handles.chains)) (found_at (is_chain chain) s.core.chains some.0 some.1) (sound.places (place_of_chain s.core.chains chain)) in
          let below = oldest_below some.0.is_static some.0.acquired some.0.next place.run in
          rw (success_succeeds (loss_of (life_of s.core (session_above s.core.handles chain))), some.1, waited)
          (stamp_set s.cells.stamps i (place_of_chain s.core.chains chain) (oldest_of some.0.acquired) stamp long placed below ∙ by ((place_of_chain s.core.chains chain == i.place) && (oldest_of some.0.acquired == i.index)))
        where
          by : (b : Bool) → (if b then stamp else stamp_in s.cells.stamps i) ≡ unwrap_or (if b then Some stamp else None) (stamp_in s.cells.stamps i)
          by true = refl
          by false = refl

  stamps_set : Sets s e i (effect s.core (reads_of s e.call) e)
  stamps_set = by e.call refl
    where
      by : (r : Call) → e.call ≡ r → Sets s (record e { call = r }) i (effect s.core (reads_of s r) (record e { call = r }))
      by (ask.CreateSwapchain session format width height fixed) is = created session format width height fixed is
      by (ask.Paint chain stamp) is = painted chain stamp
      by r is = did_kept (λ did. stamp_in (with_stamps did.stamped s.cells.stamps) i ≡ (if is_success (effect s.core (reads_of s r) (record e { call = r })).code then stamp_in s.cells.stamps i else stamp_in s.cells.stamps i)) s.core e.short (rule s.core (reads_of s r) (record e { call = r }))
          (same_if (is_success (effect s.core (reads_of s r) (record e { call = r })).code) (stamp_in s.cells.stamps i)) (same_if (is_success (effect s.core (reads_of s r) (record e { call = r })).code) (stamp_in s.cells.stamps i))

pub stamps_are_set : StampsAreSet
stamps_are_set settings es e i legal placed =
    let front = fronts_are_legal (opening settings) (opening_clocks settings) es (e ∷ []) legal in
    let last = legal_behind (opening settings) (opening_clocks settings) es (e ∷ []) legal in
    stamps_set (after (opening settings) es) e i last.0 placed (all_stamps (opening settings) es) (sound_history settings es front) (chains_history settings es front).absent
