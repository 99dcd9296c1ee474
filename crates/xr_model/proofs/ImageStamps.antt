-- While an image is used its stamp stays.
use Rattle.std.proofs.Common.{◌≡◌, ◌≢◌, ◌+◌, ◌*◌, ◌<◌, ◌==◌, ◌&&◌, ℕ, zero, suc, true, false, not, List, [], ◌∷◌, Option, Some, unwrap_or, slice_get, slice_set, refl, sym, ap, subst, ◌∙◌, arith, true≢false}
use Rattle.std.specs.Prelude.{nat_lt, drop}
use Rattle.std.specs.List.{list_any}
use Rattle.std.proofs.lemmas.Bool.Decides.{nat_tests}
use Rattle.xr_types.specs.declared.code.Code.TheVariants.{SwapchainFormatUnsupported, ValidationFailure, LimitReached}
use Rattle.xr_types.specs.declared.frames.Image.{Image}
use Rattle.xr_types.specs.declared.handles.Kind.TheVariants.{Swapchain}
use Rattle.xr_types.specs.Frames.{PendingFrame}
use Rattle.xr_model.specs.scenario.InRange.{Each}
use Rattle.xr_model.specs.machine.Chains.{Chain, is_chain, chain_at, place_of_chain, first_place, is_format, is_size, no_place, has_free_place, is_paint_wrong, oldest_index, has_place, is_place_used, oldest_image}
use Rattle.xr_model.specs.machine.Handles.{no_room}
use Rattle.xr_model.specs.machine.Images.{Stamped, slot_of, uses_of, count_of, stamp_in, with_stamps, unstamped}
use Rattle.xr_model.specs.machine.Refusals.{when}
use Rattle.xr_model.specs.machine.Calls.{Entry}
use Rattle.xr_types.specs.declared.calls.Call.{Call}
use Rattle.xr_types.specs.declared.calls.Call.TheVariants as ask
use Rattle.xr_model.specs.machine.State.{CoreState, State, opening}
use Rattle.xr_model.specs.machine.Rule.{Did}
use Rattle.xr_model.specs.machine.Machine.{rule, step, reads_of}
use Rattle.xr_model.specs.machine.History.{after, opening_clocks}
use Rattle.xr_model.specs.laws.ImageLaws.{count_now, StampsStay}
use Rattle.xr_model.specs.laws.Owners.{times_used, times_returned}
use Rattle.xr_model.specs.laws.DecidedEntries.{past_of}
use Rattle.xr_model.proofs.Histories.{fronts_are_legal}
use Rattle.xr_model.proofs.Rows.{same_key, neither_of, is_false}
use Rattle.xr_model.proofs.FrameOrder.{clear, none_first, not_false}
use Rattle.xr_model.proofs.ChainPlaces.{found_good, found_at, any_found, suc_apart}
use Rattle.xr_model.proofs.FrameImages.{each_left, times_elsewhere}
use Rattle.xr_model.proofs.SoundImages.{effect_kept, paint_some, sound_history}
use Rattle.xr_model.proofs.ImageSteps.{was_waited}
use Rattle.xr_model.proofs.ImageOwners.{owners_fit}
use Rattle.xr_model.specs.laws.Soundness.{IsBelow, AreSound, StateIsSound, IsIdle, is_taken}

-- ---- stamps that are set

pub set_other : (xs : List ℕ) (k j v : ℕ) → (k == j) ≡ false → slice_get (slice_set xs k v) j ≡ slice_get xs j
set_other [] k j v other = refl
set_other (x ∷ xs) zero zero v other = absurd (true≢false other)
set_other (x ∷ xs) zero (suc j) v other = refl
set_other (x ∷ xs) (suc k) zero v other = refl
set_other (x ∷ xs) (suc k) (suc j) v other = set_other xs k j v (suc_apart k j ∙ other)

-- each stamp is of an image that stands elsewhere
abbrev AreElsewhere : ℕ → List Stamped → Type 0
AreElsewhere k [] = Unit {0}
AreElsewhere k (x ∷ xs) = ((slot_of x.image == k) ≡ false) × AreElsewhere k xs

stamps_elsewhere : (i : Image) (xs : List Stamped) (stamps : List ℕ) → AreElsewhere (slot_of i) xs → stamp_in (with_stamps xs stamps) i ≡ stamp_in stamps i
stamps_elsewhere i [] stamps elsewhere = refl
stamps_elsewhere i (x ∷ xs) stamps elsewhere =
    stamps_elsewhere i xs (slice_set stamps (slot_of x.image) x.stamp) elsewhere.1 ∙ ap (λ (o : Option ℕ). unwrap_or o 0) (set_other stamps (slot_of x.image) (slot_of i) x.stamp elsewhere.0)

-- ---- images of a free place

-- no frame uses an image of a place that none has an image of
uses_elsewhere : (place n : ℕ) → n < 3 → (fs : List PendingFrame) → AreSound fs → list_any (λ f. has_place place f.images) fs ≡ false → uses_of fs (3 * place + n) ≡ 0
uses_elsewhere place n less [] sound none = refl
uses_elsewhere place n less (f ∷ fs) sound none =
    let two = neither_of (has_place place f.images) (list_any (λ x. has_place place x.images) fs) none in
    let here = times_elsewhere place n less f.images sound.0.images.each two.0 in
    let more = uses_elsewhere place n less fs sound.1 two.1 in
    omega (arith, here, more)

-- what is left of images has no place that these haven't
has_place_left : (place n : ℕ) (images : List Image) → has_place place images ≡ false → has_place place (drop n images) ≡ false
has_place_left place zero images none = none
has_place_left place (suc n) [] none = refl
has_place_left place (suc n) (i ∷ images) none = has_place_left place n images (neither_of (i.place == place) (has_place place images) none).1

module _ (s : State) (i : Image) (sound : StateIsSound s) (used : count_now s i ≢ 0) where
  -- an image whose count is 0 stands elsewhere
  elsewhere : (k : ℕ) → count_of s.core.frames.pending s.cells.held k ≡ 0 → (k == slot_of i) ≡ false
  elsewhere k none = is_false (k == slot_of i) (λ eb. used (subst (λ (n : ℕ). count_of s.core.frames.pending s.cells.held n ≡ 0) (same_key k (slot_of i) eb) none))

  free_elsewhere : (place n : ℕ) → n < 3 → is_place_used s.core.frames.pending s.core.shown_images place ≡ false → (3 * place + n == slot_of i) ≡ false
  free_elsewhere place n less none =
      let two = neither_of (list_any (λ f. has_place place f.images) s.core.frames.pending) (has_place place s.core.shown_images) none in
      let pending = uses_elsewhere place n less s.core.frames.pending sound.frames two.0 in
      let below : Each IsBelow s.cells.held = subst (Each IsBelow) (sym sound.left.are) (each_left IsBelow sound.left.gone s.core.shown_images sound.last.each) in
      let away : has_place place s.cells.held ≡ false = subst (λ (l : List Image). has_place place l ≡ false) (sym sound.left.are) (has_place_left place sound.left.gone s.core.shown_images two.1) in
      let held = times_elsewhere place n less s.cells.held below away in
      elsewhere (3 * place + n) (omega (arith, pending, held))

  created_elsewhere : has_free_place s.core.chains ≡ true → AreElsewhere (slot_of i) (unstamped (first_place s.core.chains))
  created_elsewhere free =
      let found = any_found (λ c. c.handle == 0) s.core.chains free in
      let at = found_at (λ c. c.handle == 0) s.core.chains found.0 found.1 in
      let none : is_taken (slice_get s.core.chains (first_place s.core.chains)) ≡ false = rw (at, found_good (λ c. c.handle == 0) s.core.chains found.0 found.1) refl in
      let unused = sound.unused (first_place s.core.chains) none in
      (free_elsewhere (first_place s.core.chains) 0 (omega arith) unused, (free_elsewhere (first_place s.core.chains) 1 (omega arith) unused, (free_elsewhere (first_place s.core.chains) 2 (omega arith) unused, tt)))

  painted_elsewhere : (chain : ℕ) (c : Chain) → chain_at s.core.chains chain ≡ Some c → c.has_waited ≡ true → (slot_of (oldest_image s.core.chains chain) == slot_of i) ≡ false
  painted_elsewhere chain c found waited =
      let idle = subst (IsIdle s.core.frames.pending s.cells.held (place_of_chain s.core.chains chain)) (found_at (is_chain chain) s.core.chains c found) (sound.idle (place_of_chain s.core.chains chain)) in
      elsewhere (slot_of (oldest_image s.core.chains chain)) (subst (λ (o : Option Chain). count_of s.core.frames.pending s.cells.held (3 * place_of_chain s.core.chains chain + oldest_index o) ≡ 0) (sym found) (idle waited))

abbrev Stays : State → Image → CoreState → Did → Type 0
Stays s i t did = stamp_in (with_stamps did.stamped s.cells.stamps) i ≡ stamp_in s.cells.stamps i

-- The stamp of an image that is used stays.
pub used_stamp_stays : (s : State) (e : Entry) (i : Image) → StateIsSound s → count_now s i ≢ 0 → stamp_in (step s e).0.cells.stamps i ≡ stamp_in s.cells.stamps i
used_stamp_stays s e i sound used = by e.call
  where
    by : (r : Call) → stamp_in (step s (record e { call = r })).0.cells.stamps i ≡ stamp_in s.cells.stamps i
    by (ask.CreateSwapchain session format width height fixed) =
        let f = rule s.core (reads_of s (ask.CreateSwapchain session format width height fixed)) (record e { call = ask.CreateSwapchain session format width height fixed }) in
        effect_kept (Stays s i) s.core e.short f refl (λ none.
        let behind = (clear f e.short none).behind in
        let one = none_first (not (is_format format)) SwapchainFormatUnsupported (when (not (is_size width && is_size height)) ValidationFailure ∷ no_place s.core.chains ∷ no_room s.core.handles Swapchain ∷ []) behind in
        let two = none_first (not (is_size width && is_size height)) ValidationFailure (no_place s.core.chains ∷ no_room s.core.handles Swapchain ∷ []) one.1 in
        let free = not_false (has_free_place s.core.chains) (none_first (not (has_free_place s.core.chains)) LimitReached (no_room s.core.handles Swapchain ∷ []) two.1).0 in
        stamps_elsewhere i (unstamped (first_place s.core.chains)) s.cells.stamps (created_elsewhere s i sound used free))
    by (ask.Paint chain n) =
        let f = rule s.core (reads_of s (ask.Paint chain n)) (record e { call = ask.Paint chain n }) in
        effect_kept (Stays s i) s.core e.short f refl (λ none.
        let order = (clear f e.short none).order in
        let some = paint_some (chain_at s.core.chains chain) order in
        stamps_elsewhere i (record { image = oldest_image s.core.chains chain; stamp = n } ∷ []) s.cells.stamps (painted_elsewhere s i sound used chain some.0 some.1 (was_waited some.0 (sym (ap is_paint_wrong some.1) ∙ order)), tt))
    by r = effect_kept (Stays s i) s.core e.short (rule s.core (reads_of s r) (record e { call = r })) refl (λ none. refl)

some_more : (u r n : ℕ) → u ≡ r + n → nat_lt r u ≡ true → n ≢ 0
some_more u r n e less z = absurd (omega (arith, e, z, below r u less))
  where
    below : (a b : ℕ) → nat_lt a b ≡ true → a < b
    below a b l = grind (arith, nat_tests, l)

pub stamps_stay : StampsStay
stamps_stay settings es e i legal placed owned =
    let front = fronts_are_legal (opening settings) (opening_clocks settings) es (e ∷ []) legal in
    let fits = owners_fit settings es i front placed in
    used_stamp_stays (after (opening settings) es) e i (sound_history settings es front) (some_more (times_used i (past_of settings es)) (times_returned i (past_of settings es)) (count_now (after (opening settings) es) i) fits.count owned)
