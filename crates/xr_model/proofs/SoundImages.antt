-- What holds of swapchains, frames and images after every legal history.
use Rattle.std.proofs.Common.{◌≡◌, ◌+◌, ◌*◌, ◌==◌, ◌&&◌, ◌||◌, ℕ, ℤ, zero, suc, Bool, true, false, not, List, [], ◌∷◌, ◌++◌, drop, take, length, replicate, Option, Some, None, option_map, is_some, slice_get, refl, sym, ap, subst, ◌∙◌, append-nil, arith, true≢false}
use Rattle.std.specs.Prelude.{if◌then◌else◌, flat_map}
use Rattle.std.specs.List.{list_any}
use Rattle.xr_types.specs.Code.{is_success}
use Rattle.xr_types.specs.declared.code.Code.TheVariants.{SwapchainFormatUnsupported, ValidationFailure, LimitReached, TimeoutExpired}
use Rattle.xr_types.specs.declared.device.DeviceEvent.{DeviceEvent}
use Rattle.xr_types.specs.declared.device.DeviceEvent.TheVariants as event
use Rattle.xr_types.specs.declared.frames.Blend.{Blend}
use Rattle.xr_types.specs.declared.frames.Image.{Image}
use Rattle.xr_types.specs.declared.frames.Layer.{Layer}
use Rattle.xr_types.specs.declared.handles.Kind.TheVariants.{Swapchain}
use Rattle.xr_types.specs.declared.handles.Slot.{Slot}
use Rattle.xr_types.specs.declared.handles.TheConstants.{SWAPCHAINS}
use Rattle.xr_types.specs.Frames.{PendingFrame}
use Rattle.xr_model.specs.scenario.InRange.{Each}
use Rattle.xr_model.specs.machine.Chains.{Chain, free_place, kept_place, new_chain, is_chain, chain_at, place_of_chain, first_place, is_format, is_size, no_place, has_free_place, is_acquire_wrong, is_wait_wrong, is_paint_wrong, oldest_of, oldest_index, has_place, is_place_used, with_chain, with_chain_at, acquiring, waiting, releasing, left_in_place, left_in_places, oldest_image}
use Rattle.xr_model.specs.machine.Frames.{is_empty}
use Rattle.xr_model.specs.machine.Handles.{Handles, no_room, has_room, is_live, has, with_handle, without, without_alone}
use Rattle.xr_model.specs.machine.Images.{slot_of, times_in, uses_of, count_of, first_images}
use Rattle.xr_model.specs.machine.Layers.{frame_checks, form_checks, layer_checks, layers_of}
use Rattle.xr_model.specs.machine.Refusals.{Refusal, when, first_of}
use Rattle.xr_model.specs.machine.Calls.{Entry}
use Rattle.xr_types.specs.declared.calls.Call.{Call}
use Rattle.xr_types.specs.declared.calls.Call.TheVariants as ask
use Rattle.xr_model.specs.machine.State.{CoreState, Settings, State, opening}
use Rattle.xr_model.specs.machine.Rule.{Rule, Effect, Did, nothing_done, refusal, told_on, unless_refused, carried_out}
use Rattle.xr_model.specs.machine.SessionRule.{Loss, loss_of}
use Rattle.xr_model.specs.machine.Rules.Device.{behind_event}
use Rattle.xr_model.specs.machine.Rules.Frames.{look_of, new_frame, chains_behind, shown_behind}
use Rattle.xr_model.specs.machine.Rules.Session.{life_of}
use Rattle.xr_model.specs.machine.Rules.Swapchains.{is_up}
use Rattle.xr_model.specs.machine.Machine.{rule, step, reads_of, ready, held_after, IsAllowed}
use Rattle.xr_model.specs.machine.History.{after, opening_clocks, clocks_after, IsLegal, IsLegalFrom}
use Rattle.xr_model.proofs.Successes.{success_succeeds}
use Rattle.xr_model.proofs.Rows.{same_key, both_of, not_true, is_false, has_put, has_new}
use Rattle.xr_model.proofs.StandOnce.{given_one}
use Rattle.xr_model.proofs.FrameOrder.{clear, goes, none_first, none_of, not_false, is_live_by, is_ready_to}
use Rattle.xr_model.proofs.HeldFits.{none_is_empty}
use Rattle.xr_model.proofs.ChainPlaces.{same_some, found_good, found_at, any_found, set_at, changed_is_set, new_is_set, left_at, length_left, length_changed, length_new}
use Rattle.xr_model.proofs.SoundPlaces.{oldest_below, new_is_sound, free_is_sound, acquired_is_sound, waited_is_sound, released_is_sound, sound_with_more, left_is_sound, waited_isnt_last, oldest_stays}
use Rattle.xr_model.proofs.FrameImages.{each_so, slots_apart, times_none, times_left, once_of, are_among, IsLast, is_named, layers_are_last}
use Rattle.xr_model.specs.laws.Soundness.{is_live_in, PlaceIsSound, IsBelow, AreOnce, OptIsSound, FrameIsSound, AreSound, is_taken, IsIdle, AreLeft, IsSound, StateIsSound}

-- ---- what holds

-- ---- one place changes

-- one place has another chain, whose waited image is unused
sound_changed : (row more : List Slot) (chains new : List Chain) (pending : List PendingFrame) (shown held : List Image) (n : ℕ) (c : Chain)
    → ((q : ℕ) → is_live_in row q ≡ true → is_live_in more q ≡ true) → length new ≡ length chains → ((p : ℕ) → slice_get new p ≡ (if n == p then Some c else slice_get chains p))
    → PlaceIsSound more c → (c.handle == 0) ≡ false → (c.has_waited ≡ true → count_of pending held (3 * n + oldest_of c.acquired) ≡ 0)
    → IsSound row chains pending shown held → IsSound more new pending shown held
sound_changed row more chains new pending shown held n c keeps same_length at here named unused sound = record {
  all = same_length ∙ sound.all;
  places = λ p. rw (at p) (place (n == p) p);
  unused = λ p. rw (at p) (free (n == p) p);
  idle = λ p. rw (at p) (idle p (n == p) refl);
  frames = sound.frames;
  last = sound.last;
  left = sound.left;
}
  where
    still : (o : Option Chain) → OptIsSound (PlaceIsSound row) o → OptIsSound (PlaceIsSound more) o
    still None good = tt
    still (Some d) good = sound_with_more row more keeps d good

    place : (b : Bool) (p : ℕ) → OptIsSound (PlaceIsSound more) (if b then Some c else slice_get chains p)
    place true p = here
    place false p = still (slice_get chains p) (sound.places p)

    free : (b : Bool) (p : ℕ) → is_taken (if b then Some c else slice_get chains p) ≡ false → is_place_used pending shown p ≡ false
    free true p none = absurd (true≢false (sym (rw named refl) ∙ none))
    free false p none = sound.unused p none

    idle : (p : ℕ) (b : Bool) → (n == p) ≡ b → IsIdle pending held p (if b then Some c else slice_get chains p)
    idle p true eb = λ waited. subst (λ (k : ℕ). count_of pending held (3 * k + oldest_of c.acquired) ≡ 0) (same_key n p eb) (unused waited)
    idle p false eb = sound.idle p

-- ---- chains go

left_taken : (h : Handles) (used : Bool) (c : Chain) → not ((left_in_place h used c).handle == 0) ≡ false → (c.handle == 0) || not used ≡ true
left_taken h used c none = by (is_live_in h.chains c.handle) refl (c.handle == 0) refl used none
  where
    by : (a : Bool) → is_live_in h.chains c.handle ≡ a → (z : Bool) → (c.handle == 0) ≡ z → (u : Bool) → not ((if a then c else if not z && u then kept_place c.handle else free_place).handle == 0) ≡ false → z || not u ≡ true
    by a ea true ez u none = refl
    by true ea false ez u none = absurd (true≢false (sym (rw ez refl) ∙ none))
    by false ea false ez true none = absurd (true≢false (sym (rw ez refl) ∙ none))
    by false ea false ez false none = refl

left_waited : (h : Handles) (used : Bool) (c : Chain) → (left_in_place h used c).has_waited ≡ true → left_in_place h used c ≡ c
left_waited h used c waited = by (is_live_in h.chains c.handle) (not (c.handle == 0) && used) waited
  where
    by : (a b : Bool) → (if a then c else if b then kept_place c.handle else free_place).has_waited ≡ true → (if a then c else if b then kept_place c.handle else free_place) ≡ c
    by true b waited = refl
    by false true waited = absurd (true≢false (sym waited))
    by false false waited = absurd (true≢false (sym waited))

-- Chains that aren't live are gone, and keep their places while these are used. The frames may be fewer, too.
sound_left : (row : List Slot) (h : Handles) (chains : List Chain) (pending fewer : List PendingFrame) (shown taken held more : List Image)
    → ((p : ℕ) → is_place_used pending shown p ≡ false → is_place_used fewer taken p ≡ false) → ((k : ℕ) → count_of pending held k ≡ 0 → count_of fewer more k ≡ 0)
    → AreSound fewer → AreOnce IsBelow taken → AreLeft more taken → IsSound row chains pending shown held → IsSound h.chains (left_in_places h (is_place_used fewer taken) 0 chains) fewer taken more
sound_left row h chains pending fewer shown taken held more places counts frames last left sound = record {
  all = length_left h (is_place_used fewer taken) 0 chains ∙ sound.all;
  places = λ p. rw (at p) (place (is_place_used fewer taken p) (slice_get chains p) (sound.places p));
  unused = λ p. rw (at p) (free p (slice_get chains p) (sound.unused p));
  idle = λ p. rw (at p) (idle p (is_place_used fewer taken p) (slice_get chains p) (sound.idle p));
  frames = frames;
  last = last;
  left = left;
}
  where
    at : (p : ℕ) → slice_get (left_in_places h (is_place_used fewer taken) 0 chains) p ≡ option_map (left_in_place h (is_place_used fewer taken p)) (slice_get chains p)
    at p = left_at h (is_place_used fewer taken) 0 chains p p (omega arith)

    place : (used : Bool) (o : Option Chain) → OptIsSound (PlaceIsSound row) o → OptIsSound (PlaceIsSound h.chains) (option_map (left_in_place h used) o)
    place used None good = tt
    place used (Some c) good = left_is_sound row h used c good

    free : (p : ℕ) (o : Option Chain) → (is_taken o ≡ false → is_place_used pending shown p ≡ false) → is_taken (option_map (left_in_place h (is_place_used fewer taken p)) o) ≡ false → is_place_used fewer taken p ≡ false
    free p None before none = places p (before refl)
    free p (Some c) before none = by (c.handle == 0) refl (is_place_used fewer taken p) refl (left_taken h (is_place_used fewer taken p) c none)
      where
        by : (z : Bool) → (c.handle == 0) ≡ z → (u : Bool) → is_place_used fewer taken p ≡ u → z || not u ≡ true → is_place_used fewer taken p ≡ false
        by true ez u eu either = places p (before (rw ez refl))
        by false ez true eu either = absurd (true≢false (sym either))
        by false ez false eu either = eu

    idle : (p : ℕ) (used : Bool) (o : Option Chain) → IsIdle pending held p o → IsIdle fewer more p (option_map (left_in_place h used) o)
    idle p used None before = tt
    idle p used (Some c) before = λ waited.
        let same = left_waited h used c waited in
        subst (λ (d : Chain). count_of fewer more (3 * p + oldest_of d.acquired) ≡ 0) (sym same) (counts (3 * p + oldest_of c.acquired) (before (subst (λ (d : Chain). d.has_waited ≡ true) same waited)))

-- ---- a frame more

frames_more : (fs : List PendingFrame) (f : PendingFrame) → AreSound fs → FrameIsSound f → AreSound (fs ++ f ∷ [])
frames_more [] f all new = (new, tt)
frames_more (g ∷ fs) f all new = (all.0, frames_more fs f all.1 new)

pub uses_more : (fs : List PendingFrame) (f : PendingFrame) (k : ℕ) → uses_of (fs ++ f ∷ []) k ≡ uses_of fs k + times_in f.images k
uses_more [] f k = omega arith
uses_more (g ∷ fs) f k = let more = uses_more fs f k in omega (arith, more)

used_more : (fs : List PendingFrame) (f : PendingFrame) (shown : List Image) (p : ℕ) → is_place_used fs shown p ≡ false → has_place p f.images ≡ false → is_place_used (fs ++ f ∷ []) shown p ≡ false
used_more [] f shown p none new = rw new none
used_more (g ∷ fs) f shown p none new = by (has_place p g.images) none (used_more fs f shown p)
  where
    by : (b : Bool) → (b || list_any (λ x. has_place p x.images) fs) || has_place p shown ≡ false → (is_place_used fs shown p ≡ false → has_place p f.images ≡ false → is_place_used (fs ++ f ∷ []) shown p ≡ false)
        → (b || list_any (λ x. has_place p x.images) (fs ++ f ∷ [])) || has_place p shown ≡ false
    by true none more = absurd (true≢false none)
    by false none more = more none new

-- images that live chains released last aren't in a free place
last_places : (chains : List Chain) (p : ℕ) (images : List Image) → is_taken (slice_get chains p) ≡ false → Each (IsLast chains) images → has_place p images ≡ false
last_places chains p [] none each = refl
last_places chains p (i ∷ images) none each = rw (by (i.place == p) refl) (last_places chains p images none each.1)
  where
    by : (b : Bool) → (i.place == p) ≡ b → b ≡ false
    by true eb =
        let here : is_taken (slice_get chains i.place) ≡ false = subst (λ (n : ℕ). is_taken (slice_get chains n) ≡ false) (sym (same_key i.place p eb)) none in
        let some : is_taken (slice_get chains i.place) ≡ true = rw (each.0.at, each.0.named) refl in
        absurd (true≢false (sym some ∙ here))
    by false eb = refl

-- nor is one the image that an application waited for
last_isnt_waited : (row : List Slot) (chains : List Chain) (p : ℕ) (c : Chain) (images : List Image) → slice_get chains p ≡ Some c → PlaceIsSound row c → c.has_waited ≡ true → Each (IsLast chains) images → times_in images (3 * p + oldest_of c.acquired) ≡ 0
last_isnt_waited row chains p c images at sound waited each = times_none (3 * p + oldest_of c.acquired) images (each_so (IsLast chains) (λ i. (slot_of i == 3 * p + oldest_of c.acquired) ≡ false) one images each)
  where
    one : (i : Image) → IsLast chains i → (slot_of i == 3 * p + oldest_of c.acquired) ≡ false
    one i last = is_false (slot_of i == 3 * p + oldest_of c.acquired) (λ eb.
        let same = slots_apart i p (oldest_of c.acquired) last.below (oldest_below c.is_static c.acquired c.next sound.run) (same_key (slot_of i) (3 * p + oldest_of c.acquired) eb) in
        let chain : last.chain ≡ c = same_some last.chain c (sym last.at ∙ ap (λ (n : ℕ). slice_get chains n) same.0 ∙ at) in
        waited_isnt_last row c sound waited (ap (λ (d : Chain). d.last) (sym chain) ∙ last.last ∙ ap (λ (n : ℕ). Some n) same.1))

-- a frame is pending
sound_ended : (row : List Slot) (chains : List Chain) (pending : List PendingFrame) (shown held : List Image) (f : PendingFrame) → FrameIsSound f → Each (IsLast chains) f.images
    → IsSound row chains pending shown held → IsSound row chains (pending ++ f ∷ []) shown held
sound_ended row chains pending shown held f new each sound = record {
  all = sound.all;
  places = sound.places;
  unused = λ p none. used_more pending f shown p (sound.unused p none) (last_places chains p f.images none each);
  idle = λ p. idle p (slice_get chains p) refl (sound.places p) (sound.idle p);
  frames = frames_more pending f sound.frames new;
  last = sound.last;
  left = sound.left;
}
  where
    idle : (p : ℕ) (o : Option Chain) → slice_get chains p ≡ o → OptIsSound (PlaceIsSound row) o → IsIdle pending held p o → IsIdle (pending ++ f ∷ []) held p o
    idle p None at good before = tt
    idle p (Some c) at good before = λ waited.
        let none = last_isnt_waited row chains p c f.images at good waited each in
        let zero_before = before waited in
        let more = uses_more pending f (3 * p + oldest_of c.acquired) in
        omega (arith, none, zero_before, more)

-- the images of a frame that nothing refuses were released last, and are in it once
pub submitted_images : (s : CoreState) (held : List Image) → IsSound s.handles.chains s.chains s.frames.pending s.shown_images held → (session : ℕ) (time : ℤ) (blend : Blend) (layers : List Layer)
    → first_of (frame_checks (look_of s session) time blend layers) ≡ None → AreOnce (IsLast s.chains) (new_frame s session time layers).images
submitted_images s held sound session time blend layers none =
    let checks = (none_of (form_checks time blend layers) (flat_map (layer_checks (look_of s session)) layers) none).1 in
    let each = layers_are_last s session (PlaceIsSound s.handles.chains) (λ c good. good.last) sound.places layers checks in
    once_of (IsLast s.chains) (λ i last. last.below) [] (layers_of (look_of s session) layers) (record { each = tt; once = λ k. omega arith }) each

-- ---- an entry

abbrev KeptBy : CoreState → List Image → CoreState → Did → Type 0
KeptBy s held t did = IsSound t.handles.chains t.chains t.frames.pending t.shown_images (held_after held did)

-- a call did nothing, or what its rule says where nothing refuses it
pub effect_kept : (P : CoreState → Did → Type 0) (s : CoreState) (short : Bool) (f : Rule) → P s nothing_done → (refusal short f ≡ None → P f.effect.state f.effect.did) → P (carried_out s short f).state (carried_out s short f).did
effect_kept P s short f nothing done = by (refusal short f) refl f.on
  where
    by : (o : Option Refusal) → refusal short f ≡ o → (on : Option Loss) → P (unless_refused s o (told_on on f.effect)).state (unless_refused s o (told_on on f.effect)).did
    by None found None = done found
    by None found (Some loss) = done found
    by (Some r) found on = nothing

pub acquire_some : (o : Option Chain) → is_acquire_wrong o ≡ false → (c : Chain) × (o ≡ Some c)
unfolding is_acquire_wrong
acquire_some None free = absurd (true≢false free)
acquire_some (Some c) free = (c, refl)

pub wait_some : (o : Option Chain) → is_wait_wrong o ≡ false → (c : Chain) × (o ≡ Some c)
unfolding is_wait_wrong
wait_some None free = absurd (true≢false free)
wait_some (Some c) free = (c, refl)

pub paint_some : (o : Option Chain) → is_paint_wrong o ≡ false → (c : Chain) × (o ≡ Some c)
unfolding is_paint_wrong
paint_some None free = absurd (true≢false free)
paint_some (Some c) free = (c, refl)

-- a wait that is ready and isn't refused finds its image unused
pub is_unused : (unused up : Bool) → not (not unused && not up) ≡ true → not unused && up ≡ false → unused ≡ true
is_unused true up ready free = refl
is_unused false true ready free = absurd (true≢false free)
is_unused false false ready free = absurd (true≢false (sym ready))

none_left_used : (pending : List PendingFrame) (f : PendingFrame) (shown : List Image) (p : ℕ) → is_place_used (f ∷ pending) shown p ≡ false → is_place_used pending f.images p ≡ false
none_left_used pending f shown p none = by (has_place p f.images) (list_any (λ x. has_place p x.images) pending) none
  where
    by : (a b : Bool) → (a || b) || has_place p shown ≡ false → b || a ≡ false
    by true b none = absurd (true≢false none)
    by false true none = absurd (true≢false none)
    by false false none = refl

drop_none : (n : ℕ) → drop {A = Image} n [] ≡ []
drop_none zero = refl
drop_none (suc n) = refl

drop_twice : (m n : ℕ) (images : List Image) → drop n (drop m images) ≡ drop (m + n) images
drop_twice zero n images = let same : n ≡ 0 + n = omega arith in ap (λ (k : ℕ). drop k images) same
drop_twice (suc m) n [] = drop_none n ∙ sym (drop_none (suc m + n))
drop_twice (suc m) n (i ∷ images) = let same : suc (m + n) ≡ suc m + n = omega arith in drop_twice m n images ∙ ap (λ (k : ℕ). drop k (i ∷ images)) same

module _ (s : CoreState) (held : List Image) (sound : IsSound s.handles.chains s.chains s.frames.pending s.shown_images held) where
  -- a live chain changes
  sound_chain : (chain : ℕ) (f : Chain → Chain) (c : Chain) → chain_at s.chains chain ≡ Some c → is_live s.handles Swapchain chain ≡ true → (f c).handle ≡ c.handle
      → (is_live_in s.handles.chains c.handle ≡ true → PlaceIsSound s.handles.chains c → PlaceIsSound s.handles.chains (f c))
      → (PlaceIsSound s.handles.chains c → (c.has_waited ≡ true → count_of s.frames.pending held (3 * place_of_chain s.chains chain + oldest_of c.acquired) ≡ 0) → (f c).has_waited ≡ true → count_of s.frames.pending held (3 * place_of_chain s.chains chain + oldest_of (f c).acquired) ≡ 0)
      → IsSound s.handles.chains (with_chain_at chain f s.chains) s.frames.pending s.shown_images held
  sound_chain chain f c found live named good idle =
      let at = found_at (is_chain chain) s.chains c found in
      let place : PlaceIsSound s.handles.chains c = subst (OptIsSound (PlaceIsSound s.handles.chains)) at (sound.places (place_of_chain s.chains chain)) in
      let is : c.handle ≡ chain = is_named chain c (found_good (is_chain chain) s.chains c found) in
      let here : is_live_in s.handles.chains c.handle ≡ true = subst (λ (n : ℕ). is_live_in s.handles.chains n ≡ true) (sym is) live in
      let nz : (c.handle == 0) ≡ false = not_true (c.handle == 0) (both_of (not (c.handle == 0)) (has s.handles.chains c.handle) here).0 in
      sound_changed s.handles.chains s.handles.chains s.chains (with_chain_at chain f s.chains) s.frames.pending s.shown_images held (place_of_chain s.chains chain) (f c) (λ q l. l) (length_changed chain f s.chains)
      (λ p. ap (λ (l : List Chain). slice_get l p) (changed_is_set chain f s.chains c found) ∙ set_at s.chains (place_of_chain s.chains chain) p (f c) c at)
      (good here place) (subst (λ (n : ℕ). (n == 0) ≡ false) (sym named) nz)
      (idle place (subst (IsIdle s.frames.pending held (place_of_chain s.chains chain)) at (sound.idle (place_of_chain s.chains chain)))) sound

  -- a chain is created
  sound_created : (session g w k : ℕ) (fixed : Bool) → (g == 0) ≡ false → has_free_place s.chains ≡ true → has_room s.handles Swapchain ≡ true
      → IsSound (with_handle s.handles Swapchain session g).chains (with_chain s.chains (new_chain g w k fixed)) s.frames.pending s.shown_images held
  sound_created session g w k fixed nz free room =
      let found = any_found (λ c. c.handle == 0) s.chains free in
      let live : is_live_in (with_handle s.handles Swapchain session g).chains g ≡ true = rw (nz, has_new (record { handle = g; parent = session }) s.handles.chains room) refl in
      sound_changed s.handles.chains (with_handle s.handles Swapchain session g).chains s.chains (with_chain s.chains (new_chain g w k fixed)) s.frames.pending s.shown_images held (first_place s.chains) (new_chain g w k fixed)
      keeps (length_new s.chains (new_chain g w k fixed))
      (λ p. ap (λ (l : List Chain). slice_get l p) (new_is_set s.chains (new_chain g w k fixed) found.0 found.1) ∙ set_at s.chains (first_place s.chains) p (new_chain g w k fixed) found.0 (found_at (λ c. c.handle == 0) s.chains found.0 found.1))
      (new_is_sound (with_handle s.handles Swapchain session g).chains g w k fixed live) nz (λ waited. absurd (true≢false (sym waited))) sound
    where
      keeps : (q : ℕ) → is_live_in s.handles.chains q ≡ true → is_live_in (with_handle s.handles Swapchain session g).chains q ≡ true
      keeps q live =
          let two = both_of (not (q == 0)) (has s.handles.chains q) live in
          let nz = not_true (q == 0) two.0 in
          rw (nz, has_put (record { handle = g; parent = session }) s.handles.chains q nz two.1) refl

  -- handles go
  sound_without : (h : Handles) → IsSound h.chains (left_in_places h (is_place_used s.frames.pending s.shown_images) 0 s.chains) s.frames.pending s.shown_images held
  sound_without h = sound_left s.handles.chains h s.chains s.frames.pending s.frames.pending s.shown_images s.shown_images held held (λ p none. none) (λ k none. none) sound.frames sound.last sound.left sound

  -- an image is given back
  sound_returned : (n : ℕ) → IsSound s.handles.chains s.chains s.frames.pending s.shown_images (drop n held)
  sound_returned n = record {
    all = sound.all;
    places = sound.places;
    unused = sound.unused;
    idle = λ p. idle p (slice_get s.chains p) (sound.idle p);
    frames = sound.frames;
    last = sound.last;
    left = record { gone = sound.left.gone + n; are = ap (λ (l : List Image). drop n l) sound.left.are ∙ drop_twice sound.left.gone n s.shown_images };
  }
    where
      idle : (p : ℕ) (o : Option Chain) → IsIdle s.frames.pending held p o → IsIdle s.frames.pending (drop n held) p o
      idle p None before = tt
      idle p (Some c) before = λ waited. let none = before waited in let less = times_left n held (3 * p + oldest_of c.acquired) in omega (arith, none, less)

-- the oldest frame is taken
sound_taken : (row : List Slot) (h : Handles) (chains : List Chain) (f : PendingFrame) (fs : List PendingFrame) (shown : List Image) → IsSound row chains (f ∷ fs) shown []
    → IsSound h.chains (left_in_places h (is_place_used fs f.images) 0 chains) fs f.images f.images
sound_taken row h chains f fs shown sound =
    sound_left row h chains (f ∷ fs) fs shown f.images [] f.images (none_left_used fs f shown) (λ k none. omega (arith, none)) sound.frames.1 sound.frames.0.images (record { gone = 0; are = refl }) sound

-- or there is none
sound_next : (h : Handles) (chains : List Chain) (pending : List PendingFrame) (shown held : List Image) → held ≡ [] → IsSound h.chains chains pending shown held
    → IsSound h.chains (chains_behind h pending chains) (drop 1 pending) (shown_behind pending shown) (first_images pending ++ held)
sound_next h chains [] shown held none sound = sound
sound_next h chains (f ∷ fs) shown held none sound =
    let before : IsSound h.chains chains (f ∷ fs) shown [] = rw none at sound in
    rw (none, append-nil f.images) (sound_taken h.chains h chains f fs shown before)

events_leave : (s : CoreState) (held : List Image) (what : DeviceEvent) → IsSound s.handles.chains s.chains s.frames.pending s.shown_images held
    → IsSound (behind_event s what).handles.chains (behind_event s what).chains (behind_event s what).frames.pending (behind_event s what).shown_images held
events_leave s held (event.Clock time) sound = sound
events_leave s held _ sound = sound

-- Every entry that is allowed and ready keeps it.
pub sound_step : (s : State) (e : Entry) → IsAllowed s e → ready s e ≡ true → StateIsSound s → StateIsSound (step s e).0
sound_step s e allowed is_ready sound = by e.call allowed is_ready
  where
    by : (r : Call) → IsAllowed s (record e { call = r }) → ready s (record e { call = r }) ≡ true → StateIsSound (step s (record e { call = r })).0
    by (ask.CreateSwapchain session format width height fixed) allowed is_ready = effect_kept (KeptBy s.core s.cells.held) s.core e.short f sound made
      where
        x : Entry
        x = record e { call = ask.CreateSwapchain session format width height fixed }

        f : Rule
        f = rule s.core (reads_of s (ask.CreateSwapchain session format width height fixed)) x

        made : refusal e.short f ≡ None → KeptBy s.core s.cells.held f.effect.state f.effect.did
        made none =
            let behind = (clear f e.short none).behind in
            let one = none_first (not (is_format format)) SwapchainFormatUnsupported (when (not (is_size width && is_size height)) ValidationFailure ∷ no_place s.core.chains ∷ no_room s.core.handles Swapchain ∷ []) behind in
            let two = none_first (not (is_size width && is_size height)) ValidationFailure (no_place s.core.chains ∷ no_room s.core.handles Swapchain ∷ []) one.1 in
            let three = none_first (not (has_free_place s.core.chains)) LimitReached (no_room s.core.handles Swapchain ∷ []) two.1 in
            let four = none_first (not (has_room s.core.handles Swapchain)) LimitReached [] three.1 in
            let good = success_succeeds (loss_of (life_of s.core session)) in
            let done_is = goes s.core (refusal e.short f) (told_on f.on f.effect) none in
            let new = given_one (is_some f.creates && is_success (step s x).1.reply.code) s.core.handles e.given (ap (λ (y : Effect). is_success y.code) done_is ∙ good) allowed.handle in
            sound_created s.core s.cells.held sound session e.given width height fixed (is_false (e.given == 0) (λ eb. new.0 (same_key e.given 0 eb))) (not_false (has_free_place s.core.chains) three.0) (not_false (has_room s.core.handles Swapchain) four.0)
    by (ask.AcquireImage chain) allowed is_ready =
        let f = rule s.core (reads_of s (ask.AcquireImage chain)) (record e { call = ask.AcquireImage chain }) in
        effect_kept (KeptBy s.core s.cells.held) s.core e.short f sound (λ none.
        let free = clear f e.short none in
        let some = acquire_some (chain_at s.core.chains chain) free.order in
        sound_chain s.core s.cells.held sound chain acquiring some.0 some.1 (is_live_by (is_live s.core.handles Swapchain chain) free.handles) refl
        (λ live good. acquired_is_sound s.core.handles.chains some.0 live good (sym (ap is_acquire_wrong some.1) ∙ free.order))
        (λ good idle waited. subst (λ (n : ℕ). count_of s.core.frames.pending s.cells.held (3 * place_of_chain s.core.chains chain + n) ≡ 0) (sym (oldest_stays s.core.handles.chains some.0 some.0.next good waited)) (idle waited)))
    by (ask.WaitImage chain timeout start) allowed is_ready =
        let x = record e { call = ask.WaitImage chain timeout start } in
        let f = rule s.core (reads_of s (ask.WaitImage chain timeout start)) x in
        effect_kept (KeptBy s.core s.cells.held) s.core e.short f sound (λ none.
        let free = clear f e.short none in
        let some = wait_some (chain_at s.core.chains chain) free.order in
        let unused = (reads_of s (ask.WaitImage chain timeout start)).unused in
        let up = is_up s.core.device.clock timeout start in
        let zero_count = is_unused unused up (is_ready_to s.core (reads_of s (ask.WaitImage chain timeout start)) x is_ready free.whole) (none_first (not unused && up) TimeoutExpired [] free.behind).0 in
        sound_chain s.core s.cells.held sound chain waiting some.0 some.1 (is_live_by (is_live s.core.handles Swapchain chain) free.handles) refl
        (λ live good. waited_is_sound s.core.handles.chains some.0 live good (sym (ap is_wait_wrong some.1) ∙ free.order))
        (λ good idle waited. subst (λ (o : Option Chain). count_of s.core.frames.pending s.cells.held (3 * place_of_chain s.core.chains chain + oldest_index o) ≡ 0) some.1 (same_key (count_of s.core.frames.pending s.cells.held (slot_of (oldest_image s.core.chains chain))) 0 zero_count)))
    by (ask.ReleaseImage chain) allowed is_ready =
        let f = rule s.core (reads_of s (ask.ReleaseImage chain)) (record e { call = ask.ReleaseImage chain }) in
        effect_kept (KeptBy s.core s.cells.held) s.core e.short f sound (λ none.
        let free = clear f e.short none in
        let some = paint_some (chain_at s.core.chains chain) free.order in
        sound_chain s.core s.cells.held sound chain releasing some.0 some.1 (is_live_by (is_live s.core.handles Swapchain chain) free.handles) refl
        (λ live good. released_is_sound s.core.handles.chains some.0 live good (sym (ap is_paint_wrong some.1) ∙ free.order))
        (λ good idle waited. absurd (true≢false (sym waited))))
    by (ask.EndFrame session time blend layers) allowed is_ready =
        let f = rule s.core (reads_of s (ask.EndFrame session time blend layers)) (record e { call = ask.EndFrame session time blend layers }) in
        effect_kept (KeptBy s.core s.cells.held) s.core e.short f sound (λ none.
        let once = submitted_images s.core s.cells.held sound session time blend layers (clear f e.short none).behind in
        sound_ended s.core.handles.chains s.core.chains s.core.frames.pending s.core.shown_images s.cells.held (new_frame s.core session time layers)
        (record { images = record { each = each_so (IsLast s.core.chains) IsBelow (λ i last. last.below) (new_frame s.core session time layers).images once.each; once = once.once }; among = are_among [] (layers_of (look_of s.core session) layers) }) once.each sound)
    by ask.NextFrame allowed is_ready =
        let f = rule s.core (reads_of s ask.NextFrame) (record e { call = ask.NextFrame }) in
        effect_kept (KeptBy s.core s.cells.held) s.core e.short f sound (λ none. taken (none_is_empty s.cells.held (not_false (is_empty s.cells.held) (clear f e.short none).order)))
      where
        taken : s.cells.held ≡ [] → KeptBy s.core s.cells.held (rule s.core (reads_of s ask.NextFrame) (record e { call = ask.NextFrame })).effect.state (rule s.core (reads_of s ask.NextFrame) (record e { call = ask.NextFrame })).effect.did
        taken none = sound_next s.core.handles s.core.chains s.core.frames.pending s.core.shown_images s.cells.held none sound
    by ask.ImageDone allowed is_ready =
        let f = rule s.core (reads_of s ask.ImageDone) (record e { call = ask.ImageDone }) in
        effect_kept (KeptBy s.core s.cells.held) s.core e.short f sound (λ none. sound_returned s.core s.cells.held sound (length (take 1 s.cells.held)))
    by (ask.DestroyInstance instance) allowed is_ready =
        effect_kept (KeptBy s.core s.cells.held) s.core e.short (rule s.core (reads_of s (ask.DestroyInstance instance)) (record e { call = ask.DestroyInstance instance })) sound (λ none. sound_without s.core s.cells.held sound (without s.core.handles instance))
    by (ask.DestroySession session) allowed is_ready =
        effect_kept (KeptBy s.core s.cells.held) s.core e.short (rule s.core (reads_of s (ask.DestroySession session)) (record e { call = ask.DestroySession session })) sound (λ none. sound_without s.core s.cells.held sound (without s.core.handles session))
    by (ask.DestroyActionSet set) allowed is_ready =
        effect_kept (KeptBy s.core s.cells.held) s.core e.short (rule s.core (reads_of s (ask.DestroyActionSet set)) (record e { call = ask.DestroyActionSet set })) sound (λ none. sound_without s.core s.cells.held sound (without s.core.handles set))
    by (ask.DestroyAction action) allowed is_ready =
        effect_kept (KeptBy s.core s.cells.held) s.core e.short (rule s.core (reads_of s (ask.DestroyAction action)) (record e { call = ask.DestroyAction action })) sound (λ none. sound_without s.core s.cells.held sound (without s.core.handles action))
    by (ask.DestroySwapchain chain) allowed is_ready =
        effect_kept (KeptBy s.core s.cells.held) s.core e.short (rule s.core (reads_of s (ask.DestroySwapchain chain)) (record e { call = ask.DestroySwapchain chain })) sound (λ none. sound_without s.core s.cells.held sound (without_alone s.core.handles Swapchain chain))
    by (ask.Device what) allowed is_ready = effect_kept (KeptBy s.core s.cells.held) s.core e.short (rule s.core (reads_of s (ask.Device what)) (record e { call = ask.Device what })) sound (λ none. events_leave s.core s.cells.held what sound)
    by r allowed is_ready = effect_kept (KeptBy s.core s.cells.held) s.core e.short (rule s.core (reads_of s r) (record e { call = r })) sound (λ none. sound)

-- ---- histories

pub sound_after : (s : State) (clocks : List ℤ) (es : List Entry) → IsLegalFrom s clocks es → StateIsSound s → StateIsSound (after s es)
sound_after s clocks [] legal sound = sound
sound_after s clocks (e ∷ es) legal sound = sound_after (step s e).0 (clocks_after clocks e (step s e).0) es legal.3 (sound_step s e legal.0 legal.2 sound)

pub sound_opening : (settings : Settings) → StateIsSound (opening settings)
sound_opening settings = record {
  all = refl;
  places = place SWAPCHAINS;
  unused = λ p none. refl;
  idle = λ p. idle SWAPCHAINS p p;
  frames = tt;
  last = record { each = tt; once = λ k. omega arith };
  left = record { gone = 0; are = refl };
}
  where
    place : (n p : ℕ) → OptIsSound (PlaceIsSound (opening settings).core.handles.chains) (slice_get (replicate n free_place) p)
    place zero p = tt
    place (suc n) zero = free_is_sound (opening settings).core.handles.chains
    place (suc n) (suc p) = place n p

    idle : (n p q : ℕ) → IsIdle [] [] q (slice_get (replicate n free_place) p)
    idle zero p q = tt
    idle (suc n) zero q = λ waited. refl
    idle (suc n) (suc p) q = idle n p q

-- After every legal history the state is sound.
pub sound_history : (settings : Settings) (es : List Entry) → IsLegal settings es → StateIsSound (after (opening settings) es)
sound_history settings es legal = sound_after (opening settings) (opening_clocks settings) es legal (sound_opening settings)
