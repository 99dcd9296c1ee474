-- What an entry does to an image's count and to its owner is what it did.
use Rattle.std.proofs.Common.{◌≡◌, ◌+◌, ◌==◌, ◌&&◌, ◌||◌, ℕ, Bool, true, false, not, List, [], ◌∷◌, ◌++◌, drop, take, length, Option, Some, None, option_map, slice_get, refl, sym, ap, subst, ◌∙◌, append-nil, arith}
use Rattle.std.specs.Prelude.{if◌then◌else◌}
use Rattle.xr_types.specs.declared.code.Code.TheVariants.{SwapchainFormatUnsupported, ValidationFailure, LimitReached}
use Rattle.xr_types.specs.declared.device.DeviceEvent.{DeviceEvent}
use Rattle.xr_types.specs.declared.device.DeviceEvent.TheVariants as event
use Rattle.xr_types.specs.declared.frames.Image.{Image}
use Rattle.xr_types.specs.declared.handles.Kind.TheVariants.{Swapchain, ActionSet, Action}
use Rattle.xr_types.specs.declared.handles.Slot.{Slot}
use Rattle.xr_types.specs.Frames.{PendingFrame}
use Rattle.xr_model.specs.machine.Chains.{Chain, free_place, kept_place, new_chain, is_chain, chain_at, place_of_chain, first_place, is_format, is_size, no_place, has_free_place, is_wait_wrong, is_paint_wrong, oldest_of, oldest_index, is_place_used, with_chain, with_chain_at, acquiring, waiting, releasing, left_in_place, left_in_places, freed_in_places, oldest_image}
use Rattle.xr_model.specs.machine.Frames.{is_empty}
use Rattle.xr_model.specs.machine.Handles.{Handles, no_room, is_live, without, without_alone}
use Rattle.xr_model.specs.machine.Images.{slot_of, times_in, uses_of, count_of, first_images}
use Rattle.xr_model.specs.machine.Refusals.{when}
use Rattle.xr_model.specs.machine.Calls.{Entry}
use Rattle.xr_types.specs.declared.calls.Call.{Call}
use Rattle.xr_types.specs.declared.calls.Call.TheVariants as ask
use Rattle.xr_model.specs.machine.State.{CoreState, State}
use Rattle.xr_model.specs.machine.Rule.{Did, nothing_done}
use Rattle.xr_model.specs.machine.Rules.Device.{behind_event}
use Rattle.xr_model.specs.machine.Rules.Frames.{new_frame, chains_behind}
use Rattle.xr_model.specs.machine.Machine.{rule, step, reads_of, held_after}
use Rattle.xr_model.specs.laws.HandleLaws.{AreUnder, StandOnce}
use Rattle.xr_model.specs.laws.ImageLaws.{did_at, has_index, is_had, ImageSteps}
use Rattle.xr_model.specs.laws.Owners.{has_behind}
use Rattle.xr_model.proofs.Rows.{same_key, neither_of}
use Rattle.xr_model.proofs.FrameOrder.{clear, none_first, not_false, is_live_by}
use Rattle.xr_model.proofs.HeldFits.{none_is_empty}
use Rattle.xr_model.proofs.ChainPlaces.{found_good, found_at, any_found, set_at, changed_is_set, new_is_set, left_at, goes_with, freed_at}
use Rattle.xr_model.proofs.SoundPlaces.{oldest_stays}
use Rattle.xr_model.proofs.UntouchedChains.{set_leaves_chains, action_leaves_chains}
use Rattle.xr_model.proofs.SoundImages.{effect_kept, acquire_some, wait_some, paint_some, uses_more}
use Rattle.xr_model.specs.laws.Soundness.{is_live_in, IsBare, PlaceIsSound, OptIsSound, StateIsSound}

-- ---- counts

abbrev CountsBy : State → ℕ → CoreState → Did → Type 0
CountsBy s k t did = count_of t.frames.pending (held_after s.cells.held did) k + times_in did.returned k ≡ count_of s.core.frames.pending s.cells.held k + times_in did.used k

events_count : (s : State) (k : ℕ) (what : DeviceEvent) → CountsBy s k (behind_event s.core what) nothing_done
events_count s k (event.Clock time) = refl
events_count s k _ = refl

returned_once : (u : ℕ) (held : List Image) (k : ℕ) → (u + times_in (drop (length (take 1 held)) held) k) + times_in (take 1 held) k ≡ (u + times_in held k) + 0
returned_once u [] k = refl
returned_once u (i ∷ held) k = omega arith

taken_once : (fs : List PendingFrame) (held : List Image) (k : ℕ) → held ≡ [] → (uses_of (drop 1 fs) k + times_in (first_images fs ++ drop 0 held) k) + 0 ≡ (uses_of fs k + times_in held k) + 0
taken_once [] held k none = refl
taken_once (f ∷ fs) held k none = rw (none, append-nil f.images) (omega arith)

count_step : (s : State) (e : Entry) (k : ℕ) → CountsBy s k (step s e).0.core (did_at s e)
count_step s e k = by e.call
  where
    by : (r : Call) → CountsBy s k (step s (record e { call = r })).0.core (did_at s (record e { call = r }))
    by (ask.EndFrame session time blend layers) = effect_kept (CountsBy s k) s.core e.short (rule s.core (reads_of s (ask.EndFrame session time blend layers)) (record e { call = ask.EndFrame session time blend layers })) refl
        (λ none. let more = uses_more s.core.frames.pending (new_frame s.core session time layers) k in omega (arith, more))
    by ask.NextFrame =
        let f = rule s.core (reads_of s ask.NextFrame) (record e { call = ask.NextFrame }) in
        effect_kept (CountsBy s k) s.core e.short f refl (λ none. taken_once s.core.frames.pending s.cells.held k (none_is_empty s.cells.held (not_false (is_empty s.cells.held) (clear f e.short none).order)))
    by ask.ImageDone = effect_kept (CountsBy s k) s.core e.short (rule s.core (reads_of s ask.ImageDone) (record e { call = ask.ImageDone })) refl (λ none. returned_once (uses_of s.core.frames.pending k) s.cells.held k)
    by (ask.Device what) = effect_kept (CountsBy s k) s.core e.short (rule s.core (reads_of s (ask.Device what)) (record e { call = ask.Device what })) refl (λ none. events_count s k what)
    by r = effect_kept (CountsBy s k) s.core e.short (rule s.core (reads_of s r) (record e { call = r })) refl (λ none. refl)

-- ---- owners

abbrev HadBy : CoreState → Image → CoreState → Did → Type 0
HadBy s i t did = is_had t i ≡ has_behind i did (is_had s i)

events_had : (s : CoreState) (i : Image) (what : DeviceEvent) → HadBy s i (behind_event s what) nothing_done
events_had s i (event.Clock time) = refl
events_had s i _ = refl

-- one place has another chain
had_set : (chains new : List Chain) (n : ℕ) (c d : Chain) (i : Image) (did : Did) → slice_get chains n ≡ Some c → ((p : ℕ) → slice_get new p ≡ (if n == p then Some d else slice_get chains p))
    → ((n == i.place) ≡ true → has_index (Some d) i.index ≡ has_behind i did (has_index (Some c) i.index)) → ((n == i.place) ≡ false → (b : Bool) → b ≡ has_behind i did b)
    → has_index (slice_get new i.place) i.index ≡ has_behind i did (has_index (slice_get chains i.place) i.index)
had_set chains new n c d i did at set own other = rw (set i.place) (by (n == i.place) refl)
  where
    by : (b : Bool) → (n == i.place) ≡ b → has_index (if b then Some d else slice_get chains i.place) i.index ≡ has_behind i did (has_index (slice_get chains i.place) i.index)
    by true eb = own eb ∙ ap (λ (o : Option Chain). has_behind i did (has_index o i.index)) (sym at ∙ ap (λ (k : ℕ). slice_get chains k) (same_key n i.place eb))
    by false eb = other eb (has_index (slice_get chains i.place) i.index)

-- chains that aren't live are gone, and these images go with them
had_left : (h : Handles) (used : Bool) (o : Option Chain) (n : ℕ) → has_index (option_map (left_in_place h used) o) n ≡ (if goes_with h n o then false else has_index o n)
had_left h used None n = refl
had_left h used (Some c) n = by (is_live_in h.chains c.handle) (not (c.handle == 0) && used)
  where
    waited : (w b : Bool) → false ≡ (if w && b then false else w && b)
    waited true true = refl
    waited true false = refl
    waited false b = refl

    by : (a b : Bool) → has_index (Some (if a then c else if b then kept_place c.handle else free_place)) n ≡ (if (not a && c.has_waited) && (oldest_of c.acquired == n) then false else c.has_waited && (oldest_of c.acquired == n))
    by true b = refl
    by false true = waited c.has_waited (oldest_of c.acquired == n)
    by false false = waited c.has_waited (oldest_of c.acquired == n)

-- where no chain that an application had waited with goes, no image goes
had_kept : (row : List Slot) (h : Handles) (used : Bool) (o : Option Chain) (n : ℕ) → ((q : ℕ) → is_live_in row q ≡ true → is_live_in h.chains q ≡ true) → OptIsSound (PlaceIsSound row) o → has_index (option_map (left_in_place h used) o) n ≡ has_index o n
had_kept row h used None n keeps sound = refl
had_kept row h used (Some c) n keeps sound = by (is_live_in row c.handle) refl
  where
    bare : (c.has_waited ≡ false) → (a b : Bool) → has_index (Some (if a then c else if b then kept_place c.handle else free_place)) n ≡ c.has_waited && (oldest_of c.acquired == n)
    bare none true b = refl
    bare none false true = rw none refl
    bare none false false = rw none refl

    by : (l : Bool) → is_live_in row c.handle ≡ l → has_index (Some (left_in_place h used c)) n ≡ has_index (Some c) n
    by true live = rw (keeps c.handle live) refl
    by false dead = bare (sound.bare dead).has_waited (is_live_in h.chains c.handle) (not (c.handle == 0) && used)

module _ (s : State) (i : Image) (sound : StateIsSound s) where
  -- handles go with the images below them
  had_without : (h : Handles) (t : CoreState) (did : Did) → t.chains ≡ left_in_places h (is_place_used s.core.frames.pending s.core.shown_images) 0 s.core.chains
      → did.claimed ≡ [] → did.freed ≡ freed_in_places h 0 s.core.chains → HadBy s.core i t did
  had_without h t did chains claimed freed =
      let used = is_place_used s.core.frames.pending s.core.shown_images in
      rw (chains, claimed, freed, left_at h used 0 s.core.chains i.place i.place (omega arith), freed_at h i 0 s.core.chains i.place (omega arith))
      (had_left h (used i.place) (slice_get s.core.chains i.place) i.index)

  -- chains that weren't live leave their places
  had_swept : (h : Handles) (used : ℕ → Bool) → ((q : ℕ) → is_live_in s.core.handles.chains q ≡ true → is_live_in h.chains q ≡ true) → has_index (slice_get (left_in_places h used 0 s.core.chains) i.place) i.index ≡ is_had s.core i
  had_swept h used keeps = rw (left_at h used 0 s.core.chains i.place i.place (omega arith)) (had_kept s.core.handles.chains h (used i.place) (slice_get s.core.chains i.place) i.index keeps (sound.places i.place))

  had_taken : (fs : List PendingFrame) → has_index (slice_get (chains_behind s.core.handles fs s.core.chains) i.place) i.index ≡ is_had s.core i
  had_taken [] = refl
  had_taken (f ∷ fs) = had_swept s.core.handles (is_place_used fs f.images) (λ q live. live)

  -- a live chain changes
  had_chain : (chain : ℕ) (f : Chain → Chain) (c : Chain) (did : Did) → chain_at s.core.chains chain ≡ Some c
      → ((place_of_chain s.core.chains chain == i.place) ≡ true → PlaceIsSound s.core.handles.chains c → has_index (Some (f c)) i.index ≡ has_behind i did (has_index (Some c) i.index))
      → ((place_of_chain s.core.chains chain == i.place) ≡ false → (b : Bool) → b ≡ has_behind i did b)
      → has_index (slice_get (with_chain_at chain f s.core.chains) i.place) i.index ≡ has_behind i did (is_had s.core i)
  had_chain chain f c did found own other =
      let at = found_at (is_chain chain) s.core.chains c found in
      let place : PlaceIsSound s.core.handles.chains c = subst (OptIsSound (PlaceIsSound s.core.handles.chains)) at (sound.places (place_of_chain s.core.chains chain)) in
      had_set s.core.chains (with_chain_at chain f s.core.chains) (place_of_chain s.core.chains chain) c (f c) i did at
      (λ p. ap (λ (l : List Chain). slice_get l p) (changed_is_set chain f s.core.chains c found) ∙ set_at s.core.chains (place_of_chain s.core.chains chain) p (f c) c at) (λ eb. own eb place) other

  -- a chain is created in a place that was free
  had_created : (g w k : ℕ) (fixed : Bool) → has_free_place s.core.chains ≡ true → has_index (slice_get (with_chain s.core.chains (new_chain g w k fixed)) i.place) i.index ≡ is_had s.core i
  had_created g w k fixed free =
      let found = any_found (λ c. c.handle == 0) s.core.chains free in
      let at = found_at (λ c. c.handle == 0) s.core.chains found.0 found.1 in
      let place : PlaceIsSound s.core.handles.chains found.0 = subst (OptIsSound (PlaceIsSound s.core.handles.chains)) at (sound.places (first_place s.core.chains)) in
      let zero_handle = found_good (λ c. c.handle == 0) s.core.chains found.0 found.1 in
      let bare : IsBare found.0 = place.bare (rw zero_handle refl) in
      had_set s.core.chains (with_chain s.core.chains (new_chain g w k fixed)) (first_place s.core.chains) found.0 (new_chain g w k fixed) i nothing_done at
      (λ p. ap (λ (l : List Chain). slice_get l p) (new_is_set s.core.chains (new_chain g w k fixed) found.0 found.1) ∙ set_at s.core.chains (first_place s.core.chains) p (new_chain g w k fixed) found.0 at)
      (λ eb. rw bare.has_waited refl) (λ eb b. refl)

pub not_waited : (c : Chain) → is_wait_wrong (Some c) ≡ false → c.has_waited ≡ false
unfolding is_wait_wrong
not_waited c free = (neither_of (is_empty c.acquired) c.has_waited free).1

pub was_waited : (c : Chain) → is_paint_wrong (Some c) ≡ false → c.has_waited ≡ true
unfolding is_paint_wrong
was_waited c free = not_false c.has_waited free

-- the application gets the image that it waited for
had_waited : (i : Image) (n : ℕ) (o : Option Chain) (c : Chain) → o ≡ Some c → (n == i.place) ≡ true → c.has_waited ≡ false
    → has_index (Some (waiting c)) i.index ≡ has_behind i (record nothing_done { claimed = record { place = n; index = oldest_index o } ∷ [] }) (has_index (Some c) i.index)
had_waited i n o c is same none = rw (same, is, none) (own (oldest_of c.acquired == i.index))
  where
    own : (b : Bool) → b ≡ (if b || false then true else false)
    own true = refl
    own false = refl

-- and has it no longer once it is released
had_released : (i : Image) (n : ℕ) (o : Option Chain) (c : Chain) → o ≡ Some c → (n == i.place) ≡ true → c.has_waited ≡ true
    → has_index (Some (releasing c)) i.index ≡ has_behind i (record nothing_done { freed = record { place = n; index = oldest_index o } ∷ [] }) (has_index (Some c) i.index)
had_released i n o c is same waited = rw (same, is, waited) (own (oldest_of c.acquired == i.index))
  where
    own : (b : Bool) → false ≡ (if b || false then false else b)
    own true = refl
    own false = refl

had_step : (s : State) (e : Entry) (i : Image) → StandOnce s.core.handles → AreUnder s.core.handles → StateIsSound s → HadBy s.core i (step s e).0.core (did_at s e)
had_step s e i once under sound = by e.call
  where
    by : (r : Call) → HadBy s.core i (step s (record e { call = r })).0.core (did_at s (record e { call = r }))
    by (ask.CreateSwapchain session format width height fixed) =
        let f = rule s.core (reads_of s (ask.CreateSwapchain session format width height fixed)) (record e { call = ask.CreateSwapchain session format width height fixed }) in
        effect_kept (HadBy s.core i) s.core e.short f refl (λ none.
        let behind = (clear f e.short none).behind in
        let one = none_first (not (is_format format)) SwapchainFormatUnsupported (when (not (is_size width && is_size height)) ValidationFailure ∷ no_place s.core.chains ∷ no_room s.core.handles Swapchain ∷ []) behind in
        let two = none_first (not (is_size width && is_size height)) ValidationFailure (no_place s.core.chains ∷ no_room s.core.handles Swapchain ∷ []) one.1 in
        had_created s i sound e.given width height fixed (not_false (has_free_place s.core.chains) (none_first (not (has_free_place s.core.chains)) LimitReached (no_room s.core.handles Swapchain ∷ []) two.1).0))
    by (ask.AcquireImage chain) =
        let f = rule s.core (reads_of s (ask.AcquireImage chain)) (record e { call = ask.AcquireImage chain }) in
        effect_kept (HadBy s.core i) s.core e.short f refl (λ none.
        let some = acquire_some (chain_at s.core.chains chain) (clear f e.short none).order in
        had_chain s i sound chain acquiring some.0 nothing_done some.1 (λ eb good. still some.0 good some.0.has_waited refl) (λ eb b. refl))
      where
        still : (c : Chain) → PlaceIsSound s.core.handles.chains c → (w : Bool) → c.has_waited ≡ w → w && (oldest_of (c.acquired ++ c.next ∷ []) == i.index) ≡ w && (oldest_of c.acquired == i.index)
        still c good true waited = ap (λ (n : ℕ). n == i.index) (oldest_stays s.core.handles.chains c c.next good waited)
        still c good false waited = refl
    by (ask.WaitImage chain timeout start) =
        let f = rule s.core (reads_of s (ask.WaitImage chain timeout start)) (record e { call = ask.WaitImage chain timeout start }) in
        effect_kept (HadBy s.core i) s.core e.short f refl (λ none.
        let order = (clear f e.short none).order in
        let some = wait_some (chain_at s.core.chains chain) order in
        had_chain s i sound chain waiting some.0 (record nothing_done { claimed = oldest_image s.core.chains chain ∷ [] }) some.1
        (λ eb good. had_waited i (place_of_chain s.core.chains chain) (chain_at s.core.chains chain) some.0 some.1 eb (not_waited some.0 (sym (ap is_wait_wrong some.1) ∙ order)))
        (λ eb b. rw eb refl))
    by (ask.ReleaseImage chain) =
        let f = rule s.core (reads_of s (ask.ReleaseImage chain)) (record e { call = ask.ReleaseImage chain }) in
        effect_kept (HadBy s.core i) s.core e.short f refl (λ none.
        let order = (clear f e.short none).order in
        let some = paint_some (chain_at s.core.chains chain) order in
        had_chain s i sound chain releasing some.0 (record nothing_done { freed = oldest_image s.core.chains chain ∷ [] }) some.1
        (λ eb good. had_released i (place_of_chain s.core.chains chain) (chain_at s.core.chains chain) some.0 some.1 eb (was_waited some.0 (sym (ap is_paint_wrong some.1) ∙ order)))
        (λ eb b. rw eb refl))
    by ask.NextFrame = effect_kept (HadBy s.core i) s.core e.short (rule s.core (reads_of s ask.NextFrame) (record e { call = ask.NextFrame })) refl (λ none. had_taken s i sound s.core.frames.pending)
    by (ask.DestroyInstance instance) =
        let f = rule s.core (reads_of s (ask.DestroyInstance instance)) (record e { call = ask.DestroyInstance instance }) in
        effect_kept (HadBy s.core i) s.core e.short f refl (λ none. had_without s i sound (without s.core.handles instance) f.effect.state f.effect.did refl refl refl)
    by (ask.DestroySession session) =
        let f = rule s.core (reads_of s (ask.DestroySession session)) (record e { call = ask.DestroySession session }) in
        effect_kept (HadBy s.core i) s.core e.short f refl (λ none. had_without s i sound (without s.core.handles session) f.effect.state f.effect.did refl refl refl)
    by (ask.DestroySwapchain chain) =
        let f = rule s.core (reads_of s (ask.DestroySwapchain chain)) (record e { call = ask.DestroySwapchain chain }) in
        effect_kept (HadBy s.core i) s.core e.short f refl (λ none. had_without s i sound (without_alone s.core.handles Swapchain chain) f.effect.state f.effect.did refl refl refl)
    by (ask.DestroyActionSet set) =
        let f = rule s.core (reads_of s (ask.DestroyActionSet set)) (record e { call = ask.DestroyActionSet set }) in
        effect_kept (HadBy s.core i) s.core e.short f refl (λ none.
        let same = set_leaves_chains s.core.handles set once under (is_live_by (is_live s.core.handles ActionSet set) (clear f e.short none).handles) in
        had_swept s i sound (without s.core.handles set) (is_place_used s.core.frames.pending s.core.shown_images) (λ q live. subst (λ (row : List Slot). is_live_in row q ≡ true) (sym same) live))
    by (ask.DestroyAction action) =
        let f = rule s.core (reads_of s (ask.DestroyAction action)) (record e { call = ask.DestroyAction action }) in
        effect_kept (HadBy s.core i) s.core e.short f refl (λ none.
        let same = action_leaves_chains s.core.handles action once under (is_live_by (is_live s.core.handles Action action) (clear f e.short none).handles) in
        had_swept s i sound (without s.core.handles action) (is_place_used s.core.frames.pending s.core.shown_images) (λ q live. subst (λ (row : List Slot). is_live_in row q ≡ true) (sym same) live))
    by (ask.Device what) = effect_kept (HadBy s.core i) s.core e.short (rule s.core (reads_of s (ask.Device what)) (record e { call = ask.Device what })) refl (λ none. events_had s.core i what)
    by r = effect_kept (HadBy s.core i) s.core e.short (rule s.core (reads_of s r) (record e { call = r })) refl (λ none. refl)

pub image_steps : (s : State) (e : Entry) (i : Image) → StandOnce s.core.handles → AreUnder s.core.handles → StateIsSound s → ImageSteps s e i
image_steps s e i once under sound = record { count = count_step s e (slot_of i); had = had_step s e i once under sound }
