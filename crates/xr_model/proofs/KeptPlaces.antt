-- A place that isn't free has a live swapchain, or frames use it.
use Rattle.std.proofs.Common.{◌≡◌, ◌==◌, ◌&&◌, ◌||◌, ℕ, zero, suc, Bool, true, false, not, List, [], ◌∷◌, ◌++◌, drop, replicate, Option, Some, None, option_map, slice_get, refl, sym, ap, subst, ◌∙◌, arith, true≢false}
use Rattle.std.specs.Prelude.{if◌then◌else◌}
use Rattle.std.specs.List.{list_any}
use Rattle.std.proofs.lemmas.List.Folds.{list_any-append}
use Rattle.xr_types.specs.declared.code.Code.TheVariants.{SwapchainFormatUnsupported, ValidationFailure, LimitReached}
use Rattle.xr_types.specs.declared.calls.Call.{Call}
use Rattle.xr_types.specs.declared.calls.Call.TheVariants as ask
use Rattle.xr_types.specs.declared.device.DeviceEvent.{DeviceEvent}
use Rattle.xr_types.specs.declared.device.DeviceEvent.TheVariants as event
use Rattle.xr_types.specs.declared.frames.Image.{Image}
use Rattle.xr_types.specs.declared.handles.Kind.TheVariants.{Swapchain}
use Rattle.xr_types.specs.declared.handles.Slot.{Slot}
use Rattle.xr_types.specs.declared.handles.TheConstants.{SWAPCHAINS}
use Rattle.xr_types.specs.Frames.{PendingFrame}
use Rattle.xr_model.specs.machine.Calls.{Entry}
use Rattle.xr_model.specs.machine.Chains.{Chain, free_place, kept_place, new_chain, is_chain, chain_at, place_of_chain, first_place, is_format, is_size, no_place, has_free_place, has_place, is_place_used, with_chain, with_chain_at, acquiring, waiting, releasing, left_in_place, left_in_places}
use Rattle.xr_model.specs.machine.Handles.{Handles, has, has_room, no_room, with_handle, without, without_alone}
use Rattle.xr_model.specs.machine.Refusals.{when}
use Rattle.xr_model.specs.machine.Rules.Device.{behind_event}
use Rattle.xr_model.specs.machine.Rules.Frames.{chains_behind, new_frame, shown_behind}
use Rattle.xr_model.specs.machine.State.{CoreState, Settings, State, opening}
use Rattle.xr_model.specs.machine.Machine.{reads_of, rule, step}
use Rattle.xr_model.specs.machine.History.{after}
use Rattle.xr_model.specs.laws.ImageUseLaws.{KeptPlacesAreUsed}
use Rattle.xr_model.specs.laws.Soundness.{is_live_in}
use Rattle.xr_model.proofs.ChainPlaces.{any_found, changed_is_set, found_at, left_at, new_is_set, set_at}
use Rattle.xr_model.proofs.FrameOrder.{clear, none_first, not_false}
use Rattle.xr_model.proofs.Rows.{both_of, has_new, has_put, not_true, or_true, same_key}
use Rattle.xr_model.proofs.SoundImages.{acquire_some, effect_kept, paint_some, wait_some}

-- the chain of this place is live, or its place is used, where it isn't free
abbrev IsKept : List Slot → Bool → Option Chain → Type 0
IsKept row used None = Unit {0}
IsKept row used (Some c) = (c.handle == 0) ≡ false → is_live_in row c.handle || used ≡ true

abbrev AreKept : List Slot → List Chain → List PendingFrame → List Image → Type 0
AreKept row chains pending shown = (p : ℕ) → IsKept row (is_place_used pending shown p) (slice_get chains p)

abbrev StateKeeps : CoreState → Type 0
StateKeeps s = AreKept s.handles.chains s.chains s.frames.pending s.shown_images

-- ---- more is live or used

or_more : (a b c d : Bool) → (a ≡ true → c ≡ true) → (b ≡ true → d ≡ true) → a || b ≡ true → c || d ≡ true
or_more true b c d live used e = rw (live refl) refl
or_more false b c d live used e = rw (used e) (or_true c)

kept_more : (row more : List Slot) (used now : Bool) → ((q : ℕ) → is_live_in row q ≡ true → is_live_in more q ≡ true) → (used ≡ true → now ≡ true) → (o : Option Chain) → IsKept row used o → IsKept more now o
kept_more row more used now live uses None kept = tt
kept_more row more used now live uses (Some c) kept = λ taken. or_more (is_live_in row c.handle) used (is_live_in more c.handle) now (live c.handle) uses (kept taken)

-- ---- chains that aren't live go

kept_left : (h : Handles) (used : Bool) (o : Option Chain) → IsKept h.chains used (option_map (left_in_place h used) o)
kept_left h used None = tt
kept_left h used (Some c) = by (is_live_in h.chains c.handle) refl (not (c.handle == 0)) used
  where
    by : (a : Bool) → is_live_in h.chains c.handle ≡ a → (z b : Bool) → IsKept h.chains b (Some (if a then c else if z && b then kept_place c.handle else free_place))
    by true ea z b taken = rw ea refl
    by false ea true true taken = or_true (is_live_in h.chains c.handle)
    by false ea true false taken = absurd (true≢false taken)
    by false ea false b taken = absurd (true≢false taken)

all_left : (h : Handles) (pending : List PendingFrame) (shown : List Image) (chains : List Chain) → AreKept h.chains (left_in_places h (is_place_used pending shown) 0 chains) pending shown
all_left h pending shown chains p = rw (left_at h (is_place_used pending shown) 0 chains p p (omega arith)) (kept_left h (is_place_used pending shown p) (slice_get chains p))

-- ---- one place changes

-- a chain that has changed keeps its handle
kept_changed : (s : CoreState) (chain : ℕ) (f : Chain → Chain) (c : Chain) → ((x : Chain) → (f x).handle ≡ x.handle) → chain_at s.chains chain ≡ Some c → StateKeeps s
    → AreKept s.handles.chains (with_chain_at chain f s.chains) s.frames.pending s.shown_images
kept_changed s chain f c named found kept p =
    let at = found_at (is_chain chain) s.chains c found in
    rw (changed_is_set chain f s.chains c found, set_at s.chains (place_of_chain s.chains chain) p (f c) c at) (by (place_of_chain s.chains chain == p) refl)
  where
    used : Bool
    used = is_place_used s.frames.pending s.shown_images p

    here : (place_of_chain s.chains chain == p) ≡ true → IsKept s.handles.chains used (Some c)
    here same = subst (IsKept s.handles.chains used) (ap (λ (k : ℕ). slice_get s.chains k) (sym (same_key (place_of_chain s.chains chain) p same)) ∙ found_at (is_chain chain) s.chains c found) (kept p)

    by : (b : Bool) → (place_of_chain s.chains chain == p) ≡ b → IsKept s.handles.chains used (if b then Some (f c) else slice_get s.chains p)
    by true eb = λ taken. subst (λ (n : ℕ). is_live_in s.handles.chains n || used ≡ true) (sym (named c)) (here eb (subst (λ (n : ℕ). (n == 0) ≡ false) (named c) taken))
    by false eb = kept p

-- a chain is created
kept_created : (s : CoreState) (session g w k : ℕ) (fixed : Bool) → has_free_place s.chains ≡ true → has_room s.handles Swapchain ≡ true → StateKeeps s
    → AreKept (with_handle s.handles Swapchain session g).chains (with_chain s.chains (new_chain g w k fixed)) s.frames.pending s.shown_images
kept_created s session g w k fixed free room kept p =
    let found = any_found (λ c. c.handle == 0) s.chains free in
    rw (new_is_set s.chains (new_chain g w k fixed) found.0 found.1, set_at s.chains (first_place s.chains) p (new_chain g w k fixed) found.0 (found_at (λ c. c.handle == 0) s.chains found.0 found.1))
    (by (first_place s.chains == p))
  where
    more : List Slot
    more = (with_handle s.handles Swapchain session g).chains

    used : Bool
    used = is_place_used s.frames.pending s.shown_images p

    live : (q : ℕ) → is_live_in s.handles.chains q ≡ true → is_live_in more q ≡ true
    live q is =
        let two = both_of (not (q == 0)) (has s.handles.chains q) is in
        let nz = not_true (q == 0) two.0 in
        rw (nz, has_put (record { handle = g; parent = session }) s.handles.chains q nz two.1) refl

    by : (b : Bool) → IsKept more used (if b then Some (new_chain g w k fixed) else slice_get s.chains p)
    by true = λ taken. rw (taken, has_new (record { handle = g; parent = session }) s.handles.chains room) refl
    by false = kept_more s.handles.chains more used used live (λ e. e) (slice_get s.chains p) (kept p)

-- ---- frames

-- a frame more uses no place less
used_more : (pending : List PendingFrame) (f : PendingFrame) (shown : List Image) (p : ℕ) → is_place_used pending shown p ≡ true → is_place_used (pending ++ f ∷ []) shown p ≡ true
used_more pending f shown p used =
    rw (list_any-append (λ (x : PendingFrame). has_place p x.images) pending (f ∷ [])) (by (list_any (λ (x : PendingFrame). has_place p x.images) pending) (has_place p f.images) used)
  where
    by : (a b : Bool) → a || has_place p shown ≡ true → (a || (b || false)) || has_place p shown ≡ true
    by true b e = refl
    by false true e = refl
    by false false e = e

kept_taken : (h : Handles) (chains : List Chain) (pending : List PendingFrame) (shown : List Image) → AreKept h.chains chains pending shown → AreKept h.chains (chains_behind h pending chains) (drop 1 pending) (shown_behind pending shown)
kept_taken h chains [] shown kept = kept
kept_taken h chains (f ∷ fs) shown kept = all_left h fs f.images chains

-- ---- an entry

events_keep : (s : CoreState) (what : DeviceEvent) → StateKeeps s → StateKeeps (behind_event s what)
events_keep s (event.Clock time) kept = kept
events_keep s _ kept = kept

kept_step : (s : State) (e : Entry) → StateKeeps s.core → StateKeeps (step s e).0.core
kept_step s e kept = by e.call
  where
    by : (r : Call) → StateKeeps (step s (record e { call = r })).0.core
    by (ask.CreateSwapchain session format width height fixed) =
        let f = rule s.core (reads_of s (ask.CreateSwapchain session format width height fixed)) (record e { call = ask.CreateSwapchain session format width height fixed }) in
        effect_kept (λ t did. StateKeeps t) s.core e.short f kept (λ none.
        let behind = (clear f e.short none).behind in
        let one = none_first (not (is_format format)) SwapchainFormatUnsupported (when (not (is_size width && is_size height)) ValidationFailure ∷ no_place s.core.chains ∷ no_room s.core.handles Swapchain ∷ []) behind in
        let two = none_first (not (is_size width && is_size height)) ValidationFailure (no_place s.core.chains ∷ no_room s.core.handles Swapchain ∷ []) one.1 in
        let three = none_first (not (has_free_place s.core.chains)) LimitReached (no_room s.core.handles Swapchain ∷ []) two.1 in
        let four = none_first (not (has_room s.core.handles Swapchain)) LimitReached [] three.1 in
        kept_created s.core session e.given width height fixed (not_false (has_free_place s.core.chains) three.0) (not_false (has_room s.core.handles Swapchain) four.0) kept)
    by (ask.AcquireImage chain) =
        let f = rule s.core (reads_of s (ask.AcquireImage chain)) (record e { call = ask.AcquireImage chain }) in
        effect_kept (λ t did. StateKeeps t) s.core e.short f kept (λ none.
        let some = acquire_some (chain_at s.core.chains chain) (clear f e.short none).order in
        kept_changed s.core chain acquiring some.0 (λ c. refl) some.1 kept)
    by (ask.WaitImage chain timeout start) =
        let f = rule s.core (reads_of s (ask.WaitImage chain timeout start)) (record e { call = ask.WaitImage chain timeout start }) in
        effect_kept (λ t did. StateKeeps t) s.core e.short f kept (λ none.
        let some = wait_some (chain_at s.core.chains chain) (clear f e.short none).order in
        kept_changed s.core chain waiting some.0 (λ c. refl) some.1 kept)
    by (ask.ReleaseImage chain) =
        let f = rule s.core (reads_of s (ask.ReleaseImage chain)) (record e { call = ask.ReleaseImage chain }) in
        effect_kept (λ t did. StateKeeps t) s.core e.short f kept (λ none.
        let some = paint_some (chain_at s.core.chains chain) (clear f e.short none).order in
        kept_changed s.core chain releasing some.0 (λ c. refl) some.1 kept)
    by (ask.EndFrame session time blend layers) =
        effect_kept (λ t did. StateKeeps t) s.core e.short (rule s.core (reads_of s (ask.EndFrame session time blend layers)) (record e { call = ask.EndFrame session time blend layers })) kept
        (λ none p. kept_more s.core.handles.chains s.core.handles.chains (is_place_used s.core.frames.pending s.core.shown_images p) (is_place_used (s.core.frames.pending ++ new_frame s.core session time layers ∷ []) s.core.shown_images p)
        (λ q live. live) (used_more s.core.frames.pending (new_frame s.core session time layers) s.core.shown_images p) (slice_get s.core.chains p) (kept p))
    by ask.NextFrame =
        effect_kept (λ t did. StateKeeps t) s.core e.short (rule s.core (reads_of s ask.NextFrame) (record e { call = ask.NextFrame })) kept
        (λ none. kept_taken s.core.handles s.core.chains s.core.frames.pending s.core.shown_images kept)
    by (ask.DestroyInstance instance) =
        effect_kept (λ t did. StateKeeps t) s.core e.short (rule s.core (reads_of s (ask.DestroyInstance instance)) (record e { call = ask.DestroyInstance instance })) kept
        (λ none. all_left (without s.core.handles instance) s.core.frames.pending s.core.shown_images s.core.chains)
    by (ask.DestroySession session) =
        effect_kept (λ t did. StateKeeps t) s.core e.short (rule s.core (reads_of s (ask.DestroySession session)) (record e { call = ask.DestroySession session })) kept
        (λ none. all_left (without s.core.handles session) s.core.frames.pending s.core.shown_images s.core.chains)
    by (ask.DestroyActionSet set) =
        effect_kept (λ t did. StateKeeps t) s.core e.short (rule s.core (reads_of s (ask.DestroyActionSet set)) (record e { call = ask.DestroyActionSet set })) kept
        (λ none. all_left (without s.core.handles set) s.core.frames.pending s.core.shown_images s.core.chains)
    by (ask.DestroyAction action) =
        effect_kept (λ t did. StateKeeps t) s.core e.short (rule s.core (reads_of s (ask.DestroyAction action)) (record e { call = ask.DestroyAction action })) kept
        (λ none. all_left (without s.core.handles action) s.core.frames.pending s.core.shown_images s.core.chains)
    by (ask.DestroySwapchain chain) =
        effect_kept (λ t did. StateKeeps t) s.core e.short (rule s.core (reads_of s (ask.DestroySwapchain chain)) (record e { call = ask.DestroySwapchain chain })) kept
        (λ none. all_left (without_alone s.core.handles Swapchain chain) s.core.frames.pending s.core.shown_images s.core.chains)
    by (ask.Device what) = effect_kept (λ t did. StateKeeps t) s.core e.short (rule s.core (reads_of s (ask.Device what)) (record e { call = ask.Device what })) kept (λ none. events_keep s.core what kept)
    by r = effect_kept (λ t did. StateKeeps t) s.core e.short (rule s.core (reads_of s r) (record e { call = r })) kept (λ none. kept)

kept_after : (s : State) (es : List Entry) → StateKeeps s.core → StateKeeps (after s es).core
kept_after s [] kept = kept
kept_after s (e ∷ es) kept = kept_after (step s e).0 es (kept_step s e kept)

kept_opening : (settings : Settings) → StateKeeps (opening settings).core
kept_opening settings = place SWAPCHAINS
  where
    place : (n p : ℕ) → IsKept (opening settings).core.handles.chains false (slice_get (replicate n free_place) p)
    place zero p = tt
    place (suc n) zero = λ taken. absurd (true≢false taken)
    place (suc n) (suc p) = place n p

pub kept_places_are_used : KeptPlacesAreUsed
kept_places_are_used settings es place c at taken =
    subst (IsKept (after (opening settings) es).core.handles.chains (is_place_used (after (opening settings) es).core.frames.pending (after (opening settings) es).core.shown_images place)) at
    (kept_after (opening settings) es (kept_opening settings) place) taken
