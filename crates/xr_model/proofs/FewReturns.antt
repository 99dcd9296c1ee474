-- A frame has at most one image of each place, so few images are given back for each frame that is taken.
use Rattle.std.proofs.Common.{◌≡◌, ◌+◌, ◌*◌, ◌<◌, ◌≤◌, ◌==◌, ◌++◌, ℕ, ℤ, zero, suc, Bool, true, false, List, [], ◌∷◌, drop, length, length-append, Option, Some, None, unwrap_or, slice_get, refl, ap, subst, arith}
use Rattle.std.specs.Prelude.{option_and_then}
use Rattle.std.proofs.lemmas.Bool.Decides.{nat_tests}
use Rattle.xr_types.specs.Frames.{PendingFrame}
use Rattle.xr_types.specs.declared.calls.Call.{Call}
use Rattle.xr_types.specs.declared.calls.Call.TheVariants as ask
use Rattle.xr_types.specs.declared.device.DeviceEvent.{DeviceEvent}
use Rattle.xr_types.specs.declared.device.DeviceEvent.TheVariants as event
use Rattle.xr_types.specs.declared.frames.Image.{Image}
use Rattle.xr_types.specs.declared.handles.TheConstants.{SWAPCHAINS}
use Rattle.xr_model.specs.scenario.InRange.{Each}
use Rattle.xr_model.specs.machine.Calls.{Entry}
use Rattle.xr_model.specs.machine.Chains.{Chain}
use Rattle.xr_model.specs.machine.Frames.{one_if}
use Rattle.xr_model.specs.machine.Images.{first_images, slot_of, times_in}
use Rattle.xr_model.specs.machine.Refusals.{Refusal}
use Rattle.xr_model.specs.machine.Rule.{Rule, refusal, unless_refused}
use Rattle.xr_model.specs.machine.Rules.Device.{behind_event}
use Rattle.xr_model.specs.machine.Rules.Frames.{new_frame, oldest_shown}
use Rattle.xr_model.specs.machine.State.{CoreState, State, opening}
use Rattle.xr_model.specs.machine.Machine.{effect, reads_of, rule, step}
use Rattle.xr_model.specs.machine.History.{after, opening_clocks, clocks_after, IsLegalFrom, shown_if}
use Rattle.xr_model.specs.laws.DecidedEntries.{Decided, decided, past_from, past_of, taken_images, given_back}
use Rattle.xr_model.specs.laws.FrameLaws.{shown_from}
use Rattle.xr_model.specs.laws.ImageUseLaws.{ReturnsAreFew}
use Rattle.xr_model.specs.laws.Soundness.{AreOnce, StateIsSound}
use Rattle.xr_model.proofs.FrameImages.{IsLast}
use Rattle.xr_model.proofs.FrameOrder.{clear}
use Rattle.xr_model.proofs.HeldFits.{did_kept, held_history, leaves_held}
use Rattle.xr_model.proofs.Rows.{itself, same_key}
use Rattle.xr_model.proofs.SoundImages.{effect_kept, sound_opening, sound_step, submitted_images}

-- ---- places

-- how many of these have the place
places_in : List Image → ℕ → ℕ
places_in [] p = 0
places_in (i ∷ images) p = one_if (i.place == p) + places_in images p

abbrev sum_to : ℕ → (ℕ → ℕ) → ℕ
sum_to zero f = 0
sum_to (suc m) f = f m + sum_to m f

sum_both : (m : ℕ) (f g : ℕ → ℕ) → sum_to m (λ p. f p + g p) ≡ sum_to m f + sum_to m g
sum_both zero f g = refl
sum_both (suc m) f g = let more = sum_both m f g in omega (arith, more)

sum_few : (m : ℕ) (f : ℕ → ℕ) → ((p : ℕ) → f p ≤ 1) → sum_to m f ≤ m
sum_few zero f few = omega arith
sum_few (suc m) f few = let here = few m in let more = sum_few m f few in omega (arith, here, more)

-- a place is among all
sum_once : (m x : ℕ) → x < m → 1 ≤ sum_to m (λ p. one_if (x == p))
sum_once zero x below = absurd (omega (arith, below))
sum_once (suc m) x below = by (x == m) refl (λ less. sum_once m x less)
  where
    other : x < suc m → (x == m) ≡ false → x < m
    other below apart = grind (arith, nat_tests, below, apart)

    by : (b : Bool) → (x == m) ≡ b → (x < m → 1 ≤ sum_to m (λ p. one_if (x == p))) → 1 ≤ one_if b + sum_to m (λ p. one_if (x == p))
    by true eb more = omega arith
    by false eb more = let rest = more (other below eb) in omega (arith, rest)

images_placed : (m : ℕ) (images : List Image) → Each (λ i. i.place < m) images → length images ≤ sum_to m (places_in images)
unfolding places_in
images_placed m [] each = omega arith
images_placed m (i ∷ images) each =
    let here = sum_once m i.place each.0 in
    let more = images_placed m images each.1 in
    let both = sum_both m (λ p. one_if (i.place == p)) (places_in images) in
    omega (arith, here, more, both)

-- ---- the images of a frame

-- the index that the chain of a place released last
last_at : List Chain → ℕ → ℕ
last_at chains p = unwrap_or (option_and_then (λ c. c.last) (slice_get chains p)) 0

last_is : (chains : List Chain) (i : Image) → IsLast chains i → i.index ≡ last_at chains i.place
unfolding last_at
last_is chains i last = rw (last.at, last.last) refl

-- those of one place are one image
place_times : (chains : List Chain) (p : ℕ) (images : List Image) → Each (IsLast chains) images → places_in images p ≤ times_in images (3 * p + last_at chains p)
unfolding places_in
place_times chains p [] each = omega arith
place_times chains p (i ∷ images) each = by (i.place == p) refl (place_times chains p images each.1)
  where
    by : (b : Bool) → (i.place == p) ≡ b → places_in images p ≤ times_in images (3 * p + last_at chains p)
        → one_if b + places_in images p ≤ one_if (slot_of i == 3 * p + last_at chains p) + times_in images (3 * p + last_at chains p)
    by true eb more =
        let place = same_key i.place p eb in
        let index = last_is chains i each.0 in
        let same : slot_of i ≡ 3 * p + last_at chains p = subst (λ (n : ℕ). slot_of i ≡ 3 * n + last_at chains n) place (ap (λ (n : ℕ). 3 * i.place + n) index) in
        let it : (slot_of i == 3 * p + last_at chains p) ≡ true = subst (λ (n : ℕ). (slot_of i == n) ≡ true) same (itself (slot_of i)) in
        rw it (omega (arith, more))
    by false eb more = omega (arith, more)

below_length : (chains : List Chain) (p : ℕ) (c : Chain) → slice_get chains p ≡ Some c → p < length chains
below_length [] p c found = cc
below_length (x ∷ chains) zero c found = omega arith
below_length (x ∷ chains) (suc p) c found = let more = below_length chains p c found in omega (arith, more)

each_placed : (chains : List Chain) (m : ℕ) → length chains ≡ m → (images : List Image) → Each (IsLast chains) images → Each (λ i. i.place < m) images
each_placed chains m long [] each = tt
each_placed chains m long (i ∷ images) each =
    let here = below_length chains i.place each.0.chain each.0.at in
    (omega (arith, here, long), each_placed chains m long images each.1)

few_images : (chains : List Chain) (m : ℕ) → length chains ≡ m → (images : List Image) → AreOnce (IsLast chains) images → length images ≤ m
few_images chains m long images are =
    let all = images_placed m images (each_placed chains m long images are.each) in
    let few = sum_few m (places_in images) (λ p. let own = place_times chains p images are.each in let once = are.once (3 * p + last_at chains p) in omega (arith, own, once)) in
    omega (arith, all, few)

-- ---- frames that are pending

abbrev AreFew : List PendingFrame → Type 0
AreFew [] = Unit {0}
AreFew (f ∷ fs) = (length f.images ≤ SWAPCHAINS) × AreFew fs

few_more : (fs : List PendingFrame) (f : PendingFrame) → AreFew fs → length f.images ≤ SWAPCHAINS → AreFew (fs ++ f ∷ [])
few_more [] f few here = (here, tt)
few_more (g ∷ fs) f few here = (few.0, few_more fs f few.1 here)

few_left : (fs : List PendingFrame) → AreFew fs → AreFew (drop 1 fs)
few_left [] few = tt
few_left (f ∷ fs) few = few.1

events_few : (s : CoreState) (what : DeviceEvent) → AreFew s.frames.pending → AreFew (behind_event s what).frames.pending
events_few s (event.Clock time) few = few
events_few s _ few = few

few_step : (s : State) (e : Entry) → StateIsSound s → AreFew s.core.frames.pending → AreFew (step s e).0.core.frames.pending
few_step s e sound few = by e.call
  where
    by : (r : Call) → AreFew (step s (record e { call = r })).0.core.frames.pending
    by (ask.EndFrame session time blend layers) =
        let f = rule s.core (reads_of s (ask.EndFrame session time blend layers)) (record e { call = ask.EndFrame session time blend layers }) in
        effect_kept (λ t did. AreFew t.frames.pending) s.core e.short f few (λ none.
        few_more s.core.frames.pending (new_frame s.core session time layers) few
        (few_images s.core.chains SWAPCHAINS sound.all (new_frame s.core session time layers).images (submitted_images s.core s.cells.held sound session time blend layers (clear f e.short none).behind)))
    by ask.NextFrame = effect_kept (λ t did. AreFew t.frames.pending) s.core e.short (rule s.core (reads_of s ask.NextFrame) (record e { call = ask.NextFrame })) few (λ none. few_left s.core.frames.pending few)
    by (ask.Device what) = effect_kept (λ t did. AreFew t.frames.pending) s.core e.short (rule s.core (reads_of s (ask.Device what)) (record e { call = ask.Device what })) few (λ none. events_few s.core what few)
    by r = effect_kept (λ t did. AreFew t.frames.pending) s.core e.short (rule s.core (reads_of s r) (record e { call = r })) few (λ none. few)

-- ---- images that are taken

-- the images of a frame that is taken are few, and it is shown
taken_step : (s : State) (e : Entry) → AreFew s.core.frames.pending → length (effect s.core (reads_of s e.call) e).did.taken ≤ SWAPCHAINS * length (shown_if (step s e).1.shown)
taken_step s e few = by e.call
  where
    shows : (fs : List PendingFrame) (stamps : List ℕ) → AreFew fs → length (first_images fs) ≤ SWAPCHAINS * length (shown_if (oldest_shown fs stamps))
    shows [] stamps few = omega arith
    shows (f ∷ fs) stamps few = let here = few.0 in omega (arith, here)

    none_taken : (images : List Image) (n : ℕ) → images ≡ [] → length images ≤ SWAPCHAINS * n
    none_taken [] n is = omega arith
    none_taken (i ∷ images) n is = cc

    by : (r : Call) → length (effect s.core (reads_of s r) (record e { call = r })).did.taken ≤ SWAPCHAINS * length (shown_if (step s (record e { call = r })).1.shown)
    by ask.NextFrame = next (refusal e.short f)
      where
        f : Rule
        f = rule s.core (reads_of s ask.NextFrame) (record e { call = ask.NextFrame })

        next : (o : Option Refusal) → length (unless_refused s.core o f.effect).did.taken ≤ SWAPCHAINS * length (shown_if (unless_refused s.core o f.effect).shown)
        next None = shows s.core.frames.pending (reads_of s ask.NextFrame).stamps few
        next (Some r) = omega arith
    by ask.ImageDone = none_taken (effect s.core (reads_of s ask.ImageDone) (record e { call = ask.ImageDone })).did.taken (length (shown_if (step s (record e { call = ask.ImageDone })).1.shown))
        (did_kept (λ did. did.taken ≡ []) s.core e.short (rule s.core (reads_of s ask.ImageDone) (record e { call = ask.ImageDone })) refl refl)
    by r = none_taken (effect s.core (reads_of s r) (record e { call = r })).did.taken (length (shown_if (step s (record e { call = r })).1.shown)) (leaves_held s.core (reads_of s r) (record e { call = r }) tt).taken

taken_after : (s : State) (clocks : List ℤ) (past : List Decided) (es : List Entry) → IsLegalFrom s clocks es → StateIsSound s → AreFew s.core.frames.pending
    → taken_images (past_from s past es) ≤ taken_images past + SWAPCHAINS * length (shown_from s es)
taken_after s clocks past [] legal sound few = omega arith
taken_after s clocks past (e ∷ es) legal sound few =
    let here = taken_step s e few in
    let more = taken_after (step s e).0 (clocks_after clocks e (step s e).0) (decided s e ∷ past) es legal.3 (sound_step s e legal.0 legal.2 sound) (few_step s e sound few) in
    let both = length-append (shown_if (step s e).1.shown) (shown_from (step s e).0 es) in
    summed (taken_images (past_from (step s e).0 (decided s e ∷ past) es)) (length (decided s e).did.taken) (taken_images past) (length (shown_if (step s e).1.shown)) (length (shown_from (step s e).0 es)) (length (shown_from s (e ∷ es))) here more both
  where
    summed : (all t before a b n : ℕ) → t ≤ SWAPCHAINS * a → all ≤ (t + before) + SWAPCHAINS * b → n ≡ a + b → all ≤ before + SWAPCHAINS * n
    summed all t before a b n here more both = omega (arith, here, more, both)

pub returns_are_few : ReturnsAreFew
returns_are_few settings es legal =
    let taken = taken_after (opening settings) (opening_clocks settings) [] es legal (sound_opening settings) tt in
    let held = held_history settings es in
    few (given_back (past_of settings es)) (taken_images (past_of settings es)) (length (after (opening settings) es).cells.held) (SWAPCHAINS * length (shown_from (opening settings) es)) taken held
  where
    few : (g t h n : ℕ) → t ≤ 0 + n → t ≡ g + h → g ≤ n
    few g t h n taken held = omega (arith, taken, held)
