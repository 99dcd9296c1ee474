-- Frames are shown as they were submitted, since no call stamps an image of a pending frame.
use Rattle.std.proofs.Common.{◌≡◌, ◌==◌, ◌&&◌, ◌||◌, ◌+◌, ◌*◌, ◌<◌, ◌++◌, ◌∙◌, ℕ, ℤ, Bool, true, false, not, List, [], ◌∷◌, map, Option, Some, None, refl, sym, ap, subst, append_assoc, append-nil, arith, true≢false}
use Rattle.std.specs.List.{list_any}
use Rattle.std.specs.Prelude.{slice_get, slice_set, if◌then◌else◌}
use Rattle.std.proofs.lemmas.List.{map-append, get_or-set_other}
use Rattle.std.proofs.lemmas.Option.{unwrap_or-slice_get}
use Rattle.xr_types.specs.declared.code.Code.TheVariants.{SwapchainFormatUnsupported, ValidationFailure, LimitReached}
use Rattle.xr_types.specs.declared.handles.Kind.TheVariants.{Swapchain}
use Rattle.xr_types.specs.declared.frames.FrameLayer.{FrameLayer}
use Rattle.xr_types.specs.declared.frames.FrameLayer.TheVariants as layer
use Rattle.xr_types.specs.declared.frames.Image.{Image}
use Rattle.xr_types.specs.declared.frames.Layer.{Layer}
use Rattle.xr_types.specs.declared.frames.ShownLayer.{ShownLayer}
use Rattle.xr_types.specs.Code.{is_success}
use Rattle.xr_types.specs.Frames.{PendingFrame}
use Rattle.xr_types.specs.declared.frames.Shown.{Shown}
use Rattle.xr_model.specs.machine.Frames.{one_if}
use Rattle.xr_model.specs.machine.Images.{Stamped, is_image, slot_of, times_in, uses_of, first_images, images_of_layer, stamp_in, stamps_at, with_stamps, unstamped, stamp_among, shown_layer, shown_with}
use Rattle.xr_model.specs.machine.Chains.{Chain, is_chain, chain_at, place_of_chain, first_place, oldest_image, oldest_index, oldest_of, has_place, has_free_place, is_format, is_size, no_place, is_paint_wrong}
use Rattle.xr_model.specs.machine.Handles.{no_room}
use Rattle.xr_model.specs.machine.Refusals.{Refusal, when}
use Rattle.xr_model.specs.machine.Calls.{Entry}
use Rattle.xr_types.specs.declared.calls.Call.{Call}
use Rattle.xr_types.specs.declared.calls.Call.TheVariants as ask
use Rattle.xr_model.specs.machine.State.{CoreState, CellReads, State, opening}
use Rattle.xr_model.specs.machine.Rule.{Rule, Effect, refusal, told_on, unless_refused}
use Rattle.xr_model.specs.machine.Rules.Frames.{look_of, oldest_shown}
use Rattle.xr_model.specs.machine.Layers.{layers_of}
use Rattle.xr_model.specs.machine.Machine.{effect, rule, step, reads_of}
use Rattle.xr_model.specs.machine.History.{after, opening_clocks, clocks_after, IsLegalFrom, shown_if}
use Rattle.xr_model.specs.laws.FrameLaws.{asked_layer, submitted_if, shown_now, submitted_from, shown_from, FramesAsSubmitted}
use Rattle.xr_model.specs.laws.ImageLaws.{did_at}
use Rattle.xr_model.specs.laws.Owners.{has_image}
use Rattle.xr_model.specs.scenario.InRange.{Each}
use Rattle.xr_model.proofs.Rows.{same_key, itself, both_of, neither_of}
use Rattle.xr_model.proofs.InRange.{each-weaker}
use Rattle.xr_model.proofs.HeldFits.{did_kept}
use Rattle.xr_model.proofs.FrameOrder.{clear, none_first, not_false}
use Rattle.xr_model.proofs.ChainPlaces.{any_found, found_at, found_good}
use Rattle.xr_model.proofs.FrameImages.{times_elsewhere}
use Rattle.xr_model.proofs.SoundImages.{effect_kept, paint_some, sound_step, sound_opening}
use Rattle.xr_model.proofs.FrameLists.{frame_if, taken_if, moves, frames_stay, is_frame_move}
use Rattle.xr_model.specs.laws.Soundness.{AreAmong, AreSound, IsIdle, StateIsSound, is_taken}

-- ---- images of layers

-- the images of each of these frames' layers are among the frame's images
abbrev pub FramesAmong : List PendingFrame → Type 0
FramesAmong fs = Each (λ f. AreAmong f.images f.layers) fs

module _ (p q : Image → ℕ) (images : List Image) (alike : (i : Image) → has_image i images ≡ true → p i ≡ q i) where
  layer_alike : (l : FrameLayer) → Each (λ i. has_image i images ≡ true) (images_of_layer l) → shown_layer p l ≡ shown_layer q l
  layer_alike (layer.Projection left right) among = rw (alike left among.0, alike right among.1.0) refl
  layer_alike (layer.Quad i) among = rw (alike i among.0) refl

  -- layers show the same where the images among which theirs are have the same stamps
  layers_alike : (ls : List FrameLayer) → AreAmong images ls → map (shown_layer p) ls ≡ map (shown_layer q) ls
  layers_alike [] among = refl
  layers_alike (l ∷ ls) among = rw (layer_alike l among.0, layers_alike ls among.1) refl

-- a frame shows the same where its images have the same stamps
frame_alike : (p q : Image → ℕ) (f : PendingFrame) → ((i : Image) → has_image i f.images ≡ true → p i ≡ q i) → AreAmong f.images f.layers → shown_with p f ≡ shown_with q f
frame_alike p q f alike among = rw (layers_alike p q f.images alike f.layers among) refl

-- ---- stamps that are told

-- an image has one slot
same_slot : (i j : Image) → is_image i j ≡ true → slot_of j ≡ slot_of i
same_slot i j is =
    let two = both_of (j.place == i.place) (j.index == i.index) is in
    let place = same_key j.place i.place two.0 in
    let index = same_key j.index i.index two.1 in
    omega (arith, place, index)

-- a frame is told the stamps that its images have
told_stamps : (stamps : List ℕ) (images : List Image) (i : Image) → has_image i images ≡ true → stamp_among images (stamps_at stamps images) i ≡ stamp_in stamps i
told_stamps stamps [] i among = absurd (true≢false (sym among))
told_stamps stamps (j ∷ images) i among = by (is_image i j) refl among (told_stamps stamps images i)
  where
    by : (b : Bool) → is_image i j ≡ b → b || has_image i images ≡ true → (has_image i images ≡ true → stamp_among images (stamps_at stamps images) i ≡ stamp_in stamps i)
        → (if b then stamp_in stamps j else stamp_among images (stamps_at stamps images) i) ≡ stamp_in stamps i
    by true is among more = rw (same_slot i j is) refl
    by false is among more = more among

-- ---- stamps that stay

-- an image that isn't in a slot isn't among images none of which is in it
slot_aside : (images : List Image) (k : ℕ) → times_in images k ≡ 0 → (i : Image) → has_image i images ≡ true → (slot_of i == k) ≡ false
slot_aside [] k none i among = absurd (true≢false (sym among))
slot_aside (j ∷ images) k none i among = by (is_image i j) refl among (slot_aside images k (omega (arith, none)) i)
  where
    one : (b : Bool) → (slot_of j == k) ≡ b → one_if b + times_in images k ≡ 0 → b ≡ false
    one true is none = absurd (omega (arith, none))
    one false is none = refl

    by : (b : Bool) → is_image i j ≡ b → b || has_image i images ≡ true → (has_image i images ≡ true → (slot_of i == k) ≡ false) → (slot_of i == k) ≡ false
    by true is among more = subst (λ (n : ℕ). (n == k) ≡ false) (same_slot i j is) (one (slot_of j == k) refl none)
    by false is among more = more among

not_same : (a b : ℕ) → (a == b) ≡ false → a ≡ b → ⊥
not_same a b other is = absurd (true≢false (sym (itself b) ∙ subst (λ (n : ℕ). (n == b) ≡ false) is other))

-- an image keeps its stamp where all that get one are in other slots
stamp_stays : (xs : List Stamped) (stamps : List ℕ) (i : Image) → Each (λ x. (slot_of i == slot_of x.image) ≡ false) xs → stamp_in (with_stamps xs stamps) i ≡ stamp_in stamps i
stamp_stays [] stamps i aside = refl
stamp_stays (x ∷ xs) stamps i aside =
    stamp_stays xs (slice_set stamps (slot_of x.image) x.stamp) i aside.1
    ∙ unwrap_or-slice_get (slice_set stamps (slot_of x.image) x.stamp) (slot_of i) 0
    ∙ get_or-set_other stamps (slot_of x.image) (slot_of i) x.stamp 0 (not_same (slot_of i) (slot_of x.image) aside.0)
    ∙ sym (unwrap_or-slice_get stamps (slot_of i) 0)

-- none of the images that get a stamp is one of these frames
abbrev pub Untouched : List PendingFrame → List Stamped → Type 0
Untouched fs xs = Each (λ x. uses_of fs (slot_of x.image) ≡ 0) xs

-- frames that aren't touched show the same
frames_stay_same : (xs : List Stamped) (stamps : List ℕ) (fs : List PendingFrame) → Untouched fs xs → FramesAmong fs
    → map (shown_with (stamp_in stamps)) fs ≡ map (shown_with (stamp_in (with_stamps xs stamps))) fs
frames_stay_same xs stamps [] aside among = refl
frames_stay_same xs stamps (f ∷ fs) aside among =
    let more = frames_stay_same xs stamps fs (each-weaker (λ x. uses_of (f ∷ fs) (slot_of x.image) ≡ 0) (λ x. uses_of fs (slot_of x.image) ≡ 0) (λ x none. omega (arith, none)) xs aside) among.1 in
    rw (here, more) refl
  where
    here : shown_with (stamp_in stamps) f ≡ shown_with (stamp_in (with_stamps xs stamps)) f
    here = frame_alike (stamp_in stamps) (stamp_in (with_stamps xs stamps)) f
        (λ i is. sym (stamp_stays xs stamps i (each-weaker (λ x. uses_of (f ∷ fs) (slot_of x.image) ≡ 0) (λ x. (slot_of i == slot_of x.image) ≡ false)
        (λ x none. slot_aside f.images (slot_of x.image) (omega (arith, none)) i is) xs aside))) among.0

-- ---- steps

-- the calls that submit and show frames stamp nothing
moves_stamp_none : (s : CoreState) (reads : CellReads) (e : Entry) → is_frame_move e.call ≡ true → (effect s reads e).did.stamped ≡ []
moves_stamp_none s reads e is = by e.call is
  where
    by : (r : Call) → is_frame_move r ≡ true → (effect s reads (record e { call = r })).did.stamped ≡ []
    by (ask.EndFrame session time blend layers) is = did_kept (λ d. d.stamped ≡ []) s e.short (rule s reads (record e { call = ask.EndFrame session time blend layers })) refl refl
    by ask.NextFrame is = did_kept (λ d. d.stamped ≡ []) s e.short (rule s reads (record e { call = ask.NextFrame })) refl refl
    by _ is = absurd (true≢false (sym is))

-- the frames that are pending behind a step show with the stamps of then what they show with those of before
pending_alike : (s : State) (e : Entry) → Untouched s.core.frames.pending (did_at s e).stamped → FramesAmong s.core.frames.pending
    → shown_now s (step s e).0.core.frames.pending ≡ shown_now (step s e).0 (step s e).0.core.frames.pending
pending_alike s e aside among = by (is_frame_move e.call) refl
  where
    by : (b : Bool) → is_frame_move e.call ≡ b → shown_now s (step s e).0.core.frames.pending ≡ shown_now (step s e).0 (step s e).0.core.frames.pending
    by true is = sym (ap (λ (xs : List Stamped). map (shown_with (stamp_in (with_stamps xs s.cells.stamps))) (step s e).0.core.frames.pending) (moves_stamp_none s.core (reads_of s e.call) e is))
    by false is =
        subst (λ (fs : List PendingFrame). shown_now s fs ≡ shown_now (step s e).0 fs) (sym (frames_stay s.core (reads_of s e.call) e is).pending)
        (frames_stay_same (did_at s e).stamped s.cells.stamps s.core.frames.pending aside among)

-- what is shown is the frame that is taken, with the stamps that its images have
taken_alike : (s : State) (e : Entry) → FramesAmong s.core.frames.pending
    → shown_now s (taken_if (effect s.core (reads_of s e.call) e).shown s.core.frames.pending) ≡ shown_if (effect s.core (reads_of s e.call) e).shown
taken_alike s e among = by e.call
  where
    none : (x : Effect) → x.shown ≡ None → shown_now s (taken_if x.shown s.core.frames.pending) ≡ shown_if x.shown
    none x is = rw is refl

    unshown : (o : Option Refusal) (x : Effect) → x.shown ≡ None → (unless_refused s.core o x).shown ≡ None
    unshown None x is = is
    unshown (Some r) x is = refl

    one : (fs : List PendingFrame) → FramesAmong fs → shown_now s (taken_if (oldest_shown fs (stamps_at s.cells.stamps (first_images fs))) fs) ≡ shown_if (oldest_shown fs (stamps_at s.cells.stamps (first_images fs)))
    one [] among = refl
    one (f ∷ fs) among = rw (frame_alike (stamp_among f.images (stamps_at s.cells.stamps f.images)) (stamp_in s.cells.stamps) f (told_stamps s.cells.stamps f.images) among.0) refl

    oldest : (o : Option Refusal) (x : Effect) → x.shown ≡ oldest_shown s.core.frames.pending (stamps_at s.cells.stamps (first_images s.core.frames.pending))
        → shown_now s (taken_if (unless_refused s.core o x).shown s.core.frames.pending) ≡ shown_if (unless_refused s.core o x).shown
    oldest (Some r) x is = refl
    oldest None x is = rw is (one s.core.frames.pending among)

    by : (r : Call) → shown_now s (taken_if (effect s.core (reads_of s r) (record e { call = r })).shown s.core.frames.pending) ≡ shown_if (effect s.core (reads_of s r) (record e { call = r })).shown
    by ask.NextFrame = let f = rule s.core (reads_of s ask.NextFrame) (record e { call = ask.NextFrame }) in oldest (refusal e.short f) f.effect refl
    by (ask.EndFrame session time blend layers) =
        let f = rule s.core (reads_of s (ask.EndFrame session time blend layers)) (record e { call = ask.EndFrame session time blend layers }) in
        none (unless_refused s.core (refusal e.short f) (told_on f.on f.effect)) (unshown (refusal e.short f) (told_on f.on f.effect) refl)
    by r = none (effect s.core (reads_of s r) (record e { call = r })) (frames_stay s.core (reads_of s r) (record e { call = r }) refl).shown

-- the frame that an entry adds, as it would be shown now, is the one that was asked for
layers_as_asked : (s : State) (session : ℕ) (layers : List Layer) → map (asked_layer s session) layers ≡ map (shown_layer (stamp_in s.cells.stamps)) (layers_of (look_of s.core session) layers)
layers_as_asked s session [] = refl
layers_as_asked s session (l ∷ layers) = ap (λ (ls : List ShownLayer). asked_layer s session l ∷ ls) (layers_as_asked s session layers)

as_asked : (s : State) (b : Bool) (r : Call) → submitted_if b s r ≡ shown_now s (frame_if b s.core r)
as_asked s false r = refl
as_asked s true (ask.EndFrame session time blend layers) = ap (λ (ls : List ShownLayer). record { number = s.core.ended + 1; time = time; layers = ls } ∷ []) (layers_as_asked s session layers)
as_asked s true _ = refl

abbrev frames_by : State → Entry → List PendingFrame
frames_by s e = frame_if (is_success (step s e).1.reply.code) s.core e.call

-- what is pending and what is submitted is what is shown and what is pending then
step_alike : (s : State) (e : Entry) → Untouched s.core.frames.pending (did_at s e).stamped → FramesAmong s.core.frames.pending
    → shown_now s s.core.frames.pending ++ shown_now s (frames_by s e) ≡ shown_if (step s e).1.shown ++ shown_now (step s e).0 (step s e).0.core.frames.pending
step_alike s e aside among =
    let show : PendingFrame → Shown = shown_with (stamp_in s.cells.stamps) in
    let t = (step s e).0 in
    let taken = taken_if (step s e).1.shown s.core.frames.pending in
    sym (map-append show s.core.frames.pending (frames_by s e))
    ∙ ap (λ (fs : List PendingFrame). map show fs) (moves s.core (reads_of s e.call) e).pending
    ∙ map-append show taken t.core.frames.pending
    ∙ ap (λ (shown : List Shown). shown ++ map show t.core.frames.pending) (taken_alike s e among)
    ∙ ap (λ (more : List Shown). shown_if (step s e).1.shown ++ more) (pending_alike s e aside among)

-- ---- what gets a stamp

frames_among : (fs : List PendingFrame) → AreSound fs → FramesAmong fs
frames_among [] sound = tt
frames_among (f ∷ fs) sound = (sound.0.among, frames_among fs sound.1)

-- frames don't use an image of a place that they have no image of
uses_elsewhere : (place n : ℕ) → n < 3 → (fs : List PendingFrame) → AreSound fs → list_any (λ f. has_place place f.images) fs ≡ false → uses_of fs (3 * place + n) ≡ 0
uses_elsewhere place n less [] sound none = refl
uses_elsewhere place n less (f ∷ fs) sound none =
    let two = neither_of (has_place place f.images) (list_any (λ f. has_place place f.images) fs) none in
    let here = times_elsewhere place n less f.images sound.0.images.each two.0 in
    let more = uses_elsewhere place n less fs sound.1 two.1 in
    omega (arith, here, more)

-- an image that an application waited for is used by no frame
painted_aside : (pending : List PendingFrame) (held : List Image) (place : ℕ) (c : Chain) → is_paint_wrong (Some c) ≡ false → IsIdle pending held place (Some c) → uses_of pending (3 * place + oldest_of c.acquired) ≡ 0
unfolding is_paint_wrong
painted_aside pending held place c free idle = let none = idle (not_false c.has_waited free) in omega (arith, none)

-- No entry that is allowed and ready stamps an image of a pending frame: a new chain gets a free place, and what is painted was waited for.
stamps_aside : (s : State) (e : Entry) → StateIsSound s → Untouched s.core.frames.pending (did_at s e).stamped
stamps_aside s e sound = by e.call
  where
    by : (r : Call) → Untouched s.core.frames.pending (did_at s (record e { call = r })).stamped
    by (ask.CreateSwapchain session format width height fixed) = effect_kept (λ t did. Untouched s.core.frames.pending did.stamped) s.core e.short f tt made
      where
        f : Rule
        f = rule s.core (reads_of s (ask.CreateSwapchain session format width height fixed)) (record e { call = ask.CreateSwapchain session format width height fixed })

        made : refusal e.short f ≡ None → Untouched s.core.frames.pending (unstamped (first_place s.core.chains))
        made none =
            let one = none_first (not (is_format format)) SwapchainFormatUnsupported (when (not (is_size width && is_size height)) ValidationFailure ∷ no_place s.core.chains ∷ no_room s.core.handles Swapchain ∷ []) (clear f e.short none).behind in
            let two = none_first (not (is_size width && is_size height)) ValidationFailure (no_place s.core.chains ∷ no_room s.core.handles Swapchain ∷ []) one.1 in
            let three = none_first (not (has_free_place s.core.chains)) LimitReached (no_room s.core.handles Swapchain ∷ []) two.1 in
            let found = any_found (λ c. c.handle == 0) s.core.chains (not_false (has_free_place s.core.chains) three.0) in
            let free : is_taken (slice_get s.core.chains (first_place s.core.chains)) ≡ false = rw (found_at (λ c. c.handle == 0) s.core.chains found.0 found.1, found_good (λ c. c.handle == 0) s.core.chains found.0 found.1) refl in
            let used = (neither_of (list_any (λ x. has_place (first_place s.core.chains) x.images) s.core.frames.pending) (has_place (first_place s.core.chains) s.core.shown_images) (sound.unused (first_place s.core.chains) free)).0 in
            let each : (n : ℕ) → n < 3 → uses_of s.core.frames.pending (3 * first_place s.core.chains + n) ≡ 0 = λ n less. uses_elsewhere (first_place s.core.chains) n less s.core.frames.pending sound.frames used in
            (each 0 (omega arith), (each 1 (omega arith), (each 2 (omega arith), tt)))
    by (ask.Paint chain stamped) = effect_kept (λ t did. Untouched s.core.frames.pending did.stamped) s.core e.short f tt made
      where
        f : Rule
        f = rule s.core (reads_of s (ask.Paint chain stamped)) (record e { call = ask.Paint chain stamped })

        made : refusal e.short f ≡ None → Untouched s.core.frames.pending (record { image = oldest_image s.core.chains chain; stamp = stamped } ∷ [])
        made none =
            let free = clear f e.short none in
            let some = paint_some (chain_at s.core.chains chain) free.order in
            let place = place_of_chain s.core.chains chain in
            let here : IsIdle s.core.frames.pending s.cells.held place (Some some.0) = subst (IsIdle s.core.frames.pending s.cells.held place) (found_at (is_chain chain) s.core.chains some.0 some.1) (sound.idle place) in
            (subst (λ (o : Option Chain). uses_of s.core.frames.pending (3 * place + oldest_index o) ≡ 0) (sym some.1) (painted_aside s.core.frames.pending s.cells.held place some.0 (sym (ap is_paint_wrong some.1) ∙ free.order) here), tt)
    by r = effect_kept (λ t did. Untouched s.core.frames.pending did.stamped) s.core e.short (rule s.core (reads_of s r) (record e { call = r })) tt (λ none. tt)

-- ---- over a history

as_submitted : (s : State) (clocks : List ℤ) (es : List Entry) → IsLegalFrom s clocks es → StateIsSound s
    → shown_from s es ++ shown_now (after s es) (after s es).core.frames.pending ≡ shown_now s s.core.frames.pending ++ submitted_from s es
as_submitted s clocks [] legal sound = sym (append-nil (shown_now s s.core.frames.pending))
as_submitted s clocks (e ∷ es) legal sound =
    let t = (step s e).0 in
    let now : List Shown = shown_if (step s e).1.shown in
    let rest = as_submitted t (clocks_after clocks e t) es legal.3 (sound_step s e legal.0 legal.2 sound) in
    append_assoc now (shown_from t es) (shown_now (after t es) (after t es).core.frames.pending)
    ∙ ap (λ (l : List Shown). now ++ l) rest
    ∙ sym (append_assoc now (shown_now t t.core.frames.pending) (submitted_from t es))
    ∙ ap (λ (l : List Shown). l ++ submitted_from t es) (sym (step_alike s e (stamps_aside s e sound) (frames_among s.core.frames.pending sound.frames)))
    ∙ append_assoc (shown_now s s.core.frames.pending) (shown_now s (frames_by s e)) (submitted_from t es)
    ∙ ap (λ (l : List Shown). shown_now s s.core.frames.pending ++ (l ++ submitted_from t es)) (sym (as_asked s (is_success (step s e).1.reply.code) e.call))

pub frames_as_submitted : FramesAsSubmitted
frames_as_submitted settings es legal = as_submitted (opening settings) (opening_clocks settings) es legal (sound_opening settings)
