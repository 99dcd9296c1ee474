-- The images of a swapchain come in turn, and a frame shows those that were released last.
use Rattle.std.proofs.Common.{◌≡◌, ◌+◌, ◌-◌, ◌%◌, ◌≤◌, ◌==◌, ◌++◌, ℕ, Bool, true, false, not, List, [], ◌∷◌, length, map, Option, Some, None, option_map, unwrap_or, refl, sym, ap, subst, ◌∙◌, arith, true≢false}
use Rattle.std.specs.Prelude.{flat_map, is_none, if◌then◌else◌}
use Rattle.xr_types.specs.Code.{is_success}
use Rattle.xr_types.specs.declared.code.Code.TheVariants.{HandleInvalid, SwapchainRectInvalid, LayerInvalid, ValidationFailure, PoseInvalid}
use Rattle.xr_types.specs.declared.calls.Call.{Call}
use Rattle.xr_types.specs.declared.calls.Call.TheVariants as ask
use Rattle.xr_types.specs.declared.calls.Gives.TheVariants.{Number}
use Rattle.xr_types.specs.declared.frames.Image.{Image}
use Rattle.xr_types.specs.declared.frames.Layer.{Layer}
use Rattle.xr_types.specs.declared.frames.Layer.TheVariants.{Projection, Quad}
use Rattle.xr_types.specs.declared.frames.SubImage.{SubImage}
use Rattle.xr_types.specs.declared.handles.Kind.TheVariants.{Swapchain}
use Rattle.xr_model.specs.machine.Chains.{Chain, chain_at, place_of_chain, info_of, info_at, next_index, oldest_index, is_acquire_wrong, is_paint_wrong}
use Rattle.xr_model.specs.machine.Frames.{is_empty}
use Rattle.xr_model.specs.machine.Handles.{is_live}
use Rattle.xr_model.specs.machine.HandlePlaces.{is_below}
use Rattle.xr_model.specs.machine.Layers.{form_checks, last_image, is_part_of, part_checks, part_image, view_at, layer_checks, layer_of, layers_of}
use Rattle.xr_model.specs.machine.Refusals.{when, first_of}
use Rattle.xr_model.specs.machine.Rules.Frames.{look_of, new_frame}
use Rattle.xr_model.specs.machine.State.{CoreState, State, opening}
use Rattle.xr_model.specs.machine.Machine.{effect, reads_of, rule, step}
use Rattle.xr_model.specs.machine.History.{after}
use Rattle.xr_model.specs.laws.DecidedEntries.{Decided, past_of, acquires, releases}
use Rattle.xr_model.specs.laws.TurnLaws.{images_of, turn_behind, image_behind, AcquiresAreInTurn, ReleasesAreInTurn, released_last, layer_last, IsSubmitted, FramesShowTheLastReleased}
use Rattle.xr_model.proofs.ChainOrder.{ChainFits, OptFits, LastIs, turn_of, oldest_turn, chains_history}
use Rattle.xr_model.proofs.FrameCalls.{where_done}
use Rattle.xr_model.proofs.FrameOrder.{clear, is_live_by, none_first, none_of, not_false}
use Rattle.xr_model.proofs.LayerCodes.{layers_fail}
use Rattle.xr_model.proofs.Rows.{same_key, both_of}

-- ---- turns

-- the k-th turn is k modulo the images, where that of a static chain is the first
turn_is : (fixed : Bool) (k : ℕ) → (fixed ≡ true → k ≡ 0) → turn_of fixed k ≡ k % images_of fixed
turn_is true k first = let zero_turn = first refl in rw zero_turn refl
turn_is false k first = refl

module _ (q : ℕ) (past : List Decided) where
  next_turn : (o : Option Chain) → OptFits q o past → is_acquire_wrong o ≡ false → next_index o ≡ turn_behind q past (acquires q past)
  unfolding is_acquire_wrong
  next_turn None fits free = absurd fits
  next_turn (Some c) fits free = rw (fits.static, fits.next) (turn_is c.is_static (acquires q past) (λ static. first static (rw static at free)))
    where
      first : c.is_static ≡ true → not (c.next == 0) ≡ false → acquires q past ≡ 0
      first static none = same_key (acquires q past) 0 (sym (fits.first static) ∙ not_false (c.next == 0) none)

  oldest_in_turn : (o : Option Chain) → OptFits q o past → is_paint_wrong o ≡ false → oldest_index o ≡ turn_behind q past (releases q past)
  unfolding is_paint_wrong
  oldest_in_turn None fits free = absurd fits
  oldest_in_turn (Some c) fits free =
      let some = fits.some (not_false c.has_waited free) in
      (oldest_turn c.is_static c.acquired (releases q past) some fits.indices).0
      ∙ rw fits.static (turn_is c.is_static (releases q past) (λ static. first (releases q past) (acquires q past) c.acquired some fits.acquired (fits.once static)))
    where
      first : (r a : ℕ) (xs : List ℕ) → is_empty xs ≡ false → a ≡ r + length xs → a ≤ 1 → r ≡ 0
      first r a [] some e few = absurd (true≢false some)
      first r a (x ∷ xs) some e few = omega (arith, e, few)

  last_turn : (c : Chain) (n : ℕ) → ChainFits q c past → c.last ≡ Some n → n ≡ turn_behind q past (releases q past - 1)
  last_turn c n fits is =
      let last : LastIs c.is_static (Some n) (releases q past) = rw is at fits.last in
      last.1 ∙ rw fits.static (turn_is c.is_static (releases q past - 1) (λ static. few (releases q past) (acquires q past) (length c.acquired) fits.acquired (fits.once static)))
    where
      few : (r a l : ℕ) → a ≡ r + l → a ≤ 1 → r - 1 ≡ 0
      few r a l e once = omega (arith, e, once)

pub acquires_are_in_turn : AcquiresAreInTurn
acquires_are_in_turn settings es e chain legal is = subst Gives (sym is) acquired
  where
    s : State
    s = after (opening settings) es

    Gives : Call → Type 0
    Gives r = is_success (step s (record e { call = r })).1.reply.code ≡ true
        → (step s (record e { call = r })).1.reply.gives ≡ Number (turn_behind chain (past_of settings es) (acquires chain (past_of settings es)))

    acquired : Gives (ask.AcquireImage chain)
    acquired =
        let f = rule s.core (reads_of s (ask.AcquireImage chain)) (record e { call = ask.AcquireImage chain }) in
        where_done (λ x. x.gives ≡ Number (turn_behind chain (past_of settings es) (acquires chain (past_of settings es)))) s.core f e.short refl
        (λ none.
        let free = clear f e.short none in
        let fits = (chains_history settings es legal).fits chain (is_live_by (is_live s.core.handles Swapchain chain) free.handles) in
        ap (λ (n : ℕ). Number n) (next_turn chain (past_of settings es) (chain_at s.core.chains chain) fits free.order))

pub releases_are_in_turn : ReleasesAreInTurn
releases_are_in_turn settings es e chain legal is = subst Frees (sym is) released
  where
    s : State
    s = after (opening settings) es

    its_image : ℕ → Image
    its_image n = record { place = place_of_chain s.core.chains chain; index = n }

    Frees : Call → Type 0
    Frees r = is_success (step s (record e { call = r })).1.reply.code ≡ true
        → (effect s.core (reads_of s r) (record e { call = r })).did.freed ≡ image_behind s.core (past_of settings es) chain (releases chain (past_of settings es)) ∷ []

    released : Frees (ask.ReleaseImage chain)
    released =
        let f = rule s.core (reads_of s (ask.ReleaseImage chain)) (record e { call = ask.ReleaseImage chain }) in
        where_done (λ x. x.did.freed ≡ image_behind s.core (past_of settings es) chain (releases chain (past_of settings es)) ∷ []) s.core f e.short refl
        (λ none.
        let free = clear f e.short none in
        let fits = (chains_history settings es legal).fits chain (is_live_by (is_live s.core.handles Swapchain chain) free.handles) in
        ap (λ (n : ℕ). its_image n ∷ []) (oldest_in_turn chain (past_of settings es) (chain_at s.core.chains chain) fits free.order))

-- ---- layers

module _ (s : CoreState) (session : ℕ) (past : List Decided) (fits : (q : ℕ) → is_live s.handles Swapchain q ≡ true → OptFits q (chain_at s.chains q) past) where
  -- an image of a part that isn't refused
  part_is : (part : SubImage) → first_of (part_checks (look_of s session) part) ≡ None → part_image (look_of s session) part ≡ released_last s past part.chain
  part_is part none =
      let one = none_first (is_none ((look_of s session).chain part.chain)) HandleInvalid (when (not (is_part_of ((look_of s session).chain part.chain) part)) SwapchainRectInvalid ∷ when (is_none (last_image ((look_of s session).chain part.chain))) LayerInvalid ∷ []) none in
      let two = none_first (not (is_part_of ((look_of s session).chain part.chain) part)) SwapchainRectInvalid (when (is_none (last_image ((look_of s session).chain part.chain))) LayerInvalid ∷ []) one.1 in
      live (is_below s.handles Swapchain session part.chain) refl (none_first (is_none (last_image ((look_of s session).chain part.chain))) LayerInvalid [] two.1).0
    where
      its_image : ℕ → Image
      its_image n = record { place = place_of_chain s.chains part.chain; index = n }

      released : (c : Chain) → ChainFits part.chain c past → (o : Option ℕ) → c.last ≡ o → is_none (option_map its_image o) ≡ false
          → unwrap_or (option_map its_image o) (record { place = 0; index = 0 }) ≡ released_last s past part.chain
      released c fit None last some = absurd (true≢false some)
      released c fit (Some n) last some = ap its_image (last_turn part.chain past c n fit last)

      found : (o : Option Chain) → OptFits part.chain o past → is_none (last_image (option_map (info_of (place_of_chain s.chains part.chain)) o)) ≡ false
          → unwrap_or (last_image (option_map (info_of (place_of_chain s.chains part.chain)) o)) (record { place = 0; index = 0 }) ≡ released_last s past part.chain
      found None fit some = absurd fit
      found (Some c) fit some = released c fit c.last refl some

      live : (b : Bool) → is_below s.handles Swapchain session part.chain ≡ b → is_none (last_image (if b then info_at s.chains part.chain else None)) ≡ false
          → unwrap_or (last_image (if b then info_at s.chains part.chain else None)) (record { place = 0; index = 0 }) ≡ released_last s past part.chain
      live true eb some = found (chain_at s.chains part.chain) (fits part.chain (both_of (is_live s.handles Swapchain part.chain) _ eb).0) some
      live false eb some = absurd (true≢false some)

  layer_is : (l : Layer) → first_of (layer_checks (look_of s session) l) ≡ None → layer_of (look_of s session) l ≡ layer_last s past l
  layer_is (Projection space count views) none =
      let one = none_first (not ((look_of s session).space space)) HandleInvalid (when (not (count == 2)) ValidationFailure ∷ part_checks (look_of s session) (view_at views 0) ++ part_checks (look_of s session) (view_at views 1)) none in
      let counts = none_first (not (count == 2)) ValidationFailure (part_checks (look_of s session) (view_at views 0) ++ part_checks (look_of s session) (view_at views 1)) one.1 in
      let both = none_of (part_checks (look_of s session) (view_at views 0)) (part_checks (look_of s session) (view_at views 1)) counts.1 in
      rw (part_is (view_at views 0) both.0, part_is (view_at views 1) both.1) refl
  layer_is (Quad space image pose) none =
      let one = none_first (not ((look_of s session).space space)) HandleInvalid (part_checks (look_of s session) image ++ when (pose == 0) PoseInvalid ∷ []) none in
      rw (part_is image (none_of (part_checks (look_of s session) image) (when (pose == 0) PoseInvalid ∷ []) one.1).0) refl

  layers_are : (layers : List Layer) → first_of (flat_map (layer_checks (look_of s session)) layers) ≡ None → layers_of (look_of s session) layers ≡ map (layer_last s past) layers
  layers_are [] none = refl
  layers_are (l ∷ layers) none =
      let two = none_of (layer_checks (look_of s session) l) (flat_map (layer_checks (look_of s session)) layers) none in
      rw (layer_is l two.0, layers_are layers two.1) refl

pub frames_show_the_last_released : FramesShowTheLastReleased
frames_show_the_last_released settings es e session time blend layers legal is = subst Submits (sym is) ended
  where
    s : State
    s = after (opening settings) es

    Submits : Call → Type 0
    Submits r = is_success (step s (record e { call = r })).1.reply.code ≡ true
        → IsSubmitted s.core.frames.pending (step s (record e { call = r })).0.core.frames.pending time (map (layer_last s.core (past_of settings es)) layers)

    ended : Submits (ask.EndFrame session time blend layers)
    ended =
        let f = rule s.core (reads_of s (ask.EndFrame session time blend layers)) (record e { call = ask.EndFrame session time blend layers }) in
        where_done (λ x. IsSubmitted s.core.frames.pending x.state.frames.pending time (map (layer_last s.core (past_of settings es)) layers)) s.core f e.short (layers_fail (look_of s.core session) layers)
        (λ none.
        let checks = (none_of (form_checks time blend layers) (flat_map (layer_checks (look_of s.core session)) layers) (clear f e.short none).behind).1 in
        record { frame = new_frame s.core session time layers; behind = refl; time = refl; layers = layers_are s.core session (past_of settings es) (chains_history settings es legal).fits layers checks })
