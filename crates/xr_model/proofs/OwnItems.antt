-- What a successful call names of a session is the session's own.
use Rattle.std.proofs.Common.{◌≡◌, ℕ, Bool, true, false, true≢false, List, [], ◌∷◌, ◌++◌, None, refl, sym, subst}
use Rattle.std.specs.Prelude.{◌==◌, not, is_none, flat_map, if◌then◌else◌}
use Rattle.std.specs.List.{list_all}
use Rattle.xr_types.specs.Code.{is_success}
use Rattle.xr_types.specs.declared.calls.Call.{Call}
use Rattle.xr_types.specs.declared.calls.Call.TheVariants as ask
use Rattle.xr_types.specs.declared.code.Code.TheVariants.{HandleInvalid, SwapchainRectInvalid, LayerInvalid, ValidationFailure, PoseInvalid}
use Rattle.xr_types.specs.declared.frames.Layer.{Layer}
use Rattle.xr_types.specs.declared.frames.Layer.TheVariants.{Projection, Quad}
use Rattle.xr_types.specs.declared.frames.SubImage.{SubImage}
use Rattle.xr_types.specs.declared.handles.Kind.TheVariants as kind
use Rattle.xr_model.specs.machine.Chains.{info_at}
use Rattle.xr_model.specs.machine.Handles.{is_live}
use Rattle.xr_model.specs.machine.HandlePlaces.{is_below}
use Rattle.xr_model.specs.machine.Layers.{form_checks, is_part_of, last_image, layer_checks, part_checks, view_at}
use Rattle.xr_model.specs.machine.Machine.{reads_of, rule, step}
use Rattle.xr_model.specs.machine.Refusals.{when, first_of}
use Rattle.xr_model.specs.machine.Rules.Frames.{look_of}
use Rattle.xr_model.specs.machine.Rules.Spaces.{session_above}
use Rattle.xr_model.specs.machine.State.{CoreState}
use Rattle.xr_model.specs.laws.OwnLaws.{is_layer_of, LayersAreOfTheirSession, BasesAreOfTheSameSession}
use Rattle.xr_model.proofs.FrameCalls.{where_done}
use Rattle.xr_model.proofs.FrameOrder.{clear, none_first, none_of, not_false}
use Rattle.xr_model.proofs.LayerCodes.{layers_fail}

module _ (s : CoreState) (session : ℕ) where
  -- the swapchain of a part that isn't refused
  part_is_own : (part : SubImage) → first_of (part_checks (look_of s session) part) ≡ None → is_below s.handles kind.Swapchain session part.chain ≡ true
  part_is_own part none =
      let checks = when (not (is_part_of ((look_of s session).chain part.chain) part)) SwapchainRectInvalid ∷ when (is_none (last_image ((look_of s session).chain part.chain))) LayerInvalid ∷ [] in
      live (is_below s.handles kind.Swapchain session part.chain) (none_first (is_none ((look_of s session).chain part.chain)) HandleInvalid checks none).0
    where
      live : (b : Bool) → is_none (if b then info_at s.chains part.chain else None) ≡ false → b ≡ true
      live true some = refl
      live false some = absurd (true≢false some)

  layer_is_own : (l : Layer) → first_of (layer_checks (look_of s session) l) ≡ None → is_layer_of s.handles session l ≡ true
  layer_is_own (Projection space count views) none =
      let one = none_first (not ((look_of s session).space space)) HandleInvalid (when (not (count == 2)) ValidationFailure ∷ part_checks (look_of s session) (view_at views 0) ++ part_checks (look_of s session) (view_at views 1)) none in
      let counts = none_first (not (count == 2)) ValidationFailure (part_checks (look_of s session) (view_at views 0) ++ part_checks (look_of s session) (view_at views 1)) one.1 in
      let both = none_of (part_checks (look_of s session) (view_at views 0)) (part_checks (look_of s session) (view_at views 1)) counts.1 in
      rw (not_false (is_below s.handles kind.Space session space) one.0, part_is_own (view_at views 0) both.0, part_is_own (view_at views 1) both.1) refl
  layer_is_own (Quad space part pose) none =
      let one = none_first (not ((look_of s session).space space)) HandleInvalid (part_checks (look_of s session) part ++ when (pose == 0) PoseInvalid ∷ []) none in
      rw (not_false (is_below s.handles kind.Space session space) one.0, part_is_own part (none_of (part_checks (look_of s session) part) (when (pose == 0) PoseInvalid ∷ []) one.1).0) refl

  layers_are_own : (layers : List Layer) → first_of (flat_map (layer_checks (look_of s session)) layers) ≡ None → list_all (is_layer_of s.handles session) layers ≡ true
  layers_are_own [] none = refl
  layers_are_own (l ∷ layers) none =
      let two = none_of (layer_checks (look_of s session) l) (flat_map (layer_checks (look_of s session)) layers) none in
      rw (layer_is_own l two.0, layers_are_own layers two.1) refl

pub layers_are_of_their_session : LayersAreOfTheirSession
layers_are_of_their_session s e session time blend layers is = subst Owns (sym is) owned
  where
    Owns : Call → Type 0
    Owns r = is_success (step s (record e { call = r })).1.reply.code ≡ true → list_all (is_layer_of s.core.handles session) layers ≡ true

    owned : Owns (ask.EndFrame session time blend layers)
    owned =
        let f = rule s.core (reads_of s (ask.EndFrame session time blend layers)) (record e { call = ask.EndFrame session time blend layers }) in
        where_done (λ x. list_all (is_layer_of s.core.handles session) layers ≡ true) s.core f e.short (layers_fail (look_of s.core session) layers)
        (λ none. layers_are_own s.core session layers (none_of (form_checks time blend layers) (flat_map (layer_checks (look_of s.core session)) layers) (clear f e.short none).behind).1)

pub bases_are_of_the_same_session : BasesAreOfTheSameSession
bases_are_of_the_same_session s e space base time is = subst Owns (sym is) owned
  where
    Owns : Call → Type 0
    Owns r = is_success (step s (record e { call = r })).1.reply.code ≡ true
        → (is_live s.core.handles kind.Space space ≡ true) × (is_below s.core.handles kind.Space (session_above s.core.handles space) base ≡ true)

    owned : Owns (ask.LocateSpace space base time)
    owned =
        let f = rule s.core (reads_of s (ask.LocateSpace space base time)) (record e { call = ask.LocateSpace space base time }) in
        let below = is_below s.core.handles kind.Space (session_above s.core.handles space) base in
        where_done (λ x. (is_live s.core.handles kind.Space space ≡ true) × (below ≡ true)) s.core f e.short refl
        (λ none.
        let one = none_first (not (is_live s.core.handles kind.Space space)) HandleInvalid (when (not below) HandleInvalid ∷ []) (clear f e.short none).handles in
        (not_false (is_live s.core.handles kind.Space space) one.0, not_false below (none_first (not below) HandleInvalid [] one.1).0))
