-- One more layer of a frame: what it shows, and what refuses it.
use Rattle.std.proofs.Common.{◌≡◌, ◌<◌, ◌+◌, ◌++◌, ℕ, List, [], ◌∷◌, length, get_or, take, drop, flat_map, refl, sym, ap, ◌∙◌}
use Rattle.std.specs.Prelude.{Ok, Err}
use Rattle.std.proofs.lemmas.List.{map_more, drop_more}
use Rattle.arrayvec.specs.ArrayVec.{ArrayVec}
use Rattle.xr_types.specs.declared.code.Code.{Code}
use Rattle.xr_types.specs.declared.frames.FrameLayer.{FrameLayer}
use Rattle.xr_types.specs.declared.frames.Layer.{Layer}
use Rattle.xr_model.specs.machine.Layers.{Look, layer_checks, layer_of, layers_of}
use Rattle.xr_model.specs.machine.Refusals.{first_of}
use Rattle.xr_model.specs.machine.PartAnswers.{or_refused}
use Rattle.xr_layers.proofs.Refused.{first_skips, ok_none, then_err}

module _ (look : Look) (layers : List Layer) (i : ℕ) (d : Layer) (within : i < length layers) where
  -- what refuses the layers from this one on
  at_layer : flat_map (layer_checks look) (drop i layers) ≡ layer_checks look (get_or layers i d) ++ flat_map (layer_checks look) (drop (i + 1) layers)
  at_layer = rw (drop_more layers i d within) refl

  pub shown_more : (done : List FrameLayer) (shown : FrameLayer) → done ≡ layers_of look (take i layers) → Ok shown ≡ or_refused (first_of (layer_checks look (get_or layers i d))) (layer_of look (get_or layers i d))
      → done ++ shown ∷ [] ≡ layers_of look (take (i + 1) layers)
  shown_more done shown before told =
      let is : shown ≡ layer_of look (get_or layers i d) = (ok_none (first_of (layer_checks look (get_or layers i d))) (layer_of look (get_or layers i d)) shown told).1 in
      rw (before, is) (sym (map_more (layer_of look) layers i d within))

  pub refused_later : (shown : FrameLayer) → Ok shown ≡ or_refused (first_of (layer_checks look (get_or layers i d))) (layer_of look (get_or layers i d))
      → first_of (flat_map (layer_checks look) (drop (i + 1) layers)) ≡ first_of (flat_map (layer_checks look) (drop i layers))
  refused_later shown told =
      let none = (ok_none (first_of (layer_checks look (get_or layers i d))) (layer_of look (get_or layers i d)) shown told).0 in
      sym (ap first_of at_layer ∙ first_skips (layer_checks look (get_or layers i d)) (flat_map (layer_checks look) (drop (i + 1) layers)) none)

  pub refused_here : (code : Code) (all : List FrameLayer) → Err code ≡ or_refused (first_of (layer_checks look (get_or layers i d))) (layer_of look (get_or layers i d))
      → first_of (flat_map (layer_checks look) (drop i layers)) ≡ first_of (flat_map (layer_checks look) layers) → Err code ≡ or_refused {T = ArrayVec FrameLayer} (first_of (flat_map (layer_checks look) layers)) (record { items = all })
  refused_here code all told same =
      rw (← same, at_layer) (then_err (layer_checks look (get_or layers i d)) (flat_map (layer_checks look) (drop (i + 1) layers)) (layer_of look (get_or layers i d)) (record { items = all }) code told)
