-- The images of a frame that nothing refuses are few: each is the one that a chain released last, and two of one place are the same.
use Rattle.std.proofs.Common.{◌≡◌, ◌≤◌, ◌<◌, ◌++◌, ◌||◌, ◌==◌, inl, inr, ℕ, Bool, true, false, not, List, [], ◌∷◌, Option, Some, None, map, length, flat_map, ◌+◌, get_or, drop, refl, sym, ap, ◌∙◌, arith, true≢false}
use Rattle.std.specs.Prelude.{is_none, unwrap_or, if◌then◌else◌}
use Rattle.std.specs.Cmp.{nat_eq_equiv}
use Rattle.std.specs.List.{IsDistinct, AllByRecursion, list_any}
use Rattle.std.proofs.Math.Dec.{eqb}
use Rattle.std.proofs.lemmas.Bool.{eq-eqb}
use Rattle.std.proofs.lemmas.Bool.Decides.{eqb_tells}
use Rattle.std.proofs.lemmas.Grind.{common_steps}
use Rattle.std.proofs.lemmas.List.{length-map, map-append, at_drop_more}
use Rattle.std.proofs.lemmas.Map.Keys.{IsDistinct-push, IsDistinct-from_apart}
use Rattle.std.proofs.lemmas.Map.Steps.{length-le_from_distinct_below}
use Rattle.xr_types.specs.declared.code.Code.TheVariants.{HandleInvalid, ValidationFailure, SwapchainRectInvalid, LayerInvalid, PoseInvalid}
use Rattle.xr_types.specs.declared.frames.FrameLayer.{FrameLayer}
use Rattle.xr_types.specs.declared.frames.Image.{Image}
use Rattle.xr_types.specs.declared.frames.Layer.{Layer}
use Rattle.xr_types.specs.declared.frames.Layer.TheVariants.{Projection, Quad}
use Rattle.xr_types.specs.declared.frames.SubImage.{SubImage}
use Rattle.xr_model.specs.machine.Images.{is_image, with_image, with_images, with_images_of, images_of_layer}
use Rattle.xr_model.specs.machine.Layers.{Look, is_part_of, last_image, part_image, part_checks, view_at, layer_checks, layer_of, layers_of}
use Rattle.xr_model.specs.machine.Refusals.{Refusal, first_of, when}
use Rattle.xr_layers.specs.Sound.{AreSound}
use Rattle.xr_layers.proofs.Refused.{none_first, none_second, none_behind, none_here}

-- ---- lists

all_snoc : {X : Type 0} (P : X → Type 0) (xs : List X) (x : X) → AllByRecursion P xs → P x → AllByRecursion P (xs ++ x ∷ [])
all_snoc P [] x all here = (here, tt)
all_snoc P (y ∷ xs) x all here = (all.0, all_snoc P xs x all.1 here)

or_false : (a b : Bool) → (a || b) ≡ false → (a ≡ false) × (b ≡ false)
or_false true b none = absurd (true≢false none)
or_false false b none = (refl, none)

-- ---- more images

pub length-le-with_image : (images : List Image) (i : Image) → length images ≤ length (with_image images i)
length-le-with_image images i = by (list_any (is_image i) images)
  where
    by : (b : Bool) → length images ≤ length (if b then images else images ++ i ∷ [])
    by true = omega arith
    by false = grind (arith, common_steps)

pub length-le-with_images : (images more : List Image) → length images ≤ length (with_images images more)
length-le-with_images images [] = omega arith
length-le-with_images images (i ∷ more) = omega (arith, length-le-with_image images i, length-le-with_images (with_image images i) more)

pub length-le-with_images_of : (images : List Image) (layers : List FrameLayer) → length images ≤ length (with_images_of images layers)
length-le-with_images_of images [] = omega arith
length-le-with_images_of images (l ∷ layers) = omega (arith, length-le-with_images images (images_of_layer l), length-le-with_images_of (with_images images (images_of_layer l)) layers)

-- those of one more layer are no more than all
pub length-with_images-le : (images all : List Image) (layers : List FrameLayer) (i n : ℕ) (d : FrameLayer) → i < length layers → with_images_of images (drop i layers) ≡ all → length all ≤ n
    → length (with_images images (images_of_layer (get_or layers i d))) ≤ n
length-with_images-le images all layers i n d within are few =
    let here = at_drop_more (with_images_of images) layers i d within in
    let more = length-le-with_images_of (with_images images (images_of_layer (get_or layers i d))) (drop (i + 1) layers) in
    omega (arith, ap length here, ap length are)

-- ---- the images of a frame that nothing refuses

module _ (look : Look) (sound : AreSound look.chain) where
  -- a chain released this image last
  Comes : Image → Type 0
  Comes i = (handle : ℕ) × (last_image (look.chain handle) ≡ Some i)

  place_of : Image → ℕ
  place_of i = i.place

  -- images that chains released last, no two of one place
  record AreApart (images : List Image) : Type 0 where
    come : AllByRecursion Comes images
    apart : IsDistinct eqb (map place_of images)

  same_image : (i : Image) → is_image i i ≡ true
  same_image i = rw (eq-eqb i.place i.place refl, eq-eqb i.index i.index refl) refl

  elsewhere : (images : List Image) (i : Image) → AllByRecursion Comes images → Comes i → list_any (is_image i) images ≡ false → list_any (eqb i.place) (map place_of images) ≡ false
  unfolding Comes place_of
  elsewhere [] i come comes none = refl
  elsewhere (j ∷ images) i come comes none =
      let parts = or_false (is_image i j) (list_any (is_image i) images) none in
      elim (eqb_tells i.place j.place) [
        | inl same ↦ let is = sound.same comes.0 (come.0).0 i j comes.1 (come.0).1 same.1 in absurd (true≢false (sym (same_image i) ∙ ap (is_image i) is ∙ parts.0))
        | inr differ ↦ rw differ.0 (elsewhere images i come.1 comes parts.1)
      ]

  added : (images : List Image) (i : Image) → AreApart images → Comes i → AreApart (with_image images i)
  unfolding place_of
  added images i before comes = by (list_any (is_image i) images) refl
    where
      by : (b : Bool) → list_any (is_image i) images ≡ b → AreApart (if b then images else images ++ i ∷ [])
      by true e = before
      by false e = record {
        come = all_snoc Comes images i before.come comes;
        apart = rw map-append (IsDistinct-push nat_eq_equiv (map place_of images) i.place before.apart (elsewhere images i before.come comes e));
      }

  below : (images : List Image) (q : ℕ) → AllByRecursion Comes images → list_any (eqb q) (map place_of images) ≡ true → q < 16
  unfolding Comes place_of
  below [] q come there = absurd (true≢false (sym there))
  below (j ∷ images) q come there = elim (eqb_tells q j.place) [
    | inl same ↦ let within = sound.within (come.0).0 j (come.0).1 in rw same.1 within
    | inr differ ↦ below images q come.1 (rw differ.0 at there)
  ]

  few : (images : List Image) → AreApart images → length images ≤ 16
  few images all = rw (← length-map images place_of) (length-le_from_distinct_below (map place_of images) 16 all.apart (λ q there. below images q all.come there))

  part_comes : (part : SubImage) → first_of (part_checks look part) ≡ None → Comes (part_image look part)
  unfolding Comes
  part_comes part none = (part.chain, by (last_image (look.chain part.chain)) (none_here last [] (none_behind rect (last ∷ []) (none_behind (when (is_none (look.chain part.chain)) HandleInvalid) (rect ∷ last ∷ []) none))))
    where
      rect : Refusal
      rect = when (not (is_part_of (look.chain part.chain) part)) SwapchainRectInvalid

      last : Refusal
      last = when (is_none (last_image (look.chain part.chain))) LayerInvalid

      by : (o : Option Image) → is_none o ≡ false → o ≡ Some (unwrap_or o (record { place = 0; index = 0 }))
      by None e = absurd (true≢false e)
      by (Some i) e = refl

  layer_added : (layer : Layer) (images : List Image) → first_of (layer_checks look layer) ≡ None → AreApart images → AreApart (with_images images (images_of_layer (layer_of look layer)))
  layer_added (Projection space count views) images none before =
      let lefts = part_checks look (view_at views 0) in
      let rights = part_checks look (view_at views 1) in
      let form = when (not (look.space space)) HandleInvalid ∷ when (not (count == 2)) ValidationFailure ∷ [] in
      let parts = none_second form (lefts ++ rights) none in
      let left = part_comes (view_at views 0) (none_first lefts rights parts) in
      let right = part_comes (view_at views 1) (none_second lefts rights parts) in
      added (with_image images (part_image look (view_at views 0))) (part_image look (view_at views 1)) (added images (part_image look (view_at views 0)) before left) right
  layer_added (Quad space image pose) images none before = added images (part_image look image) before (part_comes image (none_first (part_checks look image) (when (pose == 0) PoseInvalid ∷ []) (none_second (when (not (look.space space)) HandleInvalid ∷ []) (part_checks look image ++ when (pose == 0) PoseInvalid ∷ []) none)))

  layers_added : (layers : List Layer) (images : List Image) → first_of (flat_map (layer_checks look) layers) ≡ None → AreApart images → AreApart (with_images_of images (layers_of look layers))
  layers_added [] images none before = before
  layers_added (l ∷ layers) images none before =
      layers_added layers (with_images images (images_of_layer (layer_of look l))) (none_second (layer_checks look l) (flat_map (layer_checks look) layers) none)
      (layer_added l images (none_first (layer_checks look l) (flat_map (layer_checks look) layers) none) before)

  none_apart : AreApart []
  none_apart = record { come = tt; apart = IsDistinct-from_apart eqb (map place_of []) (λ i j d before within. absurd (omega arith)) }

  pub few_images : (layers : List Layer) → first_of (flat_map (layer_checks look) layers) ≡ None → length (with_images_of [] (layers_of look layers)) ≤ 16
  few_images layers none = few (with_images_of [] (layers_of look layers)) (layers_added layers [] none none_apart)
