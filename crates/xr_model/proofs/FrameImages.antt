-- The images of a frame that is submitted: each once, all of its layers, and each the one that its live chain released last.
use Rattle.std.proofs.Common.{◌≡◌, ◌+◌, ◌*◌, ◌<◌, ◌≤◌, ◌==◌, ◌||◌, ℕ, zero, suc, Bool, true, false, not, List, [], ◌∷◌, ◌++◌, drop, Option, Some, None, option_map, unwrap_or, is_none, slice_get, refl, sym, subst, ◌∙◌, arith, true≢false}
use Rattle.std.specs.Prelude.{if◌then◌else◌, flat_map}
use Rattle.std.proofs.lemmas.List.Folds.{list_any-append}
use Rattle.xr_types.specs.declared.code.Code.TheVariants.{HandleInvalid, SwapchainRectInvalid, LayerInvalid, ValidationFailure, PoseInvalid}
use Rattle.xr_types.specs.declared.frames.FrameLayer.{FrameLayer}
use Rattle.xr_types.specs.declared.frames.Image.{Image}
use Rattle.xr_types.specs.declared.frames.Layer.{Layer}
use Rattle.xr_types.specs.declared.frames.Layer.TheVariants.{Projection, Quad}
use Rattle.xr_types.specs.declared.frames.SubImage.{SubImage}
use Rattle.xr_types.specs.declared.handles.Kind.TheVariants.{Swapchain}
use Rattle.xr_model.specs.scenario.InRange.{Each}
use Rattle.xr_model.specs.machine.Chains.{has_no_chain, Chain, is_chain, chain_at, place_of_chain, info_of, info_at, has_place}
use Rattle.xr_model.specs.machine.Frames.{one_if}
use Rattle.xr_model.specs.machine.Handles.{is_live}
use Rattle.xr_model.specs.machine.HandlePlaces.{is_below}
use Rattle.xr_model.specs.machine.Images.{is_image, slot_of, times_in, with_image, with_images, images_of_layer, with_images_of}
use Rattle.xr_model.specs.machine.Layers.{last_image, is_part_of, part_checks, part_image, view_at, layer_checks, layers_of}
use Rattle.xr_model.specs.machine.Refusals.{Refusal, when, first_of}
use Rattle.xr_model.specs.machine.Rules.Frames.{look_of}
use Rattle.xr_model.specs.machine.State.{CoreState}
use Rattle.xr_model.specs.laws.Owners.{has_image}
use Rattle.xr_model.proofs.Rows.{same_key, itself, both_of, neither_of, not_true}
use Rattle.xr_model.proofs.FrameOrder.{none_first, none_of}
use Rattle.xr_model.proofs.ChainPlaces.{none_is_not, same_some, found_good, found_at}
use Rattle.xr_model.specs.laws.Soundness.{LastFits, IsBelow, AreOnce, EachOf, AreAmong, OptIsSound}

-- ---- lists of images

pub each_more : (P : Image → Type 0) (images : List Image) (i : Image) → Each P images → P i → Each P (images ++ i ∷ [])
each_more P [] i each here = (here, tt)
each_more P (j ∷ images) i each here = (each.0, each_more P images i each.1 here)

pub each_so : (P Q : Image → Type 0) → ((i : Image) → P i → Q i) → (images : List Image) → Each P images → Each Q images
each_so P Q so [] each = tt
each_so P Q so (i ∷ images) each = (so i each.0, each_so P Q so images each.1)

pub each_left : (P : Image → Type 0) (n : ℕ) (images : List Image) → Each P images → Each P (drop n images)
each_left P zero images each = each
each_left P (suc n) [] each = tt
each_left P (suc n) (i ∷ images) each = each_left P n images each.1

-- two images stand apart unless they are the same
pub slots_apart : (i : Image) (place n : ℕ) → IsBelow i → n < 3 → slot_of i ≡ 3 * place + n → (i.place ≡ place) × (i.index ≡ n)
slots_apart i place n below less same = (omega (arith, below, less, same), omega (arith, below, less, same))

pub times_none : (k : ℕ) (images : List Image) → Each (λ i. (slot_of i == k) ≡ false) images → times_in images k ≡ 0
times_none k [] each = refl
times_none k (i ∷ images) each = let more = times_none k images each.1 in rw each.0 (omega (arith, more))

pub times_more : (images : List Image) (i : Image) (k : ℕ) → times_in (images ++ i ∷ []) k ≡ times_in images k + one_if (slot_of i == k)
times_more [] i k = omega arith
times_more (j ∷ images) i k = let more = times_more images i k in omega (arith, more)

pub times_left : (n : ℕ) (images : List Image) (k : ℕ) → times_in (drop n images) k ≤ times_in images k
times_left zero images k = omega arith
times_left (suc n) [] k = omega arith
times_left (suc n) (i ∷ images) k = let more = times_left n images k in omega (arith, more)

-- an image that isn't among these stands apart from them
apart : (i : Image) (images : List Image) → IsBelow i → Each IsBelow images → has_image i images ≡ false → Each (λ j. (slot_of j == slot_of i) ≡ false) images
apart i [] below each none = tt
apart i (j ∷ images) below each none =
    let two = neither_of (is_image i j) (has_image i images) none in
    (by (slot_of j == slot_of i) refl two.0, apart i images below each.1 two.1)
  where
    by : (b : Bool) → (slot_of j == slot_of i) ≡ b → is_image i j ≡ false → b ≡ false
    by true eb other =
        let same = slots_apart j i.place i.index each.0 below (same_key (slot_of j) (slot_of i) eb) in
        absurd (true≢false (sym (rw (same.0, same.1, itself i.place, itself i.index) refl) ∙ other))
    by false eb other = refl

-- no image of a place that these have no image of
pub times_elsewhere : (place n : ℕ) → n < 3 → (images : List Image) → Each IsBelow images → has_place place images ≡ false → times_in images (3 * place + n) ≡ 0
times_elsewhere place n less [] each none = refl
times_elsewhere place n less (i ∷ images) each none =
    let two = neither_of (i.place == place) (has_place place images) none in
    let more = times_elsewhere place n less images each.1 two.1 in
    rw (by (slot_of i == 3 * place + n) refl two.0) (omega (arith, more))
  where
    by : (b : Bool) → (slot_of i == 3 * place + n) ≡ b → (i.place == place) ≡ false → b ≡ false
    by true eb other =
        let same = slots_apart i place n each.0 less (same_key (slot_of i) (3 * place + n) eb) in
        absurd (true≢false (sym (rw (same.0, itself place) refl) ∙ other))
    by false eb other = refl

-- ---- each image once

module _ (P : Image → Type 0) (below : (i : Image) → P i → IsBelow i) where
  once_more : (images : List Image) (i : Image) → AreOnce P images → P i → AreOnce P (with_image images i)
  once_more images i are good = by (has_image i images) refl
    where
      by : (b : Bool) → has_image i images ≡ b → AreOnce P (if b then images else images ++ i ∷ [])
      by true eb = are
      by false eb = record { each = each_more P images i are.each good; once = λ k. at k (slot_of i == k) refl }
        where
          at : (k : ℕ) (b : Bool) → (slot_of i == k) ≡ b → times_in (images ++ i ∷ []) k ≤ 1
          at k true same =
              let none = times_none (slot_of i) images (apart i images (below i good) (each_so P IsBelow below images are.each) eb) in
              let here : times_in images k ≡ 0 = subst (λ (n : ℕ). times_in images n ≡ 0) (same_key (slot_of i) k same) none in
              rw (times_more images i k, same, here) (omega arith)
          at k false other = let before = are.once k in rw (times_more images i k, other) (omega (arith, before))

  once_all : (images more : List Image) → AreOnce P images → Each P more → AreOnce P (with_images images more)
  once_all images [] are each = are
  once_all images (i ∷ more) are each = once_all (with_image images i) more (once_more images i are each.0) each.1

pub once_of : (P : Image → Type 0) → ((i : Image) → P i → IsBelow i) → (images : List Image) (ls : List FrameLayer) → AreOnce P images → EachOf P ls → AreOnce P (with_images_of images ls)
once_of P below images [] are each = are
once_of P below images (l ∷ ls) are each = once_of P below (with_images images (images_of_layer l)) ls (once_all P below images (images_of_layer l) are each.0) each.1

-- ---- all images of the layers

or_with : (a b : Bool) → b ≡ true → a || b ≡ true
or_with true b e = refl
or_with false b e = e

with_or : (a b : Bool) → a ≡ true → a || b ≡ true
with_or true b e = refl
with_or false b e = absurd (true≢false (sym e))

has_itself : (i : Image) (images : List Image) → has_image i (with_image images i) ≡ true
has_itself i images = by (has_image i images) refl
  where
    by : (b : Bool) → has_image i images ≡ b → has_image i (if b then images else images ++ i ∷ []) ≡ true
    by true eb = eb
    by false eb = list_any-append (is_image i) images (i ∷ []) ∙ or_with (has_image i images) _ (rw (itself i.place, itself i.index) refl)

has_still : (i j : Image) (images : List Image) → has_image i images ≡ true → has_image i (with_image images j) ≡ true
has_still i j images has = by (has_image j images)
  where
    by : (b : Bool) → has_image i (if b then images else images ++ j ∷ []) ≡ true
    by true = has
    by false = list_any-append (is_image i) images (j ∷ []) ∙ with_or (has_image i images) _ has

has_with : (i : Image) (images more : List Image) → has_image i images ≡ true → has_image i (with_images images more) ≡ true
has_with i images [] has = has
has_with i images (j ∷ more) has = has_with i (with_image images j) more (has_still i j images has)

has_with_of : (i : Image) (images : List Image) (ls : List FrameLayer) → has_image i images ≡ true → has_image i (with_images_of images ls) ≡ true
has_with_of i images [] has = has
has_with_of i images (l ∷ ls) has = has_with_of i (with_images images (images_of_layer l)) ls (has_with i images (images_of_layer l) has)

has_each : (images more : List Image) → Each (λ i. has_image i (with_images images more) ≡ true) more
has_each images [] = tt
has_each images (i ∷ more) = (has_with i (with_image images i) more (has_itself i images), has_each (with_image images i) more)

pub are_among : (images : List Image) (ls : List FrameLayer) → AreAmong (with_images_of images ls) ls
are_among images [] = tt
are_among images (l ∷ ls) = (
  each_so (λ i. has_image i (with_images images (images_of_layer l)) ≡ true) (λ i. has_image i (with_images_of (with_images images (images_of_layer l)) ls) ≡ true)
      (λ i has. has_with_of i (with_images images (images_of_layer l)) ls has) (images_of_layer l) (has_each images (images_of_layer l)),
  are_among (with_images images (images_of_layer l)) ls,
)

-- ---- images that were released last

-- the chain in the image's place has a handle, and released this image last
pub record IsLast (chains : List Chain) (i : Image) : Type 0 where
  pub chain : Chain
  pub at : slice_get chains i.place ≡ Some chain
  pub last : chain.last ≡ Some i.index
  pub named : (chain.handle == 0) ≡ false
  pub below : IsBelow i

-- what is found as the chain of a handle has it
pub is_named : (handle : ℕ) (c : Chain) → is_chain handle c ≡ true → c.handle ≡ handle
unfolding is_chain
is_named handle c is = same_key c.handle handle (both_of (c.handle == handle) (not (has_no_chain c)) is).0

-- the index that a sound chain released last
last_below : (o : Option ℕ) (ks : List ℕ) (n : ℕ) → LastFits o ks → o ≡ Some n → n < 3
last_below None ks n fits e = absurd (none_is_not n e)
last_below (Some k) ks n fits e = subst (λ (m : ℕ). m < 3) (same_some k n e) fits.0

module _ (s : CoreState) (session : ℕ) (P : Chain → Type 0) (fits : (c : Chain) → P c → LastFits c.last c.acquired) (sound : (p : ℕ) → OptIsSound P (slice_get s.chains p)) where
  -- an image of a part that isn't refused
  part_is_last : (part : SubImage) (rest : List Refusal) → first_of (part_checks (look_of s session) part ++ rest) ≡ None → IsLast s.chains (part_image (look_of s session) part)
  part_is_last part rest none =
      let checks = (none_of (part_checks (look_of s session) part) rest none).0 in
      let one = none_first (is_none ((look_of s session).chain part.chain)) HandleInvalid (when (not (is_part_of ((look_of s session).chain part.chain) part)) SwapchainRectInvalid ∷ when (is_none (last_image ((look_of s session).chain part.chain))) LayerInvalid ∷ []) checks in
      let two = none_first (not (is_part_of ((look_of s session).chain part.chain) part)) SwapchainRectInvalid (when (is_none (last_image ((look_of s session).chain part.chain))) LayerInvalid ∷ []) one.1 in
      let three = none_first (is_none (last_image ((look_of s session).chain part.chain))) LayerInvalid [] two.1 in
      live (is_below s.handles Swapchain session part.chain) refl three.0
    where
      released : (c : Chain) → chain_at s.chains part.chain ≡ Some c → (part.chain == 0) ≡ false → (o : Option ℕ) → c.last ≡ o
          → is_none (option_map (λ n. let i : Image = record { place = place_of_chain s.chains part.chain; index = n } in i) o) ≡ false
          → IsLast s.chains (unwrap_or (option_map (λ n. let i : Image = record { place = place_of_chain s.chains part.chain; index = n } in i) o) (record { place = 0; index = 0 }))
      released c found nz None last some = absurd (true≢false some)
      released c found nz (Some n) last some =
          let at = found_at (is_chain part.chain) s.chains c found in
          record {
            chain = c;
            at = at;
            last = last;
            named = subst (λ (k : ℕ). (k == 0) ≡ false) (sym (is_named part.chain c (found_good (is_chain part.chain) s.chains c found))) nz;
            below = last_below c.last c.acquired n (fits c (subst (OptIsSound P) at (sound (place_of_chain s.chains part.chain)))) last;
          }

      found : (o : Option Chain) → chain_at s.chains part.chain ≡ o → (part.chain == 0) ≡ false → is_none (last_image (option_map (info_of (place_of_chain s.chains part.chain)) o)) ≡ false
          → IsLast s.chains (unwrap_or (last_image (option_map (info_of (place_of_chain s.chains part.chain)) o)) (record { place = 0; index = 0 }))
      found None is nz some = absurd (true≢false some)
      found (Some c) is nz some = released c is nz c.last refl some

      live : (b : Bool) → is_below s.handles Swapchain session part.chain ≡ b → is_none (last_image (if b then info_at s.chains part.chain else None)) ≡ false
          → IsLast s.chains (unwrap_or (last_image (if b then info_at s.chains part.chain else None)) (record { place = 0; index = 0 }))
      live true eb some = found (chain_at s.chains part.chain) refl (not_true (part.chain == 0) (both_of (not (part.chain == 0)) _ (both_of (is_live s.handles Swapchain part.chain) _ eb).0).0) some
      live false eb some = absurd (true≢false some)

  pub layers_are_last : (layers : List Layer) → first_of (flat_map (layer_checks (look_of s session)) layers) ≡ None → EachOf (IsLast s.chains) (layers_of (look_of s session) layers)
  layers_are_last [] none = tt
  layers_are_last (Projection space count views ∷ layers) none =
      let two = none_of (layer_checks (look_of s session) (Projection space count views)) (flat_map (layer_checks (look_of s session)) layers) none in
      let one = none_first (not ((look_of s session).space space)) HandleInvalid (when (not (count == 2)) ValidationFailure ∷ part_checks (look_of s session) (view_at views 0) ++ part_checks (look_of s session) (view_at views 1)) two.0 in
      let counts = none_first (not (count == 2)) ValidationFailure (part_checks (look_of s session) (view_at views 0) ++ part_checks (look_of s session) (view_at views 1)) one.1 in
      let right = (none_of (part_checks (look_of s session) (view_at views 0)) (part_checks (look_of s session) (view_at views 1)) counts.1).1 in
      ((part_is_last (view_at views 0) (part_checks (look_of s session) (view_at views 1)) counts.1, (part_is_last (view_at views 1) [] right, tt)), layers_are_last layers two.1)
  layers_are_last (Quad space image pose ∷ layers) none =
      let two = none_of (layer_checks (look_of s session) (Quad space image pose)) (flat_map (layer_checks (look_of s session)) layers) none in
      let one = none_first (not ((look_of s session).space space)) HandleInvalid (part_checks (look_of s session) image ++ when (pose == 0) PoseInvalid ∷ []) two.0 in
      ((part_is_last image (when (pose == 0) PoseInvalid ∷ []) one.1, tt), layers_are_last layers two.1)
