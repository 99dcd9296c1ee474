-- Of two swapchains with one place both are the same, and a place is one of the first sixteen.
use Rattle.std.proofs.Common.{◌≡◌, ◌<◌, ℕ, Bool, true, false, List, length, Option, Some, None, option_map, slice_get, refl, sym, ap, subst, ◌∙◌, arith}
use Rattle.std.specs.Prelude.{if◌then◌else◌}
use Rattle.xr_types.specs.declared.frames.Image.{Image}
use Rattle.xr_types.specs.declared.handles.Kind.TheVariants.{Swapchain}
use Rattle.xr_types.specs.declared.handles.TheConstants.{SWAPCHAINS}
use Rattle.xr_model.specs.machine.Chains.{Chain, is_chain, chain_at, place_of_chain, info_of, info_at}
use Rattle.xr_model.specs.machine.Handles.{Handles}
use Rattle.xr_model.specs.machine.HandlePlaces.{is_below}
use Rattle.xr_model.specs.machine.Layers.{last_image}
use Rattle.xr_model.proofs.ChainPlaces.{same_some, found_at}
use Rattle.xr_model.proofs.CellCounts.{within}
use Rattle.xr_layers.specs.Sound.{AreSound}

-- a chain that tells of an image stands in its place
record Tells (chains : List Chain) (handle : ℕ) (i : Image) : Type 0 where
  chain : Chain
  found : chain_at chains handle ≡ Some chain
  place : i.place ≡ place_of_chain chains handle
  info : last_image (Some (info_of (place_of_chain chains handle) chain)) ≡ Some i

tells_of : (chains : List Chain) (handle : ℕ) (i : Image) → last_image (info_at chains handle) ≡ Some i → Tells chains handle i
tells_of chains handle i last = by (chain_at chains handle) refl last
  where
    at : (o : Option ℕ) (place : ℕ) → option_map (λ n. record { place = place; index = n }) o ≡ Some i → i.place ≡ place
    at None place last = cc
    at (Some n) place last = let is : i ≡ record { place = place; index = n } = cc in ap (λ (j : Image). j.place) is

    by : (o : Option Chain) → chain_at chains handle ≡ o → last_image (option_map (info_of (place_of_chain chains handle)) o) ≡ Some i → Tells chains handle i
    by None found last = cc
    by (Some c) found last = record { chain = c; found = found; place = at c.last (place_of_chain chains handle) last; info = last }

module _ (chains : List Chain) where
  tells_within : (handle : ℕ) (i : Image) → Tells chains handle i → i.place < length chains
  tells_within handle i t = let less = within chains (place_of_chain chains handle) t.chain (found_at (is_chain handle) chains t.chain t.found) in subst (λ (n : ℕ). n < length chains) (sym t.place) less

  same_image : (handle other : ℕ) (i j : Image) → Tells chains handle i → Tells chains other j → i.place ≡ j.place → i ≡ j
  same_image handle other i j t u same =
      let place : place_of_chain chains handle ≡ place_of_chain chains other = sym t.place ∙ same ∙ u.place in
      let chain : t.chain ≡ u.chain = same_some t.chain u.chain (sym (found_at (is_chain handle) chains t.chain t.found) ∙ ap (λ (n : ℕ). slice_get chains n) place ∙ found_at (is_chain other) chains u.chain u.found) in
      let one : Some i ≡ Some j = sym t.info ∙ rw (place, chain) u.info in
      same_some i j one

pub sight_is_sound : (session : ℕ) (h : Handles) (chains : List Chain) → length chains ≡ SWAPCHAINS → AreSound (λ chain. if is_below h Swapchain session chain then info_at chains chain else None)
sight_is_sound session h chains few = record {
  within = λ handle i last. let less = tells_within chains handle i (tells_of chains handle i (live (is_below h Swapchain session handle) handle i last)) in omega (arith, few, less);
  same = λ handle other i j last last_other places.
      same_image chains handle other i j (tells_of chains handle i (live (is_below h Swapchain session handle) handle i last)) (tells_of chains other j (live (is_below h Swapchain session other) other j last_other)) places;
}
  where
    live : (b : Bool) (handle : ℕ) (i : Image) → last_image (if b then info_at chains handle else None) ≡ Some i → last_image (info_at chains handle) ≡ Some i
    live true handle i last = last
    live false handle i last = cc
