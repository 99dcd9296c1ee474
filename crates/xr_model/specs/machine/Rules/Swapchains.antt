-- The rules of the calls on swapchains and their images (OpenXR 1.0 chapter 10, "Swapchain Image Management"). Painting is this
-- project's own, and so is that a timeout runs on the device's clock from the caller's last locked call.
use Rattle.std.specs.Prelude.{ℕ, ℤ, pos, ◌-ℤ◌, ◌&&◌, ◌-◌, ◌^◌, int_le, Bool, not, List, [], ◌∷◌, ◌++◌, take, Some}
use Rattle.xr_types.specs.declared.code.Code.TheVariants.{TimeoutExpired}
use Rattle.xr_types.specs.declared.calls.Gives.TheVariants.{Nothing, Handle, Number}
use Rattle.xr_types.specs.declared.frames.Image.{Image}
use Rattle.xr_types.specs.declared.handles.Kind.TheVariants.{Session, Swapchain}
use Rattle.xr_model.specs.machine.Chains.{Chain, new_chain, chain_at, with_chain, with_chain_at, chain_checks, no_place, first_place, is_acquire_wrong, is_wait_wrong, is_paint_wrong, next_index, acquiring, waiting, releasing, oldest_image, is_place_used, left_in_places, freed_in_places}
use Rattle.xr_model.specs.machine.Frames.{is_empty}
use Rattle.xr_model.specs.machine.Handles.{no_handle, no_room, with_handle, without_alone}
use Rattle.xr_model.specs.machine.Images.{unstamped}
use Rattle.xr_model.specs.machine.Refusals.{when}
use Rattle.xr_model.specs.machine.SessionRule.{loss_of}
use Rattle.xr_model.specs.machine.State.{CoreState, CellReads}
use Rattle.xr_model.specs.machine.Rule.{Rule, compositor, ordinary, done, done_doing, nothing_done, destroying}
use Rattle.xr_model.specs.machine.Rules.Session.{life_of}
use Rattle.xr_model.specs.machine.Rules.Spaces.{session_above}

-- ---- coming and going

abbrev pub with_swapchain : CoreState → ℕ → Chain → CoreState
with_swapchain s session c = record s { handles = with_handle s.handles Swapchain session c.handle; chains = with_chain s.chains c }

-- xrCreateSwapchain: of one of three formats, in the first free place, with the stamp 0 for each image of the place
abbrev pub create_swapchain_rule : CoreState → ℕ → ℕ → ℕ → ℕ → ℕ → Bool → Rule
create_swapchain_rule s given session format width height fixed = record (ordinary s) {
  on = Some (loss_of (life_of s session));
  handles = no_handle s.handles Session session ∷ [];
  behind = chain_checks format width height ++ no_place s.chains ∷ no_room s.handles Swapchain ∷ [];
  creates = Some Swapchain;
  effect = done_doing (with_swapchain s session (new_chain given width height fixed)) (Handle given) (record nothing_done { stamped = unstamped (first_place s.chains) });
}

-- nothing stands below a swapchain, so its row and the places of swapchains are all that change
abbrev pub with_chain_gone : CoreState → ℕ → CoreState
with_chain_gone s chain = record s {
  handles = without_alone s.handles Swapchain chain;
  chains = left_in_places (without_alone s.handles Swapchain chain) (is_place_used s.frames.pending s.shown_images) 0 s.chains;
}

-- the image that an application had waited for, and whose chain goes
abbrev pub freed_with_chain : CoreState → ℕ → List Image
freed_with_chain s chain = freed_in_places (without_alone s.handles Swapchain chain) 0 s.chains

-- xrDestroySwapchain. It is refused for its handle alone, also where the session is lost.
abbrev pub destroy_swapchain_rule : CoreState → ℕ → Rule
destroy_swapchain_rule s chain = record (ordinary s) {
  handles = no_handle s.handles Swapchain chain ∷ [];
  effect = destroying (with_chain_gone s chain) (chain ∷ []) (freed_with_chain s chain);
}

-- ---- images of an application

-- the chain has changed
abbrev pub with_changed_chain : CoreState → ℕ → (Chain → Chain) → CoreState
with_changed_chain s chain f = record s { chains = with_chain_at chain f s.chains }

-- xrAcquireSwapchainImage: the indices come in turn
abbrev pub acquire_image_rule : CoreState → ℕ → Rule
acquire_image_rule s chain = record (ordinary s) {
  on = Some (loss_of (life_of s (session_above s.handles chain)));
  handles = no_handle s.handles Swapchain chain ∷ [];
  disorder = is_acquire_wrong (chain_at s.chains chain);
  effect = done (with_changed_chain s chain acquiring) (Number (next_index (chain_at s.chains chain)));
}

-- the longest timeout never ends
abbrev pub forever : ℤ
forever = pos (2 ^ 63 - 1)

-- the time of a wait is up, in ns of device time
abbrev pub is_up : ℤ → ℤ → ℤ → Bool  -- clock, timeout, start
is_up clock timeout start = not (int_le forever timeout) && int_le timeout (clock -ℤ start)

-- xrWaitSwapchainImage: of the image that was acquired first and not released. It waits while a frame uses that image and its
-- time isn't up, and tells a timeout where that is up.
abbrev pub wait_image_rule : CoreState → CellReads → ℕ → ℤ → ℤ → Rule
wait_image_rule s reads chain timeout start = record (ordinary s) {
  in_range = int_le (pos 0) timeout && int_le (pos 0) start;
  waits = not reads.unused && not (is_up s.device.clock timeout start);
  on = Some (loss_of (life_of s (session_above s.handles chain)));
  handles = no_handle s.handles Swapchain chain ∷ [];
  disorder = is_wait_wrong (chain_at s.chains chain);
  behind = when (not reads.unused && is_up s.device.clock timeout start) TimeoutExpired ∷ [];
  effect = done_doing (with_changed_chain s chain waiting) Nothing (record nothing_done { claimed = oldest_image s.chains chain ∷ [] });
}

-- an application writes the stamp of the image that it waited for
abbrev pub paint_rule : CoreState → ℕ → ℕ → Rule
paint_rule s chain stamp = record (ordinary s) {
  on = Some (loss_of (life_of s (session_above s.handles chain)));
  handles = no_handle s.handles Swapchain chain ∷ [];
  disorder = is_paint_wrong (chain_at s.chains chain);
  effect = done_doing s Nothing (record nothing_done { stamped = record { image = oldest_image s.chains chain; stamp = stamp } ∷ [] });
}

-- xrReleaseSwapchainImage: of the image that was waited for
abbrev pub release_image_rule : CoreState → ℕ → Rule
release_image_rule s chain = record (ordinary s) {
  on = Some (loss_of (life_of s (session_above s.handles chain)));
  handles = no_handle s.handles Swapchain chain ∷ [];
  disorder = is_paint_wrong (chain_at s.chains chain);
  effect = done_doing (with_changed_chain s chain releasing) Nothing (record nothing_done { freed = oldest_image s.chains chain ∷ [] });
}

-- ---- images that the compositor holds

-- the compositor gives back the first image that it holds
abbrev pub image_done_rule : CoreState → CellReads → Rule
image_done_rule s reads = record (ordinary s) {
  caller = compositor;
  disorder = is_empty reads.held;
  effect = done_doing s Nothing (record nothing_done { returned = take 1 reads.held });
}
