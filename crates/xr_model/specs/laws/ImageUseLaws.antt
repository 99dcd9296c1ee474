-- When a wait for an image is told a timeout, which places are kept, which stamps an entry sets, and how many images are given back.
use Rattle.std.specs.Prelude.{◌≡◌, ◌≢◌, ◌↔◌, ◌≤◌, ◌-◌, ◌*◌, ◌^◌, ◌+ℤ◌, ◌==◌, ◌&&◌, ◌||◌, int_le, int_lt, pos, ℕ, ℤ, Bool, true, false, List, [], ◌∷◌, ◌++◌, Option, Some, None, slice_get, unwrap_or, if◌then◌else◌}
use Rattle.xr_types.specs.Code.{is_success}
use Rattle.xr_types.specs.declared.calls.Call.{Call}
use Rattle.xr_types.specs.declared.calls.Call.TheVariants as ask
use Rattle.xr_types.specs.declared.code.Code.TheVariants.{TimeoutExpired}
use Rattle.xr_types.specs.declared.frames.Image.{Image}
use Rattle.xr_types.specs.declared.handles.Kind.TheVariants.{Swapchain}
use Rattle.xr_types.specs.declared.handles.TheConstants.{SWAPCHAINS}
use Rattle.xr_model.specs.machine.Calls.{Entry}
use Rattle.xr_model.specs.machine.Chains.{Chain, chain_at, place_of_chain, oldest_image, is_place_used}
use Rattle.xr_model.specs.machine.Handles.{is_live}
use Rattle.xr_model.specs.machine.Images.{stamp_in}
use Rattle.xr_model.specs.machine.Refusals.{first_of}
use Rattle.xr_model.specs.machine.Rule.{ahead}
use Rattle.xr_model.specs.machine.State.{CoreState, Settings, State, opening}
use Rattle.xr_model.specs.machine.Machine.{reads_of, rule, step}
use Rattle.xr_model.specs.machine.History.{after, IsLegal}
use Rattle.xr_model.specs.laws.DecidedEntries.{past_of, given_back}
use Rattle.xr_model.specs.laws.FrameLaws.{taken_by}
use Rattle.xr_model.specs.laws.ImageLaws.{IsPlaced, count_now, has_index}

-- ---- timeouts

-- the timeout that never ends (OpenXR 1.0 section 2.17, XR_INFINITE_DURATION)
abbrev pub infinite : ℤ
infinite = pos (2 ^ 63 - 1)

-- The wait for this image is out of time: a frame uses the image, the timeout isn't the infinite one, and the clock is at least at the
-- start and the timeout.
pub record IsOutOfTime (s : State) (chain : ℕ) (timeout start : ℤ) : Type 0 where
  pub used : count_now s (oldest_image s.core.chains chain) ≢ 0
  pub ends : int_lt timeout infinite ≡ true
  pub up : int_le (start +ℤ timeout) s.core.device.clock ≡ true

-- A wait is told a timeout exactly where nothing ahead of the call order refuses it, it is in order, and it is out of time.
abbrev pub TimeoutsAreTold : Type 0
TimeoutsAreTold =
    (s : State) (e : Entry) (chain : ℕ) (timeout start : ℤ) → e.call ≡ ask.WaitImage chain timeout start
    → ((step s e).1.reply.code ≡ TimeoutExpired)
    ↔ ((first_of (ahead (rule s.core (reads_of s e.call) e)) ≡ None) × ((rule s.core (reads_of s e.call) e).disorder ≡ false) × IsOutOfTime s chain timeout start)

-- ---- places

-- After every history a place that isn't free has a live swapchain, or a pending frame has an image of it, or the frame taken last.
abbrev pub KeptPlacesAreUsed : Type 0
KeptPlacesAreUsed =
    (settings : Settings) (es : List Entry) (place : ℕ) (c : Chain)
    → slice_get (after (opening settings) es).core.chains place ≡ Some c → (c.handle == 0) ≡ false
    → is_live (after (opening settings) es).core.handles Swapchain c.handle
    || is_place_used (after (opening settings) es).core.frames.pending (after (opening settings) es).core.shown_images place ≡ true

-- ---- stamps

-- a swapchain with this handle has the place
abbrev pub is_place_of : ℕ → Option Chain → Bool
is_place_of handle None = false
is_place_of handle (Some c) = c.handle == handle

-- the swapchain has this image as the one that was waited for
abbrev pub is_waited_image : CoreState → ℕ → Image → Bool
is_waited_image s chain i = (place_of_chain s.chains chain == i.place) && has_index (chain_at s.chains chain) i.index

-- the stamp that an entry which succeeds sets of an image, if it does: 0 for each of a new swapchain, and what is painted for the one
-- that was waited for
abbrev pub stamp_of_entry : State → Entry → Image → Option ℕ
stamp_of_entry s e i = by e.call
  where
    by : Call → Option ℕ
    by (ask.CreateSwapchain session format width height fixed) = if is_place_of e.given (slice_get (step s e).0.core.chains i.place) then Some 0 else None
    by (ask.Paint chain stamp) = if is_waited_image s.core chain i then Some stamp else None
    by _ = None

-- In a legal history an entry that succeeds sets just these stamps, and every other stamp stays.
abbrev pub StampsAreSet : Type 0
StampsAreSet =
    (settings : Settings) (es : List Entry) (e : Entry) (i : Image) → IsLegal settings (es ++ e ∷ []) → IsPlaced i
    → stamp_in (step (after (opening settings) es) e).0.cells.stamps i
    ≡ (if is_success (step (after (opening settings) es) e).1.reply.code
    then unwrap_or (stamp_of_entry (after (opening settings) es) e i) (stamp_in (after (opening settings) es).cells.stamps i)
    else stamp_in (after (opening settings) es).cells.stamps i)

-- ---- images that are given back

-- after a legal history at most as many images were given back for each frame that was taken as there are places of swapchains
abbrev pub ReturnsAreFew : Type 0
ReturnsAreFew = (settings : Settings) (es : List Entry) → IsLegal settings es → given_back (past_of settings es) ≤ SWAPCHAINS * taken_by settings es
