-- Images in every history: who owns them, how they are counted, that what is shown doesn't change, and which swapchain has which
-- place.
use Rattle.std.specs.Prelude.{◌*◌, ◌≡◌, ◌≤◌, ◌<◌, ◌+◌, ◌==◌, ◌&&◌, ℕ, Bool, true, false, List, [], ◌∷◌, ◌++◌, slice_get, Option, Some, None, is_some}
use Rattle.xr_types.specs.declared.frames.Image.{Image}
use Rattle.xr_types.specs.declared.handles.Kind.TheVariants.{Swapchain}
use Rattle.xr_types.specs.declared.handles.TheConstants.{SESSIONS}
use Rattle.xr_model.specs.machine.Chains.{Chain, chain_at, place_of_chain, oldest_of, is_place_used}
use Rattle.xr_model.specs.machine.Handles.{is_live}
use Rattle.xr_model.specs.machine.Images.{slot_of, times_in, count_of, stamp_in}
use Rattle.xr_model.specs.machine.Calls.{Entry}
use Rattle.xr_types.specs.declared.calls.Call.{Call}
use Rattle.xr_types.specs.declared.calls.Call.TheVariants as ask
use Rattle.xr_model.specs.machine.Rule.{Did}
use Rattle.xr_model.specs.machine.State.{Settings, CoreState, CellReads, State, opening}
use Rattle.xr_model.specs.machine.Machine.{effect, reads_of, step, ready, core_step}
use Rattle.xr_model.specs.machine.History.{after, IsLegal}
use Rattle.xr_model.specs.laws.Owners.{has_image, has_behind, is_applications, is_compositors, times_used, times_returned}
use Rattle.xr_model.specs.laws.DecidedEntries.{past_of}

-- an image of one of the places: its place is below 16, and its index below 3
abbrev pub IsPlaced : Image → Type 0
IsPlaced i = (i.place < 16) × (i.index < 3)

-- what an entry does with images in this state
abbrev pub did_at : State → Entry → Did
did_at s e = (effect s.core (reads_of s e.call) e).did

-- ---- owners

-- no image is owned by an application and by the compositor at once
abbrev pub NoTwoOwners : Type 0
NoTwoOwners =
    (settings : Settings) (es : List Entry) (i : Image) → IsLegal settings es → IsPlaced i
    → is_applications i (past_of settings es) ≡ true → is_compositors i (past_of settings es) ≡ false

-- a wait that succeeds gets an image that nobody owned
abbrev pub WaitedImageIsNobodys : Type 0
WaitedImageIsNobodys =
    (settings : Settings) (es : List Entry) (e : Entry) (i : Image) → IsLegal settings (es ++ e ∷ []) → IsPlaced i
    → has_image i (did_at (after (opening settings) es) e).claimed ≡ true
    → (is_applications i (past_of settings es) ≡ false) × (is_compositors i (past_of settings es) ≡ false)

-- ---- what the state says of owners

-- the index that this chain's application waited for is this one
abbrev pub has_index : Option Chain → ℕ → Bool
has_index None n = false
has_index (Some c) n = c.has_waited && (oldest_of c.acquired == n)

-- the chain in the image's place has it as the image that was waited for
abbrev pub is_had : CoreState → Image → Bool
is_had s i = has_index (slice_get s.chains i.place) i.index

-- how often an image is used in this state
abbrev pub count_now : State → Image → ℕ
count_now s i = count_of s.core.frames.pending s.cells.held (slot_of i)

-- An image is an application's where its place says so, and its count is how much more often it was used than given back.
pub record OwnersFit (settings : Settings) (es : List Entry) (i : Image) : Type 0 where
  pub application : is_applications i (past_of settings es) ≡ is_had (after (opening settings) es).core i
  pub count : times_used i (past_of settings es) ≡ times_returned i (past_of settings es) + count_now (after (opening settings) es) i

abbrev pub OwnersAreInTheState : Type 0
OwnersAreInTheState = (settings : Settings) (es : List Entry) (i : Image) → IsLegal settings es → IsPlaced i → OwnersFit settings es i

-- What an entry does to an image is what it did: with no regard to the call, the count grows by the uses and falls by what is
-- given back, and an application has it by what is claimed and freed.
pub record ImageSteps (s : State) (e : Entry) (i : Image) : Type 0 where
  pub count : count_now (step s e).0 i + times_in (did_at s e).returned (slot_of i) ≡ count_now s i + times_in (did_at s e).used (slot_of i)
  pub had : is_had (step s e).0.core i ≡ has_behind i (did_at s e) (is_had s.core i)

abbrev pub ImagesStep : Type 0
ImagesStep = (settings : Settings) (es : List Entry) (e : Entry) (i : Image) → IsLegal settings (es ++ e ∷ []) → IsPlaced i → ImageSteps (after (opening settings) es) e i

-- an image is used at most once by each frame that is pending, and by the one that the compositor took
abbrev pub CountsAreFew : Type 0
CountsAreFew = (settings : Settings) (es : List Entry) (i : Image) → IsLegal settings es → IsPlaced i → count_now (after (opening settings) es) i ≤ 2 * SESSIONS + 2

-- ---- stamps

-- while the compositor owns an image its stamp stays
abbrev pub StampsStay : Type 0
StampsStay =
    (settings : Settings) (es : List Entry) (e : Entry) (i : Image) → IsLegal settings (es ++ e ∷ []) → IsPlaced i
    → is_compositors i (past_of settings es) ≡ true
    → stamp_in (step (after (opening settings) es) e).0.cells.stamps i ≡ stamp_in (after (opening settings) es).cells.stamps i

-- ---- places

-- A live swapchain has a place, and no two have the same.
abbrev pub ChainsArePlaced : Type 0
ChainsArePlaced =
    (settings : Settings) (es : List Entry) (handle : ℕ) → IsLegal settings es
    → is_some (chain_at (after (opening settings) es).core.chains handle) ≡ is_live (after (opening settings) es).core.handles Swapchain handle

abbrev pub PlacesAreOwn : Type 0
PlacesAreOwn =
    (settings : Settings) (es : List Entry) (a b : ℕ) → IsLegal settings es
    → is_live (after (opening settings) es).core.handles Swapchain a ≡ true → is_live (after (opening settings) es).core.handles Swapchain b ≡ true
    → place_of_chain (after (opening settings) es).core.chains a ≡ place_of_chain (after (opening settings) es).core.chains b → a ≡ b

-- a free place is one that no pending frame, and not the frame taken last, has an image of
abbrev pub FreePlacesAreUnused : Type 0
FreePlacesAreUnused =
    (settings : Settings) (es : List Entry) (place : ℕ) (c : Chain) → IsLegal settings es
    → slice_get (after (opening settings) es).core.chains place ≡ Some c → c.handle ≡ 0
    → is_place_used (after (opening settings) es).core.frames.pending (after (opening settings) es).core.shown_images place ≡ false

-- ---- images that are given back

abbrev pub is_next_frame : Call → Bool
is_next_frame ask.NextFrame = true
is_next_frame _ = false

abbrev pub is_compositor_call : Call → Bool
is_compositor_call ask.NextFrame = true
is_compositor_call ask.ImageDone = true
is_compositor_call _ = false

-- an image that is given back changes nothing that a core keeps
abbrev pub GivingBackLeavesTheCore : Type 0
GivingBackLeavesTheCore = (s : State) (e : Entry) → e.call ≡ ask.ImageDone → (step s e).0.core ≡ s.core

-- what a call answers, and what is kept after it, doesn't depend on which images are held, but for the compositor's calls
abbrev pub HeldImagesAreAside : Type 0
HeldImagesAreAside =
    (s : CoreState) (reads : CellReads) (held : List Image) (e : Entry) → is_compositor_call e.call ≡ false
    → core_step s (record reads { held = held }) e ≡ core_step s reads e

-- A call that is ready stays ready when an image is given back, but for the one that is refused until all are, and may have to
-- wait from then on.
abbrev pub GivingBackKeepsReady : Type 0
GivingBackKeepsReady =
    (s : State) (done e : Entry) → done.call ≡ ask.ImageDone → is_next_frame e.call ≡ false → ready s e ≡ true → ready (step s done).0 e ≡ true
