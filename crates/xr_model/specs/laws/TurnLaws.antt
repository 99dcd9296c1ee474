-- In which order the images of a swapchain come, by counting over every legal history, and which of them a frame shows.
use Rattle.std.specs.Prelude.{◌≡◌, ◌-◌, ◌%◌, ◌++◌, ℕ, ℤ, Bool, true, false, List, [], ◌∷◌, map}
use Rattle.xr_types.specs.Code.{is_success}
use Rattle.xr_types.specs.Frames.{PendingFrame}
use Rattle.xr_types.specs.declared.calls.Call.TheVariants as ask
use Rattle.xr_types.specs.declared.calls.Gives.TheVariants.{Number}
use Rattle.xr_types.specs.declared.frames.Blend.{Blend}
use Rattle.xr_types.specs.declared.frames.FrameLayer.{FrameLayer}
use Rattle.xr_types.specs.declared.frames.FrameLayer.TheVariants as shown
use Rattle.xr_types.specs.declared.frames.Image.{Image}
use Rattle.xr_types.specs.declared.frames.Layer.{Layer}
use Rattle.xr_types.specs.declared.frames.Layer.TheVariants.{Projection, Quad}
use Rattle.xr_types.specs.declared.limits.TheConstants.{IMAGES}
use Rattle.xr_model.specs.machine.Calls.{Entry}
use Rattle.xr_model.specs.machine.Chains.{place_of_chain}
use Rattle.xr_model.specs.machine.Layers.{view_at}
use Rattle.xr_model.specs.machine.State.{CoreState, Settings, opening}
use Rattle.xr_model.specs.machine.Machine.{step}
use Rattle.xr_model.specs.machine.History.{after, IsLegal}
use Rattle.xr_model.specs.laws.DecidedEntries.{Decided, past_of, acquires, releases, is_static_chain}
use Rattle.xr_model.specs.laws.ImageLaws.{did_at}

-- ---- turns

-- how many images a swapchain has, told whether it is a static one
abbrev pub images_of : Bool → ℕ
images_of true = 1
images_of false = IMAGES

-- the index that comes behind so many, after this past
abbrev pub turn_behind : ℕ → List Decided → ℕ → ℕ  -- the swapchain, the past, how many came before
turn_behind chain past n = n % images_of (is_static_chain chain past)

-- After a legal history an acquire that succeeds gives the number of acquires before it, modulo the images of the swapchain.
abbrev pub AcquiresAreInTurn : Type 0
AcquiresAreInTurn =
    (settings : Settings) (es : List Entry) (e : Entry) (chain : ℕ) → IsLegal settings es → e.call ≡ ask.AcquireImage chain
    → is_success (step (after (opening settings) es) e).1.reply.code ≡ true
    → (step (after (opening settings) es) e).1.reply.gives ≡ Number (turn_behind chain (past_of settings es) (acquires chain (past_of settings es)))

-- the image of a swapchain whose index comes behind so many
abbrev pub image_behind : CoreState → List Decided → ℕ → ℕ → Image
image_behind s past chain n = record { place = place_of_chain s.chains chain; index = turn_behind chain past n }

-- After a legal history a release that succeeds gives up the image whose turn it is by the releases before: images are released in the
-- order in which they were acquired.
abbrev pub ReleasesAreInTurn : Type 0
ReleasesAreInTurn =
    (settings : Settings) (es : List Entry) (e : Entry) (chain : ℕ) → IsLegal settings es → e.call ≡ ask.ReleaseImage chain
    → is_success (step (after (opening settings) es) e).1.reply.code ≡ true
    → (did_at (after (opening settings) es) e).freed ≡ image_behind (after (opening settings) es).core (past_of settings es) chain (releases chain (past_of settings es)) ∷ []

-- ---- what a frame shows

-- the image that was released last of a swapchain
abbrev pub released_last : CoreState → List Decided → ℕ → Image
released_last s past chain = image_behind s past chain (releases chain past - 1)

-- a layer by the images released last of the swapchains that it names: of a projection by its first and its second view
abbrev pub layer_last : CoreState → List Decided → Layer → FrameLayer
layer_last s past (Projection space count views) = shown.Projection (released_last s past (view_at views 0).chain) (released_last s past (view_at views 1).chain)
layer_last s past (Quad space part pose) = shown.Quad (released_last s past part.chain)

-- this frame is pending behind these, of this number, time and layers
pub record IsSubmitted (old new : List PendingFrame) (asked : ℤ) (shows : List FrameLayer) : Type 0 where
  pub frame : PendingFrame
  pub behind : new ≡ old ++ frame ∷ []
  pub time : frame.time ≡ asked
  pub layers : frame.layers ≡ shows

-- After a legal history an end that succeeds makes a frame pending behind the others, of its time, whose layers show the images released
-- last of the swapchains that they name.
abbrev pub FramesShowTheLastReleased : Type 0
FramesShowTheLastReleased =
    (settings : Settings) (es : List Entry) (e : Entry) (session : ℕ) (time : ℤ) (blend : Blend) (layers : List Layer) → IsLegal settings es
    → e.call ≡ ask.EndFrame session time blend layers → is_success (step (after (opening settings) es) e).1.reply.code ≡ true
    → IsSubmitted (after (opening settings) es).core.frames.pending (step (after (opening settings) es) e).0.core.frames.pending time
    (map (layer_last (after (opening settings) es).core (past_of settings es)) layers)
