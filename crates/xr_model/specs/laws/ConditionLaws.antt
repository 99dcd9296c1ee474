-- What refuses a call, condition by condition, in other words than the rules' checks have.
use Rattle.std.specs.Prelude.{◌≡◌, ◌+◌, ◌&&◌, ◌||◌, ◌+ℤ◌, not, nat_le, nat_lt, int_le, int_lt, pos, ℕ, ℤ, Bool, true, false, List, [], ◌∷◌, length, map}
use Rattle.xr_types.specs.declared.frames.Blend.{Blend}
use Rattle.xr_types.specs.declared.frames.Blend.TheVariants as blend
use Rattle.xr_types.specs.declared.frames.ChainInfo.{ChainInfo}
use Rattle.xr_types.specs.declared.frames.Layer.{Layer}
use Rattle.xr_types.specs.declared.frames.SubImage.{SubImage}
use Rattle.xr_types.specs.declared.frames.TheConstants.{MOST_LAYERS}
use Rattle.xr_types.specs.declared.input.Binding.{Binding}
use Rattle.xr_types.specs.declared.limits.TheConstants.{MOST_SUGGESTED}
use Rattle.xr_types.specs.declared.session.SessionState.{SessionState}
use Rattle.xr_types.specs.declared.session.SessionState.TheVariants.{Ready, Stopping}
use Rattle.xr_types.specs.declared.session.ViewConfig.{ViewConfig}
use Rattle.xr_types.specs.declared.session.ViewConfig.TheVariants.{Mono, Stereo}
use Rattle.xr_types.specs.declared.spaces.RefKind.{RefKind}
use Rattle.xr_types.specs.declared.spaces.RefKind.TheVariants as kind
use Rattle.xr_model.specs.machine.Bindings.{number_checks}
use Rattle.xr_model.specs.machine.Chains.{chain_checks}
use Rattle.xr_model.specs.machine.Layers.{form_checks, is_within}
use Rattle.xr_model.specs.machine.Refusals.{Refusal}
use Rattle.xr_model.specs.machine.SessionLife.{Life, begin_checks, end_checks}
use Rattle.xr_model.specs.machine.Spaces.{reference_checks}

-- the conditions of checks, in their order
abbrev pub conditions : List Refusal → List Bool
conditions checks = map (λ r. r.holds) checks

-- ---- swapchains

-- a number is outside of those from one to another
abbrev pub is_outside : ℕ → ℕ → ℕ → Bool  -- the least, the largest
is_outside least most n = nat_lt n least || nat_lt most n

-- A swapchain is refused for a format other than 1 to 3, and for a width or a height other than 1 to 8192 pixels.
abbrev pub SwapchainsAreOfTheseForms : Type 0
SwapchainsAreOfTheseForms =
    (format width height : ℕ) → conditions (chain_checks format width height) ≡ is_outside 1 3 format ∷ (is_outside 1 8192 width || is_outside 1 8192 height) ∷ []

-- ---- sessions

abbrev pub is_not_ready : SessionState → Bool
is_not_ready Ready = false
is_not_ready _ = true

abbrev pub is_not_stopping : SessionState → Bool
is_not_stopping Stopping = false
is_not_stopping _ = true

abbrev pub is_unsupported : ViewConfig → Bool
is_unsupported Stereo = false
is_unsupported Mono = true

-- A session is begun where it isn't running and is ready, with two views; it is ended where it is running and stopping.
pub record SessionsBeginAndEnd (life : Life) (view : ViewConfig) : Type 0 where
  pub begin : conditions (begin_checks life view) ≡ life.running ∷ is_not_ready life.state ∷ is_unsupported view ∷ []
  pub end : conditions (end_checks life) ≡ not life.running ∷ is_not_stopping life.state ∷ []

abbrev pub SessionsBeginWhereReady : Type 0
SessionsBeginWhereReady = (life : Life) (view : ViewConfig) → SessionsBeginAndEnd life view

-- ---- spaces

-- there is no such space while the device has no stage
abbrev pub is_missing : RefKind → Bool → Bool
is_missing kind.Stage false = true
is_missing _ stage = false

abbrev pub ReferenceSpacesWantAStage : Type 0
ReferenceSpacesWantAStage = (what : RefKind) (offset : ℕ) (stage : Bool) → conditions (reference_checks what offset stage) ≡ is_missing what stage ∷ nat_lt offset 1 ∷ []

-- ---- frames

abbrev pub is_mixed : Blend → Bool
is_mixed blend.Opaque = false
is_mixed _ = true

-- A frame is refused for a time that isn't above 0, for a blend mode other than the opaque one, and for more layers than there may be.
abbrev pub FramesAreOfTheseForms : Type 0
FramesAreOfTheseForms =
    (time : ℤ) (mode : Blend) (layers : List Layer) → conditions (form_checks time mode layers) ≡ not (int_lt (pos 0) time) ∷ is_mixed mode ∷ nat_le (MOST_LAYERS + 1) (length layers) ∷ []

-- a pixel of the part, counted from its corner, is a pixel of the image
abbrev pub IsPixel : ℤ → ℤ → ℕ → Type 0  -- where the part begins, the pixel, how many the image has
IsPixel first k size = (int_le (pos 0) (first +ℤ k) ≡ true) × (int_lt (first +ℤ k) (pos size) ≡ true)

-- A part that is taken has a pixel, and each of its pixels, across and down, is one of the image.
pub record HasItsPixels (info : ChainInfo) (part : SubImage) : Type 0 where
  pub some : int_le (pos 1) part.w && int_le (pos 1) part.h ≡ true
  pub across : (k : ℤ) → int_le (pos 0) k ≡ true → int_lt k part.w ≡ true → IsPixel part.x k info.width
  pub down : (k : ℤ) → int_le (pos 0) k ≡ true → int_lt k part.h ≡ true → IsPixel part.y k info.height

abbrev pub PartsHaveTheirPixels : Type 0
PartsHaveTheirPixels = (info : ChainInfo) (part : SubImage) → is_within info part ≡ true → HasItsPixels info part

-- and each such part is taken
abbrev pub PartsWithPixelsAreTaken : Type 0
PartsWithPixelsAreTaken = (info : ChainInfo) (part : SubImage) → HasItsPixels info part → is_within info part ≡ true

-- ---- suggestions

-- at least one binding is suggested, and at most as many as may be
abbrev pub SuggestionsAreSoMany : Type 0
SuggestionsAreSoMany = (list : List Binding) → conditions (number_checks list) ≡ nat_lt (length list) 1 ∷ nat_lt MOST_SUGGESTED (length list) ∷ []
