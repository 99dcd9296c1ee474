-- The layers of a frame, and what refuses them (OpenXR 1.0 chapter 10, "Compositing", xrEndFrame). The order of the checks, the
-- number of layers, and that an empty part of an image is refused, are this project's own.
use Rattle.std.specs.Prelude.{ℕ, ℤ, pos, ◌+ℤ◌, int_le, nat_lt, ◌==◌, ◌&&◌, not, Bool, true, false, List, [], ◌∷◌, ◌++◌, map, flat_map, length, slice_index_or, Option, Some, None, is_none, unwrap_or}
use Rattle.xr_types.specs.declared.code.Code.TheVariants.{HandleInvalid, ValidationFailure, TimeInvalid, EnvironmentBlendModeUnsupported, LayerLimitExceeded, SwapchainRectInvalid, LayerInvalid, PoseInvalid}
use Rattle.xr_types.specs.declared.frames.Blend.{Blend}
use Rattle.xr_types.specs.declared.frames.Blend.TheVariants as blend
use Rattle.xr_types.specs.declared.frames.ChainInfo.{ChainInfo}
use Rattle.xr_types.specs.declared.frames.FrameLayer.{FrameLayer}
use Rattle.xr_types.specs.declared.frames.FrameLayer.TheVariants as shown
use Rattle.xr_types.specs.declared.frames.Image.{Image}
use Rattle.xr_types.specs.declared.frames.Layer.{Layer}
use Rattle.xr_types.specs.declared.frames.Layer.TheVariants.{Projection, Quad}
use Rattle.xr_types.specs.declared.frames.SubImage.{SubImage}
use Rattle.xr_types.specs.declared.frames.TheConstants.{MOST_LAYERS}
use Rattle.xr_model.specs.machine.Refusals.{Refusal, when}

-- What a frame is checked against: which handles are live spaces of its session, and what is told of a live swapchain of it.
pub record Look : Type 0 where
  pub space : ℕ → Bool
  pub chain : ℕ → Option ChainInfo

-- ---- a part of an image

-- it has at least one pixel, and all of it is in an image of the chain
abbrev pub is_within : ChainInfo → SubImage → Bool
is_within info part =
    int_le (pos 0) part.x && (int_le (pos 0) part.y && (int_le (pos 1) part.w && (int_le (pos 1) part.h
    && (int_le (part.x +ℤ part.w) (pos info.width) && int_le (part.y +ℤ part.h) (pos info.height)))))

abbrev pub is_part_of : Option ChainInfo → SubImage → Bool
is_part_of None part = false
is_part_of (Some info) part = is_within info part

-- the image of a chain that a frame shows: the one that was released last
abbrev pub last_image : Option ChainInfo → Option Image
last_image None = None
last_image (Some info) = info.last

-- its chain has to be live, it has to be within the chain's images, and an image has to be released
abbrev pub part_checks : Look → SubImage → List Refusal
part_checks look part =
    when (is_none (look.chain part.chain)) HandleInvalid
    ∷ when (not (is_part_of (look.chain part.chain) part)) SwapchainRectInvalid
    ∷ when (is_none (last_image (look.chain part.chain))) LayerInvalid ∷ []

-- ---- a layer

abbrev pub no_part : SubImage
no_part = record { chain = 0; x = pos 0; y = pos 0; w = pos 0; h = pos 0 }

abbrev pub view_at : List SubImage → ℕ → SubImage
view_at views k = slice_index_or views k no_part

abbrev pub layer_checks : Look → Layer → List Refusal
layer_checks look (Projection space count views) =
    when (not (look.space space)) HandleInvalid ∷ when (not (count == 2)) ValidationFailure ∷ part_checks look (view_at views 0) ++ part_checks look (view_at views 1)
layer_checks look (Quad space image pose) =
    when (not (look.space space)) HandleInvalid ∷ part_checks look image ++ when (pose == 0) PoseInvalid ∷ []

-- ---- a frame

abbrev pub is_opaque : Blend → Bool
is_opaque blend.Opaque = true
is_opaque _ = false

-- what refuses the time, the blend mode and the number of layers of a frame
abbrev pub form_checks : ℤ → Blend → List Layer → List Refusal
form_checks time mode layers =
    when (int_le time (pos 0)) TimeInvalid ∷ when (not (is_opaque mode)) EnvironmentBlendModeUnsupported ∷ when (nat_lt MOST_LAYERS (length layers)) LayerLimitExceeded ∷ []

-- what refuses a frame: its form, and then each layer in its turn
abbrev pub frame_checks : Look → ℤ → Blend → List Layer → List Refusal
frame_checks look time mode layers = form_checks time mode layers ++ flat_map (layer_checks look) layers

-- ---- what a frame shows

abbrev pub part_image : Look → SubImage → Image
part_image look part = unwrap_or (last_image (look.chain part.chain)) (record { place = 0; index = 0 })

abbrev pub layer_of : Look → Layer → FrameLayer
layer_of look (Projection space count views) = shown.Projection (part_image look (view_at views 0)) (part_image look (view_at views 1))
layer_of look (Quad space image pose) = shown.Quad (part_image look image)

abbrev pub layers_of : Look → List Layer → List FrameLayer
layers_of look layers = map (layer_of look) layers
