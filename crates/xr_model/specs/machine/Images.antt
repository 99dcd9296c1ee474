-- Images: how often each is used, and its stamp, which is all that an image shows.
use Rattle.std.specs.Prelude.{ℕ, ◌+◌, ◌*◌, ◌==◌, ◌&&◌, Bool, List, [], ◌∷◌, ◌++◌, map, slice_get, slice_set, unwrap_or, if◌then◌else◌}
use Rattle.std.specs.List.{list_any}
use Rattle.xr_types.specs.declared.frames.FrameLayer.{FrameLayer}
use Rattle.xr_types.specs.declared.frames.FrameLayer.TheVariants as layer
use Rattle.xr_types.specs.declared.frames.Image.{Image}
use Rattle.xr_types.specs.declared.frames.ShownLayer.{ShownLayer}
use Rattle.xr_types.specs.declared.frames.ShownLayer.TheVariants as shown
use Rattle.xr_types.specs.Frames.{PendingFrame}
use Rattle.xr_types.specs.declared.frames.Shown.{Shown}
use Rattle.xr_types.specs.declared.handles.TheConstants.{SWAPCHAINS}
use Rattle.xr_types.specs.declared.limits.TheConstants.{IMAGES}
use Rattle.xr_model.specs.machine.Frames.{one_if}

-- it is this image
abbrev pub is_image : Image → Image → Bool
is_image i j = (j.place == i.place) && (j.index == i.index)

-- where an image stands among those of all places
abbrev pub slot_of : Image → ℕ
slot_of i = IMAGES * i.place + i.index

-- how many images all places have
abbrev pub image_count : ℕ
image_count = IMAGES * SWAPCHAINS

-- ---- counts

-- how often the image that stands there is among these
abbrev pub times_in : List Image → ℕ → ℕ
times_in [] k = 0
times_in (i ∷ images) k = one_if (slot_of i == k) + times_in images k

abbrev pub uses_of : List PendingFrame → ℕ → ℕ
uses_of [] k = 0
uses_of (f ∷ fs) k = times_in f.images k + uses_of fs k

-- how many pending frames use the image there, and how often it is held
abbrev pub count_of : List PendingFrame → List Image → ℕ → ℕ  -- pending frames, held images
count_of pending held k = uses_of pending k + times_in held k

-- the images of the frame that is taken next
abbrev pub first_images : List PendingFrame → List Image
first_images [] = []
first_images (f ∷ fs) = f.images

-- ---- the images of a frame

-- these images and one more, unless it is among them
abbrev pub with_image : List Image → Image → List Image
with_image images i = if list_any (is_image i) images then images else images ++ i ∷ []

abbrev pub with_images : List Image → List Image → List Image
with_images images [] = images
with_images images (i ∷ more) = with_images (with_image images i) more

abbrev pub images_of_layer : FrameLayer → List Image
images_of_layer (layer.Projection left right) = left ∷ right ∷ []
images_of_layer (layer.Quad i) = i ∷ []

-- the images of these layers, each once, in the order of their first use
abbrev pub with_images_of : List Image → List FrameLayer → List Image
with_images_of images [] = images
with_images_of images (l ∷ ls) = with_images_of (with_images images (images_of_layer l)) ls

-- ---- stamps

abbrev pub stamp_in : List ℕ → Image → ℕ
stamp_in stamps i = unwrap_or (slice_get stamps (slot_of i)) 0

abbrev pub stamps_at : List ℕ → List Image → List ℕ
stamps_at stamps images = map (stamp_in stamps) images

-- an image and the stamp that it gets
pub record Stamped : Type 0 where
  pub image : Image
  pub stamp : ℕ

abbrev pub with_stamps : List Stamped → List ℕ → List ℕ
with_stamps [] stamps = stamps
with_stamps (x ∷ xs) stamps = with_stamps xs (slice_set stamps (slot_of x.image) x.stamp)

-- the images of a place get the stamp 0
abbrev pub unstamped : ℕ → List Stamped
unstamped place =
    record { image = record { place = place; index = 0 }; stamp = 0 }
    ∷ record { image = record { place = place; index = 1 }; stamp = 0 }
    ∷ record { image = record { place = place; index = 2 }; stamp = 0 } ∷ []

-- ---- a frame that is shown

-- the stamp of an image, where these images have these stamps
abbrev pub stamp_among : List Image → List ℕ → Image → ℕ
stamp_among [] stamps i = 0
stamp_among (j ∷ images) [] i = 0
stamp_among (j ∷ images) (n ∷ stamps) i = if is_image i j then n else stamp_among images stamps i

abbrev pub shown_layer : (Image → ℕ) → FrameLayer → ShownLayer  -- the stamp of each image
shown_layer stamp_of (layer.Projection left right) = shown.Projection (stamp_of left) (stamp_of right)
shown_layer stamp_of (layer.Quad i) = shown.Quad (stamp_of i)

-- a frame as it is shown where images have these stamps
abbrev pub shown_with : (Image → ℕ) → PendingFrame → Shown
shown_with stamp_of f = record { number = f.number; time = f.time; layers = map (shown_layer stamp_of) f.layers }

-- a frame as it is shown, told the stamps of its images in their order
abbrev pub shown_of : PendingFrame → List ℕ → Shown
shown_of f stamps = shown_with (stamp_among f.images stamps) f
