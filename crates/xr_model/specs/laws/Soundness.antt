-- What every call keeps of handles, swapchains, frames and images, and which calls are none of the compositor's.
use Rattle.xr_types.specs.declared.frames.FrameLayer.{FrameLayer}
use Rattle.xr_types.specs.declared.frames.Image.{Image}
use Rattle.xr_model.specs.scenario.InRange.{Each}
use Rattle.xr_model.specs.machine.Chains.{Chain, oldest_of, index_behind, is_place_used}
use Rattle.xr_model.specs.machine.Images.{times_in, images_of_layer, count_of, image_count}
use Rattle.xr_model.specs.laws.Owners.{has_image}
use Rattle.std.specs.Prelude.{◌≡◌, ◌+◌, ◌*◌, ◌<◌, ◌≤◌, ◌==◌, ◌||◌, ℕ, Bool, true, false, not, List, [], ◌∷◌, drop, Option, Some, None, slice_get, ◌&&◌, length}
use Rattle.std.specs.List.{list_any}
use Rattle.xr_types.specs.declared.handles.Slot.{Slot}
use Rattle.xr_model.specs.machine.Frames.{is_empty}
use Rattle.xr_model.specs.machine.Handles.{Handles, has, was_given}
use Rattle.xr_types.specs.declared.handles.TheConstants.{SWAPCHAINS}
use Rattle.xr_types.specs.declared.limits.TheConstants.{IMAGES}
use Rattle.xr_types.specs.Frames.{PendingFrame}
use Rattle.xr_types.specs.declared.calls.Call.{Call}
use Rattle.xr_types.specs.declared.calls.Call.TheVariants as ask
use Rattle.xr_model.specs.machine.State.{State}
use Rattle.xr_model.specs.machine.PlainImages.{PlainImages, count_at}

-- ---- images

-- an index below 3
abbrev pub IsBelow : Image → Type 0
IsBelow i = i.index < 3

-- each of these images meets this, and none is there twice
pub record AreOnce (P : Image → Type 0) (images : List Image) : Type 0 where
  pub each : Each P images
  pub once : (k : ℕ) → times_in images k ≤ 1

-- each image of these layers
abbrev pub EachOf : (Image → Type 0) → List FrameLayer → Type 0
EachOf P [] = Unit {0}
EachOf P (l ∷ ls) = Each P (images_of_layer l) × EachOf P ls

-- each image of these layers is among these images
abbrev pub AreAmong : List Image → List FrameLayer → Type 0
AreAmong images ls = EachOf (λ i. has_image i images ≡ true) ls

-- each place is sound
abbrev pub OptIsSound : (Chain → Type 0) → Option Chain → Type 0
OptIsSound P None = Unit {0}
OptIsSound P (Some c) = P c

-- ---- swapchains in their places

-- the first of these, or this one where there are none
abbrev pub head_or : ℕ → List ℕ → ℕ
head_or n [] = n
head_or n (k ∷ ks) = k

-- The indices follow one another, the next one follows the last of them, and all are below 3.
abbrev pub IsRun : Bool → List ℕ → ℕ → Type 0
IsRun fixed [] next = next < 3
IsRun fixed (k ∷ ks) next = (k < 3) × (head_or next ks ≡ index_behind fixed k) × IsRun fixed ks next

-- how many may be acquired: all three, and the one of a static chain once
abbrev pub most_acquired : Bool → ℕ → ℕ
most_acquired true next = next
most_acquired false next = 3

abbrev pub is_acquired : ℕ → List ℕ → Bool
is_acquired k ks = list_any (λ n. n == k) ks

-- an index that was released last isn't acquired
abbrev pub LastFits : Option ℕ → List ℕ → Type 0
LastFits None ks = Unit {0}
LastFits (Some n) ks = (n < 3) × (is_acquired n ks ≡ false)

-- a live swapchain has this handle, where these are the swapchains' handles
abbrev pub is_live_in : List Slot → ℕ → Bool
is_live_in row handle = not (handle == 0) && has row handle

-- a place that is free or that a destroyed chain keeps: nothing else is left of a chain
pub record IsBare (c : Chain) : Type 0 where
  pub acquired : c.acquired ≡ []
  pub has_waited : c.has_waited ≡ false
  pub last : c.last ≡ None
  pub gone : (c.handle == 0) || c.is_destroyed ≡ true

-- What holds of a place: the indices of its chain are in order, few enough are acquired, the one released last isn't, one is
-- waited for only where some are acquired, and it is bare where its chain isn't live.
pub record PlaceIsSound (row : List Slot) (c : Chain) : Type 0 where
  pub run : IsRun c.is_static c.acquired c.next
  pub few : length c.acquired ≤ most_acquired c.is_static c.next
  pub last : LastFits c.last c.acquired
  pub some : c.has_waited ≡ true → is_empty c.acquired ≡ false
  pub bare : is_live_in row c.handle ≡ false → IsBare c

-- ---- frames

-- a frame has each of its images once, with an index below 3, and those of all its layers
pub record FrameIsSound (f : PendingFrame) : Type 0 where
  pub images : AreOnce IsBelow f.images
  pub among : AreAmong f.images f.layers

abbrev pub AreSound : List PendingFrame → Type 0
AreSound [] = Unit {0}
AreSound (f ∷ fs) = FrameIsSound f × AreSound fs

-- a chain or a destroyed chain has the place
abbrev pub is_taken : Option Chain → Bool
is_taken None = false
is_taken (Some c) = not (c.handle == 0)

-- the image that this place's application waited for is unused
abbrev pub IsIdle : List PendingFrame → List Image → ℕ → Option Chain → Type 0
IsIdle pending held place None = Unit {0}
IsIdle pending held place (Some c) = c.has_waited ≡ true → count_of pending held (IMAGES * place + oldest_of c.acquired) ≡ 0

-- these are what is left of those without some of the first
pub record AreLeft (held shown : List Image) : Type 0 where
  pub gone : ℕ
  pub are : held ≡ drop gone shown

-- There are all places, and each is sound; a free place is unused, and so is each image that an application waited for; each
-- frame and the images of the one taken last are sound, and those that are held are left of these.
pub record IsSound (row : List Slot) (chains : List Chain) (pending : List PendingFrame) (shown held : List Image) : Type 0 where
  pub all : length chains ≡ SWAPCHAINS
  pub places : (p : ℕ) → OptIsSound (PlaceIsSound row) (slice_get chains p)
  pub unused : (p : ℕ) → is_taken (slice_get chains p) ≡ false → is_place_used pending shown p ≡ false
  pub idle : (p : ℕ) → IsIdle pending held p (slice_get chains p)
  pub frames : AreSound pending
  pub last : AreOnce IsBelow shown
  pub left : AreLeft held shown

abbrev pub StateIsSound : State → Type 0
StateIsSound s = IsSound s.core.handles.chains s.core.chains s.core.frames.pending s.core.shown_images s.cells.held

-- ---- counts of images

-- there is a count for each image of each place, and it is how often the image is used
pub record AreCounted (c : PlainImages) (pending : List PendingFrame) (held : List Image) : Type 0 where
  pub all : length c.counts ≡ image_count
  pub counts : (k : ℕ) → count_at c k ≡ count_of pending held k

-- ---- handles

-- the handle stands in no row
pub record IsAbsent (h : Handles) (handle : ℕ) : Type 0 where
  pub instances : has h.instances handle ≡ false
  pub sessions : has h.sessions handle ≡ false
  pub sets : has h.sets handle ≡ false
  pub actions : has h.actions handle ≡ false
  pub spaces : has h.spaces handle ≡ false
  pub chains : has h.chains handle ≡ false

-- a handle that was never given is live in no row
abbrev pub AreKnown : Handles → Type 0
AreKnown h = (handle : ℕ) → (handle == 0) ≡ false → was_given h handle ≡ false → IsAbsent h handle

-- ---- calls

-- the calls that are none of the compositor's
abbrev pub IsAside : Call → Type 0
IsAside ask.NextFrame = ⊥
IsAside ask.ImageDone = ⊥
IsAside _ = Unit {0}
