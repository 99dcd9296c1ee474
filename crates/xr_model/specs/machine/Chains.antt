-- Swapchains in their places: what is acquired, waited for and released, and what is left where one goes (OpenXR 1.0 chapter
-- 10, "Swapchain Image Management"). Formats, sizes, places, the number of images of a chain, that one image is waited for at a
-- time, and that an image which is acquired again can't be shown, are this project's own.
use Rattle.std.specs.Prelude.{ℕ, ◌+◌, ◌%◌, ◌==◌, ◌&&◌, ◌||◌, not, Bool, true, false, List, [], ◌∷◌, ◌++◌, length, drop, replicate, nat_le, Option, Some, None, option_map, unwrap_or, if◌then◌else◌}
use Rattle.std.specs.List.{find, list_any, position_from}
use Rattle.xr_types.specs.declared.code.Code.TheVariants.{LimitReached, ValidationFailure, SwapchainFormatUnsupported}
use Rattle.xr_types.specs.declared.frames.ChainInfo.{ChainInfo}
use Rattle.xr_types.specs.declared.frames.Image.{Image}
use Rattle.xr_types.specs.declared.handles.Kind.TheVariants.{Swapchain}
use Rattle.xr_types.specs.declared.handles.TheConstants.{SWAPCHAINS}
use Rattle.xr_types.specs.Frames.{PendingFrame}
use Rattle.xr_model.specs.machine.Frames.{is_empty}
use Rattle.xr_model.specs.machine.Handles.{Handles, is_live}
use Rattle.xr_model.specs.machine.Refusals.{Refusal, when}

-- ---- places

-- A place: the handle of its chain, 0 where the place is free; whether that chain was destroyed and keeps the place for frames
-- that show it; its size in pixels; whether it is a static one; the indices acquired, the oldest first; whether the oldest was
-- waited for; the index released last, where one was and isn't acquired again; and the index that is acquired next.
pub record Chain : Type 0 where
  pub handle : ℕ
  pub is_destroyed : Bool
  pub width : ℕ
  pub height : ℕ
  pub is_static : Bool
  pub acquired : List ℕ
  pub has_waited : Bool
  pub last : Option ℕ
  pub next : ℕ

abbrev pub free_place : Chain
free_place = record { handle = 0; is_destroyed = false; width = 0; height = 0; is_static = false; acquired = []; has_waited = false; last = None; next = 0 }

-- a place that a destroyed chain keeps: nothing else is left of the chain
abbrev pub kept_place : ℕ → Chain
kept_place handle = record free_place { handle = handle; is_destroyed = true }

abbrev pub new_chain : ℕ → ℕ → ℕ → Bool → Chain  -- handle, width, height
new_chain handle width height fixed = record free_place { handle = handle; width = width; height = height; is_static = fixed }

abbrev pub no_chains : List Chain
no_chains = replicate SWAPCHAINS free_place

-- no chain stands there: the place is free, or kept for one that was destroyed
abbrev pub has_no_chain : Chain → Bool
has_no_chain c = (c.handle == 0) || c.is_destroyed

-- it is the chain with this handle
unfoldable pub is_chain : ℕ → Chain → Bool
is_chain handle c = (c.handle == handle) && not (has_no_chain c)

abbrev pub chain_at : List Chain → ℕ → Option Chain
chain_at chains handle = find (is_chain handle) chains

abbrev pub place_of_chain : List Chain → ℕ → ℕ
place_of_chain chains handle = unwrap_or (position_from (is_chain handle) 0 chains) 0

-- ---- coming

abbrev pub is_format : ℕ → Bool
is_format format = (format == 1) || ((format == 2) || (format == 3))

abbrev pub is_size : ℕ → Bool
is_size n = nat_le 1 n && nat_le n 8192

-- what refuses a new chain by its format and its size
abbrev pub chain_checks : ℕ → ℕ → ℕ → List Refusal  -- format, width, height
chain_checks format width height = when (not (is_format format)) SwapchainFormatUnsupported ∷ when (not (is_size width && is_size height)) ValidationFailure ∷ []

abbrev pub has_free_place : List Chain → Bool
has_free_place chains = list_any (λ c. c.handle == 0) chains

-- all places are taken
abbrev pub no_place : List Chain → Refusal
no_place chains = when (not (has_free_place chains)) LimitReached

-- where the next chain stands
abbrev pub first_place : List Chain → ℕ
first_place chains = unwrap_or (position_from (λ c. c.handle == 0) 0 chains) 0

-- a chain more, in the first free place
abbrev pub with_chain : List Chain → Chain → List Chain
with_chain [] new = []
with_chain (c ∷ cs) new = if c.handle == 0 then new ∷ cs else c ∷ with_chain cs new

-- ---- what an application does with images

-- the chains once that with this handle has changed so
abbrev pub with_chain_at : ℕ → (Chain → Chain) → List Chain → List Chain
with_chain_at handle f [] = []
with_chain_at handle f (c ∷ cs) = if is_chain handle c then f c ∷ cs else c ∷ with_chain_at handle f cs

-- every image is acquired; the one of a static chain may be acquired once
unfoldable pub is_acquire_wrong : Option Chain → Bool
is_acquire_wrong None = true
is_acquire_wrong (Some c) = if c.is_static then not (c.next == 0) else length c.acquired == 3

-- nothing is acquired, or the oldest was waited for
unfoldable pub is_wait_wrong : Option Chain → Bool
is_wait_wrong None = true
is_wait_wrong (Some c) = is_empty c.acquired || c.has_waited

-- no image is waited for
unfoldable pub is_paint_wrong : Option Chain → Bool
is_paint_wrong None = true
is_paint_wrong (Some c) = not c.has_waited

-- the index acquired first
abbrev pub oldest_of : List ℕ → ℕ
oldest_of [] = 0
oldest_of (n ∷ ns) = n

abbrev pub oldest_index : Option Chain → ℕ
oldest_index None = 0
oldest_index (Some c) = oldest_of c.acquired

abbrev pub next_index : Option Chain → ℕ
next_index None = 0
next_index (Some c) = c.next

-- The index behind this one: they come in turn. That of a static chain comes once.
abbrev pub index_behind : Bool → ℕ → ℕ  -- is the chain static
index_behind true n = 1
index_behind false n = (n + 1) % 3

-- the last-released index once this one is acquired
abbrev pub unless_acquired : ℕ → Option ℕ → Option ℕ
unless_acquired n None = None
unless_acquired n (Some last) = if last == n then None else Some last

abbrev pub acquiring : Chain → Chain
acquiring c = record c { acquired = c.acquired ++ c.next ∷ []; next = index_behind c.is_static c.next; last = unless_acquired c.next c.last }

abbrev pub waiting : Chain → Chain
waiting c = record c { has_waited = true }

abbrev pub releasing : Chain → Chain
releasing c = record c { acquired = drop 1 c.acquired; has_waited = false; last = Some (oldest_of c.acquired) }

-- the image of a chain that was acquired first
abbrev pub oldest_image : List Chain → ℕ → Image
oldest_image chains handle = record { place = place_of_chain chains handle; index = oldest_index (chain_at chains handle) }

-- ---- what a frame is told of a chain

abbrev pub info_of : ℕ → Chain → ChainInfo  -- the chain's place
info_of place c = record { width = c.width; height = c.height; last = option_map (λ n. record { place = place; index = n }) c.last }

abbrev pub info_at : List Chain → ℕ → Option ChainInfo
info_at chains handle = option_map (info_of (place_of_chain chains handle)) (chain_at chains handle)

-- ---- going

-- an image of this place is among these
abbrev pub has_place : ℕ → List Image → Bool
has_place place images = list_any (λ i. i.place == place) images

-- a pending frame has an image of this place, or the one that was taken last
abbrev pub is_place_used : List PendingFrame → List Image → ℕ → Bool
is_place_used pending shown place = list_any (λ f. has_place place f.images) pending || has_place place shown

-- What is left in a place where so many handles are live: a chain that isn't live goes, and keeps its place while that is used.
abbrev pub left_in_place : Handles → Bool → Chain → Chain
left_in_place h used c = if is_live h Swapchain c.handle then c else if not (c.handle == 0) && used then kept_place c.handle else free_place

-- the same of all places, counted from this one
abbrev pub left_in_places : Handles → (ℕ → Bool) → ℕ → List Chain → List Chain
left_in_places h used place [] = []
left_in_places h used place (c ∷ cs) = left_in_place h (used place) c ∷ left_in_places h used (place + 1) cs

-- the image that an application waited for, where its chain goes
abbrev pub freed_in_place : Handles → ℕ → Chain → List Image
freed_in_place h place c = if not (is_live h Swapchain c.handle) && c.has_waited then record { place = place; index = oldest_of c.acquired } ∷ [] else []

abbrev pub freed_in_places : Handles → ℕ → List Chain → List Image
freed_in_places h place [] = []
freed_in_places h place (c ∷ cs) = freed_in_place h place c ++ freed_in_places h (place + 1) cs
