-- What is left in places where some chains aren't live any more, and the images that applications have no longer by that. A test
-- of handles tells which chains are live, and a test of places which places frames use.
use Rattle.std.specs.Prelude.{◌≡◌, ℕ, ◌+◌, ◌==◌, ◌&&◌, not, Bool, List, [], ◌∷◌, ◌++◌, if◌then◌else◌}
use Rattle.xr_types.specs.declared.frames.Image.{Image}
use Rattle.xr_model.specs.machine.Chains.{Chain, free_place, kept_place, oldest_of}

-- a place is free as it began
abbrev pub IsFree : Chain → Type 0
IsFree c = c ≡ free_place

-- What is left in a place, told whether it is used: a chain that isn't live goes, and keeps its place while that is used.
abbrev pub left_one : (ℕ → Bool) → Bool → Chain → Chain
left_one live used c = if live c.handle then c else if not (c.handle == 0) && used then kept_place c.handle else free_place

-- the same of all places, counted from this one
abbrev pub left_where : (ℕ → Bool) → (ℕ → Bool) → ℕ → List Chain → List Chain
left_where live used place [] = []
left_where live used place (c ∷ cs) = left_one live (used place) c ∷ left_where live used (place + 1) cs

-- the image in a place that an application waited for, where its chain goes
abbrev pub freed_one : (ℕ → Bool) → ℕ → Chain → List Image
freed_one live place c = if not (live c.handle) && c.has_waited then record { place = place; index = oldest_of c.acquired } ∷ [] else []

-- the same of all places, counted from this one
abbrev pub freed_where : (ℕ → Bool) → ℕ → List Chain → List Image
freed_where live place [] = []
freed_where live place (c ∷ cs) = freed_one live place c ++ freed_where live (place + 1) cs
