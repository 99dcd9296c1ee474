-- What is left in places and what is freed, by live handles; and that there are as many places whatever is done to swapchains.
use Rattle.std.proofs.Common.{◌≡◌, ◌+◌, ◌++◌, ℕ, Bool, List, [], ◌∷◌, length, Option, Some, None, refl, ap, ◌∙◌}
use Rattle.xr_types.specs.declared.frames.Image.{Image}
use Rattle.xr_types.specs.declared.handles.Kind.TheVariants.{Swapchain}
use Rattle.xr_model.specs.machine.Chains.{Chain, with_chain, with_chain_at, left_in_place, left_in_places, freed_in_place, freed_in_places}
use Rattle.xr_model.specs.machine.Handles.{Handles, is_live}
use Rattle.xr_model.specs.machine.Refusals.{Refusal, unless}
use Rattle.xr_model.proofs.ChainPlaces.{length_left, length_changed, length_new}
use Rattle.xr_chains.specs.ChainsLeft.{left_where, freed_where}

pub left_same : (h : Handles) (used : ℕ → Bool) (place : ℕ) (cs : List Chain) → left_where (is_live h Swapchain) used place cs ≡ left_in_places h used place cs
left_same h used place [] = refl
left_same h used place (c ∷ cs) = ap (λ (xs : List Chain). left_in_place h (used place) c ∷ xs) (left_same h used (place + 1) cs)

pub freed_same : (h : Handles) (place : ℕ) (cs : List Chain) → freed_where (is_live h Swapchain) place cs ≡ freed_in_places h place cs
freed_same h place [] = refl
freed_same h place (c ∷ cs) = ap (λ (xs : List Image). freed_in_place h place c ++ xs) (freed_same h (place + 1) cs)

-- chains that go
pub length_swept : (h : Handles) (used : ℕ → Bool) (place : ℕ) (cs : List Chain) → length (left_where (is_live h Swapchain) used place cs) ≡ length cs
length_swept h used place cs = ap length (left_same h used place cs) ∙ length_left h used place cs

-- a chain that changes unless something refuses it
pub length_unless : (o : Option Refusal) (handle : ℕ) (f : Chain → Chain) (cs : List Chain) → length (unless o cs (with_chain_at handle f cs)) ≡ length cs
length_unless None handle f cs = length_changed handle f cs
length_unless (Some r) handle f cs = refl

-- a new chain unless something refuses it
pub length_added : (o : Option Refusal) (cs : List Chain) (new : Chain) → length (unless o cs (with_chain cs new)) ≡ length cs
length_added None cs new = length_new cs new
length_added (Some r) cs new = refl
