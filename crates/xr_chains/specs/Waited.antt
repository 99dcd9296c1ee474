-- The image that an application has.
use Rattle.std.specs.Prelude.{ℕ, List, [], ◌∷◌, if◌then◌else◌}
use Rattle.xr_types.specs.declared.frames.Image.{Image}
use Rattle.xr_model.specs.machine.Chains.{Chain, chain_at, is_paint_wrong, oldest_image}

-- the image of a chain that was waited for and not released, or none
abbrev pub waited_images : List Chain → ℕ → List Image
waited_images chains handle = if is_paint_wrong (chain_at chains handle) then [] else oldest_image chains handle ∷ []
