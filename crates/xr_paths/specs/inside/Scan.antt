-- A path text from left to right.
use Rattle.std.specs.Prelude.{ℕ, ◌&&◌, ◌||◌, ◌==◌, Bool, false, not, List, [], ◌∷◌, if◌then◌else◌}
use Rattle.xr_model.specs.machine.Paths.{is_path_byte}

-- Each byte may stand in a path, and no name is empty or made of periods alone. `named` says that the
-- name so far has another byte.
abbrev pub scan : Bool → List ℕ → Bool
scan named [] = named
scan named (b ∷ bs) = if b == 47 then (named && scan false bs) else (is_path_byte b && scan (named || not (b == 46)) bs)
