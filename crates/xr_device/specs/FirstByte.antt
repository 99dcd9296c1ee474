-- Where a byte stands first.
use Rattle.std.specs.Prelude.{◌≡◌, ◌<◌, ℕ, ◌==◌, Bool, true, false, List, [], ◌∷◌, length, slice_index, take, if◌then◌else◌}

-- whether none of the bytes is this one
abbrev pub is_free_of : ℕ → List ℕ → Bool
is_free_of b [] = true
is_free_of b (x ∷ xs) = if x == b then false else is_free_of b xs

-- this byte stands at this place, and at none before it
pub record IsFirstAt (b : ℕ) (bytes : List ℕ) (place : ℕ) : Type 0 where
  pub within : place < length bytes
  pub here : slice_index bytes place ≡ b
  pub front : is_free_of b (take place bytes) ≡ true
