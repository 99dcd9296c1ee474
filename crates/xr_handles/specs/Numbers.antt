-- Handles counted up from 1.
use Rattle.std.specs.Prelude.{zero, suc, ℕ, ◌+◌, List, [], ◌∷◌, length}
use Rattle.xr_model.specs.machine.Handles.{Handles}

-- the numbers from n down to 1
abbrev pub counted : ℕ → List ℕ
counted zero = []
counted (suc n) = suc n ∷ counted n

-- the number behind all that were given
abbrev pub next_number : Handles → ℕ
next_number h = length h.given + 1
