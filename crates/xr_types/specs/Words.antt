-- Words of texts: the value that one names, and what stands behind a beginning.
use Rattle.std.specs.Prelude.{ℕ, ◌==◌, List, [], ◌∷◌, Option, Some, None, if◌then◌else◌}
use Rattle.std.specs.List.{find}
use Rattle.std.specs.Str.{bytes_eq}

-- the first of these whose word this is
abbrev pub named : {T : Type 0} → (T → List ℕ) → List T → List ℕ → Option T
named printed listed word = find (λ x. bytes_eq word (printed x)) listed

-- the text behind this beginning, where it begins so
abbrev pub behind : List ℕ → List ℕ → Option (List ℕ)
behind [] text = Some text
behind (p ∷ ps) [] = None
behind (p ∷ ps) (c ∷ cs) = if p == c then behind ps cs else None
