-- Lists by places.
use Rattle.std.proofs.Common.{◌≡◌, ◌<◌, ℕ, zero, suc, List, [], ◌∷◌, length, map, get_or, slice_get, Some, refl, ap, arith}
use Rattle.std.proofs.lemmas.Option.{none-some, same_Some}

-- what stands at a place
pub there : {X : Type 0} (xs : List X) (i : ℕ) (d : X) → i < length xs → slice_get xs i ≡ Some (get_or xs i d)
there [] i d within = absurd (omega (arith, within))
there (x ∷ xs) zero d within = refl
there (x ∷ xs) (suc i) d within = there xs i d (omega (arith, within))

pub mapped : {X Y : Type 0} (f : X → Y) (xs : List X) (i : ℕ) (x : X) → slice_get xs i ≡ Some x → slice_get (map f xs) i ≡ Some (f x)
mapped f [] i x at = absurd (none-some x at)
mapped f (y ∷ ys) zero x at = ap Some (ap f (same_Some y x at))
mapped f (y ∷ ys) (suc i) x at = mapped f ys i x at

-- what was mapped to what stands at a place
pub record Source {X Y : Type 0} (f : X → Y) (xs : List X) (i : ℕ) (y : Y) : Type 0 where
  pub source : X
  pub within : i < length xs
  pub at : (d : X) → get_or xs i d ≡ source
  pub gives : f source ≡ y

pub source_of : {X Y : Type 0} (f : X → Y) (xs : List X) (i : ℕ) (y : Y) → slice_get (map f xs) i ≡ Some y → Source f xs i y
source_of f [] i y at = absurd (none-some y at)
source_of f (x ∷ xs) zero y at = record { source = x; within = omega arith; at = λ d. refl; gives = same_Some (f x) y at }
source_of f (x ∷ xs) (suc i) y at = let s = source_of f xs i y at in record { source = s.source; within = let w = s.within in omega (arith, w); at = s.at; gives = s.gives }

pub none_of : {X : Type 0} (xs : List X) → length xs ≡ 0 → xs ≡ []
none_of [] none = refl
none_of (x ∷ xs) none = absurd (omega (arith, none))
