-- The calls that a step makes on cells, in order, and what they make of the cells.
use Rattle.std.specs.Prelude.{◌≡◌, ℕ, Bool, List, [], ◌∷◌, map}
use Rattle.xr_types.specs.declared.frames.Image.{Image}
use Rattle.xr_model.specs.machine.Images.{Stamped}

-- A call on cells: one more frame uses an image; an application claims one, and is told whether it got it; it has it no longer;
-- an image gets a stamp; its stamp is looked at, and found to be this; and the compositor gives it back.
pub data CellCall : Type 0 where
  pin : Image → CellCall
  claim : Image → Bool → CellCall
  free : Image → CellCall
  stamp : Image → ℕ → CellCall
  peek : Image → ℕ → CellCall
  give_back : Image → CellCall

abbrev pub claim_calls : Bool → List Image → List CellCall
claim_calls unused [] = []
claim_calls unused (i ∷ images) = claim i unused ∷ claim_calls unused images

abbrev pub pin_calls : List Image → List CellCall
pin_calls images = map (λ i. pin i) images

abbrev pub free_calls : List Image → List CellCall
free_calls images = map (λ i. free i) images

abbrev pub stamp_calls : List Stamped → List CellCall
stamp_calls stamps = map (λ x. stamp x.image x.stamp) stamps

-- looks at these images, each with what it found
abbrev pub peek_calls : List Image → List ℕ → List CellCall
peek_calls [] stamps = []
peek_calls (i ∷ images) [] = peek i 0 ∷ peek_calls images []
peek_calls (i ∷ images) (n ∷ stamps) = peek i n ∷ peek_calls images stamps

abbrev pub return_calls : List Image → List CellCall
return_calls images = map (λ i. give_back i) images

module _ {C : Type 0} (may : C → CellCall → Type 0) (does : C → CellCall → C → Type 0) where
  -- the condition of the next call, and of those behind it wherever it leads
  abbrev pub MayCall : C → List CellCall → Type 0
  MayCall c [] = Unit {0}
  MayCall c (x ∷ xs) = may c x × ((d : C) → does c x d → MayCall d xs)

module _ {C : Type 0} (does : C → CellCall → C → Type 0) where
  -- the cells before and after, call by call; no call at all leaves them
  abbrev pub Leads : C → List CellCall → C → Type 0
  Leads c [] d = d ≡ c
  Leads c (x ∷ xs) d = (m : C) × does c x m × Leads m xs d
