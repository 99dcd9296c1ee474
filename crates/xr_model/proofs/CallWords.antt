-- Words and stamps along the calls on cells that an entry makes.
use Rattle.std.proofs.Common.{◌≡◌, ◌+◌, ◌<◌, ◌==◌, ◌||◌, ℕ, zero, suc, Bool, true, false, List, [], ◌∷◌, ◌++◌, length, Option, refl, sym, ap, subst, ◌∙◌, arith, true≢false}
use Rattle.std.specs.Prelude.{if◌then◌else◌, slice_get, slice_set, unwrap_or}
use Rattle.std.proofs.lemmas.Bool.Decides.{nat_tests}
use Rattle.xr_types.specs.declared.frames.Image.{Image}
use Rattle.xr_model.specs.scenario.InRange.{Each}
use Rattle.xr_model.specs.machine.CellCalls.{CellCall, pin, claim, free, stamp, peek, give_back, claim_calls, pin_calls, free_calls, stamp_calls, peek_calls, return_calls}
use Rattle.xr_model.specs.machine.Frames.{one_if}
use Rattle.xr_model.specs.machine.Images.{Stamped, slot_of, times_in, stamp_in, with_stamps}
use Rattle.xr_model.specs.machine.Calls.{Entry}
use Rattle.xr_model.specs.machine.State.{CoreState, CellReads}
use Rattle.xr_model.specs.machine.Rule.{Did}
use Rattle.xr_model.specs.machine.Machine.{effect, cell_calls, as_unused}
use Rattle.xr_model.specs.laws.ImageLaws.{IsPlaced, is_had}
use Rattle.xr_model.proofs.LaterPoses.{set_length}
use Rattle.xr_model.proofs.MarkValues.{set_there}
use Rattle.xr_model.proofs.Rows.{same_key}
use Rattle.xr_model.specs.laws.ImageWords.{word_by, word_after, stamp_by, stamp_after, FitsCall, is_at}

-- ---- lists of calls

pub word_append : (xs ys : List CellCall) (i : Image) (w : ℕ) → word_after (xs ++ ys) i w ≡ word_after ys i (word_after xs i w)
word_append [] ys i w = refl
word_append (x ∷ xs) ys i w = word_append xs ys i (word_by x i w)

pub stamp_append : (xs ys : List CellCall) (i : Image) (w : ℕ) → stamp_after (xs ++ ys) i w ≡ stamp_after ys i (stamp_after xs i w)
stamp_append [] ys i w = refl
stamp_append (x ∷ xs) ys i w = stamp_append xs ys i (stamp_by x i w)

module _ (i : Image) (rest : List CellCall) where
  claims_word : (b : Bool) (images : List Image) (w : ℕ) → word_after (claim_calls b images ++ rest) i w ≡ word_after rest i w
  claims_word b [] w = refl
  claims_word b (j ∷ images) w = claims_word b images w

  pins_word : (images : List Image) (w : ℕ) → word_after (pin_calls images ++ rest) i w ≡ word_after rest i (w + times_in images (slot_of i))
  pins_word [] w = ap (word_after rest i) (omega arith)
  pins_word (j ∷ images) w = pins_word images (if slot_of j == slot_of i then w + 1 else w) ∙ ap (word_after rest i) (one (slot_of j == slot_of i))
    where
      one : (b : Bool) → (if b then w + 1 else w) + times_in images (slot_of i) ≡ w + (one_if b + times_in images (slot_of i))
      one true = omega arith
      one false = omega arith

  frees_word : (images : List Image) (w : ℕ) → word_after (free_calls images ++ rest) i w ≡ word_after rest i (if is_at i images then 0 else w)
  frees_word [] w = refl
  frees_word (j ∷ images) w = frees_word images (if slot_of j == slot_of i then 0 else w) ∙ ap (word_after rest i) (one (slot_of j == slot_of i) (is_at i images))
    where
      one : (a b : Bool) → (if b then 0 else if a then 0 else w) ≡ (if a || b then 0 else w)
      one true true = refl
      one true false = refl
      one false b = refl

  stamps_word : (xs : List Stamped) (w : ℕ) → word_after (stamp_calls xs ++ rest) i w ≡ word_after rest i w
  stamps_word [] w = refl
  stamps_word (x ∷ xs) w = stamps_word xs w

  peeks_word : (images : List Image) (ns : List ℕ) (w : ℕ) → word_after (peek_calls images ns ++ rest) i w ≡ word_after rest i w
  peeks_word [] ns w = refl
  peeks_word (j ∷ images) [] w = peeks_word images [] w
  peeks_word (j ∷ images) (n ∷ ns) w = peeks_word images ns w

  claims_stamp : (b : Bool) (images : List Image) (w : ℕ) → stamp_after (claim_calls b images ++ rest) i w ≡ stamp_after rest i w
  claims_stamp b [] w = refl
  claims_stamp b (j ∷ images) w = claims_stamp b images w

  pins_stamp : (images : List Image) (w : ℕ) → stamp_after (pin_calls images ++ rest) i w ≡ stamp_after rest i w
  pins_stamp [] w = refl
  pins_stamp (j ∷ images) w = pins_stamp images w

  frees_stamp : (images : List Image) (w : ℕ) → stamp_after (free_calls images ++ rest) i w ≡ stamp_after rest i w
  frees_stamp [] w = refl
  frees_stamp (j ∷ images) w = frees_stamp images w

  peeks_stamp : (images : List Image) (ns : List ℕ) (w : ℕ) → stamp_after (peek_calls images ns ++ rest) i w ≡ stamp_after rest i w
  peeks_stamp [] ns w = refl
  peeks_stamp (j ∷ images) [] w = peeks_stamp images [] w
  peeks_stamp (j ∷ images) (n ∷ ns) w = peeks_stamp images ns w

returns_word : (i : Image) (images : List Image) (w : ℕ) → word_after (return_calls images) i w ≡ w
returns_word i [] w = refl
returns_word i (j ∷ images) w = returns_word i images w

returns_stamp : (i : Image) (images : List Image) (w : ℕ) → stamp_after (return_calls images) i w ≡ w
returns_stamp i [] w = refl
returns_stamp i (j ∷ images) w = returns_stamp i images w

-- ---- an entry

module _ (s : CoreState) (r : CellReads) (e : Entry) (i : Image) (w : ℕ) where
  abbrev did : Did
  did = (effect s r e).did

  -- the calls of an entry change a word by what is used and freed
  pub cells_word : word_after (cell_calls s r e) i w ≡ (if is_at i did.freed then 0 else w + times_in did.used (slot_of i))
  cells_word =
      let last : List CellCall = return_calls did.returned in
      let looks : List CellCall = peek_calls did.taken r.stamps ++ last in
      let stamped : List CellCall = stamp_calls did.stamped ++ looks in
      let frees : List CellCall = free_calls did.freed ++ stamped in
      let v : ℕ = w + times_in did.used (slot_of i) in
      let n : ℕ = if is_at i did.freed then 0 else v in
      claims_word i (pin_calls did.used ++ frees) r.unused (effect s (as_unused r) e).did.claimed w
      ∙ pins_word i frees did.used w ∙ frees_word i stamped did.freed v ∙ stamps_word i looks did.stamped n ∙ peeks_word i last did.taken r.stamps n ∙ returns_word i did.returned n

  -- and a stamp by what is stamped
  pub cells_stamp : stamp_after (cell_calls s r e) i w ≡ stamp_after (stamp_calls did.stamped) i w
  cells_stamp =
      let last : List CellCall = return_calls did.returned in
      let looks : List CellCall = peek_calls did.taken r.stamps ++ last in
      let stamped : List CellCall = stamp_calls did.stamped ++ looks in
      let frees : List CellCall = free_calls did.freed ++ stamped in
      let n : ℕ = stamp_after (stamp_calls did.stamped) i w in
      claims_stamp i (pin_calls did.used ++ frees) r.unused (effect s (as_unused r) e).did.claimed w
      ∙ pins_stamp i frees did.used w ∙ frees_stamp i stamped did.freed w ∙ stamp_append (stamp_calls did.stamped) looks i w ∙ peeks_stamp i last did.taken r.stamps n ∙ returns_stamp i did.returned n

-- ---- stamps in a list

stamp_else : (xs : List ℕ) (k j v : ℕ) → (k == j) ≡ false → slice_get (slice_set xs k v) j ≡ slice_get xs j
stamp_else [] k j v other = refl
stamp_else (x ∷ xs) zero zero v other = absurd (true≢false other)
stamp_else (x ∷ xs) zero (suc j) v other = refl
stamp_else (x ∷ xs) (suc k) zero v other = refl
stamp_else (x ∷ xs) (suc k) (suc j) v other = stamp_else xs k j v (grind (arith, nat_tests, other))

-- stamps in a list are those along the calls that set them
pub listed_stamp : (xs : List Stamped) (stamps : List ℕ) (i : Image) → slot_of i < length stamps → stamp_in (with_stamps xs stamps) i ≡ stamp_after (stamp_calls xs) i (stamp_in stamps i)
listed_stamp [] stamps i inside = refl
listed_stamp (x ∷ xs) stamps i inside =
    listed_stamp xs (slice_set stamps (slot_of x.image) x.stamp) i (subst (λ n. slot_of i < n) (sym (set_length stamps (slot_of x.image) x.stamp)) inside)
    ∙ ap (stamp_after (stamp_calls xs) i) (one (slot_of x.image == slot_of i) refl)
  where
    one : (b : Bool) → (slot_of x.image == slot_of i) ≡ b → stamp_in (slice_set stamps (slot_of x.image) x.stamp) i ≡ (if b then x.stamp else stamp_in stamps i)
    one true is =
        let n : slot_of x.image ≡ slot_of i = same_key (slot_of x.image) (slot_of i) is in
        rw n (ap (λ (o : Option ℕ). unwrap_or o 0) (set_there stamps (slot_of i) x.stamp inside))
    one false apart = ap (λ (o : Option ℕ). unwrap_or o 0) (stamp_else stamps (slot_of x.image) (slot_of i) x.stamp apart)

-- ---- images of the places

-- two images of the places stand at one slot where they are the same
pub same_slots : (i j : Image) → IsPlaced i → IsPlaced j → slot_of i ≡ slot_of j → (i.place ≡ j.place) × (i.index ≡ j.index)
same_slots i j p q same = let a = p.1 in let b = q.1 in (omega (arith, a, b, same), omega (arith, a, b, same))

pub slot_within : (i : Image) → IsPlaced i → slot_of i < 48
slot_within i p = let a = p.0 in let b = p.1 in omega (arith, a, b)

-- a call that doesn't free it keeps one use more
one_more : (s : CoreState) (x : CellCall) (i : Image) (w : ℕ) → IsPlaced i → is_had s i ≡ false → FitsCall s x → word_by x i (w + 1) ≡ word_by x i w + 1
one_more s (pin j) i w placed other fits = by (slot_of j == slot_of i)
  where
    by : (b : Bool) → (if b then w + 1 + 1 else w + 1) ≡ (if b then w + 1 else w) + 1
    by true = refl
    by false = refl
one_more s (free j) i w placed other fits = by (slot_of j == slot_of i) refl
  where
    by : (b : Bool) → (slot_of j == slot_of i) ≡ b → (if b then 0 else w + 1) ≡ (if b then 0 else w) + 1
    by true is =
        let same = same_slots j i fits.0 placed (same_key (slot_of j) (slot_of i) is) in
        let here : is_had s i ≡ true = subst (λ (x : ℕ × ℕ). is_had s (record { place = x.0; index = x.1 }) ≡ true) (λ k. (same.0 k, same.1 k)) fits.1 in
        absurd (true≢false (sym here ∙ other))
    by false apart = refl
one_more s (claim j b) i w placed other fits = refl
one_more s (stamp j n) i w placed other fits = refl
one_more s (peek j n) i w placed other fits = refl
one_more s (give_back j) i w placed other fits = refl

-- where none of these calls frees it, one use more is one use more afterwards
pub word_more : (s : CoreState) (xs : List CellCall) (i : Image) (w : ℕ) → IsPlaced i → is_had s i ≡ false → Each (FitsCall s) xs → word_after xs i (w + 1) ≡ word_after xs i w + 1
word_more s [] i w placed other fits = refl
word_more s (x ∷ xs) i w placed other fits = ap (word_after xs i) (one_more s x i w placed other fits.0) ∙ word_more s xs i (word_by x i w) placed other fits.1
