-- How many frames the loops have waited for and begun, once one of them has changed.
use Rattle.std.proofs.Common.{◌≡◌, ◌+◌, ◌*◌, ◌<◌, ◌≤◌, ℕ, zero, suc, Bool, true, false, true≢false, List, [], ◌∷◌, length, sym, arith}
use Rattle.std.specs.Prelude.{slice_index_or, slice_set}
use Rattle.xr_model.specs.machine.Frames.{FrameLoop, new_loop, one_if}
use Rattle.xr_frames.specs.Slots.{busy, all_busy}

few : (l : FrameLoop) → busy l ≤ 2
few l = by l.has_waited l.has_begun
  where
    by : (a b : Bool) → one_if a + one_if b ≤ 2
    by true true = omega arith
    by true false = omega arith
    by false true = omega arith
    by false false = omega arith

all_few : (ls : List FrameLoop) → all_busy ls ≤ 2 * length ls
all_few [] = omega arith
all_few (l ∷ ls) = let one = few l in let more = all_few ls in omega (arith, one, more)

-- the others have two at most
pub others_few : (ls : List FrameLoop) (slot : ℕ) → slot < length ls → all_busy ls + 2 ≤ busy (slice_index_or ls slot new_loop) + 2 * length ls
others_few [] slot within = absurd (omega (arith, within))
others_few (l ∷ ls) zero within = let more = all_few ls in omega (arith, more)
others_few (l ∷ ls) (suc slot) within =
    let one = few l in
    let more = others_few ls slot (omega (arith, within)) in
    omega (arith, one, more)

-- what a change of one of them adds is what it adds to this one
pub one_changes : (ls : List FrameLoop) (slot : ℕ) (l : FrameLoop) → slot < length ls → all_busy (slice_set ls slot l) + busy (slice_index_or ls slot new_loop) ≡ all_busy ls + busy l
one_changes [] slot l within = absurd (omega (arith, within))
one_changes (x ∷ ls) zero l within = omega arith
one_changes (x ∷ ls) (suc slot) l within = let more = one_changes ls slot l (omega (arith, within)) in omega (arith, more)

begun_counts : (l : FrameLoop) → l.has_begun ≡ true → 1 ≤ busy l
begun_counts l begun = by l.has_waited l.has_begun begun
  where
    by : (a b : Bool) → b ≡ true → 1 ≤ one_if a + one_if b
    by true true begun = omega arith
    by false true begun = omega arith
    by a false begun = absurd (true≢false (sym begun))

-- one of them has no more than all
one_of_all : (ls : List FrameLoop) (slot : ℕ) → slot < length ls → busy (slice_index_or ls slot new_loop) ≤ all_busy ls
one_of_all [] slot within = absurd (omega (arith, within))
one_of_all (l ∷ ls) zero within = omega arith
one_of_all (l ∷ ls) (suc slot) within = let more = one_of_all ls slot (omega (arith, within)) in omega (arith, more)

-- so where one has begun a frame there is room for it among the pending ones
pub room_for_it : (ls : List FrameLoop) (slot pending most : ℕ) → slot < length ls → (slice_index_or ls slot new_loop).has_begun ≡ true → pending + all_busy ls ≤ most → pending < most
room_for_it ls slot pending most within begun few =
    let one = begun_counts (slice_index_or ls slot new_loop) begun in
    let all = one_of_all ls slot within in
    omega (arith, one, all, few)
