-- The bytes of a buffer between two places, after a step of the first, a move to the front or a write behind the second.
use Rattle.std.proofs.Common.{◌≡◌, ◌==◌, ◌||◌, ◌&&◌, ℕ, ◌+◌, ◌-◌, ◌≤◌, ◌<◌, Bool, true, false, List, ◌++◌, length, take, drop, slice_range, refl, sym, ap, ◌∙◌, arith}
use Rattle.std.proofs.lemmas.List.{take_at, drop_at, take-append-le, drop-append-le, drop-take, drop-drop, length-take-le, length-take, length-drop}
use Rattle.std.proofs.lemmas.Bool.{lt-ltb}
use Rattle.xr_io.specs.Outside.{is_end}
use Rattle.std.proofs.lemmas.List.Edits.{take-paste}
use Rattle.std.specs.List.{copy_within}
use borrow.Rule.Slice.PartMut.{put_mid, post_of}
use lib.Seq.{take-add}

pub grown : (xs ys : List ℕ) (start end k n : ℕ) → start ≤ end → end ≤ length xs → n ≤ length ys
    → slice_range (put_mid end k xs ys) start (end + n) ≡ slice_range xs start end ++ take n ys
grown xs ys start end k n ordered within fits =
    let front = length-take-le end xs within in
    let held = drop start (take end xs) in
    let len : length held ≡ end - start = omega (arith, length-drop start (take end xs)) in
    let sum : end + n - start ≡ (end - start) + n = omega arith in
    let parts : end ≡ start + (end - start) = omega arith in
    let same : held ≡ take (end - start) (drop start xs) = ap (λ j. drop start (take j xs)) parts ∙ drop-take start (end - start) xs in
    let after = ys ++ post_of end k xs in
    ap (take (end + n - start)) (drop-append-le start (take end xs) after (omega arith))
    ∙ ap (λ j. take j (held ++ after)) sum ∙ take-add (end - start) n (held ++ after)
    ∙ (rw (take_at held after _ len, drop_at held after _ len, take-append-le n ys (post_of end k xs) fits, same) refl)

pub skipped : (xs : List ℕ) (start end count : ℕ) → start + count ≤ end
    → slice_range xs (start + count) end ≡ drop count (slice_range xs start end)
skipped xs start end count inside =
    let parts : end - start ≡ count + (end - (start + count)) = omega arith in
    sym (ap (λ j. drop count (take j (drop start xs))) parts ∙ drop-take count _ (drop start xs)
    ∙ ap (take (end - (start + count))) (drop-drop count start xs))

pub moved : (xs : List ℕ) (start end : ℕ) → start ≤ end → end ≤ length xs → slice_range (copy_within xs start end 0) 0 (end - start) ≡ slice_range xs start end
moved xs start end ordered within =
    let len = length-drop start xs in
    let n : end - start - 0 ≡ 0 + (end - start) = omega arith in
    ap (λ j. take j (copy_within xs start end 0)) n ∙ take-paste xs 0 (drop start xs) (end - start) (omega arith) (omega arith)

pub skipped_held : (xs held : List ℕ) (start end count : ℕ) → start ≤ end → slice_range xs start end ≡ held → count ≤ length held → slice_range xs (start + count) end ≡ drop count held
skipped_held xs held start end count ordered is some =
    let len = length-take (end - start) (drop start xs) in
    let same : length (slice_range xs start end) ≡ length held = ap length is in
    skipped xs start end count (omega arith) ∙ ap (drop count) is

-- what a read leaves that puts bytes behind those that were moved to the front
pub read_behind : (xs moved_xs ys held : List ℕ) (start end k n : ℕ) → start ≤ end → end ≤ length xs → slice_range xs start end ≡ held → moved_xs ≡ copy_within xs start end 0 → length moved_xs ≡ length xs → n ≤ length ys
    → slice_range (put_mid (end - start) k moved_xs ys) 0 (end - start + n) ≡ held ++ take n ys
read_behind xs moved_xs ys held start end k n ordered within is after same fits =
    grown moved_xs ys 0 (end - start) k n (omega arith) (omega arith) fits
    ∙ ap (λ l. l ++ take n ys) (ap (λ l. slice_range l 0 (end - start)) after ∙ moved xs start end ordered within ∙ is)

-- no byte tells the end, since there was room for one
and_true : (b : Bool) → (b && true) ≡ b
and_true true = refl
and_true false = refl

pub with_room : (over : Bool) (n size : ℕ) → 0 < size → (over || is_end n size) ≡ (over || (n == 0))
with_room over n size some = ap (λ b. over || ((n == 0) && b)) (lt-ltb 0 size some) ∙ ap (λ b. over || b) (and_true (n == 0))
