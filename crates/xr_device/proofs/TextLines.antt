-- The lines of a text whose first bytes are known.
use Rattle.std.proofs.Common.{◌≡◌, ◌<◌, ◌≤◌, ◌⊎◌, ◌==◌, ◌||◌, ℕ, ◌+◌, Bool, true, false, true≢false, nat_lt, List, [], ◌∷◌, ◌++◌, length, take, drop, refl, sym, ap, ◌∙◌, subst, arith, append_assoc, append-nil, add-zero, length-append, take-append-drop}
use Rattle.std.proofs.lemmas.List.{length-take-le, take_all, drop_all}
use Rattle.std.specs.Prelude.{if◌then◌else◌}
use Rattle.std.proofs.lemmas.Bool.Decides.{nat_tests}
use Rattle.xr_model.specs.device_text.DeviceText.{Line, in_front, lines_in, line_size, told_from, told_by, meaning_of}
use Rattle.xr_device.specs.FirstByte.{is_free_of, IsFirstAt}
use Rattle.xr_device.specs.Answers.{garbled}
use Rattle.xr_device.proofs.FirstBytes.{first_parts}

abbrev pub closed_line : List ℕ → Line
closed_line bytes = record { bytes = bytes; closed = true }

abbrev pub open_line : List ℕ → Line
open_line bytes = record { bytes = bytes; closed = false }

-- bytes without a line feed, and then one
pub lines_closed : (l rest : List ℕ) → is_free_of 10 l ≡ true → lines_in (l ++ 10 ∷ rest) ≡ closed_line l ∷ lines_in rest
lines_closed [] rest free = refl
lines_closed (x ∷ xs) rest free = by (x == 10) refl (lines_closed xs rest)
  where
    by : (t : Bool) → (x == 10) ≡ t → (is_free_of 10 xs ≡ true → lines_in (xs ++ 10 ∷ rest) ≡ closed_line xs ∷ lines_in rest) → lines_in (x ∷ (xs ++ 10 ∷ rest)) ≡ closed_line (x ∷ xs) ∷ lines_in rest
    by true h more = absurd (true≢false (sym (rw h at free)))
    by false h more = rw (h, more (rw h at free)) refl

-- the first line of a text that begins with bytes without a line feed
record Opens (l : List ℕ) (lines : List Line) : Type 0 where
  more : List ℕ
  closed : Bool
  others : List Line
  parts : lines ≡ record { bytes = l ++ more; closed = closed } ∷ others

opens_one : (x : ℕ) (ls : List Line) → Opens (x ∷ []) (in_front x ls)
opens_one x [] = record { more = []; closed = false; others = []; parts = refl }
opens_one x (m ∷ ms) = record { more = m.bytes; closed = m.closed; others = ms; parts = refl }

opens_more : (x : ℕ) (l : List ℕ) (ls : List Line) → Opens l ls → Opens (x ∷ l) (in_front x ls)
opens_more x l ls o = record { more = o.more; closed = o.closed; others = o.others; parts = ap (in_front x) o.parts }

opens : (x : ℕ) (xs rest : List ℕ) → is_free_of 10 (x ∷ xs) ≡ true → Opens (x ∷ xs) (lines_in (x ∷ (xs ++ rest)))
opens x [] rest free = by (x == 10) refl
  where
    by : (t : Bool) → (x == 10) ≡ t → Opens (x ∷ []) (lines_in (x ∷ rest))
    by true h = absurd (true≢false (sym (rw h at free)))
    by false h = rw h (opens_one x (lines_in rest))
opens x (y ∷ ys) rest free = by (x == 10) refl (opens y ys rest)
  where
    by : (t : Bool) → (x == 10) ≡ t → (is_free_of 10 (y ∷ ys) ≡ true → Opens (y ∷ ys) (lines_in (y ∷ (ys ++ rest)))) → Opens (x ∷ y ∷ ys) (lines_in (x ∷ y ∷ (ys ++ rest)))
    by true h more = absurd (true≢false (sym (rw h at free)))
    by false h more = subst (λ (ls : List Line). Opens (x ∷ y ∷ ys) ls) (rw h refl) (opens_more x (y ∷ ys) (lines_in (y ∷ (ys ++ rest))) (more (rw h at free)))

-- bytes without a line feed alone
pub lines_open : (x : ℕ) (xs : List ℕ) → is_free_of 10 (x ∷ xs) ≡ true → lines_in (x ∷ xs) ≡ open_line (x ∷ xs) ∷ []
lines_open x [] free = by (x == 10) refl
  where
    by : (t : Bool) → (x == 10) ≡ t → lines_in (x ∷ []) ≡ open_line (x ∷ []) ∷ []
    by true h = absurd (true≢false (sym (rw h at free)))
    by false h = rw h refl
lines_open x (y ∷ ys) free = by (x == 10) refl (lines_open y ys)
  where
    by : (t : Bool) → (x == 10) ≡ t → (is_free_of 10 (y ∷ ys) ≡ true → lines_in (y ∷ ys) ≡ open_line (y ∷ ys) ∷ []) → lines_in (x ∷ y ∷ ys) ≡ open_line (x ∷ y ∷ ys) ∷ []
    by true h more = absurd (true≢false (sym (rw h at free)))
    by false h more = rw h (ap (in_front x) (more (rw h at free)))

-- ---- what is told of a line

test_late : (a c used n : ℕ) → n ≤ a → (255 < n) ⊎ (16777216 < used + n) → (nat_lt 255 a || nat_lt 16777216 (used + (a + c))) ≡ true
test_late a c used n le h = grind (arith, nat_tests)

test_past : (a used size : ℕ) → 16777216 < used + size → (nat_lt 255 a || nat_lt 16777216 (used + size)) ≡ true
test_past a used size h = grind (arith, nat_tests)

test_fits : (a used size : ℕ) → a ≤ 255 → used + size ≤ 16777216 → (nat_lt 255 a || nat_lt 16777216 (used + size)) ≡ false
test_fits a used size few fits = grind (arith, nat_tests)

late : (number used n : ℕ) (line : Line) (ls : List Line) → n ≤ length line.bytes → (255 < n) ⊎ (16777216 < used + n) → told_from number used (line ∷ ls) ≡ garbled number
late number used n line ls le h = rw (test_late (length line.bytes) (if line.closed then 1 else 0) used n le h) refl

past : (number used : ℕ) (line : Line) (ls : List Line) → 16777216 < used + line_size line → told_from number used (line ∷ ls) ≡ garbled number
past number used line ls h = rw (test_past (length line.bytes) used (line_size line) h) refl

pub fits : (number used : ℕ) (line : Line) (ls : List Line) → length line.bytes ≤ 255 → used + line_size line ≤ 16777216
    → told_from number used (line ∷ ls) ≡ told_by number (meaning_of line.bytes) (told_from (number + 1) (used + line_size line) ls)
fits number used line ls few h = rw (test_fits (length line.bytes) used (line_size line) few h) refl

-- a last line without a line feed
alone : (number used : ℕ) (l : List ℕ) → is_free_of 10 l ≡ true → 0 < length l → length l ≤ 255 → used + length l ≤ 16777216
    → told_from number used (lines_in l) ≡ told_by number (meaning_of l) (told_from (number + 1) (used + length l) [])
alone number used [] free some few h = let none : ⊥ = omega (arith, some) in absurd none
alone number used (x ∷ xs) free some few h =
    let none = add-zero (length (x ∷ xs)) in
    ap (told_from number used) (lines_open x xs free) ∙ fits number used (open_line (x ∷ xs)) [] few (rw none h)
    ∙ ap (λ n. told_by number (meaning_of (x ∷ xs)) (told_from (number + 1) (used + n) [])) none

-- ---- held bytes, and the rest

module _ (number used : ℕ) (held rest : List ℕ) where
  split : (i : ℕ) → IsFirstAt 10 held i → lines_in (held ++ rest) ≡ closed_line (take i held) ∷ lines_in (drop (i + 1) held ++ rest)
  split i at = ap (λ l. lines_in (l ++ rest)) (first_parts 10 held i at) ∙ ap lines_in (append_assoc (take i held) (10 ∷ drop (i + 1) held) rest)
      ∙ lines_closed (take i held) (drop (i + 1) held ++ rest) at.front

  pub past_at : (i : ℕ) → IsFirstAt 10 held i → 16777216 < used + (i + 1) → told_from number used (lines_in (held ++ rest)) ≡ garbled number
  past_at i at h =
      let len = length-take-le i held (let within = at.within in omega arith) in
      ap (told_from number used) (split i at) ∙ past number used (closed_line (take i held)) (lines_in (drop (i + 1) held ++ rest)) (rw len h)

  pub line_at : (i : ℕ) → IsFirstAt 10 held i → i ≤ 255 → used + (i + 1) ≤ 16777216
      → told_from number used (lines_in (held ++ rest)) ≡ told_by number (meaning_of (take i held)) (told_from (number + 1) (used + (i + 1)) (lines_in (drop (i + 1) held ++ rest)))
  line_at i at few h =
      let len = length-take-le i held (let within = at.within in omega arith) in
      ap (told_from number used) (split i at) ∙ fits number used (closed_line (take i held)) (lines_in (drop (i + 1) held ++ rest)) (rw len few) (rw len h)
      ∙ rw len refl

  late_from : (l more : List ℕ) → is_free_of 10 l ≡ true → used ≤ 16777216 → (255 < length l) ⊎ (16777216 < used + length l) → told_from number used (lines_in (l ++ more)) ≡ garbled number
  late_from [] more free start h = absurd (none start h)
    where
      none : used ≤ 16777216 → (255 < 0) ⊎ (16777216 < used + 0) → ⊥
      none a b = grind arith
  late_from (x ∷ xs) more free start h =
      let o = opens x xs more free in
      let len = length-append (x ∷ xs) o.more in
      ap (told_from number used) o.parts ∙ late number used (length (x ∷ xs)) (record { bytes = (x ∷ xs) ++ o.more; closed = o.closed }) o.others (omega arith) h

  pub late_front : (n : ℕ) → is_free_of 10 (take n held) ≡ true → used ≤ 16777216 → (255 < length (take n held)) ⊎ (16777216 < used + length (take n held))
      → told_from number used (lines_in (held ++ rest)) ≡ garbled number
  late_front n free start h =
      ap (λ l. told_from number used (lines_in (l ++ rest))) (sym (take-append-drop n held)) ∙ ap (λ l. told_from number used (lines_in l)) (append_assoc (take n held) (drop n held) rest)
      ∙ late_from (take n held) (drop n held ++ rest) free start h

  pub line_open : is_free_of 10 held ≡ true → 0 < length held → length held ≤ 255 → used + length held ≤ 16777216 → rest ≡ []
      → told_from number used (lines_in (held ++ rest)) ≡ told_by number (meaning_of (take (length held) held)) (told_from (number + 1) (used + length held) (lines_in (drop (length held) held ++ rest)))
  line_open free some few h end =
      let whole = take_all (length held) held (omega arith) in
      let no_rest : drop (length held) held ++ rest ≡ [] = ap (λ l. l ++ rest) (drop_all (length held) held (omega arith)) ∙ end in
      ap (λ l. told_from number used (lines_in (held ++ l))) end ∙ ap (λ l. told_from number used (lines_in l)) (append-nil held) ∙ alone number used held free some few h
      ∙ ap (λ l. told_by number (meaning_of l) (told_from (number + 1) (used + length held) [])) (sym whole)
      ∙ ap (λ l. told_by number (meaning_of (take (length held) held)) (told_from (number + 1) (used + length held) (lines_in l))) (sym no_rest)
