-- Bytes that are searched for one, and the words of a line.
use Rattle.std.proofs.Common.{◌≡◌, ◌≢◌, ◌<◌, ◌==◌, ℕ, ◌+◌, ◌-◌, Bool, true, false, true≢false, List, [], ◌∷◌, ◌++◌, length, get_or, take, drop, refl, sym, ap, ◌∙◌, arith, take-append-drop, None}
use Rattle.std.proofs.lemmas.Bool.Decides.{nat_tests}
use Rattle.std.proofs.lemmas.List.{drop_more, take_more, take_rest, length-take, get_or-take, take-take}
use Rattle.xr_model.specs.device_text.DeviceText.{words_of, before_first, event_by, event_of, if_checked}
use Rattle.xr_device.specs.FirstByte.{is_free_of, IsFirstAt}

free_push : (b : ℕ) (xs : List ℕ) (y : ℕ) → is_free_of b xs ≡ true → (y == b) ≡ false → is_free_of b (xs ++ y ∷ []) ≡ true
free_push b [] y free e = rw e refl
free_push b (x ∷ xs) y free e = by (x == b) refl (λ more. free_push b xs y more e)
  where
    by : (t : Bool) → (x == b) ≡ t → (is_free_of b xs ≡ true → is_free_of b (xs ++ y ∷ []) ≡ true) → is_free_of b (x ∷ (xs ++ y ∷ [])) ≡ true
    by true h more = absurd (true≢false (sym (rw h at free)))
    by false h more = rw h (more (rw h at free))

other : (a b : ℕ) → a ≢ b → (a == b) ≡ false
other a b ne = grind (arith, nat_tests)

pub free_more : (b : ℕ) (bytes : List ℕ) (i : ℕ) → i < length bytes → is_free_of b (take i bytes) ≡ true → get_or bytes i 0 ≢ b → is_free_of b (take (i + 1) bytes) ≡ true
free_more b bytes i within free ne = rw (take_more bytes i 0 within) (free_push b (take i bytes) (get_or bytes i 0) free (other (get_or bytes i 0) b ne))

-- the bytes before it, itself, and the bytes behind it
pub first_parts : (b : ℕ) (bytes : List ℕ) (i : ℕ) → IsFirstAt b bytes i → bytes ≡ take i bytes ++ b ∷ drop (i + 1) bytes
first_parts b bytes i at =
    sym (take-append-drop i bytes) ∙ ap (λ l. take i bytes ++ l) (drop_more bytes i 0 at.within) ∙ ap (λ x. take i bytes ++ x ∷ drop (i + 1) bytes) at.here

-- what is first in the front of the bytes is first in them
pub first_in_front : (b : ℕ) (bytes : List ℕ) (n i : ℕ) → IsFirstAt b (take n bytes) i → IsFirstAt b bytes i
first_in_front b bytes n i at =
    let len = length-take n bytes in
    let inside = at.within in
    let below : i < n = omega arith in record {
      within = omega arith;
      here = sym (get_or-take n bytes i 0 below) ∙ at.here;
      front = ap (λ l. is_free_of b l) (sym (take-take i n bytes (omega arith))) ∙ at.front;
    }

-- ---- words

pub words_whole : (w : List ℕ) → is_free_of 32 w ≡ true → words_of w ≡ w ∷ []
words_whole [] free = refl
words_whole (x ∷ xs) free = by (x == 32) refl (words_whole xs)
  where
    by : (t : Bool) → (x == 32) ≡ t → (is_free_of 32 xs ≡ true → words_of xs ≡ xs ∷ []) → words_of (x ∷ xs) ≡ (x ∷ xs) ∷ []
    by true h more = absurd (true≢false (sym (rw h at free)))
    by false h more = rw (h, more (rw h at free)) refl

pub words_cut : (w rest : List ℕ) → is_free_of 32 w ≡ true → words_of (w ++ 32 ∷ rest) ≡ w ∷ words_of rest
words_cut [] rest free = refl
words_cut (x ∷ xs) rest free = by (x == 32) refl (words_cut xs rest)
  where
    by : (t : Bool) → (x == 32) ≡ t → (is_free_of 32 xs ≡ true → words_of (xs ++ 32 ∷ rest) ≡ xs ∷ words_of rest) → words_of (x ∷ (xs ++ 32 ∷ rest)) ≡ (x ∷ xs) ∷ words_of rest
    by true h more = absurd (true≢false (sym (rw h at free)))
    by false h more = rw (h, more (rw h at free)) refl

pub words_at : (line : List ℕ) (place : ℕ) → IsFirstAt 32 line place → words_of line ≡ take place line ∷ words_of (drop (place + 1) line)
words_at line place cut = ap words_of (first_parts 32 line place cut) ∙ words_cut (take place line) (drop (place + 1) line) cut.front

-- the same, where the rest is cut out up to the end
pub words_at_place : (line : List ℕ) (place : ℕ) → IsFirstAt 32 line place → words_of line ≡ take place line ∷ words_of (take (length line - (place + 1)) (drop (place + 1) line))
words_at_place line place cut = words_at line place cut ∙ ap (λ l. take place line ∷ words_of l) (sym (take_rest line (place + 1)))

-- ---- lines of more than four words

no_event : (w a b c : List ℕ) (ws : List (List ℕ)) (x : ℕ) → event_by (w ∷ a ∷ b ∷ c ∷ before_first x ws) ≡ None
no_event w a b c [] x = refl
no_event w a b c (d ∷ ws) x = refl

many_words : (w a b c rest : List ℕ) → event_by (w ∷ a ∷ b ∷ c ∷ words_of rest) ≡ None
many_words w a b c [] = refl
many_words w a b c (x ∷ xs) = by (x == 32) refl
  where
    by : (t : Bool) → (x == 32) ≡ t → event_by (w ∷ a ∷ b ∷ c ∷ words_of (x ∷ xs)) ≡ None
    by true h = rw h refl
    by false h = rw h (no_event w a b c (words_of xs) x)

pub no_event_of_many : (line w a b c r s t u : List ℕ) → words_of line ≡ w ∷ words_of r → words_of r ≡ a ∷ words_of s → words_of s ≡ b ∷ words_of t → words_of t ≡ c ∷ words_of u → event_of line ≡ None
no_event_of_many line w a b c r s t u first second third fourth =
    ap (λ ws. if_checked (event_by ws)) (first ∙ ap (λ ws. w ∷ ws) (second ∙ ap (λ ws. a ∷ ws) (third ∙ ap (λ ws. b ∷ ws) fourth))) ∙ ap if_checked (many_words w a b c u)
