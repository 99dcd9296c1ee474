-- Texts that are cut at a byte: what stands before it and behind it.
use Rattle.std.proofs.Common.{arith, ◌≡◌, ◌<◌, ◌/◌, ◌%◌, ◌==◌, not, nat_lt, ℕ, ℤ, pos, negsuc, zero, suc, Bool, true, false, List, [], ◌∷◌, ◌++◌, refl, sym, ap, ◌∙◌, true≢false, if◌then◌else◌}
use Rattle.std.specs.Prelude.{decimal}
use Rattle.std.specs.List.{list_all}
use Rattle.std.specs.Fmt.{signed_decimal, digits, digits_onto, digit_glyph}
use Rattle.std.proofs.lemmas.Bool.Decides.{nat_tests}
use Rattle.std.proofs.lemmas.List.Folds.{list_all-append}
use Rattle.xr_model.specs.device_text.DeviceText.{is_digit}
use Rattle.xr_model.proofs.Rows.{both_of, not_true, itself, same_key}

-- a text without this byte
abbrev pub Free : ℕ → List ℕ → Type 0
Free b text = list_all (λ x. not (x == b)) text ≡ true

pub free_both : (b : ℕ) (xs ys : List ℕ) → Free b xs → Free b ys → Free b (xs ++ ys)
free_both b xs ys first second = list_all-append (λ x. not (x == b)) xs ys ∙ rw (first, second) refl

pub same_first : (x y : ℕ) (xs ys : List ℕ) → x ∷ xs ≡ y ∷ ys → x ≡ y
same_first x y xs ys e = cc

pub same_others : (x y : ℕ) (xs ys : List ℕ) → x ∷ xs ≡ y ∷ ys → xs ≡ ys
same_others x y xs ys e = cc

-- the byte isn't the first of a text that is without it
not_here : (b x : ℕ) (xs : List ℕ) → Free b (x ∷ xs) → x ≡ b → ⊥
not_here b x xs free is =
    let other = not_true (x == b) (both_of (not (x == b)) (list_all (λ y. not (y == b)) xs) free).0 in
    true≢false (sym (itself b) ∙ ap (λ y. y == b) (sym is) ∙ other)

-- two texts that are cut at a byte that doesn't come before are the same before it and behind it
pub cut : (b : ℕ) (xs ys us vs : List ℕ) → Free b xs → Free b ys → xs ++ b ∷ us ≡ ys ++ b ∷ vs → (xs ≡ ys) × (us ≡ vs)
cut b [] [] us vs first second e = (refl, same_others b b us vs e)
cut b [] (y ∷ ys) us vs first second e = absurd (not_here b y ys second (sym (same_first b y us (ys ++ b ∷ vs) e)))
cut b (x ∷ xs) [] us vs first second e = absurd (not_here b x xs first (same_first x b (xs ++ b ∷ us) vs e))
cut b (x ∷ xs) (y ∷ ys) us vs first second e =
    let more = cut b xs ys us vs (both_of (not (x == b)) (list_all (λ z. not (z == b)) xs) first).1
    (both_of (not (y == b)) (list_all (λ z. not (z == b)) ys) second).1 (same_others x y (xs ++ b ∷ us) (ys ++ b ∷ vs) e) in
    (ap (λ z. z ∷ xs) (same_first x y (xs ++ b ∷ us) (ys ++ b ∷ vs) e) ∙ ap (λ l. y ∷ l) more.0, more.1)

-- ---- numbers

-- a byte that is no digit
abbrev pub is_other : ℕ → Bool
is_other b = not (is_digit b)

glyph_is_digit : (n : ℕ) → is_digit (digit_glyph false (n % 10)) ≡ true
glyph_is_digit n = let small : n % 10 < 10 = omega arith in let less : nat_lt (n % 10) 10 ≡ true = grind (arith, nat_tests) in rw less (grind (arith, nat_tests))

digit_differs : (b d : ℕ) → is_other b ≡ true → is_digit d ≡ true → not (d == b) ≡ true
digit_differs b d other digit = by (d == b) refl
  where
    by : (c : Bool) → (d == b) ≡ c → not c ≡ true
    by true is = absurd (true≢false (sym digit ∙ ap is_digit (same_key d b is) ∙ not_true (is_digit b) other))
    by false is = refl

onto_free : (b k n : ℕ) (acc : List ℕ) → is_other b ≡ true → Free b acc → Free b (digits_onto k 10 false n acc)
onto_free b zero n acc other free = free
onto_free b (suc k) n acc other free =
    let here = digit_differs b (digit_glyph false (n % 10)) other (glyph_is_digit n) in
    by (n / 10 == 0) (rw (here, free) refl) (onto_free b k (n / 10) (digit_glyph false (n % 10) ∷ acc) other)
  where
    by : (c : Bool) → Free b (digit_glyph false (n % 10) ∷ acc)
        → (Free b (digit_glyph false (n % 10) ∷ acc) → Free b (digits_onto k 10 false (n / 10) (digit_glyph false (n % 10) ∷ acc)))
        → Free b (if c then digit_glyph false (n % 10) ∷ acc else digits_onto k 10 false (n / 10) (digit_glyph false (n % 10) ∷ acc))
    by true one more = one
    by false one more = more one

pub decimal_free : (b n : ℕ) → is_other b ≡ true → Free b (decimal n)
unfolding digits
decimal_free b n other = onto_free b 64 n [] other refl

pub signed_free : (b : ℕ) (z : ℤ) → is_other b ≡ true → not (45 == b) ≡ true → Free b (signed_decimal z)
signed_free b (pos n) other sign = decimal_free b n other
signed_free b (negsuc n) other sign = rw (sign, decimal_free b (suc n) other) refl

-- a text begins with a digit
abbrev pub begins_digit : List ℕ → Bool
begins_digit [] = false
begins_digit (b ∷ bs) = is_digit b

onto_begins : (k n : ℕ) (acc : List ℕ) → begins_digit acc ≡ true → begins_digit (digits_onto k 10 false n acc) ≡ true
onto_begins zero n acc begins = begins
onto_begins (suc k) n acc begins = by (n / 10 == 0) (glyph_is_digit n) (onto_begins k (n / 10) (digit_glyph false (n % 10) ∷ acc) (glyph_is_digit n))
  where
    by : (c : Bool) → is_digit (digit_glyph false (n % 10)) ≡ true → begins_digit (digits_onto k 10 false (n / 10) (digit_glyph false (n % 10) ∷ acc)) ≡ true
        → begins_digit (if c then digit_glyph false (n % 10) ∷ acc else digits_onto k 10 false (n / 10) (digit_glyph false (n % 10) ∷ acc)) ≡ true
    by true one more = one
    by false one more = more

decimal_begins : (n : ℕ) → begins_digit (decimal n) ≡ true
unfolding digits
decimal_begins n = by (n / 10 == 0) (glyph_is_digit n) (onto_begins 63 (n / 10) (digit_glyph false (n % 10) ∷ []) (glyph_is_digit n))
  where
    by : (c : Bool) → is_digit (digit_glyph false (n % 10)) ≡ true → begins_digit (digits_onto 63 10 false (n / 10) (digit_glyph false (n % 10) ∷ [])) ≡ true
        → begins_digit (if c then digit_glyph false (n % 10) ∷ [] else digits_onto 63 10 false (n / 10) (digit_glyph false (n % 10) ∷ [])) ≡ true
    by true one more = one
    by false one more = more

pub number_begins : (n : ℕ) (rest : List ℕ) → begins_digit (decimal n ++ rest) ≡ true
number_begins n rest = by (decimal n) (decimal_begins n)
  where
    by : (ds : List ℕ) → begins_digit ds ≡ true → begins_digit (ds ++ rest) ≡ true
    by [] begins = absurd (true≢false (sym begins))
    by (d ∷ ds) begins = begins
