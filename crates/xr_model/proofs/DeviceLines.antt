-- Words and numbers of a device's text, printed, read back.
use Rattle.std.proofs.Common.{◌≡◌, ◌<◌, ◌≤◌, ◌+◌, ◌-◌, ◌*◌, ◌/◌, ◌%◌, ◌==◌, ◌^◌, ℕ, pos, Bool, true, false, List, [], ◌∷◌, ◌++◌, length, get_or, Option, Some, None, option_map, option_and_then, refl, sym, ap, ◌∙◌, arith, append_assoc}
use Rattle.std.specs.List.{list_all}
use Rattle.std.specs.Prelude.{not, nat_le, codes, decimal, if◌then◌else◌}
use Rattle.std.proofs.lemmas.Fmt.{decimal_by_steps, decimal_nonempty, first_decimal, length-decimal-le_succ}
use Rattle.std.proofs.lemmas.Bool.Decides.{nat_tests}
use Rattle.xr_types.specs.declared.device.DeviceEvent.{DeviceEvent}
use Rattle.xr_types.specs.declared.device.DeviceEvent.TheVariants as event
use Rattle.xr_types.specs.declared.spaces.Origin.{Origin}
use Rattle.xr_types.specs.Device.{checks, is_time, is_mark, in_range}
use Rattle.xr_types.specs.Printed.{origin_name, all_origins}
use Rattle.xr_types.specs.Words.{named}
use Rattle.xr_model.specs.device_text.DeviceText.{words_of, is_digit, digits_behind, number_of, below_0, integer_of, most_pose, event_by, if_checked}
use Rattle.xr_model.specs.device_text.DeviceLines.{device_line}
use Rattle.xr_model.proofs.Rows.{both_of, not_true, same_key}

-- ---- numbers

-- digits behind others, one more
digits_more : (k : ℕ) (ds : List ℕ) (b m : ℕ) → digits_behind k ds ≡ Some m → is_digit b ≡ true → digits_behind k (ds ++ b ∷ []) ≡ Some (m * 10 + (b - 48))
digits_more k [] b m e digit = rw digit (ap (λ (x : ℕ). Some (x * 10 + (b - 48))) (same e))
  where
    same : Some k ≡ Some m → k ≡ m
    same e = cc
digits_more k (d ∷ ds) b m e digit = by (is_digit d) e (λ more. digits_more (k * 10 + (d - 48)) ds b m more digit)
  where
    by : (c : Bool) → (if c then digits_behind (k * 10 + (d - 48)) ds else None) ≡ Some m
        → (digits_behind (k * 10 + (d - 48)) ds ≡ Some m → digits_behind (k * 10 + (d - 48)) (ds ++ b ∷ []) ≡ Some (m * 10 + (b - 48)))
        → (if c then digits_behind (k * 10 + (d - 48)) (ds ++ b ∷ []) else None) ≡ Some (m * 10 + (b - 48))
    by true e later = later e
    by false e later = cc

-- no byte of a number is a space
abbrev pub NoSpace : List ℕ → Type 0
NoSpace [] = Unit {0}
NoSpace (b ∷ bs) = ((b == 32) ≡ false) × NoSpace bs

no_space_more : (ds : List ℕ) (b : ℕ) → NoSpace ds → (b == 32) ≡ false → NoSpace (ds ++ b ∷ [])
no_space_more [] b none other = (other, tt)
no_space_more (d ∷ ds) b none other = (none.0, no_space_more ds b none.1 other)

abbrev pub Reads : ℕ → List ℕ → Type 0
Reads n ds = (digits_behind 0 ds ≡ Some n) × NoSpace ds

pub reads : (n : ℕ) → n < 2 ^ 64 → Reads n (decimal n)
reads = decimal_by_steps Reads one more
  where
    is_one : (n : ℕ) → n < 10 → is_digit (48 + n) ≡ true
    is_one n l = grind (arith, nat_tests, l)

    no_space : (n : ℕ) → (48 + n == 32) ≡ false
    no_space n = grind (arith, nat_tests)

    one : (n : ℕ) → n < 10 → Reads n ((48 + n) ∷ [])
    one n l = (rw (is_one n l) (ap (λ (x : ℕ). Some x) (omega arith)), (no_space n, tt))

    more : (n : ℕ) (ds : List ℕ) → 10 ≤ n → Reads (n / 10) ds → Reads n (ds ++ ((48 + n % 10) ∷ []))
    more n ds l h =
        let last : n % 10 < 10 = omega arith in
        (digits_more 0 ds (48 + n % 10) (n / 10) h.0 (is_one (n % 10) last) ∙ ap (λ (x : ℕ). Some x) (omega arith), no_space_more ds (48 + n % 10) h.1 (no_space (n % 10)))

-- without a leading zero they are a number
number_by : (n : ℕ) (ds : List ℕ) → digits_behind 0 ds ≡ Some n → 0 < length ds → (0 < n → 48 < get_or ds 0 0) → length ds ≤ n + 1 → number_of ds ≡ Some n
number_by n [] e some first short = absurd (omega (arith, some))
number_by n (b ∷ []) e some first short = e
number_by n (b ∷ c ∷ bs) e some first short = by (b == 48) refl
  where
    by : (z : Bool) → (b == 48) ≡ z → (if z then None else digits_behind 0 (b ∷ c ∷ bs)) ≡ Some n
    by false ez = e
    by true ez =
        let zero : b ≡ 48 = same_key b 48 ez in
        let many : 0 < n = omega (arith, short) in
        let large = first many in
        absurd (omega (arith, zero, large))

pub number_reads : (n : ℕ) → n < 2 ^ 64 → number_of (decimal n) ≡ Some n
number_reads n small = number_by n (decimal n) (reads n small).0 (decimal_nonempty n small) (λ some. first_decimal n some small) (length-decimal-le_succ n small)

-- no number begins with `-`
pub no_sign : (b : ℕ) (bs : List ℕ) → (b == 45) ≡ true → number_of (b ∷ bs) ≡ None
no_sign b [] sign = rw (same_key b 45 sign) refl
no_sign b (c ∷ bs) sign = rw (same_key b 45 sign) refl

-- a number is a whole number
integer_by : (n : ℕ) (ds : List ℕ) → number_of ds ≡ Some n → integer_of ds ≡ Some (pos n)
integer_by n [] e = cc
integer_by n (b ∷ bs) e = by (b == 45) refl
  where
    by : (sign : Bool) → (b == 45) ≡ sign → (if sign then option_and_then below_0 (number_of bs) else option_map pos (number_of (b ∷ bs))) ≡ Some (pos n)
    by true is = absurd (none_is_not (sym (no_sign b bs is) ∙ e))
      where
        none_is_not : None ≡ Some n → ⊥
        none_is_not e = cc
    by false is = ap (option_map pos) e

pub integer_reads : (n : ℕ) → n < 2 ^ 64 → integer_of (decimal n) ≡ Some (pos n)
integer_reads n small = integer_by n (decimal n) (number_reads n small)

-- ---- words

pub words_alone : (ds : List ℕ) → NoSpace ds → words_of ds ≡ ds ∷ []
words_alone [] none = refl
words_alone (b ∷ bs) none = rw (none.0, words_alone bs none.1) refl

pub words_then : (ds rest : List ℕ) → NoSpace ds → words_of (ds ++ 32 ∷ rest) ≡ ds ∷ words_of rest
words_then [] rest none = refl
words_then (b ∷ bs) rest none = rw (none.0, words_then bs rest none.1) refl

-- a word and a number
pub word_number : (word : List ℕ) (n : ℕ) → NoSpace word → n < 2 ^ 64 → words_of ((word ++ 32 ∷ []) ++ decimal n) ≡ word ∷ decimal n ∷ []
word_number word n none small = ap words_of (append_assoc word (32 ∷ []) (decimal n)) ∙ words_then word (decimal n) none ∙ ap (λ (ws : List (List ℕ)). word ∷ ws) (words_alone (decimal n) (reads n small).1)

-- ---- numbers in range

pub small_time : (n : ℕ) → is_time (pos n) ≡ true → n < 2 ^ 64
small_time n e = grind (arith, nat_tests, e)

pub small_mark : (n : ℕ) → is_mark n ≡ true → n < 2 ^ 64
small_mark n e = grind (arith, nat_tests, e)

pub small_pose : (n : ℕ) → nat_le n most_pose ≡ true → n < 2 ^ 64
small_pose n e = grind (arith, nat_tests, e)

pub small_period : (n : ℕ) → in_range (pos n) (pos 1) (pos 1000000000) ≡ true → n < 2 ^ 64
small_period n e = grind (arith, nat_tests, e)

-- ---- events

-- the words of a grid
pub grid_words : (base period : ℕ) → base < 2 ^ 64 → period < 2 ^ 64 → words_of (((codes "grid " ++ decimal base) ++ codes " ") ++ decimal period) ≡ codes "grid" ∷ decimal base ∷ decimal period ∷ []
grid_words base period small few =
    ap words_of (append_assoc (codes "grid " ++ decimal base) (codes " ") (decimal period) ∙ append_assoc (codes "grid ") (decimal base) (codes " " ++ decimal period))
    ∙ words_then (codes "grid") (decimal base ++ (codes " " ++ decimal period)) (refl, (refl, (refl, (refl, tt))))
    ∙ ap (λ (ws : List (List ℕ)). codes "grid" ∷ ws) (words_then (decimal base) (decimal period) (reads base small).1 ∙ ap (λ (ws : List (List ℕ)). decimal base ∷ ws) (words_alone (decimal period) (reads period few).1))

-- the words of a pose
pub no_space_by : (ds : List ℕ) → list_all (λ b. not (b == 32)) ds ≡ true → NoSpace ds
no_space_by [] none = tt
no_space_by (b ∷ bs) none = let two = both_of (not (b == 32)) (list_all (λ b. not (b == 32)) bs) none in (not_true (b == 32) two.0, no_space_by bs two.1)

pieces : (a b c d e f : List ℕ) → ((((a ++ b) ++ c) ++ d) ++ e) ++ f ≡ a ++ (b ++ (c ++ (d ++ (e ++ f))))
pieces a b c d e f = simp append_assoc

pose_words : (name : List ℕ) (time pose : ℕ) → NoSpace name → time < 2 ^ 64 → pose < 2 ^ 64
    → words_of (((((codes "pose " ++ name) ++ codes " ") ++ decimal time) ++ codes " ") ++ decimal pose) ≡ codes "pose" ∷ name ∷ decimal time ∷ decimal pose ∷ []
pose_words name time pose none small few =
    ap words_of (pieces (codes "pose ") name (codes " ") (decimal time) (codes " ") (decimal pose))
    ∙ words_then (codes "pose") (name ++ (codes " " ++ (decimal time ++ (codes " " ++ decimal pose)))) (refl, (refl, (refl, (refl, tt))))
    ∙ ap (λ (ws : List (List ℕ)). codes "pose" ∷ ws) (words_then name (decimal time ++ (codes " " ++ decimal pose)) none
    ∙ ap (λ (ws : List (List ℕ)). name ∷ ws) (words_then (decimal time) (decimal pose) (reads time small).1
    ∙ ap (λ (ws : List (List ℕ)). decimal time ∷ ws) (words_alone (decimal pose) (reads pose few).1)))

-- a pose of an origin that has a word of its own
pub pose_back : (o : Origin) (time pose : ℕ) → list_all (λ b. not (b == 32)) (origin_name o) ≡ true → named origin_name all_origins (origin_name o) ≡ Some o
    → nat_le pose most_pose ≡ true → is_time (pos time) ≡ true → event_by (words_of (device_line (event.Pose o (pos time) pose))) ≡ Some (event.Pose o (pos time) pose)
pose_back o time pose none own line good =
    let small = small_time time good in
    let few = small_pose pose line in
    rw (pose_words (origin_name o) time pose (no_space_by (origin_name o) none) small few, own, integer_reads time small, number_reads pose few, line) refl

pub checked : (e : DeviceEvent) (found : Option DeviceEvent) → found ≡ Some e → checks e ≡ true → if_checked found ≡ Some e
checked e found is good = rw (is, good) refl
