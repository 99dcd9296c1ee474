-- A text is a path exactly where it is made of names, each behind a slash.
use Rattle.std.proofs.Common.{◌≡◌, ◌≤◌, ◌==◌, ◌&&◌, ◌||◌, ◌++◌, ℕ, suc, Bool, true, false, not, List, [], ◌∷◌, length, refl, sym, ap, subst, ◌∙◌, append-nil, arith, true≢false}
use Rattle.std.specs.Prelude.{nat_le, nat_lt, if◌then◌else◌}
use Rattle.std.specs.List.{list_all, list_any}
use Rattle.std.proofs.lemmas.Bool.Decides.{nat_tests}
use Rattle.xr_types.specs.Name.{is_name_byte, is_periods}
use Rattle.xr_model.specs.machine.Paths.{is_path_byte, ends_with_slash, periods_to_slash, has_empty_name, has_empty_end, is_path_text}
use Rattle.xr_model.specs.laws.PathLaws.{joined, is_path_name, IsPath, PathsAreNames}
use Rattle.xr_model.proofs.Rows.{both_of, neither_of, same_key, not_true}

-- ---- a text that is split at its slashes

-- what stands ahead of the first slash, and the names behind each
abbrev ahead_of : List ℕ → List ℕ
ahead_of [] = []
ahead_of (b ∷ bs) = if b == 47 then [] else b ∷ ahead_of bs

abbrev names_in : List ℕ → List (List ℕ)
names_in [] = []
names_in (b ∷ bs) = if b == 47 then ahead_of bs ∷ names_in bs else names_in bs

-- the text is put together of them
split_whole : (bs : List ℕ) → bs ≡ ahead_of bs ++ joined (names_in bs)
split_whole [] = refl
split_whole (b ∷ bs) = by (b == 47) refl (split_whole bs)
  where
    by : (c : Bool) → (b == 47) ≡ c → bs ≡ ahead_of bs ++ joined (names_in bs) → b ∷ bs ≡ (if c then [] else b ∷ ahead_of bs) ++ joined (if c then ahead_of bs ∷ names_in bs else names_in bs)
    by true ec more = ap (λ (n : ℕ). n ∷ bs) (same_key b 47 ec) ∙ ap (λ (l : List ℕ). 47 ∷ l) more
    by false ec more = ap (λ (l : List ℕ). b ∷ l) more

-- ---- bytes

-- a byte of a path is one of a name, or a slash
or_last : (a b c d e f : Bool) → (a || b || c || d || e || f) ≡ ((a || b || c || d || e) || f)
or_last true b c d e f = refl
or_last false true c d e f = refl
or_last false false true d e f = refl
or_last false false false true e f = refl
or_last false false false false true f = refl
or_last false false false false false f = refl

byte_is : (b : ℕ) → is_path_byte b ≡ is_name_byte b || (b == 47)
unfolding is_path_byte is_name_byte
byte_is b = or_last (nat_le 97 b && nat_le b 122) (nat_le 48 b && nat_le b 57) (b == 45) (b == 95) (b == 46) (b == 47)

-- so all bytes are those of a path where those of the names are those of names
bytes_are : (bs : List ℕ) → list_all is_path_byte bs ≡ list_all is_name_byte (ahead_of bs) && list_all (list_all is_name_byte) (names_in bs)
bytes_are [] = refl
bytes_are (b ∷ bs) = ap (λ (c : Bool). c && list_all is_path_byte bs) (byte_is b) ∙ by (b == 47) (bytes_are bs)
  where
    slash : (n : Bool) → n || true ≡ true
    slash true = refl
    slash false = refl

    other : (n x y : Bool) → (n || false) && (x && y) ≡ (n && x) && y
    other true x y = refl
    other false x y = refl

    by : (c : Bool) → list_all is_path_byte bs ≡ list_all is_name_byte (ahead_of bs) && list_all (list_all is_name_byte) (names_in bs)
        → (is_name_byte b || c) && list_all is_path_byte bs ≡ list_all is_name_byte (if c then [] else b ∷ ahead_of bs) && list_all (list_all is_name_byte) (if c then ahead_of bs ∷ names_in bs else names_in bs)
    by true more = rw (slash (is_name_byte b)) more
    by false more = rw more (other (is_name_byte b) (list_all is_name_byte (ahead_of bs)) (list_all (list_all is_name_byte) (names_in bs)))

-- ---- names of periods alone, or of nothing

abbrev has_names : List (List ℕ) → Bool
has_names [] = false
has_names (n ∷ ns) = true

-- a slash is no period
no_period : (b : ℕ) → (b == 47) ≡ true → (b == 46) ≡ false
no_period b e = grind (arith, nat_tests, e)

to_slash : (bs : List ℕ) → periods_to_slash bs ≡ is_periods (ahead_of bs) && has_names (names_in bs)
to_slash [] = refl
to_slash (b ∷ bs) = by (b == 47) refl (to_slash bs)
  where
    under : (d x y : Bool) → d && (x && y) ≡ (d && x) && y
    under true x y = refl
    under false x y = refl

    by : (c : Bool) → (b == 47) ≡ c → periods_to_slash bs ≡ is_periods (ahead_of bs) && has_names (names_in bs)
        → c || ((b == 46) && periods_to_slash bs) ≡ is_periods (if c then [] else b ∷ ahead_of bs) && has_names (if c then ahead_of bs ∷ names_in bs else names_in bs)
    by true ec more = refl
    by false ec more = rw more (under (b == 46) (is_periods (ahead_of bs)) (has_names (names_in bs)))

to_end : (bs : List ℕ) → list_all (λ c. c == 46) bs ≡ is_periods (ahead_of bs) && not (has_names (names_in bs))
to_end [] = refl
to_end (b ∷ bs) = by (b == 47) refl (to_end bs)
  where
    under : (d x y : Bool) → d && (x && y) ≡ (d && x) && y
    under true x y = refl
    under false x y = refl

    by : (c : Bool) → (b == 47) ≡ c → list_all (λ n. n == 46) bs ≡ is_periods (ahead_of bs) && not (has_names (names_in bs))
        → (b == 46) && list_all (λ n. n == 46) bs ≡ is_periods (if c then [] else b ∷ ahead_of bs) && not (has_names (if c then ahead_of bs ∷ names_in bs else names_in bs))
    by true ec more = rw (no_period b ec) refl
    by false ec more = rw more (under (b == 46) (is_periods (ahead_of bs)) (not (has_names (names_in bs))))

-- some name is so exactly where two slashes have none between them, or none stands behind the last
names_empty : (bs : List ℕ) → has_empty_name bs || has_empty_end bs ≡ list_any is_periods (names_in bs)
names_empty [] = refl
names_empty (b ∷ bs) = by (b == 47) (names_empty bs)
  where
    joins : (p h x y z : Bool) → x || y ≡ z → ((p && h) || x) || ((p && not h) || y) ≡ p || z
    joins true true x y z e = refl
    joins true false true y z e = refl
    joins true false false y z e = refl
    joins false h x y z e = e

    by : (c : Bool) → has_empty_name bs || has_empty_end bs ≡ list_any is_periods (names_in bs)
        → ((c && periods_to_slash bs) || has_empty_name bs) || ((c && list_all (λ n. n == 46) bs) || has_empty_end bs) ≡ list_any is_periods (if c then ahead_of bs ∷ names_in bs else names_in bs)
    by true more = rw (to_slash bs, to_end bs) (joins (is_periods (ahead_of bs)) (has_names (names_in bs)) (has_empty_name bs) (has_empty_end bs) (list_any is_periods (names_in bs)) more)
    by false more = more

-- a slash at the end has nothing behind it
end_empty : (bs : List ℕ) → ends_with_slash bs ≡ true → list_any is_periods (names_in bs) ≡ true
end_empty [] ends = absurd (true≢false (sym ends))
end_empty (b ∷ []) ends = rw ends refl
end_empty (b ∷ c ∷ bs) ends = by (b == 47) (end_empty (c ∷ bs) ends)
  where
    or_true : (x y : Bool) → y ≡ true → x || y ≡ true
    or_true true y e = refl
    or_true false y e = e

    by : (d : Bool) → list_any is_periods (names_in (c ∷ bs)) ≡ true → list_any is_periods (if d then ahead_of (c ∷ bs) ∷ names_in (c ∷ bs) else names_in (c ∷ bs)) ≡ true
    by true more = or_true (is_periods (ahead_of (c ∷ bs))) (list_any is_periods (names_in (c ∷ bs))) more
    by false more = more

-- ---- names are those of the text that is put together of them

no_slash : (k : ℕ) → is_name_byte k ≡ true → (k == 47) ≡ false
unfolding is_name_byte
no_slash k e = by (k == 47) refl
  where
    by : (b : Bool) → (k == 47) ≡ b → b ≡ false
    by true eb = absurd (true≢false (sym (subst (λ (n : ℕ). is_name_byte n ≡ true) (same_key k 47 eb) e)))
    by false eb = refl

name_ahead : (n rest : List ℕ) → list_all is_name_byte n ≡ true → (ahead_of (n ++ rest) ≡ n ++ ahead_of rest) × (names_in (n ++ rest) ≡ names_in rest)
name_ahead [] rest all = (refl, refl)
name_ahead (b ∷ n) rest all =
    let two = both_of (is_name_byte b) (list_all is_name_byte n) all in
    let more = name_ahead n rest two.1 in
    rw (no_slash b two.0) (ap (λ (l : List ℕ). b ∷ l) more.0, more.1)

names_of : (names : List (List ℕ)) → list_all is_path_name names ≡ true → (ahead_of (joined names) ≡ []) × (names_in (joined names) ≡ names)
names_of [] all = (refl, refl)
names_of (n ∷ names) all =
    let two = both_of (is_path_name n) (list_all is_path_name names) all in
    let bytes = (both_of (list_all is_name_byte n) (not (is_periods n)) two.0).0 in
    let more = names_of names two.1 in
    let here = name_ahead n (joined names) bytes in
    (refl, rw (here.0, here.1, more.0, more.1) (ap (λ (l : List ℕ). l ∷ names) (append-nil n)))

-- ---- all names are right

all_right : (names : List (List ℕ)) → list_all (list_all is_name_byte) names ≡ true → list_any is_periods names ≡ false → list_all is_path_name names ≡ true
all_right [] bytes none = refl
all_right (n ∷ names) bytes none =
    let two = both_of (list_all is_name_byte n) (list_all (list_all is_name_byte) names) bytes in
    let rest = neither_of (is_periods n) (list_any is_periods names) none in
    rw (two.0, rest.0, all_right names two.1 rest.1) refl

right_bytes : (names : List (List ℕ)) → list_all is_path_name names ≡ true → (list_all (list_all is_name_byte) names ≡ true) × (list_any is_periods names ≡ false)
right_bytes [] all = (refl, refl)
right_bytes (n ∷ names) all =
    let two = both_of (is_path_name n) (list_all is_path_name names) all in
    let here = both_of (list_all is_name_byte n) (not (is_periods n)) two.0 in
    let more = right_bytes names two.1 in
    (rw (here.0, more.0) refl, rw (not_true (is_periods n) here.1, more.1) refl)

not_ended : (bs : List ℕ) → list_any is_periods (names_in bs) ≡ false → ends_with_slash bs ≡ false
not_ended bs none = by (ends_with_slash bs) refl
  where
    by : (b : Bool) → ends_with_slash bs ≡ b → b ≡ false
    by true eb = absurd (true≢false (sym (end_empty bs eb) ∙ none))
    by false eb = refl

-- ---- a path

path_there : (text : List ℕ) → is_path_text text ≡ true → IsPath text
unfolding is_path_text
path_there [] is = absurd (true≢false (sym is))
path_there (b ∷ bs) is =
    let end = both_of _ (not (has_empty_end (b ∷ bs))) is in
    let names = both_of _ (not (has_empty_name (b ∷ bs))) end.0 in
    let last = both_of _ (not (ends_with_slash (b ∷ bs))) names.0 in
    let slash = both_of _ (b == 47) last.0 in
    let bytes = both_of _ (list_all is_path_byte (b ∷ bs)) slash.0 in
    let long = both_of (nat_lt 0 (length (b ∷ bs))) (nat_le (length (b ∷ bs)) 255) bytes.0 in
    let none : list_any is_periods (names_in (b ∷ bs)) ≡ false = sym (names_empty (b ∷ bs)) ∙ rw (not_true (has_empty_name (b ∷ bs)) names.1, not_true (has_empty_end (b ∷ bs)) end.1) refl in
    let named : names_in (b ∷ bs) ≡ ahead_of bs ∷ names_in bs = rw slash.1 refl in
    let right = both_of (list_all is_name_byte (ahead_of (b ∷ bs))) (list_all (list_all is_name_byte) (names_in (b ∷ bs))) (sym (bytes_are (b ∷ bs)) ∙ bytes.1) in
    record {
      first = ahead_of bs;
      more = names_in bs;
      are = ap (λ (n : ℕ). n ∷ bs) (same_key b 47 slash.1) ∙ ap (λ (l : List ℕ). 47 ∷ l) (split_whole bs);
      each = subst (λ (ns : List (List ℕ)). list_all is_path_name ns ≡ true) named (all_right (names_in (b ∷ bs)) right.1 none);
      few = grind (arith, nat_tests, long.1);
    }

all_hold : (a b c d e f g : Bool) → a ≡ true → b ≡ true → c ≡ true → d ≡ true → e ≡ false → f ≡ false → g ≡ false → a && b && c && d && not e && not f && not g ≡ true
all_hold a b c d e f g ea eb ec ed ee ef eg = rw (ea, eb, ec, ed, ee, ef, eg) refl

path_back : (text : List ℕ) → IsPath text → is_path_text text ≡ true
unfolding is_path_text
path_back text path = subst (λ (t : List ℕ). is_path_text t ≡ true) (sym path.are) whole
  where
    made : List ℕ
    made = joined (path.first ∷ path.more)

    is : (ahead_of made ≡ []) × (names_in made ≡ path.first ∷ path.more)
    is = names_of (path.first ∷ path.more) path.each

    right : (list_all (list_all is_name_byte) (path.first ∷ path.more) ≡ true) × (list_any is_periods (path.first ∷ path.more) ≡ false)
    right = right_bytes (path.first ∷ path.more) path.each

    none : list_any is_periods (names_in made) ≡ false
    none = ap (λ (ns : List (List ℕ)). list_any is_periods ns) is.1 ∙ right.1

    bytes : list_all is_path_byte made ≡ true
    bytes = bytes_are made ∙ ap (λ (ns : List (List ℕ)). list_all (list_all is_name_byte) ns) is.1 ∙ right.0

    parts : (has_empty_name made ≡ false) × (has_empty_end made ≡ false)
    parts = neither_of (has_empty_name made) (has_empty_end made) (names_empty made ∙ none)

    long : nat_le (length made) 255 ≡ true
    long = let few = path.few in short (length made) (subst (λ (t : List ℕ). length t ≤ 255) path.are few)
      where
        short : (n : ℕ) → n ≤ 255 → nat_le n 255 ≡ true
        short n e = grind (arith, nat_tests, e)

    some : (n : ℕ) → nat_lt 0 (suc n) ≡ true
    some n = grind (arith, nat_tests)

    whole : is_path_text made ≡ true
    whole = all_hold (nat_lt 0 (length made)) (nat_le (length made) 255) (list_all is_path_byte made) true (ends_with_slash made) (has_empty_name made) (has_empty_end made)
        (some (length (path.first ++ joined path.more))) long bytes refl (not_ended made none) parts.0 parts.1

pub paths_are_names : PathsAreNames
paths_are_names text = (path_there text, path_back text)
