-- How many handles are listed, and what keeps them listed.
use Rattle.std.proofs.Common.{◌≡◌, ◌≤◌, ◌<◌, ◌+◌, ◌==◌, ◌&&◌, ◌||◌, ℕ, suc, Bool, true, false, not, List, [], ◌∷◌, ◌++◌, length, Option, Some, None, option_map, refl, sym, ap, subst, ◌∙◌, arith, true≢false}
use Rattle.std.specs.Prelude.{is_some, if◌then◌else◌}
use Rattle.std.specs.List.{list_all, filter, position_from}
use Rattle.xr_types.specs.declared.handles.Slot.{Slot}
use Rattle.xr_model.specs.machine.Handles.{is_among, free, first_free, put_in, goes, going, cleared}
use Rattle.xr_model.specs.laws.HandleLaws.{count_in}
use Rattle.xr_model.proofs.Rows.{one_later, put_first, put_is_first, same_key, itself, both_of, not_true, not_zero}
use Rattle.xr_model.proofs.Keyed.{filters_agree}
use Rattle.xr_core.specs.inside.Housed.{count_listed, AreHoused}
use Rattle.xr_core.proofs.DestroyedAtOnce.{equals_back}

one_if : Bool → ℕ
one_if true = 1
one_if false = 0

-- ---- places that are taken

taken : List Slot → ℕ
taken [] = 0
taken (s ∷ ss) = if s.handle == 0 then taken ss else taken ss + 1

-- the row without the first place of a handle
vacated : ℕ → List Slot → List Slot
vacated k [] = []
vacated k (s ∷ ss) = if s.handle == k then free ∷ ss else s ∷ vacated k ss

is_nothing : (n : ℕ) → 1 ≤ n → n ≡ 0 → ⊥
is_nothing n some none = omega (arith, some, none)

taken_vacated : (k : ℕ) (row : List Slot) → (k == 0) ≡ false → 1 ≤ count_in row k → taken row ≡ taken (vacated k row) + 1
unfolding taken vacated
taken_vacated k [] nz some = absurd (omega (arith, some))
taken_vacated k (s ∷ ss) nz some = by (s.handle == k) refl (s.handle == 0) refl some (taken_vacated k ss nz)
  where
    by : (b : Bool) → (s.handle == k) ≡ b → (z : Bool) → (s.handle == 0) ≡ z → 1 ≤ (if b then count_in ss k + 1 else count_in ss k) → (1 ≤ count_in ss k → taken ss ≡ taken (vacated k ss) + 1)
        → (if z then taken ss else taken ss + 1) ≡ taken (if b then free ∷ ss else s ∷ vacated k ss) + 1
    by true eb true ez some more = absurd (true≢false (sym (subst (λ (n : ℕ). (n == 0) ≡ true) (same_key s.handle k eb) ez) ∙ nz))
    by true eb false ez some more = refl
    by false eb true ez some more = rw ez (more some)
    by false eb false ez some more = rw ez (ap (λ (n : ℕ). n + 1) (more some))

count_vacated : (k : ℕ) (row : List Slot) (j : ℕ) → (j == 0) ≡ false → count_in row j ≤ count_in (vacated k row) j + one_if (k == j)
unfolding vacated one_if
count_vacated k [] j nz = omega arith
count_vacated k (s ∷ ss) j nz = by (s.handle == k) refl (s.handle == j) refl (count_vacated k ss j nz)
  where
    by : (b : Bool) → (s.handle == k) ≡ b → (c : Bool) → (s.handle == j) ≡ c → count_in ss j ≤ count_in (vacated k ss) j + one_if (k == j)
        → (if c then count_in ss j + 1 else count_in ss j) ≤ count_in (if b then free ∷ ss else s ∷ vacated k ss) j + one_if (k == j)
    by true eb true ec more =
        let same : (k == j) ≡ true = subst (λ (n : ℕ). (n == j) ≡ true) (same_key s.handle k eb) ec in
        rw (not_zero j nz, same) (omega arith)
    by true eb false ec more = rw (not_zero j nz) (omega arith)
    by false eb true ec more = rw ec (omega (arith, more))
    by false eb false ec more = rw ec more

-- as many places are taken as handles are listed, or more
few_listed : (xs : List ℕ) (row : List Slot) → AreHoused xs row → length xs ≤ taken row
unfolding one_if
few_listed [] row all = omega arith
few_listed (x ∷ xs) row all =
    let two = both_of (not (x == 0)) (list_all (λ y. not (y == 0)) xs) all.named in
    let nz = not_true (x == 0) two.0 in
    let here : 1 ≤ count_in row x = let most = all.housed x nz in let own = counted_own in omega (arith, most, own) in
    let later = few_listed xs (vacated x row) (record { named = two.1; housed = λ k kz. rest k kz }) in
    let one = taken_vacated x row nz here in
    omega (arith, later, one)
  where
    counted_own : 1 ≤ count_listed (x ∷ xs) x
    counted_own = rw (itself x) (omega arith)

    rest : (k : ℕ) → (k == 0) ≡ false → count_listed xs k ≤ count_in (vacated x row) k
    rest k kz = by (x == k) (all.housed k kz) (count_vacated x row k kz)
      where
        by : (b : Bool) → (if b then count_listed xs k + 1 else count_listed xs k) ≤ count_in row k → count_in row k ≤ count_in (vacated x row) k + one_if b → count_listed xs k ≤ count_in (vacated x row) k
        by true listed left = omega (arith, listed, left)
        by false listed left = omega (arith, listed, left)

taken_most : (row : List Slot) → taken row ≤ length row
unfolding taken
taken_most [] = omega arith
taken_most (s ∷ ss) = by (s.handle == 0) (taken_most ss)
  where
    by : (z : Bool) → taken ss ≤ length ss → (if z then taken ss else taken ss + 1) ≤ suc (length ss)
    by true more = omega (arith, more)
    by false more = omega (arith, more)

some_later : (o : Option ℕ) → is_some (option_map (λ n. suc n) o) ≡ is_some o
some_later None = refl
some_later (Some n) = refl

-- where a place is free, not all are taken
taken_fewer : (row : List Slot) → is_some (first_free row) ≡ true → taken row < length row
unfolding taken
taken_fewer [] room = absurd (true≢false (sym room))
taken_fewer (s ∷ ss) room = by (s.handle == 0) room (taken_fewer ss)
  where
    by : (z : Bool) → is_some (if z then Some 0 else position_from (λ x. x.handle == 0) 1 ss) ≡ true → (is_some (first_free ss) ≡ true → taken ss < length ss) → (if z then taken ss else taken ss + 1) < suc (length ss)
    by true room more = let most = taken_most ss in omega (arith, most)
    by false room more =
        let later = more (sym (some_later (first_free ss)) ∙ sym (ap is_some (one_later (λ x. x.handle == 0) 0 ss)) ∙ room) in
        omega (arith, later)

pub room_for_one : (xs : List ℕ) (row : List Slot) → AreHoused xs row → is_some (first_free row) ≡ true → length xs < length row
room_for_one xs row all room =
    let few = few_listed xs row all in
    let fewer = taken_fewer row room in
    omega (arith, few, fewer)

-- ---- a handle more

one_more : (c : Bool) (n : ℕ) → n + one_if c ≤ (if c then n + 1 else n)
unfolding one_if
one_more true n = omega arith
one_more false n = omega arith

later_room : (s : Slot) (ss : List Slot) → is_some (position_from (λ x. x.handle == 0) 1 ss) ≡ true → is_some (first_free ss) ≡ true
later_room s ss room = sym (some_later (first_free ss)) ∙ sym (ap is_some (one_later (λ x. x.handle == 0) 0 ss)) ∙ room

counted_first : (new : Slot) (row : List Slot) (k : ℕ) → (k == 0) ≡ false → is_some (first_free row) ≡ true → count_in row k + one_if (new.handle == k) ≤ count_in (put_first new row) k
unfolding put_first
counted_first new [] k nz room = absurd (true≢false (sym room))
counted_first new (s ∷ ss) k nz room = by (s.handle == 0) refl room (s.handle == k) refl (counted_first new ss k nz)
  where
    by : (z : Bool) → (s.handle == 0) ≡ z → is_some (if z then Some 0 else position_from (λ x. x.handle == 0) 1 ss) ≡ true → (b : Bool) → (s.handle == k) ≡ b
        → (is_some (first_free ss) ≡ true → count_in ss k + one_if (new.handle == k) ≤ count_in (put_first new ss) k)
        → (if b then count_in ss k + 1 else count_in ss k) + one_if (new.handle == k) ≤ count_in (if z then new ∷ ss else s ∷ put_first new ss) k
    by true ez room true eb more = absurd (true≢false (sym (subst (λ (n : ℕ). (n == 0) ≡ true) (same_key s.handle k eb) ez) ∙ nz))
    by true ez room false eb more = one_more (new.handle == k) (count_in ss k)
    by false ez room true eb more = rw eb (let later = more (later_room s ss room) in omega (arith, later))
    by false ez room false eb more = rw eb (more (later_room s ss room))

listed_more : (xs : List ℕ) (x : ℕ) (k : ℕ) → count_listed (xs ++ x ∷ []) k ≡ count_listed xs k + one_if (x == k)
unfolding one_if
listed_more [] x k = by (x == k)
  where
    by : (b : Bool) → (if b then 1 else 0) ≡ 0 + one_if b
    by true = refl
    by false = refl
listed_more (y ∷ ys) x k = by (y == k) (listed_more ys x k)
  where
    by : (b : Bool) → count_listed (ys ++ x ∷ []) k ≡ count_listed ys k + one_if (x == k)
        → (if b then count_listed (ys ++ x ∷ []) k + 1 else count_listed (ys ++ x ∷ []) k) ≡ (if b then count_listed ys k + 1 else count_listed ys k) + one_if (x == k)
    by true more = omega (arith, more)
    by false more = more

all_more : (xs : List ℕ) (x : ℕ) → list_all (λ y. not (y == 0)) xs ≡ true → (x == 0) ≡ false → list_all (λ y. not (y == 0)) (xs ++ x ∷ []) ≡ true
all_more [] x all nz = rw nz refl
all_more (y ∷ ys) x all nz = let two = both_of (not (y == 0)) (list_all (λ z. not (z == 0)) ys) all in rw two.0 (all_more ys x two.1 nz)

pub housed_more : (xs : List ℕ) (row : List Slot) (x parent : ℕ) → AreHoused xs row → (x == 0) ≡ false → is_some (first_free row) ≡ true → AreHoused (xs ++ x ∷ []) (put_in row (record { handle = x; parent = parent }) (first_free row))
housed_more xs row x parent all nz room = record {
  named = all_more xs x all.named nz;
  housed = λ k kz. more k kz;
}
  where
    more : (k : ℕ) → (k == 0) ≡ false → count_listed (xs ++ x ∷ []) k ≤ count_in (put_in row (record { handle = x; parent = parent }) (first_free row)) k
    more k kz =
        let placed = counted_first (record { handle = x; parent = parent }) row k kz room in
        let before = all.housed k kz in
        let same = listed_more xs x k in
        rw (put_is_first (record { handle = x; parent = parent }) row, same) (omega (arith, placed, before))

-- ---- handles go

counted_left : (handle : ℕ) (above : List ℕ) (row : List Slot) (k : ℕ) → (k == 0) ≡ false → is_among (going handle above row) k ≡ false → count_in (cleared handle above row) k ≡ count_in row k
counted_left handle above [] k nz stays = refl
counted_left handle above (s ∷ ss) k nz stays = by (goes handle above s) refl (s.handle == k) refl stays (counted_left handle above ss k nz)
  where
    by : (g : Bool) → goes handle above s ≡ g → (b : Bool) → (s.handle == k) ≡ b → is_among (if g then s.handle ∷ going handle above ss else going handle above ss) k ≡ false
        → (is_among (going handle above ss) k ≡ false → count_in (cleared handle above ss) k ≡ count_in ss k)
        → count_in ((if g then free else s) ∷ cleared handle above ss) k ≡ (if b then count_in ss k + 1 else count_in ss k)
    by true eg true eb stays more = absurd (true≢false (rw eb at stays))
    by true eg false eb stays more = rw (not_zero k nz) (more (rw eb at stays))
    by false eg true eb stays more = rw eb (ap (λ (n : ℕ). n + 1) (more stays))
    by false eg false eb stays more = rw eb (more stays)

-- the list without these handles
abbrev pub left_of : List ℕ → List ℕ → List ℕ
left_of xs gone = filter (λ x. not (is_among gone x)) xs

listed_fewer : (xs gone : List ℕ) (k : ℕ) → count_listed (left_of xs gone) k ≤ count_listed xs k
listed_fewer [] gone k = omega arith
listed_fewer (x ∷ xs) gone k = by (is_among gone x) (x == k) refl (listed_fewer xs gone k)
  where
    by : (b c : Bool) → (x == k) ≡ c → count_listed (left_of xs gone) k ≤ count_listed xs k
        → count_listed (if not b then x ∷ left_of xs gone else left_of xs gone) k ≤ (if c then count_listed xs k + 1 else count_listed xs k)
    by true true ec more = omega (arith, more)
    by true false ec more = more
    by false true ec more = rw ec (omega (arith, more))
    by false false ec more = rw ec more

listed_none : (xs gone : List ℕ) (k : ℕ) → is_among gone k ≡ true → count_listed (left_of xs gone) k ≡ 0
listed_none [] gone k away = refl
listed_none (x ∷ xs) gone k away = by (is_among gone x) refl (x == k) refl (listed_none xs gone k away)
  where
    by : (b : Bool) → is_among gone x ≡ b → (c : Bool) → (x == k) ≡ c → count_listed (left_of xs gone) k ≡ 0 → count_listed (if not b then x ∷ left_of xs gone else left_of xs gone) k ≡ 0
    by true eb c ec more = more
    by false eb true ec more = absurd (true≢false (sym away ∙ subst (λ (n : ℕ). is_among gone n ≡ false) (same_key x k ec) eb))
    by false eb false ec more = rw ec more

all_without : (xs gone : List ℕ) → list_all (λ y. not (y == 0)) xs ≡ true → list_all (λ y. not (y == 0)) (left_of xs gone) ≡ true
all_without [] gone all = refl
all_without (x ∷ xs) gone all = let two = both_of (not (x == 0)) (list_all (λ z. not (z == 0)) xs) all in by (is_among gone x) two.0 (all_without xs gone two.1)
  where
    by : (b : Bool) → not (x == 0) ≡ true → list_all (λ y. not (y == 0)) (left_of xs gone) ≡ true → list_all (λ y. not (y == 0)) (if not b then x ∷ left_of xs gone else left_of xs gone) ≡ true
    by true here more = more
    by false here more = rw here more

-- what is listed without the handles that go, those of the row among them
pub housed_left : (xs : List ℕ) (row : List Slot) (handle : ℕ) (above gone : List ℕ) → AreHoused xs row
    → ((k : ℕ) → is_among gone k ≡ false → is_among (going handle above row) k ≡ false) → AreHoused (left_of xs gone) (cleared handle above row)
housed_left xs row handle above gone all among = record { named = all_without xs gone all.named; housed = left }
  where
    left : (k : ℕ) → (k == 0) ≡ false → count_listed (left_of xs gone) k ≤ count_in (cleared handle above row) k
    left k kz = by (is_among gone k) refl
      where
        by : (b : Bool) → is_among gone k ≡ b → count_listed (left_of xs gone) k ≤ count_in (cleared handle above row) k
        by true away = let none = listed_none xs gone k away in omega (arith, none)
        by false stays =
            let same = counted_left handle above row k kz (among k stays) in
            let fewer = listed_fewer xs gone k in
            let before = all.housed k kz in
            omega (arith, same, fewer, before)

-- ---- one handle goes alone

going_alone : (h : ℕ) (row : List Slot) (k : ℕ) → (h == k) ≡ false → is_among (going h [] row) k ≡ false
unfolding goes
going_alone h [] k other = refl
going_alone h (s ∷ ss) k other = by (s.handle == 0) (s.handle == h) refl (going_alone h ss k other)
  where
    by : (z b : Bool) → (s.handle == h) ≡ b → is_among (going h [] ss) k ≡ false → is_among (if not z && (b || false) then s.handle ∷ going h [] ss else going h [] ss) k ≡ false
    by true b eb more = more
    by false true eb more = rw (subst (λ (n : ℕ). (n == k) ≡ false) (sym (same_key s.handle h eb)) other) more
    by false false eb more = more

pub housed_alone : (xs : List ℕ) (row : List Slot) (handle : ℕ) → AreHoused xs row → AreHoused (filter (λ k. not (k == handle)) xs) (cleared handle [] row)
housed_alone xs row handle all =
    subst (λ (l : List ℕ). AreHoused l (cleared handle [] row)) (filters_agree (λ x. not (is_among (handle ∷ []) x)) (λ x. not (x == handle)) (λ x. true) xs (anything xs) (λ x there. ap (λ b. not b) (or_no (handle == x) ∙ equals_back handle x)))
    (housed_left xs row handle [] (handle ∷ []) all (λ k stays. going_alone handle row k (sym (or_no (handle == k)) ∙ stays)))
  where
    or_no : (b : Bool) → b || false ≡ b
    or_no true = refl
    or_no false = refl

    anything : (l : List ℕ) → list_all (λ x. true) l ≡ true
    anything [] = refl
    anything (x ∷ l) = anything l
