-- What holds of all of a list holds of what is left of it.
use Rattle.std.proofs.Common.{◌≡◌, ◌≤◌, ◌<◌, ◌+◌, ◌==◌, ◌&&◌, ◌||◌, ℕ, Bool, true, false, not, nat_le, List, [], ◌∷◌, length, take, get_or, refl, sym, ap, arith, true≢false}
use Rattle.std.proofs.lemmas.Bool.Decides.{nat_tests}
use Rattle.std.proofs.lemmas.List.Folds.{list_all_more}
use Rattle.std.specs.Prelude.{if◌then◌else◌}
use Rattle.std.specs.List.{filter, list_all, list_any}
use Rattle.xr_types.specs.declared.input.Bound.{Bound}
use Rattle.xr_model.proofs.Rows.{both_of}

pub left_all : {T : Type 0} (p q : T → Bool) (xs : List T) → list_all p xs ≡ true → list_all p (filter q xs) ≡ true
left_all p q [] all = refl
left_all p q (x ∷ xs) all = by (p x) refl (q x) all (left_all p q xs)
  where
    by : (b : Bool) → p x ≡ b → (c : Bool) → b && list_all p xs ≡ true → (list_all p xs ≡ true → list_all p (filter q xs) ≡ true) → list_all p (if c then x ∷ filter q xs else filter q xs) ≡ true
    by true eb true all more = rw eb (more all)
    by true eb false all more = more all
    by false eb c all more = absurd (true≢false (sym all))

-- a list that has none of those that go stays whole
pub none_left_out : {T : Type 0} (p : T → Bool) (xs : List T) → list_any p xs ≡ false → xs ≡ filter (λ x. not (p x)) xs
none_left_out p [] none = refl
none_left_out {T = T} p (x ∷ xs) none = by (p x) none (none_left_out p xs)
  where
    by : (b : Bool) → b || list_any p xs ≡ false → (list_any p xs ≡ false → xs ≡ filter (λ x. not (p x)) xs) → x ∷ xs ≡ (if not b then x ∷ filter (λ x. not (p x)) xs else filter (λ x. not (p x)) xs)
    by true none more = absurd (true≢false none)
    by false none more = ap (λ (l : List T). x ∷ l) (more none)

-- ---- suggestions of which none is for an action behind one

later : (a n m : ℕ) → nat_le a n ≡ true → n ≤ m → nat_le a m ≡ true
later a n m before wide = grind (arith, nat_tests)

other : (a n m : ℕ) → nat_le a n ≡ true → n < m → (a == m) ≡ false
other a n m before behind = grind (arith, nat_tests)

all_before : (n m : ℕ) → n ≤ m → (xs : List Bound) → list_all (λ b. nat_le b.action n) xs ≡ true → list_all (λ b. nat_le b.action m) xs ≡ true
all_before n m wide [] all = refl
all_before n m wide (x ∷ xs) all =
    let two = both_of (nat_le x.action n) (list_all (λ (b : Bound). nat_le b.action n) xs) all in
    rw (later x.action n m two.0 wide, all_before n m wide xs two.1) refl

-- the next one is before it too
pub next_before : (xs : List Bound) (i : ℕ) (d : Bound) (n m : ℕ) → i < length xs → list_all (λ b. nat_le b.action n) (take i xs) ≡ true → n ≤ m → nat_le (get_or xs i d).action m ≡ true
    → list_all (λ b. nat_le b.action m) (take (i + 1) xs) ≡ true
next_before xs i d n m within all wide one = rw (list_all_more (λ (b : Bound). nat_le b.action m) xs i d within, all_before n m wide (take i xs) all, one) refl

-- none is for one behind it
pub none_behind : (n action : ℕ) → n < action → (xs : List Bound) → list_all (λ b. nat_le b.action n) xs ≡ true → list_any (λ b. b.action == action) xs ≡ false
none_behind n action behind [] all = refl
none_behind n action behind (x ∷ xs) all =
    let two = both_of (nat_le x.action n) (list_all (λ (b : Bound). nat_le b.action n) xs) all in
    rw (other x.action n action two.0 behind, none_behind n action behind xs two.1) refl
