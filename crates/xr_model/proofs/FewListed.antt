-- Lists of what has handles of its own that stand in a row: they are no longer than the row.
use Rattle.std.proofs.Common.{◌≡◌, ◌==◌, ◌+◌, ◌≤◌, ◌||◌, ◌++◌, ◌∙◌, ℕ, suc, Bool, true, false, List, [], ◌∷◌, length, Some, refl, sym, subst, arith, true≢false}
use Rattle.std.specs.Prelude.{is_some, if◌then◌else◌}
use Rattle.std.specs.List.{find, filter}
use Rattle.xr_types.specs.declared.handles.Slot.{Slot}
use Rattle.xr_model.specs.machine.Handles.{has}
use Rattle.xr_model.proofs.Keyed.{found_more, found_left}
use Rattle.xr_model.proofs.Rows.{same_key, itself, is_false}

-- ---- a row

-- a row without the first slot of a handle
without_first : ℕ → List Slot → List Slot
without_first handle [] = []
without_first handle (s ∷ row) = if s.handle == handle then row else s ∷ without_first handle row

length_first : (handle : ℕ) (row : List Slot) → has row handle ≡ true → length row ≡ length (without_first handle row) + 1
unfolding without_first
length_first handle [] there = absurd (true≢false (sym there))
length_first handle (s ∷ row) there = by (s.handle == handle) there (length_first handle row)
  where
    by : (b : Bool) → b || has row handle ≡ true → (has row handle ≡ true → length row ≡ length (without_first handle row) + 1)
        → suc (length row) ≡ length (if b then row else s ∷ without_first handle row) + 1
    by true there more = omega arith
    by false there more = let rest = more there in omega (arith, rest)

still_there : (handle k : ℕ) (row : List Slot) → (handle == k) ≡ false → has row k ≡ true → has (without_first handle row) k ≡ true
unfolding without_first
still_there handle k [] apart there = there
still_there handle k (s ∷ row) apart there = by (s.handle == handle) refl (s.handle == k) refl there (still_there handle k row apart)
  where
    by : (b : Bool) → (s.handle == handle) ≡ b → (c : Bool) → (s.handle == k) ≡ c → c || has row k ≡ true → (has row k ≡ true → has (without_first handle row) k ≡ true)
        → has (if b then row else s ∷ without_first handle row) k ≡ true
    by true eb true ec there more = absurd (true≢false (sym (subst (λ (n : ℕ). (n == k) ≡ true) (same_key s.handle handle eb) ec) ∙ apart))
    by true eb false ec there more = there
    by false eb true ec there more = rw ec refl
    by false eb false ec there more = rw ec (more there)

-- ---- items with keys of their own

module _ {T : Type 0} (key : T → ℕ) where
  -- no item has the key of one before it
  abbrev pub AreOwn : List T → Type 0
  AreOwn [] = Unit {0}
  AreOwn (x ∷ xs) = (is_some (find (λ y. key y == key x) xs) ≡ false) × AreOwn xs

  -- what is found has another key than one that isn't
  pub other_key : (x : T) (xs : List T) → is_some (find (λ y. key y == key x) xs) ≡ false → (k : ℕ) → is_some (find (λ y. key y == k) xs) ≡ true → (key x == k) ≡ false
  other_key x xs none k found =
      is_false (key x == k) (λ same. true≢false (sym (subst (λ (n : ℕ). is_some (find (λ y. key y == n) xs) ≡ true) (sym (same_key (key x) k same)) found) ∙ none))

  -- one more
  pub own_more : (xs : List T) (x : T) → AreOwn xs → is_some (find (λ y. key y == key x) xs) ≡ false → AreOwn (xs ++ x ∷ [])
  own_more [] x own none = (refl, tt)
  own_more (y ∷ ys) x own none = by (key y == key x) refl none (own_more ys x own.1)
    where
      by : (b : Bool) → (key y == key x) ≡ b → is_some (if b then Some y else find (λ z. key z == key x) ys) ≡ false → (is_some (find (λ z. key z == key x) ys) ≡ false → AreOwn (ys ++ x ∷ [])) → AreOwn (y ∷ (ys ++ x ∷ []))
      by true eb none more = absurd (true≢false none)
      by false eb none more =
          let other : (key x == key y) ≡ false = is_false (key x == key y) (λ same. true≢false (sym (subst (λ (n : ℕ). (n == key x) ≡ true) (same_key (key x) (key y) same) (itself (key x))) ∙ eb)) in
          (found_more key ys x (key y) ∙ rw (own.0, other) refl, more none)

  -- some of them
  pub own_left : (p : ℕ → Bool) (xs : List T) → AreOwn xs → AreOwn (filter (λ x. p (key x)) xs)
  own_left p [] own = tt
  own_left p (x ∷ xs) own = by (p (key x)) refl (own_left p xs own.1)
    where
      by : (b : Bool) → p (key x) ≡ b → AreOwn (filter (λ y. p (key y)) xs) → AreOwn (if b then x ∷ filter (λ y. p (key y)) xs else filter (λ y. p (key y)) xs)
      by true eb more = (found_left key p xs (key x) ∙ rw (eb, own.0) refl, more)
      by false eb more = more

  -- no more than the row has places
  pub fit_in : (row : List Slot) (xs : List T) → AreOwn xs → ((k : ℕ) → is_some (find (λ y. key y == k) xs) ≡ true → has row k ≡ true) → length xs ≤ length row
  fit_in row [] own there = omega arith
  fit_in row (x ∷ xs) own there =
      let here : has row (key x) ≡ true = there (key x) (rw (itself (key x)) refl) in
      let one = length_first (key x) row here in
      let more = fit_in (without_first (key x) row) xs own.1 (λ k found. let other = other_key x xs own.0 k found in still_there (key x) k row other (there k (rw other found))) in
      omega (arith, one, more)
