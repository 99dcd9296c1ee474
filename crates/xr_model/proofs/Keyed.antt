-- Lists of what is kept by a handle: what is found in them.
use Rattle.std.proofs.Common.{◌≡◌, ◌==◌, ◌&&◌, ◌||◌, ◌⊎◌, inl, inr, ℕ, not, Bool, true, false, List, [], ◌∷◌, ◌++◌, map, Some, None, refl, sym, ap, subst, ◌∙◌, true≢false}
use Rattle.std.specs.Prelude.{is_some, if◌then◌else◌}
use Rattle.std.specs.List.{find, filter, list_all}
use Rattle.xr_types.specs.declared.handles.Slot.{Slot}
use Rattle.xr_model.specs.machine.Handles.{has, put_in, first_free}
use Rattle.xr_model.proofs.Rows.{itself, same_key, or_true, both_of, has_put, has_new, hasnt_put}

module _ {T : Type 0} (key : T → ℕ) where
  some_is : (x y : T) → Some x ≡ Some y → x ≡ y
  some_is x y e = cc

  -- ---- whether one is found

  pub found_more : (xs : List T) (x : T) (k : ℕ) → is_some (find (λ y. key y == k) (xs ++ x ∷ [])) ≡ is_some (find (λ y. key y == k) xs) || (key x == k)
  found_more [] x k = by (key x == k)
    where
      by : (b : Bool) → is_some (if b then Some x else None) ≡ b
      by true = refl
      by false = refl
  found_more (y ∷ ys) x k = by (key y == k) (found_more ys x k)
    where
      by : (b : Bool) → is_some (find (λ z. key z == k) (ys ++ x ∷ [])) ≡ is_some (find (λ z. key z == k) ys) || (key x == k)
          → is_some (if b then Some y else find (λ z. key z == k) (ys ++ x ∷ [])) ≡ is_some (if b then Some y else find (λ z. key z == k) ys) || (key x == k)
      by true more = refl
      by false more = more

  pub found_left : (p : ℕ → Bool) (xs : List T) (k : ℕ) → is_some (find (λ y. key y == k) (filter (λ x. p (key x)) xs)) ≡ p k && is_some (find (λ y. key y == k) xs)
  found_left p [] k = by (p k)
    where
      by : (b : Bool) → false ≡ b && false
      by true = refl
      by false = refl
  found_left p (x ∷ xs) k = by (p (key x)) refl (key x == k) refl (found_left p xs k)
    where
      away : (b : Bool) → p (key x) ≡ false → (key x == k) ≡ b → is_some (find (λ y. key y == k) (filter (λ y. p (key y)) xs)) ≡ p k && is_some (find (λ y. key y == k) xs)
          → is_some (find (λ y. key y == k) (filter (λ y. p (key y)) xs)) ≡ p k && is_some (if b then Some x else find (λ y. key y == k) xs)
      away true ep is more = let gone : p k ≡ false = subst (λ (n : ℕ). p n ≡ false) (same_key (key x) k is) ep in rw gone (more ∙ rw gone refl)
      away false ep is more = more

      stay : (b : Bool) → p (key x) ≡ true → (key x == k) ≡ b → is_some (find (λ y. key y == k) (filter (λ y. p (key y)) xs)) ≡ p k && is_some (find (λ y. key y == k) xs)
          → is_some (if b then Some x else find (λ y. key y == k) (filter (λ y. p (key y)) xs)) ≡ p k && is_some (if b then Some x else find (λ y. key y == k) xs)
      stay true ep is more = let kept : p k ≡ true = subst (λ (n : ℕ). p n ≡ true) (same_key (key x) k is) ep in rw kept refl
      stay false ep is more = more

      by : (b : Bool) → p (key x) ≡ b → (c : Bool) → (key x == k) ≡ c → is_some (find (λ y. key y == k) (filter (λ y. p (key y)) xs)) ≡ p k && is_some (find (λ y. key y == k) xs)
          → is_some (find (λ y. key y == k) (if b then x ∷ filter (λ y. p (key y)) xs else filter (λ y. p (key y)) xs)) ≡ p k && is_some (if c then Some x else find (λ y. key y == k) xs)
      by true ep c ec more = rw ec (stay c ep ec more)
      by false ep c ec more = away c ep ec more

  module _ (f : T → T) (same : (x : T) → key (f x) ≡ key x) where
    pub found_map : (xs : List T) (k : ℕ) → is_some (find (λ y. key y == k) (map f xs)) ≡ is_some (find (λ y. key y == k) xs)
    found_map [] k = refl
    found_map (x ∷ xs) k = ap (λ (n : ℕ). is_some (if n == k then Some (f x) else find (λ y. key y == k) (map f xs))) (same x) ∙ by (key x == k) (found_map xs k)
      where
        by : (b : Bool) → is_some (find (λ y. key y == k) (map f xs)) ≡ is_some (find (λ y. key y == k) xs)
            → is_some (if b then Some (f x) else find (λ y. key y == k) (map f xs)) ≡ is_some (if b then Some x else find (λ y. key y == k) xs)
        by true more = refl
        by false more = more

    -- which one is found
    pub which_map : (xs : List T) (k : ℕ) (x : T) → find (λ y. key y == k) (map f xs) ≡ Some x → (y : T) × (find (λ y. key y == k) xs ≡ Some y) × (x ≡ f y)
    which_map [] k x found = cc
    which_map (z ∷ xs) k x found = by (key z == k) (subst (λ (n : ℕ). (if n == k then Some (f z) else find (λ y. key y == k) (map f xs)) ≡ Some x) (same z) found) (which_map xs k x)
      where
        by : (b : Bool) → (if b then Some (f z) else find (λ y. key y == k) (map f xs)) ≡ Some x
            → (find (λ y. key y == k) (map f xs) ≡ Some x → (y : T) × (find (λ y. key y == k) xs ≡ Some y) × (x ≡ f y))
            → (y : T) × ((if b then Some z else find (λ y. key y == k) xs) ≡ Some y) × (x ≡ f y)
        by true found more = (z, refl, sym (some_is (f z) x found))
        by false found more = more found

  pub key_of : (xs : List T) (k : ℕ) (x : T) → find (λ y. key y == k) xs ≡ Some x → key x ≡ k
  key_of [] k x found = cc
  key_of (z ∷ xs) k x found = by (key z == k) refl found (λ there. key_of xs k x there)
    where
      by : (c : Bool) → (key z == k) ≡ c → (if c then Some z else find (λ y. key y == k) xs) ≡ Some x → (find (λ y. key y == k) xs ≡ Some x → key x ≡ k) → key x ≡ k
      by true ec found more = ap key (sym (some_is z x found)) ∙ same_key (key z) k ec
      by false ec found more = more found

  pub which_more : (xs : List T) (z : T) (k : ℕ) (x : T) → find (λ y. key y == k) (xs ++ z ∷ []) ≡ Some x → (find (λ y. key y == k) xs ≡ Some x) ⊎ ((key z ≡ k) × (x ≡ z))
  which_more [] z k x found = by (key z == k) refl found
    where
      by : (c : Bool) → (key z == k) ≡ c → (if c then Some z else None) ≡ Some x → (None ≡ Some x) ⊎ ((key z ≡ k) × (x ≡ z))
      by true ec found = inr (same_key (key z) k ec, sym (some_is z x found))
      by false ec found = cc
  which_more (w ∷ ws) z k x found = by (key w == k) found (which_more ws z k x)
    where
      by : (c : Bool) → (if c then Some w else find (λ y. key y == k) (ws ++ z ∷ [])) ≡ Some x → (find (λ y. key y == k) (ws ++ z ∷ []) ≡ Some x → (find (λ y. key y == k) ws ≡ Some x) ⊎ ((key z ≡ k) × (x ≡ z)))
          → ((if c then Some w else find (λ y. key y == k) ws) ≡ Some x) ⊎ ((key z ≡ k) × (x ≡ z))
      by true found more = inl found
      by false found more = more found

  -- what is found is found in front of one more
  pub front_first : (xs : List T) (z : T) (k : ℕ) (x : T) → is_some (find (λ y. key y == k) xs) ≡ true → find (λ y. key y == k) (xs ++ z ∷ []) ≡ Some x → find (λ y. key y == k) xs ≡ Some x
  front_first [] z k x there found = absurd (true≢false (sym there))
  front_first (w ∷ ws) z k x there found = by (key w == k) there found (front_first ws z k x)
    where
      by : (c : Bool) → is_some (if c then Some w else find (λ y. key y == k) ws) ≡ true → (if c then Some w else find (λ y. key y == k) (ws ++ z ∷ [])) ≡ Some x
          → (is_some (find (λ y. key y == k) ws) ≡ true → find (λ y. key y == k) (ws ++ z ∷ []) ≡ Some x → find (λ y. key y == k) ws ≡ Some x) → (if c then Some w else find (λ y. key y == k) ws) ≡ Some x
      by true there found more = found
      by false there found more = more there found

  pub which_left : (p : ℕ → Bool) (xs : List T) (k : ℕ) (x : T) → find (λ y. key y == k) (filter (λ y. p (key y)) xs) ≡ Some x → (find (λ y. key y == k) xs ≡ Some x) × (p k ≡ true)
  which_left p [] k x found = cc
  which_left p (z ∷ xs) k x found = by (p (key z)) refl (key z == k) refl found (which_left p xs k x)
    where
      by : (b : Bool) → p (key z) ≡ b → (c : Bool) → (key z == k) ≡ c → find (λ y. key y == k) (if b then z ∷ filter (λ y. p (key y)) xs else filter (λ y. p (key y)) xs) ≡ Some x
          → (find (λ y. key y == k) (filter (λ y. p (key y)) xs) ≡ Some x → (find (λ y. key y == k) xs ≡ Some x) × (p k ≡ true))
          → ((if c then Some z else find (λ y. key y == k) xs) ≡ Some x) × (p k ≡ true)
      by true eb true ec found more = (rw ec at found, subst (λ (n : ℕ). p n ≡ true) (same_key (key z) k ec) eb)
      by true eb false ec found more = more (rw ec at found)
      by false eb true ec found more = absurd (true≢false (sym (more found).1 ∙ subst (λ (n : ℕ). p n ≡ false) (same_key (key z) k ec) eb))
      by false eb false ec found more = more found

  -- ---- lists that have what stands in a row

  abbrev pub IsRow : List T → List Slot → Type 0
  IsRow xs row = (k : ℕ) → is_some (find (λ y. key y == k) xs) ≡ not (k == 0) && has row k

  pub row_more : (xs : List T) (x : T) (row : List Slot) (new : Slot) → IsRow xs row → key x ≡ new.handle → (new.handle == 0) ≡ false → is_some (first_free row) ≡ true → IsRow (xs ++ x ∷ []) (put_in row new (first_free row))
  row_more xs x row new listed named nz room k = found_more xs x k ∙ rw (listed k, named) (by (k == 0) refl (new.handle == k) refl (has row k) refl)
    where
      by : (z : Bool) → (k == 0) ≡ z → (b : Bool) → (new.handle == k) ≡ b → (o : Bool) → has row k ≡ o → (not z && has row k) || b ≡ not z && has (put_in row new (first_free row)) k
      by true ez true eb o eo = absurd (true≢false (sym eb ∙ subst (λ (n : ℕ). (new.handle == n) ≡ false) (sym (same_key k 0 ez)) nz))
      by true ez false eb o eo = refl
      by false ez true eb o eo =
          let here : has (put_in row new (first_free row)) k ≡ true = subst (λ (n : ℕ). has (put_in row new (first_free row)) n ≡ true) (same_key new.handle k eb) (has_new new row room) in
          rw here (or_true (has row k))
      by false ez false eb true eo = rw (eo, has_put new row k ez eo) refl
      by false ez false eb false eo = rw (eo, hasnt_put new row k eo eb) refl

  pub row_left : (p : ℕ → Bool) (xs : List T) (row left : List Slot) → IsRow xs row → ((k : ℕ) → (k == 0) ≡ false → has row k ≡ true → p k ≡ has left k) → ((k : ℕ) → (k == 0) ≡ false → has row k ≡ false → has left k ≡ false)
      → IsRow (filter (λ x. p (key x)) xs) left
  row_left p xs row left listed goes none k = found_left p xs k ∙ ap (λ (b : Bool). p k && b) (listed k) ∙ by (k == 0) refl (has row k) refl
    where
      and_false : (b : Bool) → b && false ≡ false
      and_false true = refl
      and_false false = refl

      and_true : (b : Bool) → b && true ≡ b
      and_true true = refl
      and_true false = refl

      by : (z : Bool) → (k == 0) ≡ z → (o : Bool) → has row k ≡ o → p k && (not z && has row k) ≡ not z && has left k
      by true ez o eo = and_false (p k)
      by false ez true eo = rw eo (and_true (p k) ∙ goes k ez eo)
      by false ez false eo = rw eo (and_false (p k) ∙ sym (none k ez eo))

  -- ---- all that is listed is found

  pub all_found : (zs xs : List T) → ((k : ℕ) → is_some (find (λ y. key y == k) xs) ≡ true → is_some (find (λ y. key y == k) zs) ≡ true) → list_all (λ x. is_some (find (λ y. key y == key x) zs)) xs ≡ true
  all_found zs [] among = refl
  all_found zs (x ∷ xs) among = rw (among (key x) (rw (itself (key x)) refl)) (all_found zs xs (λ k there. among k (later k there)))
    where
      later : (k : ℕ) → is_some (find (λ y. key y == k) xs) ≡ true → is_some (find (λ y. key y == k) (x ∷ xs)) ≡ true
      later k there = by (key x == k)
        where
          by : (b : Bool) → is_some (if b then Some x else find (λ y. key y == k) xs) ≡ true
          by true = refl
          by false = there

-- two filters by tests that agree on what is in the list
pub filters_agree : {T : Type 0} (p q good : T → Bool) (xs : List T) → list_all good xs ≡ true → ((x : T) → good x ≡ true → p x ≡ q x) → filter p xs ≡ filter q xs
filters_agree p q good [] each same = refl
filters_agree p q good (x ∷ xs) each same =
    let two = both_of (good x) (list_all good xs) each in
    let rest = filters_agree p q good xs two.1 same in
    rw (same x two.0) (by (q x) rest)
  where
    by : (b : Bool) → filter p xs ≡ filter q xs → (if b then x ∷ filter p xs else filter p xs) ≡ (if b then x ∷ filter q xs else filter q xs)
    by true rest = ap (λ (l : List _). x ∷ l) rest
    by false rest = rest
