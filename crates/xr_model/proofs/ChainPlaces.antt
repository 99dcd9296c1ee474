-- Places of a row of swapchains: what stands in each of them once a call has changed the row.
use Rattle.std.proofs.Common.{◌≡◌, ◌+◌, ◌<◌, ◌==◌, ◌&&◌, ◌||◌, ℕ, zero, suc, Bool, true, false, not, List, [], ◌∷◌, length, Option, Some, None, option_map, unwrap_or, slice_get, slice_set, refl, sym, ap, subst, ◌∙◌, arith, true≢false}
use Rattle.std.specs.Prelude.{if◌then◌else◌}
use Rattle.std.specs.List.{find, list_any, position_from}
use Rattle.std.proofs.lemmas.Bool.Decides.{nat_tests}
use Rattle.std.proofs.lemmas.List.Folds.{list_any-append}
use Rattle.xr_types.specs.declared.frames.Image.{Image}
use Rattle.xr_types.specs.declared.handles.Kind.TheVariants.{Swapchain}
use Rattle.xr_model.specs.machine.Chains.{Chain, is_chain, chain_at, place_of_chain, first_place, with_chain, with_chain_at, oldest_of, left_in_place, left_in_places, freed_in_place, freed_in_places}
use Rattle.xr_model.specs.machine.Handles.{Handles, is_live}
use Rattle.xr_model.specs.machine.Images.{is_image}
use Rattle.xr_model.specs.laws.Owners.{has_image}
use Rattle.xr_model.proofs.Rows.{one_later}

pub none_is_not : {X : Type 0} (x : X) → None ≡ Some x → ⊥
none_is_not x e = cc

pub same_some : {X : Type 0} (x y : X) → Some x ≡ Some y → x ≡ y
same_some x y e = cc

-- ---- what is found first

pub found_good : {X : Type 0} (test : X → Bool) (xs : List X) (x : X) → find test xs ≡ Some x → test x ≡ true
found_good test [] x found = absurd (none_is_not x found)
found_good test (y ∷ ys) x found = by (test y) refl found (found_good test ys x)
  where
    by : (b : Bool) → test y ≡ b → (if b then Some y else find test ys) ≡ Some x → (find test ys ≡ Some x → test x ≡ true) → test x ≡ true
    by true eb found more = subst (λ z. test z ≡ true) (same_some y x found) eb
    by false eb found more = more found

-- what a test finds, where it finds something
pub any_found : {X : Type 0} (test : X → Bool) (xs : List X) → list_any test xs ≡ true → (x : X) × (find test xs ≡ Some x)
any_found test [] some = absurd (true≢false (sym some))
any_found test (y ∷ ys) some = by (test y) some (any_found test ys)
  where
    by : (b : Bool) → b || list_any test ys ≡ true → (list_any test ys ≡ true → (x : _) × (find test ys ≡ Some x)) → (x : _) × ((if b then Some y else find test ys) ≡ Some x)
    by true some more = (y, refl)
    by false some more = more some

found_somewhere : {X : Type 0} (test : X → Bool) (i : ℕ) (xs : List X) (x : X) → find test xs ≡ Some x → (n : ℕ) × (position_from test i xs ≡ Some n)
found_somewhere test i [] x found = absurd (none_is_not x found)
found_somewhere test i (y ∷ ys) x found = by (test y) found (found_somewhere test (i + 1) ys x)
  where
    by : (b : Bool) → (if b then Some y else find test ys) ≡ Some x → (find test ys ≡ Some x → (n : ℕ) × (position_from test (i + 1) ys ≡ Some n)) → (n : ℕ) × ((if b then Some i else position_from test (i + 1) ys) ≡ Some n)
    by true found more = (i, refl)
    by false found more = more found

-- where something is found, the place of it is one later in a list with one more in front
one_behind : {X : Type 0} (test : X → Bool) (xs : List X) (x : X) → find test xs ≡ Some x → unwrap_or (position_from test 1 xs) 0 ≡ suc (unwrap_or (position_from test 0 xs) 0)
one_behind test xs x found =
    let some = found_somewhere test 0 xs x found in
    ap (λ (o : Option ℕ). unwrap_or o 0) (one_later test 0 xs ∙ ap (λ (o : Option ℕ). option_map (λ n. suc n) o) some.1) ∙ ap (λ (o : Option ℕ). suc (unwrap_or o 0)) (sym some.1)

-- what is found stands in its place
pub found_at : {X : Type 0} (test : X → Bool) (xs : List X) (x : X) → find test xs ≡ Some x → slice_get xs (unwrap_or (position_from test 0 xs) 0) ≡ Some x
found_at test [] x found = absurd (none_is_not x found)
found_at test (y ∷ ys) x found = by (test y) refl found (found_at test ys x)
  where
    by : (b : Bool) → test y ≡ b → (if b then Some y else find test ys) ≡ Some x → (find test ys ≡ Some x → slice_get ys (unwrap_or (position_from test 0 ys) 0) ≡ Some x)
        → slice_get (y ∷ ys) (unwrap_or (if b then Some 0 else position_from test 1 ys) 0) ≡ Some x
    by true eb found more = found
    by false eb found more = ap (λ (n : ℕ). slice_get (y ∷ ys) n) (one_behind test ys x found) ∙ more found

-- ---- a place that is set

pub suc_apart : (n m : ℕ) → (n == m) ≡ (suc n == suc m)
suc_apart n m = by (n == m) refl
  where
    by : (b : Bool) → (n == m) ≡ b → b ≡ (suc n == suc m)
    by true eb = grind (arith, nat_tests, eb)
    by false eb = grind (arith, nat_tests, eb)

first_apart : (p : ℕ) → (0 == suc p) ≡ false
first_apart p = grind (arith, nat_tests)

apart_first : (n : ℕ) → (suc n == 0) ≡ false
apart_first n = grind (arith, nat_tests)

pub set_at : {X : Type 0} (xs : List X) (n p : ℕ) (x y : X) → slice_get xs n ≡ Some y → slice_get (slice_set xs n x) p ≡ (if n == p then Some x else slice_get xs p)
set_at [] n p x y at = absurd (none_is_not y at)
set_at (z ∷ xs) zero zero x y at = refl
set_at (z ∷ xs) zero (suc p) x y at = rw (first_apart p) refl
set_at (z ∷ xs) (suc n) zero x y at = rw (apart_first n) refl
set_at (z ∷ xs) (suc n) (suc p) x y at = rw (← suc_apart n p) (set_at xs n p x y at)

-- a chain that changes is set in its place
pub changed_is_set : (h : ℕ) (f : Chain → Chain) (cs : List Chain) (c : Chain) → chain_at cs h ≡ Some c → with_chain_at h f cs ≡ slice_set cs (place_of_chain cs h) (f c)
changed_is_set h f [] c found = absurd (none_is_not c found)
changed_is_set h f (d ∷ ds) c found = by (is_chain h d) found (changed_is_set h f ds c)
  where
    by : (b : Bool) → (if b then Some d else chain_at ds h) ≡ Some c → (chain_at ds h ≡ Some c → with_chain_at h f ds ≡ slice_set ds (place_of_chain ds h) (f c))
        → (if b then f d ∷ ds else d ∷ with_chain_at h f ds) ≡ slice_set (d ∷ ds) (unwrap_or (if b then Some 0 else position_from (is_chain h) 1 ds) 0) (f c)
    by true found more = ap (λ (x : Chain). f x ∷ ds) (same_some d c found)
    by false found more = ap (λ (l : List Chain). d ∷ l) (more found) ∙ sym (ap (λ (n : ℕ). slice_set (d ∷ ds) n (f c)) (one_behind (is_chain h) ds c found))

-- a new chain is set in the first free place
pub new_is_set : (cs : List Chain) (new c : Chain) → find (λ x. x.handle == 0) cs ≡ Some c → with_chain cs new ≡ slice_set cs (first_place cs) new
new_is_set [] new c found = absurd (none_is_not c found)
new_is_set (d ∷ ds) new c found = by (d.handle == 0) found (new_is_set ds new c)
  where
    by : (b : Bool) → (if b then Some d else find (λ x. x.handle == 0) ds) ≡ Some c → (find (λ x. x.handle == 0) ds ≡ Some c → with_chain ds new ≡ slice_set ds (first_place ds) new)
        → (if b then new ∷ ds else d ∷ with_chain ds new) ≡ slice_set (d ∷ ds) (unwrap_or (if b then Some 0 else position_from (λ x. x.handle == 0) 1 ds) 0) new
    by true found more = refl
    by false found more = ap (λ (l : List Chain). d ∷ l) (more found) ∙ sym (ap (λ (n : ℕ). slice_set (d ∷ ds) n new) (one_behind (λ x. x.handle == 0) ds c found))

-- ---- chains that go

pub left_at : (h : Handles) (used : ℕ → Bool) (n : ℕ) (cs : List Chain) (p q : ℕ) → q ≡ n + p → slice_get (left_in_places h used n cs) p ≡ option_map (left_in_place h (used q)) (slice_get cs p)
left_at h used n [] p q is = refl
left_at h used n (c ∷ cs) zero q is = let same : n ≡ q = omega (arith, is) in ap (λ (k : ℕ). Some (left_in_place h (used k) c)) same
left_at h used n (c ∷ cs) (suc p) q is = left_at h used (n + 1) cs p q (omega (arith, is))

pub length_left : (h : Handles) (used : ℕ → Bool) (n : ℕ) (cs : List Chain) → length (left_in_places h used n cs) ≡ length cs
length_left h used n [] = refl
length_left h used n (c ∷ cs) = ap (λ (k : ℕ). suc k) (length_left h used (n + 1) cs)

pub length_changed : (h : ℕ) (f : Chain → Chain) (cs : List Chain) → length (with_chain_at h f cs) ≡ length cs
length_changed h f [] = refl
length_changed h f (c ∷ cs) = by (is_chain h c) (length_changed h f cs)
  where
    by : (b : Bool) → length (with_chain_at h f cs) ≡ length cs → length (if b then f c ∷ cs else c ∷ with_chain_at h f cs) ≡ suc (length cs)
    by true more = refl
    by false more = ap (λ (k : ℕ). suc k) more

pub length_new : (cs : List Chain) (new : Chain) → length (with_chain cs new) ≡ length cs
length_new [] new = refl
length_new (c ∷ cs) new = by (c.handle == 0) (length_new cs new)
  where
    by : (b : Bool) → length (with_chain cs new) ≡ length cs → length (if b then new ∷ cs else c ∷ with_chain cs new) ≡ suc (length cs)
    by true more = refl
    by false more = ap (λ (k : ℕ). suc k) more

-- ---- images that go with their chains

-- a chain goes whose application had waited for the image with this index
abbrev pub goes_with : Handles → ℕ → Option Chain → Bool
goes_with h index None = false
goes_with h index (Some c) = (not (is_live h Swapchain c.handle) && c.has_waited) && (oldest_of c.acquired == index)

freed_before : (h : Handles) (i : Image) (n : ℕ) (cs : List Chain) → i.place < n → has_image i (freed_in_places h n cs) ≡ false
freed_before h i n [] less = refl
freed_before h i n (c ∷ cs) less =
    list_any-append (is_image i) (freed_in_place h n c) (freed_in_places h (n + 1) cs) ∙ here (not (is_live h Swapchain c.handle) && c.has_waited) (freed_before h i (n + 1) cs (omega (arith, less)))
  where
    away : (n == i.place) ≡ false
    away = grind (arith, nat_tests, less)

    here : (b : Bool) → has_image i (freed_in_places h (n + 1) cs) ≡ false → has_image i (if b then record { place = n; index = oldest_of c.acquired } ∷ [] else []) || has_image i (freed_in_places h (n + 1) cs) ≡ false
    here true more = rw away more
    here false more = more

pub freed_at : (h : Handles) (i : Image) (n : ℕ) (cs : List Chain) (p : ℕ) → i.place ≡ n + p → has_image i (freed_in_places h n cs) ≡ goes_with h i.index (slice_get cs p)
freed_at h i n [] p is = refl
freed_at h i n (c ∷ cs) zero is =
    list_any-append (is_image i) (freed_in_place h n c) (freed_in_places h (n + 1) cs) ∙ here (not (is_live h Swapchain c.handle) && c.has_waited) (freed_before h i (n + 1) cs (omega (arith, is)))
  where
    same : (n == i.place) ≡ true
    same = grind (arith, nat_tests, is)

    or_none : (b : Bool) → (b || false) || false ≡ b
    or_none true = refl
    or_none false = refl

    here : (b : Bool) → has_image i (freed_in_places h (n + 1) cs) ≡ false → has_image i (if b then record { place = n; index = oldest_of c.acquired } ∷ [] else []) || has_image i (freed_in_places h (n + 1) cs) ≡ b && (oldest_of c.acquired == i.index)
    here true more = rw (same, more) (or_none (oldest_of c.acquired == i.index))
    here false more = more
freed_at h i n (c ∷ cs) (suc p) is =
    list_any-append (is_image i) (freed_in_place h n c) (freed_in_places h (n + 1) cs) ∙ here (not (is_live h Swapchain c.handle) && c.has_waited) ∙ freed_at h i (n + 1) cs p (omega (arith, is))
  where
    away : (n == i.place) ≡ false
    away = grind (arith, nat_tests, is)

    here : (b : Bool) → has_image i (if b then record { place = n; index = oldest_of c.acquired } ∷ [] else []) || has_image i (freed_in_places h (n + 1) cs) ≡ has_image i (freed_in_places h (n + 1) cs)
    here true = rw away refl
    here false = refl
