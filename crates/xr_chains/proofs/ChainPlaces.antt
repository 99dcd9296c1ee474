-- Where a swapchain stands, and which place is free.
use Rattle.std.proofs.Common.{◌≡◌, ◌+◌, ◌==◌, ◌||◌, ℕ, suc, Bool, true, false, List, [], ◌∷◌, Option, Some, None, option_map, refl, sym, ap, ◌∙◌}
use Rattle.std.specs.Prelude.{slice_set, slice_index_or, is_some, if◌then◌else◌}
use Rattle.std.specs.List.{position_from, list_any}
use Rattle.xr_model.proofs.Rows.{one_later}
use Rattle.xr_model.specs.machine.Chains.{Chain, is_chain, chain_at, has_free_place, with_chain, with_chain_at}
use Rattle.xr_model.specs.machine.Refusals.{Refusal, unless}

-- ---- positions

found_from : {X : Type 0} (test : X → Bool) (i : ℕ) (xs : List X) → is_some (position_from test i xs) ≡ list_any test xs
found_from test i [] = refl
found_from test i (x ∷ xs) = by (test x) (found_from test (i + 1) xs)
  where
    by : (b : Bool) → is_some (position_from test (i + 1) xs) ≡ list_any test xs → is_some (if b then Some i else position_from test (i + 1) xs) ≡ b || list_any test xs
    by true more = refl
    by false more = more

zero_is : (place : ℕ) → Some 0 ≡ Some place → place ≡ 0
zero_is place e = cc

next_is : (place : ℕ) (o : Option ℕ) → option_map (λ n. suc n) o ≡ Some place → (q : ℕ) × (o ≡ Some q) × (place ≡ suc q)
next_is place None e = cc
next_is place (Some q) e = (q, refl, cc)

nothing_later : (o : Option ℕ) → option_map (λ n. suc n) o ≡ None → o ≡ None
nothing_later None e = refl
nothing_later (Some q) e = cc

-- ---- the chain of a handle

-- where it stands, and what changes with it
pub record Stands (xs : List Chain) (handle place : ℕ) (d : Chain) : Type 0 where
  pub found : chain_at xs handle ≡ Some (slice_index_or xs place d)
  pub replaces : (f : Chain → Chain) → slice_set xs place (f (slice_index_or xs place d)) ≡ with_chain_at handle f xs
  pub same : slice_set xs place (slice_index_or xs place d) ≡ xs

pub stands : (xs : List Chain) (handle place : ℕ) (d : Chain) → position_from (is_chain handle) 0 xs ≡ Some place → Stands xs handle place d
stands [] handle place d e = cc
stands (x ∷ xs) handle place d e = by (is_chain handle x) refl e (λ q more. stands xs handle q d more)
  where
    by : (b : Bool) → is_chain handle x ≡ b → (if b then Some 0 else position_from (is_chain handle) 1 xs) ≡ Some place
        → ((q : ℕ) → position_from (is_chain handle) 0 xs ≡ Some q → Stands xs handle q d) → Stands (x ∷ xs) handle place d
    by true is e more = rw (zero_is place e) (record { found = rw is refl; replaces = λ f. rw is refl; same = refl })
    by false is e more =
        let next = next_is place (position_from (is_chain handle) 0 xs) (sym (one_later (is_chain handle) 0 xs) ∙ e) in
        let there = more next.0 next.1 in
        rw next.2 (record {
          found = rw is there.found;
          replaces = λ f. rw is (ap (λ (ys : List Chain). x ∷ ys) (there.replaces f));
          same = ap (λ (ys : List Chain). x ∷ ys) there.same;
        })

-- no chain has the handle, and so none changes
pub record StandsNowhere (xs : List Chain) (handle : ℕ) : Type 0 where
  pub none : chain_at xs handle ≡ None
  pub stays : (f : Chain → Chain) → with_chain_at handle f xs ≡ xs

pub stands_nowhere : (xs : List Chain) (handle : ℕ) → position_from (is_chain handle) 0 xs ≡ None → StandsNowhere xs handle
stands_nowhere [] handle e = record { none = refl; stays = λ f. refl }
stands_nowhere (x ∷ xs) handle e = by (is_chain handle x) refl e (stands_nowhere xs handle)
  where
    by : (b : Bool) → is_chain handle x ≡ b → (if b then Some 0 else position_from (is_chain handle) 1 xs) ≡ None
        → (position_from (is_chain handle) 0 xs ≡ None → StandsNowhere xs handle) → StandsNowhere (x ∷ xs) handle
    by true is e more = cc
    by false is e more =
        let there = more (nothing_later (position_from (is_chain handle) 0 xs) (sym (one_later (is_chain handle) 0 xs) ∙ e)) in
        record { none = rw is there.none; stays = λ f. rw is (ap (λ (ys : List Chain). x ∷ ys) (there.stays f)) }

pub no_chain : (xs : List Chain) (handle : ℕ) → position_from (is_chain handle) 0 xs ≡ None → chain_at xs handle ≡ None
no_chain xs handle e = (stands_nowhere xs handle e).none

pub nothing_changes : (xs : List Chain) (handle : ℕ) (f : Chain → Chain) → position_from (is_chain handle) 0 xs ≡ None → with_chain_at handle f xs ≡ xs
nothing_changes xs handle f e = (stands_nowhere xs handle e).stays f

-- ---- the first free place

pub put_first : (xs : List Chain) (place : ℕ) (new : Chain) → position_from (λ c. c.handle == 0) 0 xs ≡ Some place → slice_set xs place new ≡ with_chain xs new
put_first [] place new e = cc
put_first (x ∷ xs) place new e = by (x.handle == 0) e (λ q more. put_first xs q new more)
  where
    by : (b : Bool) → (if b then Some 0 else position_from (λ c. c.handle == 0) 1 xs) ≡ Some place
        → ((q : ℕ) → position_from (λ c. c.handle == 0) 0 xs ≡ Some q → slice_set xs q new ≡ with_chain xs new)
        → slice_set (x ∷ xs) place new ≡ (if b then new ∷ xs else x ∷ with_chain xs new)
    by true e more = rw (zero_is place e) refl
    by false e more =
        let next = next_is place (position_from (λ c. c.handle == 0) 0 xs) (sym (one_later (λ c. c.handle == 0) 0 xs) ∙ e) in
        rw next.2 (ap (λ (ys : List Chain). x ∷ ys) (more next.0 next.1))

-- a place is free where one is found
pub a_place_is_free : (xs : List Chain) (place : ℕ) → position_from (λ c. c.handle == 0) 0 xs ≡ Some place → has_free_place xs ≡ true
a_place_is_free xs place e = sym (found_from (λ c. c.handle == 0) 0 xs) ∙ ap is_some e

pub no_place_is_free : (xs : List Chain) → position_from (λ c. c.handle == 0) 0 xs ≡ None → has_free_place xs ≡ false
no_place_is_free xs e = sym (found_from (λ c. c.handle == 0) 0 xs) ∙ ap is_some e

-- ---- the same for what stands in its place

module _ (xs : List Chain) (handle place : ℕ) (x : Chain) (e : position_from (is_chain handle) 0 xs ≡ Some place) (is : x ≡ slice_index_or xs place x) where
  pub found_at : chain_at xs handle ≡ Some x
  found_at = (stands xs handle place x e).found ∙ ap (λ (y : Chain). Some y) (sym is)

  pub changed_at : (f : Chain → Chain) → slice_set xs place (f x) ≡ with_chain_at handle f xs
  changed_at f = ap (λ (y : Chain). slice_set xs place (f y)) is ∙ (stands xs handle place x e).replaces f

  -- the same where the call may be refused
  pub changed_unless : (r : Option Refusal) (f : Chain → Chain) → slice_set xs place (unless r x (f x)) ≡ unless r xs (with_chain_at handle f xs)
  changed_unless None f = changed_at f
  changed_unless (Some r) f = ap (λ (y : Chain). slice_set xs place y) is ∙ (stands xs handle place x e).same
