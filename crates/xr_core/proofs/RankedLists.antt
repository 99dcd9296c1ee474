-- The bindings of a sync, one suggestion after another.
use Rattle.std.proofs.Common.{◌≡◌, ◌<◌, ◌+◌, ◌&&◌, ◌++◌, ℕ, zero, suc, arith, Bool, true, false, List, [], ◌∷◌, length, drop, flat_map, refl, sym, ap, ◌∙◌, append_assoc, true≢false}
use Rattle.std.proofs.lemmas.List.{drop_more, append-nil}
use Rattle.std.specs.List.{filter, list_all}
use Rattle.std.specs.Prelude.{if◌then◌else◌}
use lib.ListN.{get_or}
use Rattle.xr_types.specs.declared.input.Bound.{Bound}
use Rattle.xr_types.specs.declared.input.Ranked.{Ranked}
use Rattle.xr_types.specs.declared.input.User.{User}
use Rattle.xr_model.specs.machine.Handles.{Handles}
use Rattle.xr_model.specs.machine.Rules.Sync.{ranked}
use Rattle.xr_model.specs.machine.Sets.{Sets}
use Rattle.xr_model.specs.machine.Sync.{is_same_user, is_source}
use Rattle.xr_core.specs.inside.Ranked.{ranked_at}

module _ (known : Sets) (h : Handles) (who : User) where
  ranked_first : (x : Bound) (xs : List Bound) → ranked_at known h who (x ∷ xs) ≡ ranked_at known h who (x ∷ []) ++ ranked_at known h who xs
  ranked_first x xs = by (is_same_user x.pick.user who)
    where
      by : (b : Bool)
          → flat_map (ranked known h) (if b then x ∷ filter (λ y. is_same_user y.pick.user who) xs else filter (λ y. is_same_user y.pick.user who) xs)
          ≡ flat_map (ranked known h) (if b then x ∷ [] else []) ++ ranked_at known h who xs
      by true = ap (λ (l : List Ranked). l ++ ranked_at known h who xs) (sym (append-nil (ranked known h x)))
      by false = refl

  -- one more of a list
  pub ranked_more : (list : List Bound) (i : ℕ) (d : Bound) (before front after : List Ranked) → i < length list → before ++ ranked_at known h who list ≡ front ++ ranked_at known h who (drop i list)
      → after ≡ front ++ ranked_at known h who (get_or list i d ∷ []) → before ++ ranked_at known h who list ≡ after ++ ranked_at known h who (drop (i + 1) list)
  ranked_more list i d before front after within so_far one =
      so_far ∙ rw (drop_more list i d within, ranked_first (get_or list i d) (drop (i + 1) list), one) (sym (append_assoc front (ranked_at known h who (get_or list i d ∷ [])) (ranked_at known h who (drop (i + 1) list))))

-- a suggestion of a list in which each has a source
pub source_at : (list : List Bound) (i : ℕ) (d : Bound) → list_all is_source list ≡ true → i < length list → is_source (get_or list i d) ≡ true
source_at list i d all within = by list i all within
  where
    open_first : (b c : Bool) → b && c ≡ true → (b ≡ true) × (c ≡ true)
    open_first true c e = (refl, e)
    open_first false c e = absurd (true≢false (sym e))

    by : (xs : List Bound) (k : ℕ) → list_all is_source xs ≡ true → k < length xs → is_source (get_or xs k d) ≡ true
    by [] k all within = absurd (omega (arith, within))
    by (x ∷ xs) zero all within = (open_first (is_source x) (list_all is_source xs) all).0
    by (x ∷ xs) (suc k) all within = by xs k (open_first (is_source x) (list_all is_source xs) all).1 (omega (arith, within))

-- one user path more
pub users_more : (f : User → List Ranked) (list : List User) (i : ℕ) (d : User) (before front after : List Ranked) → i < length list → before ≡ front ++ flat_map f (drop i list)
    → after ≡ front ++ f (get_or list i d) → before ≡ after ++ flat_map f (drop (i + 1) list)
users_more f list i d before front after within so_far one = so_far ∙ rw (drop_more list i d within, one) (sym (append_assoc front (f (get_or list i d)) (flat_map f (drop (i + 1) list))))
