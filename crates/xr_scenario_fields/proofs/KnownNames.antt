-- The names that are known: a map that finds where the giver of a name stands, seen as the list of the givers.
use Rattle.std.proofs.Common.{◌≡◌, ◌<◌, ℕ, suc, Bool, true, false, true≢false, List, [], ◌∷◌, ◌++◌, map, cond, length, set, get_or, Option, Some, None, refl, sym, ap, ◌∙◌, arith}
use Rattle.std.proofs.lemmas.Bool.{eq-eqb, and_from, or_left, or_right}
use Rattle.std.proofs.lemmas.List.{map-append, length-map}
use Rattle.std.proofs.lemmas.Slice.Eq.{bytes_eq-Decides}
use Rattle.std.specs.Prelude.{◌==◌, ◌&&◌, option_and_then, option_map, if◌then◌else◌}
use Rattle.std.specs.List.{find}
use Rattle.std.specs.Str.{bytes_eq}
use Rattle.xr_types.specs.declared.scenario.Sort.{Sort}
use Rattle.xr_model.specs.scenario.Names.{NamedOp, known, given, is_sort, if_sort, place_named, is_known}
use Rattle.xr_model.specs.scenario.ScriptForm.{IsKnownPlace}
use Rattle.xr_scenario_fields.specs.declared.named_ops.Giver.{Giver}
use Rattle.xr_scenario_fields.specs.Given.{known_of, place_by, names_of, index_of}

-- ---- where a name stands

-- the first place where the test holds
abbrev first_if : Bool → Option ℕ → Option ℕ
first_if here o = if here then Some 0 else o

same_index : (i j : ℕ) → Some i ≡ Some j → i ≡ j
same_index i j e = cc

pub not_found : (name : List ℕ) (gs : List Giver) → find (λ k. bytes_eq name k.name) (map known_of gs) ≡ None → index_of name (names_of gs) ≡ None
not_found name [] none = refl
not_found name (g ∷ gs) none = by (bytes_eq name g.name.now) (not_found name gs) none
  where
    by : (b : Bool) → (find (λ k. bytes_eq name k.name) (map known_of gs) ≡ None → index_of name (names_of gs) ≡ None)
        → (if b then Some (known_of g) else find (λ k. bytes_eq name k.name) (map known_of gs)) ≡ None → (if b then Some 0 else option_map suc (index_of name (names_of gs))) ≡ None
    by true more none = cc
    by false more none = ap (option_map suc) (more none)

pub no_giver : (name : List ℕ) (gs : List Giver) → index_of name (names_of gs) ≡ None → find (λ k. bytes_eq name k.name) (map known_of gs) ≡ None
no_giver name [] none = refl
no_giver name (g ∷ gs) none = by (bytes_eq name g.name.now) (index_of name (names_of gs)) (no_giver name gs) none
  where
    by : (b : Bool) (o : Option ℕ) → (o ≡ None → find (λ k. bytes_eq name k.name) (map known_of gs) ≡ None)
        → (if b then Some 0 else option_map suc o) ≡ None → (if b then Some (known_of g) else find (λ k. bytes_eq name k.name) (map known_of gs)) ≡ None
    by true o more none = cc
    by false None more none = more refl
    by false (Some i) more none = cc

pub index_within : (name : List ℕ) (gs : List Giver) (i : ℕ) → index_of name (names_of gs) ≡ Some i → i < length gs
index_within name [] i is = cc
index_within name (g ∷ gs) i is = by (bytes_eq name g.name.now) (index_of name (names_of gs)) (index_within name gs) is
  where
    by : (b : Bool) (o : Option ℕ) → ((j : ℕ) → o ≡ Some j → j < length gs) → (if b then Some 0 else option_map suc o) ≡ Some i → i < suc (length gs)
    by true o more is = let first = same_index 0 i is in omega (arith, first)
    by false None more is = cc
    by false (Some j) more is = let next = same_index (suc j) i is in let within = more j refl in omega (arith, next, within)

-- a name that is new stands last
module _ (name : List ℕ) where
  pub index_of-append : (q : List ℕ) (ns : List (List ℕ)) → index_of name ns ≡ None → index_of q (ns ++ name ∷ []) ≡ cond (bytes_eq name q) (Some (length ns)) (index_of q ns)
  index_of-append q [] none = by (bytes_eq q name) (bytes_eq name q) (bytes_eq-Decides q name).0 (bytes_eq-Decides name q).0 (λ e. (bytes_eq-Decides q name).1 e) (λ e. (bytes_eq-Decides name q).1 e)
    where
      by : (a b : Bool) → (a ≡ true → q ≡ name) → (b ≡ true → name ≡ q) → (q ≡ name → a ≡ true) → (name ≡ q → b ≡ true) → first_if a None ≡ cond b (Some 0) None
      by true true f g h k = refl
      by false false f g h k = refl
      by true false f g h k = absurd (true≢false (sym (k (sym (f refl)))))
      by false true f g h k = absurd (true≢false (sym (h (sym (g refl)))))
  index_of-append q (n ∷ ns) none = by (bytes_eq q n) (bytes_eq name q) refl refl (bytes_eq name n) refl (index_of name ns) none (index_of-append q ns)
    where
      other : (b c : Bool) → bytes_eq q n ≡ true → bytes_eq name q ≡ b → bytes_eq name n ≡ c → c ≡ false → b ≡ false
      other false c here same there differ = refl
      other true c here same there differ =
          let both : name ≡ n = (bytes_eq-Decides name q).0 same ∙ (bytes_eq-Decides q n).0 here in
          absurd (true≢false (sym ((bytes_eq-Decides name n).1 both) ∙ there ∙ differ))

      by : (a b : Bool) → bytes_eq q n ≡ a → bytes_eq name q ≡ b → (c : Bool) → bytes_eq name n ≡ c → (o : Option ℕ) → (if c then Some 0 else option_map suc o) ≡ None
          → (o ≡ None → index_of q (ns ++ name ∷ []) ≡ cond b (Some (length ns)) (index_of q ns))
          → (if a then Some 0 else option_map suc (index_of q (ns ++ name ∷ []))) ≡ cond b (Some (suc (length ns))) (if a then Some 0 else option_map suc (index_of q ns))
      by a b here same true there o none more = cc
      by a b here same false there (Some i) none more = cc
      by true b here same false there None none more = rw (other b false here same there refl) refl
      by false true here same false there None none more = ap (option_map suc) (more refl)
      by false false here same false there None none more = ap (option_map suc) (more refl)

pub finds_new : (gs : List Giver) (g : Giver) (place : ℕ) (old : Option ℕ) (q : List ℕ) → index_of g.name.now (names_of gs) ≡ None → place ≡ length gs → old ≡ index_of q (names_of gs)
    → cond (bytes_eq g.name.now q) (Some place) old ≡ index_of q (names_of (gs ++ g ∷ []))
finds_new gs g place old q none is same =
    let count : length (names_of gs) ≡ length gs = length-map gs (λ (x : Giver). x.name.now) in
    rw (is, same, ← count) (sym (index_of-append g.name.now q (names_of gs) none))
    ∙ ap (index_of q) (sym (map-append (λ (x : Giver). x.name.now) gs (g ∷ [])))

-- ---- what an op that gives a name does

pub given-new : (name : List ℕ) (place : ℕ) (sort : Sort) (ks : List NamedOp) → find (λ k. bytes_eq name k.name) ks ≡ None → given name place sort ks ≡ ks ++ known name place sort ∷ []
given-new name place sort [] none = refl
given-new name place sort (k ∷ ks) none = by (bytes_eq name k.name) (given-new name place sort ks) none
  where
    by : (b : Bool) → (find (λ j. bytes_eq name j.name) ks ≡ None → given name place sort ks ≡ ks ++ known name place sort ∷ [])
        → (if b then Some k else find (λ j. bytes_eq name j.name) ks) ≡ None → (if b then known k.name place sort ∷ ks else k ∷ given name place sort ks) ≡ k ∷ (ks ++ known name place sort ∷ [])
    by true more none = cc
    by false more none = ap (λ (l : List NamedOp). k ∷ l) (more none)

pub given-again : (name : List ℕ) (place : ℕ) (sort : Sort) (gs : List Giver) (i : ℕ) (d : Giver) → index_of name (names_of gs) ≡ Some i
    → given name place sort (map known_of gs) ≡ set (map known_of gs) i (known (get_or gs i d).name.now place sort)
given-again name place sort [] i d is = cc
given-again name place sort (g ∷ gs) i d is = by (bytes_eq name g.name.now) (index_of name (names_of gs)) (given-again name place sort gs) is
  where
    here : (j : ℕ) → 0 ≡ j → known g.name.now place sort ∷ map known_of gs ≡ set (map known_of (g ∷ gs)) j (known (get_or (g ∷ gs) j d).name.now place sort)
    here j e = rw (← e) refl

    there : (j k : ℕ) → suc j ≡ k → given name place sort (map known_of gs) ≡ set (map known_of gs) j (known (get_or gs j d).name.now place sort)
        → known_of g ∷ given name place sort (map known_of gs) ≡ set (map known_of (g ∷ gs)) k (known (get_or (g ∷ gs) k d).name.now place sort)
    there j k e more = rw (← e) (ap (λ (l : List NamedOp). known_of g ∷ l) more)

    by : (b : Bool) (o : Option ℕ) → ((j : ℕ) (e : Giver) → o ≡ Some j → given name place sort (map known_of gs) ≡ set (map known_of gs) j (known (get_or gs j e).name.now place sort))
        → (if b then Some 0 else option_map suc o) ≡ Some i
        → (if b then known g.name.now place sort ∷ map known_of gs else known_of g ∷ given name place sort (map known_of gs)) ≡ set (map known_of (g ∷ gs)) i (known (get_or (g ∷ gs) i d).name.now place sort)
    by true o more is = here i (same_index 0 i is)
    by false None more is = cc
    by false (Some j) more is = there j i (same_index (suc j) i is) (more j d refl)

-- ---- a name is looked up

pub named_none : (sort : Sort) (name : List ℕ) (gs : List Giver) → index_of name (names_of gs) ≡ None → place_named sort name (map known_of gs) ≡ None
named_none sort name gs none = rw (no_giver name gs none) refl

pub named_at : (sort : Sort) (name : List ℕ) (gs : List Giver) (i : ℕ) (d : Giver) → index_of name (names_of gs) ≡ Some i → place_named sort name (map known_of gs) ≡ place_by sort (get_or gs i d)
named_at sort name [] i d is = cc
named_at sort name (g ∷ gs) i d is = by (bytes_eq name g.name.now) (index_of name (names_of gs)) (named_at sort name gs) is
  where
    here : (j : ℕ) → 0 ≡ j → place_by sort g ≡ place_by sort (get_or (g ∷ gs) j d)
    here j e = rw (← e) refl

    there : (j k : ℕ) → suc j ≡ k → place_by sort (get_or gs j d) ≡ place_by sort (get_or (g ∷ gs) k d)
    there j k e = rw (← e) refl

    by : (b : Bool) (o : Option ℕ) → ((j : ℕ) (e : Giver) → o ≡ Some j → place_named sort name (map known_of gs) ≡ place_by sort (get_or gs j e)) → (if b then Some 0 else option_map suc o) ≡ Some i
        → option_and_then (if_sort sort) (if b then Some (known_of g) else find (λ k. bytes_eq name k.name) (map known_of gs)) ≡ place_by sort (get_or (g ∷ gs) i d)
    by true o more is = here i (same_index 0 i is)
    by false None more is = cc
    by false (Some j) more is = more j d refl ∙ there j i (same_index (suc j) i is)

-- the place that is found for a name is known
pub known_place : (sort : Sort) (name : List ℕ) (names : List NamedOp) (place : ℕ) → place_named sort name names ≡ Some place → IsKnownPlace names sort place
known_place sort name [] place e = cc
known_place sort name (k ∷ ks) place e = by (bytes_eq name k.name) (known_place sort name ks place) e
  where
    here : (b : Bool) → is_sort k.sort sort ≡ b → (if b then Some k.place else None) ≡ Some place → (k.place == place && is_sort k.sort sort) ≡ true
    here true same found = and_from (k.place == place) (is_sort k.sort sort) (eq-eqb k.place place cc) same
    here false same found = cc

    by : (b : Bool) → (place_named sort name ks ≡ Some place → IsKnownPlace ks sort place) → option_and_then (if_sort sort) (if b then Some k else find (λ j. bytes_eq name j.name) ks) ≡ Some place
        → IsKnownPlace (k ∷ ks) sort place
    by true more found = or_left (k.place == place && is_sort k.sort sort) (is_known ks sort place) (here (is_sort k.sort sort) refl found)
    by false more found = or_right (k.place == place && is_sort k.sort sort) (is_known ks sort place) (more found)
