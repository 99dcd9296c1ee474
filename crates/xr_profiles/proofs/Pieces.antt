-- Texts compared in pieces, and what stands behind a beginning.
use Rattle.std.proofs.Common.{◌≡◌, ◌==◌, ◌&&◌, ◌||◌, ◌≤◌, ℕ, ◌+◌, Bool, not, true, false, List, [], ◌∷◌, ◌++◌, length, map, codes, take, take_all, one-add, arith, ◌∙◌, cond, Some, None, refl, sym, ap}
use Rattle.std.specs.Borrow.{Bor}
use Rattle.std.specs.Prelude.{Option, option_and_then, nat_lt}
use Rattle.std.specs.Option.{option_map_or}
use Rattle.std.specs.List.{find, list_any, position, position_or_len}
use Rattle.std.proofs.lemmas.Bool.Decides.{nat_tests}
use Rattle.std.specs.Str.{bytes_eq}
use Rattle.xr_types.specs.Words.{behind}
use Rattle.xr_model.specs.machine.Profiles.{profile_of, before_slash}
use Rattle.xr_types.specs.Printed.{profile_name, all_profiles}

eqb-sym : (a b : ℕ) → (a == b) ≡ (b == a)
eqb-sym a b = grind (arith, nat_tests)

-- one beginning behind another
behind-append : (p q s : List ℕ) → behind (p ++ q) s ≡ option_and_then (behind q) (behind p s)
behind-append [] q s = refl
behind-append (b ∷ p) q [] = refl
behind-append (b ∷ p) q (c ∷ s) = by (b == c) (behind-append p q s)
  where
    by : (t : Bool) → behind (p ++ q) s ≡ option_and_then (behind q) (behind p s)
        → cond t (behind (p ++ q) s) None ≡ option_and_then (behind q) (cond t (behind p s) None)
    by true more = more
    by false more = refl

-- a text that is made of two, compared with a name
bytes_eq-made : (p a s : List ℕ) → bytes_eq (p ++ a) s ≡ option_map_or (bytes_eq a) (behind p s) false
bytes_eq-made [] a s = refl
bytes_eq-made (b ∷ p) a [] = refl
bytes_eq-made (b ∷ p) a (c ∷ s) = by (b == c) (bytes_eq-made p a s)
  where
    by : (t : Bool) → bytes_eq (p ++ a) s ≡ option_map_or (bytes_eq a) (behind p s) false
        → (t && bytes_eq (p ++ a) s) ≡ option_map_or (bytes_eq a) (cond t (behind p s) None) false
    by true more = more
    by false more = refl

-- a text compared with one that is made of two
bytes_eq-with : (p a s : List ℕ) → bytes_eq s (p ++ a) ≡ option_map_or (λ rest. bytes_eq rest a) (behind p s) false
bytes_eq-with [] a s = refl
bytes_eq-with (b ∷ p) a [] = refl
bytes_eq-with (b ∷ p) a (c ∷ s) = rw (eqb-sym b c) (by (c == b) (bytes_eq-with p a s))
  where
    by : (t : Bool) → bytes_eq s (p ++ a) ≡ option_map_or (λ rest. bytes_eq rest a) (behind p s) false
        → (t && bytes_eq s (p ++ a)) ≡ option_map_or (λ rest. bytes_eq rest a) (cond t (behind p s) None) false
    by true more = more
    by false more = refl

-- a search for a text that is made of a beginning and a word
find-with : {T : Type 0} (p s : List ℕ) (word : T → List ℕ) (xs : List T)
    → find (λ x. bytes_eq s (p ++ word x)) xs ≡ option_and_then (λ rest. find (λ x. bytes_eq rest (word x)) xs) (behind p s)
find-with {T} p s word xs = by (behind p s) refl xs
  where
    by : (o : Option (List ℕ)) → behind p s ≡ o → (ys : List T)
        → find (λ x. bytes_eq s (p ++ word x)) ys ≡ option_and_then (λ rest. find (λ x. bytes_eq rest (word x)) ys) o
    by None e [] = refl
    by (Some rest) e [] = refl
    by None e (y ∷ ys) = rw (bytes_eq-with p (word y) s, e) (by None e ys)
    by (Some rest) e (y ∷ ys) = rw (bytes_eq-with p (word y) s, e) (ap (cond (bytes_eq rest (word y)) (Some y)) (by (Some rest) e ys))

-- an identifier by the place of the first `/`
before_slash-take : (bs : List ℕ) → before_slash bs ≡ take (position_or_len (λ b. b == 47) bs) bs
before_slash-take [] = refl
before_slash-take (b ∷ bs) = by (b == 47) (before_slash-take bs)
  where
    by : (t : Bool) → before_slash bs ≡ take (position_or_len (λ c. c == 47) bs) bs
        → cond t [] (b ∷ before_slash bs) ≡ take (cond (not t) (1 + position_or_len (λ c. c == 47) bs) 0) (b ∷ bs)
    by true more = refl
    by false more = rw one-add (ap (λ l. b ∷ l) more)

pub before_slash-place : (bs : List ℕ) → before_slash bs ≡ option_map_or (λ k. take k bs) (position (λ b. b == 47) bs) bs
before_slash-place bs = before_slash-take bs ∙ by (nat_lt (position_or_len (λ b. b == 47) bs) (length bs)) refl
  where
    by : (t : Bool) → nat_lt (position_or_len (λ b. b == 47) bs) (length bs) ≡ t
        → take (position_or_len (λ b. b == 47) bs) bs ≡ option_map_or (λ k. take k bs) (cond t (Some (position_or_len (λ b. b == 47) bs)) None) bs
    by true e = refl
    by false e =
        let past : length bs ≤ position_or_len (λ b. b == 47) bs = grind (arith, nat_tests) in
        take_all _ bs past

-- one beginning behind another, by what stands behind the first
module _ (p q s : List ℕ) where
  pub twice-unless : None ≡ behind p s → None ≡ behind (p ++ q) s
  twice-unless e = sym (behind-append p q s ∙ ap (option_and_then (behind q)) (sym e))

  pub twice-by : (rest : List ℕ) → Some rest ≡ behind p s → behind (p ++ q) s ≡ behind q rest
  twice-by rest e = behind-append p q s ∙ ap (option_and_then (behind q)) (sym e)

-- a name that is or isn't made of two pieces
module _ (p a s : List ℕ) where
  pub made-unless : None ≡ behind p s → false ≡ bytes_eq (p ++ a) s
  made-unless e = sym (bytes_eq-made p a s ∙ ap (λ o. option_map_or (bytes_eq a) o false) (sym e))

  pub made-by : (rest : List ℕ) → Some rest ≡ behind p s → bytes_eq a rest ≡ bytes_eq (p ++ a) s
  made-by rest e = sym (bytes_eq-made p a s ∙ ap (λ o. option_map_or (bytes_eq a) o false) (sym e))

-- the profile of a path, by its name
pub profile-unless : (text : List ℕ) → None ≡ behind (codes "/interaction_profiles/") text → None ≡ profile_of text
profile-unless text e = sym (find-with (codes "/interaction_profiles/") text profile_name all_profiles ∙ ap (option_and_then (λ rest. find (λ x. bytes_eq rest (profile_name x)) all_profiles)) (sym e))

pub profile-by : (text name : List ℕ) → Some name ≡ behind (codes "/interaction_profiles/") text → find (λ x. bytes_eq name (profile_name x)) all_profiles ≡ profile_of text
profile-by text name e = sym (find-with (codes "/interaction_profiles/") text profile_name all_profiles ∙ ap (option_and_then (λ rest. find (λ x. bytes_eq rest (profile_name x)) all_profiles)) (sym e))

-- a table of names, by references to them
pub list_any-now : (entry : List ℕ) (refs : List (Bor (List ℕ))) → list_any (λ name. bytes_eq entry name) (map (λ n. n.now) refs) ≡ list_any (λ n. bytes_eq entry n.now) refs
list_any-now entry [] = refl
list_any-now entry (r ∷ rs) = ap (λ t. bytes_eq entry r.now || t) (list_any-now entry rs)
