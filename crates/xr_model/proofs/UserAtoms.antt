-- The atoms of user paths: a new text changes none of those that are known, and what an action declares is known.
use Rattle.std.proofs.Common.{◌≡◌, ◌-◌, ◌+◌, ◌==◌, ◌++◌, ◌⊎◌, inl, inr, ℕ, zero, suc, Bool, true, false, List, [], ◌∷◌, Option, Some, None, option_map, refl, sym, ap, ◌∙◌, arith, true≢false}
use Rattle.std.proofs.lemmas.Bool.Decides.{nat_tests}
use Rattle.std.specs.List.{list_any, position_from}
use Rattle.std.specs.Prelude.{slice_get, slice_set, unwrap_or, option_and_then, if◌then◌else◌}
use Rattle.xr_types.specs.declared.input.User.{User}
use Rattle.xr_types.specs.declared.input.User.TheVariants as user
use Rattle.xr_types.specs.Users.{user_place}
use Rattle.xr_model.specs.machine.Paths.{is_new, with_text}
use Rattle.xr_model.specs.machine.Profiles.{user_of}
use Rattle.xr_model.specs.machine.Publication.{is_of_user, user_atom}
use Rattle.xr_model.specs.machine.Rules.Sets.{user_at, with_user, declared_by}
use Rattle.xr_model.specs.machine.Sets.{Action, is_declared}
use Rattle.xr_model.proofs.ChainPlaces.{suc_apart}

-- ---- places of texts

module _ {T : Type 0} (p : T → Bool) where
  -- what stands in the list is the first
  pub place_first : (xs : List T) (y : T) (k i : ℕ) → position_from p k xs ≡ Some i → position_from p k (xs ++ y ∷ []) ≡ Some i
  place_first [] y k i found = cc
  place_first (x ∷ xs) y k i found = by (p x) found (place_first xs y (k + 1) i)
    where
      by : (b : Bool) → (if b then Some k else position_from p (k + 1) xs) ≡ Some i → (position_from p (k + 1) xs ≡ Some i → position_from p (k + 1) (xs ++ y ∷ []) ≡ Some i)
          → (if b then Some k else position_from p (k + 1) (xs ++ y ∷ [])) ≡ Some i
      by true found more = found
      by false found more = more found

  -- what passes has a place
  some_place : (xs : List T) (y : T) (k i : ℕ) → slice_get xs i ≡ Some y → p y ≡ true → position_from p k xs ≡ None → ⊥
  some_place [] y k i there passes none = cc
  some_place (x ∷ xs) y k zero there passes none = by (p x) refl none
    where
      by : (b : Bool) → p x ≡ b → (if b then Some k else position_from p (k + 1) xs) ≡ None → ⊥
      by true eb none = cc
      by false eb none = let same : x ≡ y = cc in true≢false (sym passes ∙ ap p (sym same) ∙ eb)
  some_place (x ∷ xs) y k (suc i) there passes none = by (p x) none (some_place xs y (k + 1) i there passes)
    where
      by : (b : Bool) → (if b then Some k else position_from p (k + 1) xs) ≡ None → (position_from p (k + 1) xs ≡ None → ⊥) → ⊥
      by true none more = cc
      by false none more = more none

-- ---- one text more

-- a user path that has an atom keeps it
pub known_user : (atoms : List (List ℕ)) (text : List ℕ) (who : User) → (user_atom atoms who == 0) ≡ false → user_atom (with_text atoms text) who ≡ user_atom atoms who
known_user atoms text who known = by (is_new atoms text) (position_from (is_of_user who) 0 atoms) refl known
  where
    by : (b : Bool) (o : Option ℕ) → position_from (is_of_user who) 0 atoms ≡ o → (unwrap_or (option_map (λ place. place + 1) o) 0 == 0) ≡ false
        → user_atom (if b then atoms ++ text ∷ [] else atoms) who ≡ user_atom atoms who
    by false o eo known = refl
    by true None eo known = absurd (true≢false known)
    by true (Some i) eo known = rw (place_first (is_of_user who) atoms text 0 i eo, eo) refl

-- ---- what is declared is known

-- each user path that one of these actions declares has an atom
abbrev pub KnowsDeclared : List (List ℕ) → List Action → Type 0
KnowsDeclared atoms actions = (who : User) → list_any (λ x. is_declared x.declared who) actions ≡ true → (user_atom atoms who == 0) ≡ false

itself : (who : User) → (user_place who == user_place who) ≡ true
itself user.Left = refl
itself user.Right = refl
itself user.Head = refl
itself user.Gamepad = refl
itself user.Treadmill = refl

-- the user path that an atom stands for has one
has_atom : (atoms : List (List ℕ)) (sub : ℕ) (who : User) → user_at atoms sub ≡ Some who → (user_atom atoms who == 0) ≡ false
has_atom atoms sub who is = by (sub == 0) refl is
  where
    placed : (o : Option ℕ) → (o ≡ None → ⊥) → (unwrap_or (option_map (λ place. place + 1) o) 0 == 0) ≡ false
    placed None some = absurd (some refl)
    placed (Some i) some = grind (arith, nat_tests)

    there : (o : Option (List ℕ)) → slice_get atoms (sub - 1) ≡ o → option_and_then user_of o ≡ Some who → (user_atom atoms who == 0) ≡ false
    there None eo is = cc
    there (Some text) eo is =
        let passes : is_of_user who text ≡ true = rw is (itself who) in
        placed (position_from (is_of_user who) 0 atoms) (some_place (is_of_user who) atoms text 0 (sub - 1) eo passes)

    by : (z : Bool) → (sub == 0) ≡ z → option_and_then user_of (if z then None else slice_get atoms (sub - 1)) ≡ Some who → (user_atom atoms who == 0) ≡ false
    by true ez is = cc
    by false ez is = there (slice_get atoms (sub - 1)) refl is

-- another place of a list stays
pub set_other : {T : Type 0} (xs : List T) (k j : ℕ) (v : T) → (k == j) ≡ false → slice_get (slice_set xs k v) j ≡ slice_get xs j
set_other [] k j v other = refl
set_other (x ∷ xs) zero zero v other = absurd (true≢false other)
set_other (x ∷ xs) zero (suc j) v other = refl
set_other (x ∷ xs) (suc k) zero v other = refl
set_other (x ∷ xs) (suc k) (suc j) v other = set_other xs k j v (suc_apart k j ∙ other)

pub same_user : (own who : User) → (user_place own == user_place who) ≡ true → own ≡ who
same_user user.Left user.Left same = refl
same_user user.Right user.Right same = refl
same_user user.Head user.Head same = refl
same_user user.Gamepad user.Gamepad same = refl
same_user user.Treadmill user.Treadmill same = refl
same_user _ _ same = absurd (true≢false (sym same))

-- what a user path more declares is that user path, or was declared
more_declared : (declared : List Bool) (own who : User) → is_declared (slice_set declared (user_place own) true) who ≡ true → (is_declared declared who ≡ true) ⊎ (own ≡ who)
more_declared declared own who is = by (user_place own == user_place who) refl
  where
    by : (b : Bool) → (user_place own == user_place who) ≡ b → (is_declared declared who ≡ true) ⊎ (own ≡ who)
    by true eb = inr (same_user own who eb)
    by false eb = inl (ap (λ o. unwrap_or o false) (sym (set_other declared (user_place own) (user_place who) true eb)) ∙ is)

-- what a new action declares is known
pub declared_known : (atoms : List (List ℕ)) (subs : List ℕ) (declared : List Bool) (who : User) → (is_declared declared who ≡ true → (user_atom atoms who == 0) ≡ false)
    → is_declared (declared_by atoms declared subs) who ≡ true → (user_atom atoms who == 0) ≡ false
declared_known atoms [] declared who known is = known is
declared_known atoms (sub ∷ subs) declared who known is = declared_known atoms subs (with_user declared (user_at atoms sub)) who (by (user_at atoms sub) refl) is
  where
    by : (o : Option User) → user_at atoms sub ≡ o → is_declared (with_user declared o) who ≡ true → (user_atom atoms who == 0) ≡ false
    by None eo is = known is
    by (Some own) eo is = elim (more_declared declared own who is) [ inl before ↦ known before | inr same ↦ has_atom atoms sub who (rw same at eo) ]
