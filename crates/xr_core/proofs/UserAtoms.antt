-- The atoms of user paths, once a text more is known, and what getters read by them.
use Rattle.std.proofs.Common.{◌≡◌, ◌<◌, ◌+◌, ◌==◌, ◌&&◌, ◌||◌, ◌++◌, ℕ, suc, Bool, true, false, List, [], ◌∷◌, length, map, drop, Option, Some, None, option_map, refl, sym, ap, ◌∙◌, arith, nat_lt, nat_eq, true≢false}
use Rattle.std.proofs.lemmas.Bool.Decides.{nat_tests}
use Rattle.std.proofs.lemmas.List.{drop_more}
use Rattle.std.specs.Cmp.Lexicographic.{pointwise, same_text}
use Rattle.std.specs.List.{list_any, position, position_or_len, position_from}
use Rattle.std.specs.Prelude.{unwrap_or, if◌then◌else◌}
use lib.ListN.{get_or}
use Rattle.xr_types.specs.declared.input.User.{User}
use Rattle.xr_types.specs.declared.input.User.TheVariants as user
use Rattle.xr_types.specs.Printed.{all_users}
use Rattle.xr_types.specs.Users.{user_place}
use Rattle.xr_model.specs.machine.Paths.{is_new, atom_of, with_text}
use Rattle.xr_model.specs.machine.Profiles.{user_of}
use Rattle.xr_model.specs.machine.Publication.{is_of_user, user_atom, column_from}
use Rattle.xr_model.proofs.UserAtoms.{known_user}
use Rattle.xr_core.specs.inside.Users.{users_with}

-- ---- places of texts

module _ {T : Type 0} (p : T → Bool) where
  -- one more that fails changes no place
  place_stays : (xs : List T) (y : T) (k : ℕ) → p y ≡ false → position_from p k (xs ++ y ∷ []) ≡ position_from p k xs
  place_stays [] y k fails = rw fails refl
  place_stays (x ∷ xs) y k fails = by (p x) (place_stays xs y (k + 1) fails)
    where
      by : (b : Bool) → position_from p (k + 1) (xs ++ y ∷ []) ≡ position_from p (k + 1) xs → (if b then Some k else position_from p (k + 1) (xs ++ y ∷ [])) ≡ (if b then Some k else position_from p (k + 1) xs)
      by true more = refl
      by false more = more

  -- else one that passes is behind all
  place_last : (xs : List T) (y : T) (k : ℕ) → position_from p k xs ≡ None → p y ≡ true → position_from p k (xs ++ y ∷ []) ≡ Some (k + length xs)
  place_last [] y k none passes = rw passes (ap Some (omega arith))
  place_last (x ∷ xs) y k none passes = by (p x) none (λ rest. place_last xs y (k + 1) rest passes)
    where
      by : (b : Bool) → (if b then Some k else position_from p (k + 1) xs) ≡ None → (position_from p (k + 1) xs ≡ None → position_from p (k + 1) (xs ++ y ∷ []) ≡ Some (k + 1 + length xs))
          → (if b then Some k else position_from p (k + 1) (xs ++ y ∷ [])) ≡ Some (k + suc (length xs))
      by true none more = cc
      by false none more = more none ∙ ap Some (omega arith)

  -- where none passes there is no place
  none_passes : (xs : List T) (k : ℕ) → position_from p k xs ≡ None → list_any p xs ≡ false
  none_passes [] k none = refl
  none_passes (x ∷ xs) k none = by (p x) none (none_passes xs (k + 1))
    where
      by : (b : Bool) → (if b then Some k else position_from p (k + 1) xs) ≡ None → (position_from p (k + 1) xs ≡ None → list_any p xs ≡ false) → b || list_any p xs ≡ false
      by true none more = cc
      by false none more = more none

  past_all : (xs : List T) → list_any p xs ≡ false → position_or_len p xs ≡ length xs
  past_all [] none = refl
  past_all (x ∷ xs) none = by (p x) refl none (past_all xs)
    where
      by : (b : Bool) → p x ≡ b → b || list_any p xs ≡ false → (list_any p xs ≡ false → position_or_len p xs ≡ length xs) → position_or_len p (x ∷ xs) ≡ suc (length xs)
      by true eb none more = absurd (true≢false none)
      by false eb none more = let rest = more none in rw eb (omega (arith, rest))

  nowhere : (xs : List T) → list_any p xs ≡ false → position p xs ≡ None
  nowhere xs none = rw (past_all xs none) (let least : nat_lt (length xs) (length xs) ≡ false = grind (arith, nat_tests) in rw least refl)

-- a text that passes isn't known where none passes
unknown_text : (q : List ℕ → Bool) (text : List ℕ) (xs : List (List ℕ)) → q text ≡ true → list_any q xs ≡ false → list_any (λ known. pointwise nat_eq text known) xs ≡ false
unknown_text q text [] passes none = refl
unknown_text q text (x ∷ xs) passes none = by (pointwise nat_eq text x) refl (q x) refl none (unknown_text q text xs passes)
  where
    by : (b : Bool) → pointwise nat_eq text x ≡ b → (c : Bool) → q x ≡ c → c || list_any q xs ≡ false → (list_any q xs ≡ false → list_any (λ known. pointwise nat_eq text known) xs ≡ false)
        → b || list_any (λ known. pointwise nat_eq text known) xs ≡ false
    by b eb true ec none more = absurd (true≢false none)
    by true eb false ec none more = absurd (true≢false (sym passes ∙ ap q (same_text text x (sym eb)) ∙ ec))
    by false eb false ec none more = more none

-- ---- one text more

module _ (atoms : List (List ℕ)) (text : List ℕ) (who : User) where
  -- another user path keeps its atom
  pub other_user : is_of_user who text ≡ false → user_atom (with_text atoms text) who ≡ user_atom atoms who
  other_user other = by (is_new atoms text)
    where
      by : (b : Bool) → user_atom (if b then atoms ++ text ∷ [] else atoms) who ≡ user_atom atoms who
      by true = rw (place_stays (is_of_user who) atoms text 0 other) refl
      by false = refl

  -- and one that had none gets that of the text
  pub new_user : is_of_user who text ≡ true → (user_atom atoms who == 0) ≡ true → user_atom (with_text atoms text) who ≡ atom_of atoms text
  new_user own none = by (position_from (is_of_user who) 0 atoms) refl none
    where
      by : (o : Option ℕ) → position_from (is_of_user who) 0 atoms ≡ o → (unwrap_or (option_map (λ place. place + 1) o) 0 == 0) ≡ true → user_atom (with_text atoms text) who ≡ atom_of atoms text
      by None eo none =
          let absent = nowhere (λ known. pointwise nat_eq text known) atoms (unknown_text (is_of_user who) text atoms own (none_passes (is_of_user who) atoms 0 eo)) in
          rw (absent, place_last (is_of_user who) atoms text 0 eo own) (omega arith)
      by (Some i) eo none = let no : ⊥ = grind (arith, nat_tests, none) in absurd no

-- the atoms of all user paths
module _ (atoms : List (List ℕ)) (text : List ℕ) where
  abbrev before : User → ℕ
  before = user_atom atoms

  abbrev after : User → ℕ
  after = user_atom (with_text atoms text)

  of_none : user_of text ≡ None → (who : User) → after who ≡ before who
  of_none none who = other_user atoms text who (rw none refl)

  -- what becomes of one atom, where the text is that of this user path
  abbrev entry : User → User → ℕ
  entry own who = if user_place own == user_place who then (if before who == 0 then atom_of atoms text else before who) else before who

  of_own : (own : User) → user_of text ≡ Some own → (who : User) → entry own who ≡ after who
  of_own own is who = by (user_place own == user_place who) refl (before who == 0) refl
    where
      told : (b : Bool) → (user_place own == user_place who) ≡ b → is_of_user who text ≡ b
      told b eb = rw is eb

      by : (b : Bool) → (user_place own == user_place who) ≡ b → (c : Bool) → (before who == 0) ≡ c → (if b then (if c then atom_of atoms text else before who) else before who) ≡ after who
      by true eb true ec = sym (new_user atoms text who (told true eb) ec)
      by true eb false ec = sym (known_user atoms text who ec)
      by false eb c ec = sym (other_user atoms text who (told false eb))

  -- a value at one place of a list
  pull : (f : ℕ → List ℕ) (b : Bool) (x y : ℕ) → (if b then f x else f y) ≡ f (if b then x else y)
  pull f true x y = refl
  pull f false x y = refl

  spread : (own : User) → users_with (map (user_atom atoms) all_users) (Some own) (atom_of atoms text) ≡ map (entry own) all_users
  spread user.Left = pull (λ n. n ∷ before user.Right ∷ before user.Head ∷ before user.Gamepad ∷ before user.Treadmill ∷ []) (before user.Left == 0) (atom_of atoms text) (before user.Left)
  spread user.Right = pull (λ n. before user.Left ∷ n ∷ before user.Head ∷ before user.Gamepad ∷ before user.Treadmill ∷ []) (before user.Right == 0) (atom_of atoms text) (before user.Right)
  spread user.Head = pull (λ n. before user.Left ∷ before user.Right ∷ n ∷ before user.Gamepad ∷ before user.Treadmill ∷ []) (before user.Head == 0) (atom_of atoms text) (before user.Head)
  spread user.Gamepad = pull (λ n. before user.Left ∷ before user.Right ∷ before user.Head ∷ n ∷ before user.Treadmill ∷ []) (before user.Gamepad == 0) (atom_of atoms text) (before user.Gamepad)
  spread user.Treadmill = pull (λ n. before user.Left ∷ before user.Right ∷ before user.Head ∷ before user.Gamepad ∷ n ∷ []) (before user.Treadmill == 0) (atom_of atoms text) (before user.Treadmill)

  pub users_more : users_with (map (user_atom atoms) all_users) (user_of text) (atom_of atoms text) ≡ map (user_atom (with_text atoms text)) all_users
  users_more = by (user_of text) refl
    where
      by : (o : Option User) → user_of text ≡ o → users_with (map (user_atom atoms) all_users) o (atom_of atoms text) ≡ map (user_atom (with_text atoms text)) all_users
      by None eo = rw (of_none eo user.Left, of_none eo user.Right, of_none eo user.Head, of_none eo user.Gamepad, of_none eo user.Treadmill) refl
      by (Some own) eo = spread own ∙ rw (of_own own eo user.Left, of_own own eo user.Right, of_own own eo user.Head, of_own own eo user.Gamepad, of_own own eo user.Treadmill) refl

-- ---- the column of an atom

-- at a place of both lists: this user path's, or one of those behind it
pub column_step : (users : List ℕ) (declared : List Bool) (sub k i d : ℕ) (e : Bool) → i < length users → i < length declared
    → column_from k (drop i users) (drop i declared) sub ≡ (if get_or declared i e && (get_or users i d == sub) then Some k else column_from (k + 1) (drop (i + 1) users) (drop (i + 1) declared) sub)
column_step users declared sub k i d e within within2 = rw (drop_more users i d within, drop_more declared i e within2) refl

-- where it isn't this one, it is behind
pub column_behind : (users : List ℕ) (declared : List Bool) (sub k i d : ℕ) (e : Bool) → i < length users → i < length declared → get_or declared i e && (get_or users i d == sub) ≡ false
    → column_from k (drop i users) (drop i declared) sub ≡ column_from (k + 1) (drop (i + 1) users) (drop (i + 1) declared) sub
column_behind users declared sub k i d e within within2 other = column_step users declared sub k i d e within within2 ∙ rw other refl

pub not_both : (b : Bool) (n m : ℕ) → (n ≡ m → ⊥) → b && (n == m) ≡ false
not_both true n m other = grind (arith, nat_tests, other)
not_both false n m other = refl

pub not_first : (b c : Bool) → b ≡ false → b && c ≡ false
not_first b c fails = rw fails refl
