-- When names of sets and actions are taken.
use Rattle.std.proofs.Common.{arith, ◌≡◌, ◌+◌, ◌==◌, ◌&&◌, inl, inr, suc, ℕ, Bool, true, false, List, [], ◌∷◌, ◌++◌, length, not, Option, Some, None, refl, sym, ap, subst, ◌∙◌, true≢false}
use Rattle.std.specs.Prelude.{◌↔◌}
use Rattle.std.specs.List.{list_any}
use Rattle.xr_types.specs.declared.calls.Call.TheVariants as ask
use Rattle.xr_types.specs.declared.handles.Kind.TheVariants as kind
use Rattle.xr_types.specs.declared.input.User.{User}
use Rattle.xr_model.specs.machine.Handles.{no_room}
use Rattle.xr_model.specs.machine.Refusals.{Refusal}
use Rattle.xr_model.specs.machine.Rules.Sets.{sub_checks, user_at, with_user, declared_by, is_new_user}
use Rattle.xr_model.specs.machine.Sets.{Action, no_users, is_declared, same_text, action_label_checks}
use Rattle.xr_model.specs.machine.Machine.{rule}
use Rattle.xr_model.specs.laws.AskedLaws.{asking, Among, holds_behind, NamesOfSetsAreTaken, NamesOfActionsAreTaken, is_no_new_user, UserPathsAreNamedOnce}
use Rattle.xr_model.proofs.InputsGive.{actions_declare_their_atoms}
use Rattle.xr_model.proofs.Rows.{both_of, same_key, itself}

pub among : {T : Type 0} (p : T → Bool) (P : T → Type 0) → ((x : T) → p x ≡ true → P x) → ((x : T) → P x → p x ≡ true) → (xs : List T)
    → (list_any p xs ≡ true) ↔ Among P xs
among p P to from [] = (λ e. absurd (true≢false (sym e)), λ none. absurd none)
among p P to from (x ∷ xs) = by (p x) refl (among p P to from xs)
  where
    by : (b : Bool) → p x ≡ b → (list_any p xs ≡ true) ↔ Among P xs → (list_any p (x ∷ xs) ≡ true) ↔ Among P (x ∷ xs)
    by true is more = (λ e. inl (to x is), λ found. rw is refl)
    by false is more = (
      λ e. inr (more.0 (rw is at e)),
      λ found. elim found [ inl here ↦ absurd (true≢false (sym (from x here) ∙ is)) | inr later ↦ rw is (more.1 later) ],
    )

-- ---- texts

text_is : (a b : List ℕ) → same_text a b ≡ true → a ≡ b
text_is [] [] e = refl
text_is [] (y ∷ ys) e = absurd (true≢false (sym e))
text_is (x ∷ xs) [] e = absurd (true≢false (sym e))
text_is (x ∷ xs) (y ∷ ys) e =
    let both = both_of (x == y) (same_text xs ys) e in
    (λ i. same_key x y both.0 i ∷ text_is xs ys both.1 i)

same_itself : (a : List ℕ) → same_text a a ≡ true
same_itself [] = refl
same_itself (x ∷ xs) = rw (itself x, same_itself xs) refl

is_text : (a b : List ℕ) → a ≡ b → same_text a b ≡ true
is_text a b e = subst (λ x. same_text a x ≡ true) e (same_itself a)

-- ---- sets

pub names_of_sets_are_taken : NamesOfSetsAreTaken
names_of_sets_are_taken s reads e instance name localized priority = record {
  names = among (λ x. same_text x.name name) (λ x. x.name ≡ name) (λ x is. text_is x.name name is) (λ x is. is_text x.name name is) s.inputs.sets;
  labels = among (λ x. same_text x.localized localized) (λ x. x.localized ≡ localized) (λ x is. text_is x.localized localized is)
      (λ x is. is_text x.localized localized is) s.inputs.sets;
}

-- ---- actions

in_set : (set : ℕ) (mine : ℕ) (a b : List ℕ) → (mine == set) && same_text a b ≡ true → (mine ≡ set) × (a ≡ b)
in_set set mine a b e = let both = both_of (mine == set) (same_text a b) e in (same_key mine set both.0, text_is a b both.1)

is_in_set : (set : ℕ) (mine : ℕ) (a b : List ℕ) → (mine ≡ set) × (a ≡ b) → (mine == set) && same_text a b ≡ true
is_in_set set mine a b both =
    let own : (mine == set) ≡ true = subst (λ (n : ℕ). (mine == n) ≡ true) both.0 (itself mine) in
    rw (own, is_text a b both.1) refl

-- two conditions stand for each user path
behind_subs : (atoms : List (List ℕ)) (declared : List Bool) (subs : List ℕ) (k : ℕ) (rest : List Refusal)
    → holds_behind (length subs + length subs + k) (sub_checks atoms declared subs ++ rest) ≡ holds_behind k rest
behind_subs atoms declared [] k rest = ap (λ (n : ℕ). holds_behind n rest) (omega arith)
behind_subs atoms declared (sub ∷ subs) k rest =
    let count : suc (length subs) + suc (length subs) + k ≡ suc (suc (length subs + length subs + k)) = omega arith in
    ap (λ (n : ℕ). holds_behind n (sub_checks atoms declared (sub ∷ subs) ++ rest)) count
    ∙ behind_subs atoms (with_user declared (user_at atoms sub)) subs k rest

pub names_of_actions_are_taken : NamesOfActionsAreTaken
names_of_actions_are_taken s reads e0 set name type subs localized =
    let count : length subs + length subs + 5 ≡ suc (suc (suc (suc (length subs + length subs + 1)))) = omega arith in
    let last = behind_subs s.atoms no_users subs 1 (action_label_checks s.inputs set localized ++ no_room s.handles kind.Action ∷ []) in
    let taken = among (λ (x : Action). x.set == set && same_text x.localized localized) (λ x. (x.set ≡ set) × (x.localized ≡ localized))
    (λ x is. in_set set x.set x.localized localized is) (λ x is. is_in_set set x.set x.localized localized is) s.inputs.actions in
    record {
      names = among (λ (x : Action). x.set == set && same_text x.name name) (λ x. (x.set ≡ set) × (x.name ≡ name))
          (λ x is. in_set set x.set x.name name is) (λ x is. is_in_set set x.set x.name name is) s.inputs.actions;
      labels = (
        λ e. taken.0 (sym last ∙ ap (λ (n : ℕ). holds_behind n (rule s reads (asking e0 (ask.CreateAction set name type subs localized))).behind)
            (sym count) ∙ e),
        λ found. ap (λ (n : ℕ). holds_behind n (rule s reads (asking e0 (ask.CreateAction set name type subs localized))).behind) count ∙ last ∙ taken.1 found,
      );
    }

-- ---- user paths

-- what stands behind the conditions of those ahead
behind_front : (atoms : List (List ℕ)) (declared : List Bool) (front subs : List ℕ) (k : ℕ) (rest : List Refusal)
    → holds_behind (length front + length front + k) (sub_checks atoms declared (front ++ subs) ++ rest)
    ≡ holds_behind k (sub_checks atoms (declared_by atoms declared front) subs ++ rest)
behind_front atoms declared [] subs k rest = ap (λ (n : ℕ). holds_behind n (sub_checks atoms declared subs ++ rest)) (omega arith)
behind_front atoms declared (sub ∷ front) subs k rest =
    let count : suc (length front) + suc (length front) + k ≡ suc (suc (length front + length front + k)) = omega arith in
    ap (λ (n : ℕ). holds_behind n (sub_checks atoms declared (sub ∷ (front ++ subs)) ++ rest)) count
    ∙ behind_front atoms (with_user declared (user_at atoms sub)) front subs k rest

pub user_paths_are_named_once : UserPathsAreNamedOnce
user_paths_are_named_once s reads e set name type localized front sub behind =
    record {
      known = ap (λ (n : ℕ). holds_behind n asked) first ∙ behind_front s.atoms no_users front (sub ∷ behind) 0 labels;
      once = ap (λ (n : ℕ). holds_behind n asked) second ∙ behind_front s.atoms no_users front (sub ∷ behind) 1 labels ∙ by (user_at s.atoms sub);
    }
  where
    labels : List Refusal
    labels = action_label_checks s.inputs set localized ++ no_room s.handles kind.Action ∷ []

    asked : List Refusal
    asked = (rule s reads (asking e (ask.CreateAction set name type (front ++ sub ∷ behind) localized))).behind

    first : length front + length front + 4 ≡ suc (suc (suc (suc (length front + length front + 0))))
    first = omega arith

    second : length front + length front + 5 ≡ suc (suc (suc (suc (length front + length front + 1))))
    second = omega arith

    twice : (b : Bool) → not (not b) ≡ b
    twice true = refl
    twice false = refl

    by : (o : Option User) → not (is_new_user (declared_by s.atoms no_users front) o) ≡ is_no_new_user s.atoms front o
    by None = refl
    by (Some who) = twice (is_declared (declared_by s.atoms no_users front) who) ∙ actions_declare_their_atoms s.atoms front who
