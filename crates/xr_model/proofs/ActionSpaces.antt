-- When the space of an action is taken.
use Rattle.std.proofs.Common.{arith, ◌≡◌, ◌+◌, ◌==◌, ◌⊎◌, inl, inr, not, ℕ, Bool, true, false, Option, Some, None, refl, sym, ap, ◌∙◌, true≢false}
use Rattle.std.specs.Prelude.{◌↔◌, is_none, nat_lt, option_map, option_and_then, unwrap_or, if◌then◌else◌}
use Rattle.std.proofs.lemmas.Bool.Decides.{nat_tests}
use Rattle.xr_types.specs.Users.{user_place}
use Rattle.xr_types.specs.declared.input.ActionType.{ActionType}
use Rattle.xr_types.specs.declared.input.ActionType.TheVariants as type
use Rattle.xr_types.specs.declared.input.User.{User}
use Rattle.xr_model.specs.machine.Publication.{is_same_type}
use Rattle.xr_model.specs.machine.Rules.Sets.{user_at}
use Rattle.xr_model.specs.machine.Rules.Sync.{column_named, is_of_poses}
use Rattle.xr_model.specs.machine.Sets.{Action, action_at, is_declared}
use Rattle.xr_model.specs.machine.State.{CoreState}
use Rattle.xr_model.specs.laws.AskedLaws.{IsOfPoses, DeclaresUser, ActionSpacesAreOfPoses}
use Rattle.xr_model.proofs.Rows.{same_key}

pub same_action : (a b : Action) → Some a ≡ Some b → a ≡ b
same_action a b e = cc

pub no_action : (b : Action) → None ≡ Some b → ⊥
no_action b e = cc

same_user : (a b : User) → Some a ≡ Some b → a ≡ b
same_user a b e = cc

no_user : (b : User) → None ≡ Some b → ⊥
no_user b e = cc

-- ---- actions of poses

pose_is : (t : ActionType) → is_same_type type.Pose t ≡ true → t ≡ type.Pose
pose_is type.Pose e = refl
pose_is type.Boolean e = absurd (true≢false (sym e))
pose_is type.Float e = absurd (true≢false (sym e))
pose_is type.Vector e = absurd (true≢false (sym e))
pose_is type.Vibration e = absurd (true≢false (sym e))

poses_are : (s : CoreState) (action : ℕ) → (not (is_of_poses s action) ≡ false) ↔ IsOfPoses s action
poses_are s action = by (action_at s.inputs action) refl
  where
    by : (o : Option Action) → action_at s.inputs action ≡ o
        → (not (unwrap_or (option_map (is_same_type type.Pose) (option_map (λ (x : Action). x.type) o)) false) ≡ false) ↔ IsOfPoses s action
    by None eo = (λ e. absurd (true≢false e), λ it. absurd (no_action it.it (sym eo ∙ it.is)))
    by (Some x) eo = (
      λ e. record { it = x; is = eo; poses = pose_is x.type (met (is_same_type type.Pose x.type) e) },
      λ it. ap (λ t. not (is_same_type type.Pose t)) (ap (λ (y : Action). y.type) (same_action x it.it (sym eo ∙ it.is)) ∙ it.poses),
    )
      where
        met : (b : Bool) → not b ≡ false → b ≡ true
        met true e = refl
        met false e = absurd (true≢false e)

-- ---- user paths

user_is : (s : CoreState) (action sub : ℕ) → (is_none (column_named s action sub) ≡ false) ↔ ((sub ≡ 0) ⊎ DeclaresUser s action sub)
user_is s action sub = by (sub == 0) refl (user_at s.atoms sub) refl (action_at s.inputs action) refl
  where
    met : (b : Bool) (n : ℕ) → is_none (if b then Some n else None) ≡ false → b ≡ true
    met true n e = refl
    met false n e = absurd (true≢false e)

    by : (zero_is : Bool) → (sub == 0) ≡ zero_is → (o : Option User) → user_at s.atoms sub ≡ o → (a : Option Action) → action_at s.inputs action ≡ a
        → (is_none (if zero_is then Some 0 else
        option_and_then (λ who. if unwrap_or (option_map (λ (x : Action). is_declared x.declared who) a) false
        then Some (user_place who + 1) else None) o) ≡ false)
        ↔ ((sub ≡ 0) ⊎ DeclaresUser s action sub)
    by true is o eo a ea = (λ e. inl (same_key sub 0 is), λ found. refl)
    by false is None eo a ea = (
      λ e. absurd (true≢false e),
      λ found. elim found [
        | inl none ↦ absurd (true≢false (sym (ap (λ (n : ℕ). n == 0) none) ∙ is))
        | inr it ↦ absurd (no_user it.who (sym eo ∙ it.named))
      ],
    )
    by false is (Some who) eo None ea = (
      λ e. absurd (true≢false e),
      λ found. elim found [
        | inl none ↦ absurd (true≢false (sym (ap (λ (n : ℕ). n == 0) none) ∙ is))
        | inr it ↦ absurd (no_action it.it (sym ea ∙ it.is))
      ],
    )
    by false is (Some who) eo (Some x) ea = (
      λ e. inr (record { it = x; is = ea; who = who; named = eo; declared = met (is_declared x.declared who) (user_place who + 1) e }),
      λ found. elim found [
        | inl none ↦ absurd (true≢false (sym (ap (λ (n : ℕ). n == 0) none) ∙ is))
        | inr it ↦
            let own = same_action x it.it (sym ea ∙ it.is) in
            let user = same_user who it.who (sym eo ∙ it.named) in
            let declared : is_declared x.declared who ≡ true = (λ i. is_declared (own i).declared (user i)) ∙ it.declared in
            ap (λ (b : Bool). is_none (if b then Some (user_place who + 1) else None)) declared
      ],
    )

none_is : (n : ℕ) → (n == 0) ≡ nat_lt n 1
none_is n = grind (arith, nat_tests)

pub action_spaces_are_of_poses : ActionSpacesAreOfPoses
action_spaces_are_of_poses s reads e session action sub offset = record { poses = poses_are s action; user = user_is s action sub; opaque = none_is offset }
