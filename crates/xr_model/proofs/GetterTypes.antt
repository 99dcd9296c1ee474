-- Which actions a getter takes by their type.
use Rattle.std.proofs.Common.{◌≡◌, not, ℕ, Bool, true, false, Option, Some, None, option_map, refl, sym, ap, ◌∙◌, true≢false}
use Rattle.std.specs.Prelude.{◌↔◌}
use Rattle.xr_types.specs.declared.input.ActionType.{ActionType}
use Rattle.xr_types.specs.declared.input.ActionType.TheVariants as type
use Rattle.xr_model.specs.machine.Publication.{published_action, published_at, publication_of, is_same_type, is_action_of}
use Rattle.xr_model.specs.machine.Sets.{Action, action_at}
use Rattle.xr_model.specs.machine.State.{CoreState}
use Rattle.xr_model.specs.laws.AskedLaws.{IsOfType, GettersAreOfTheirTypes}
use Rattle.xr_model.proofs.ActionSpaces.{same_action, no_action}
use Rattle.xr_model.proofs.PublishedPlaces.{action_read}

type_is : (a b : ActionType) → is_same_type a b ≡ true → a ≡ b
type_is type.Boolean type.Boolean e = refl
type_is type.Float type.Float e = refl
type_is type.Vector type.Vector e = refl
type_is type.Pose type.Pose e = refl
type_is type.Vibration type.Vibration e = refl
type_is _ _ e = absurd (true≢false (sym e))

same_itself : (a : ActionType) → is_same_type a a ≡ true
same_itself type.Boolean = refl
same_itself _ = refl

met : (b : Bool) → not b ≡ false → b ≡ true
met true e = refl
met false e = absurd (true≢false e)

takes_type : (s : CoreState) (action : ℕ) (wanted : ActionType)
    → (not (is_action_of wanted (published_at (publication_of s) action)) ≡ false) ↔ IsOfType s action wanted
takes_type s action wanted =
    let found = ap (λ o. not (is_action_of wanted o)) (action_read s action) in
    let all = by (action_at s.inputs action) refl in
    (λ e. all.0 (sym found ∙ e), λ it. found ∙ all.1 it)
  where
    by : (o : Option Action) → action_at s.inputs action ≡ o → (not (is_action_of wanted (option_map published_action o)) ≡ false) ↔ IsOfType s action wanted
    by None eo = (λ e. absurd (true≢false e), λ it. absurd (no_action it.it (sym eo ∙ it.is)))
    by (Some x) eo = (
      λ e. record { it = x; is = eo; own = type_is x.type wanted (met (is_same_type x.type wanted) e) },
      λ it. ap (λ t. not (is_same_type t wanted)) (ap (λ (y : Action). y.type) (same_action x it.it (sym eo ∙ it.is)) ∙ it.own) ∙ ap not (same_itself wanted),
    )

pub getters_are_of_their_types : GettersAreOfTheirTypes
getters_are_of_their_types s reads e session action sub = record {
  booleans = takes_type s action type.Boolean;
  floats = takes_type s action type.Float;
  vectors = takes_type s action type.Vector;
  poses = takes_type s action type.Pose;
}
