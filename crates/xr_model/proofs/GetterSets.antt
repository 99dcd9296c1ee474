-- Which actions a getter takes by what its session has attached.
use Rattle.std.proofs.Common.{◌≡◌, ℕ, false, not, List, Option, Some, None, option_map, refl, sym, ap, subst, ◌∙◌, true≢false}
use Rattle.std.specs.Prelude.{◌↔◌, is_none, unwrap_or}
use Rattle.xr_model.specs.machine.LiveSessions.{Session, attached_in, session_at}
use Rattle.xr_model.specs.machine.Publication.{has_attached, has_set_of, is_attached, publication_of, session_read}
use Rattle.xr_model.specs.machine.Sets.{Action, action_at}
use Rattle.xr_model.specs.machine.State.{CoreState}
use Rattle.xr_model.specs.laws.AskedLaws.{HasAttached, IsOfAttached, GettersAreOfAttachedSets}
use Rattle.xr_model.proofs.ActionSpaces.{same_action, no_action}
use Rattle.xr_model.proofs.AttachedItems.{attached_is, passes}
use Rattle.xr_model.proofs.PublishedPlaces.{read_listed, attached_is_read}

takes_attached : (s : CoreState) (session action : ℕ) → is_none (session_read (publication_of s) session) ≡ false → (not (has_attached (publication_of s) session action) ≡ false) ↔ IsOfAttached s session action
takes_attached s session action live =
    let it = read_listed s session live in
    let read = ap not (attached_is_read s session it action) in
    let all = by it.its it.listed (action_at s.inputs action) refl in
    (λ e. all.0 (sym read ∙ e), λ its. read ∙ all.1 its)
  where
    by : (x : Session) → session_at s.sessions session ≡ Some x → (o : Option Action) → action_at s.inputs action ≡ o
        → (not (unwrap_or (option_map (has_set_of x.attached) o) false) ≡ false) ↔ IsOfAttached s session action
    by x listed None eo = (λ e. absurd (true≢false e), λ it. absurd (no_action it.it (sym eo ∙ it.is)))
    by x listed (Some a) eo =
        let own : attached_in (session_at s.sessions session) ≡ x.attached = ap attached_in listed in
        let attached = attached_is x.attached a.set in
        let passing = passes (is_attached x.attached a.set) in (
          λ e. record { it = a; is = eo; attached = subst (λ (o : Option (List ℕ)). HasAttached o a.set) (sym own) (attached.0 (passing.0 e)) },
          λ it. passing.1 (attached.1 (subst (λ (b : Action). HasAttached x.attached b.set) (sym (same_action a it.it (sym eo ∙ it.is))) (subst (λ (o : Option (List ℕ)). HasAttached o it.it.set) own it.attached))),
        )

pub getters_are_of_attached_sets : GettersAreOfAttachedSets
getters_are_of_attached_sets s reads e session action sub = record {
  booleans = takes_attached s session action;
  floats = takes_attached s session action;
  vectors = takes_attached s session action;
  poses = takes_attached s session action;
}
