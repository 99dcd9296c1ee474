-- When a binding is refused for its action's set.
use Rattle.std.proofs.Common.{arith, ◌≡◌, ◌+◌, ◌*◌, suc, ℕ, true, false, List, [], ◌∷◌, ◌++◌, length, Option, Some, None, refl, sym, ap, ◌∙◌, true≢false}
use Rattle.std.specs.Prelude.{◌↔◌, flat_map, option_map, unwrap_or}
use Rattle.xr_types.specs.declared.calls.Call.TheVariants as ask
use Rattle.xr_types.specs.declared.input.Binding.{Binding}
use Rattle.xr_types.specs.declared.input.Profile.{Profile}
use Rattle.xr_model.specs.machine.Machine.{rule}
use Rattle.xr_model.specs.machine.Rules.Bindings.{binding_checks, bindings_checks}
use Rattle.xr_model.specs.machine.Sets.{Set, Action, set_at, action_at, is_in_sealed_set}
use Rattle.xr_model.specs.machine.State.{CoreState}
use Rattle.xr_model.specs.laws.AskedLaws.{asking, holds_behind, IsOfAttachedSet, BindingsAreOfNewSets}
use Rattle.xr_model.proofs.ActionSpaces.{same_action, no_action}

same_set : (a b : Set) → Some a ≡ Some b → a ≡ b
same_set a b e = cc

no_set : (b : Set) → None ≡ Some b → ⊥
no_set b e = cc

sealed_is : (s : CoreState) (action : ℕ) → (is_in_sealed_set s.inputs action ≡ true) ↔ IsOfAttachedSet s action
sealed_is s action = by (action_at s.inputs action) refl
  where
    of_set : (x : Action) → action_at s.inputs action ≡ Some x → (o : Option Set) → set_at s.inputs x.set ≡ o
        → (unwrap_or (option_map (λ (y : Set). y.sealed) o) false ≡ true) ↔ IsOfAttachedSet s action
    of_set x ex None eo = (
      λ e. absurd (true≢false (sym e)),
      λ it. absurd (no_set it.set (sym eo ∙ ap (λ (y : Action). set_at s.inputs y.set) (same_action x it.it (sym ex ∙ it.is)) ∙ it.of)),
    )
    of_set x ex (Some y) eo = (
      λ e. record { it = x; is = ex; set = y; of = eo; sealed = e },
      λ it. ap (λ (z : Set). z.sealed) (same_set y it.set (sym eo ∙ ap (λ (z : Action). set_at s.inputs z.set)
          (same_action x it.it (sym ex ∙ it.is)) ∙ it.of)) ∙ it.sealed,
    )

    by : (a : Option Action) → action_at s.inputs action ≡ a
        → (unwrap_or (option_map (λ set. unwrap_or (option_map (λ (y : Set). y.sealed) (set_at s.inputs set)) false)
        (option_map (λ (x : Action). x.set) a)) false ≡ true)
        ↔ IsOfAttachedSet s action
    by None ea = (λ e. absurd (true≢false (sym e)), λ it. absurd (no_action it.it (sym ea ∙ it.is)))
    by (Some x) ea = of_set x ea (set_at s.inputs x.set) refl

behind_bindings : (s : CoreState) (which : Profile) (front list : List Binding) (k : ℕ)
    → holds_behind (4 * length front + k) (flat_map (binding_checks s which) (front ++ list)) ≡ holds_behind k (flat_map (binding_checks s which) list)
behind_bindings s which [] list k = ap (λ (n : ℕ). holds_behind n (flat_map (binding_checks s which) list)) (omega arith)
behind_bindings s which (x ∷ front) list k =
    let count : 4 * suc (length front) + k ≡ suc (suc (suc (suc (4 * length front + k)))) = omega arith in
    ap (λ (n : ℕ). holds_behind n (flat_map (binding_checks s which) (x ∷ (front ++ list)))) count ∙ behind_bindings s which front list k

pub bindings_are_of_new_sets : BindingsAreOfNewSets
bindings_are_of_new_sets s reads e0 instance profile which front b behind is =
    let list = front ++ b ∷ behind in
    let asked = (rule s reads (asking e0 (ask.SuggestBindings instance profile list))).behind in
    let fifth : 4 * length front + 5 ≡ suc (suc (suc (suc (4 * length front + 1)))) = omega arith in
    let sixth : 4 * length front + 6 ≡ suc (suc (suc (suc (4 * length front + 2)))) = omega arith in
    let one = ap (λ (n : ℕ). holds_behind n asked) fifth ∙ ap (λ o. holds_behind (4 * length front + 1) (bindings_checks s o list)) is
    ∙ behind_bindings s which front (b ∷ behind) 1 in
    let other = ap (λ (n : ℕ). holds_behind n asked) sixth ∙ ap (λ o. holds_behind (4 * length front + 2) (bindings_checks s o list)) is
    ∙ behind_bindings s which front (b ∷ behind) 2 in
    let sealed = sealed_is s b.action in
    record { attached = (λ e. sealed.0 (sym one ∙ e), λ it. one ∙ sealed.1 it); path = other }
