-- The rule of the call that suggests bindings (OpenXR 1.0 chapter 11, xrSuggestInteractionProfileBindings).
use Rattle.std.specs.Prelude.{ℕ, true, List, [], ◌∷◌, ◌++◌, flat_map, filter_map, Option, Some, None, is_none, option_map, option_and_then}
use Rattle.xr_types.specs.declared.code.Code.TheVariants.{PathInvalid, PathUnsupported, ActionsetsAlreadyAttached}
use Rattle.xr_types.specs.declared.calls.Gives.TheVariants.{Nothing}
use Rattle.xr_types.specs.declared.handles.Kind.TheVariants.{Instance, Action}
use Rattle.xr_types.specs.declared.input.Binding.{Binding}
use Rattle.xr_types.specs.declared.input.Bound.{Bound}
use Rattle.xr_types.specs.declared.input.Pick.{Pick}
use Rattle.xr_types.specs.declared.input.Profile.{Profile}
use Rattle.xr_model.specs.machine.Bindings.{number_checks, with_suggestions}
use Rattle.xr_model.specs.machine.Handles.{no_handle}
use Rattle.xr_model.specs.machine.Paths.{text_at}
use Rattle.xr_model.specs.machine.Profiles.{profile_of, component}
use Rattle.xr_model.specs.machine.Refusals.{Refusal, when}
use Rattle.xr_model.specs.machine.Sets.{type_of_action, is_in_sealed_set}
use Rattle.xr_model.specs.machine.State.{CoreState}
use Rattle.xr_model.specs.machine.Rule.{Rule, ordinary, done}

-- the profile of an atom, where it is one's
abbrev pub profile_at : List (List ℕ) → ℕ → Option Profile
profile_at atoms profile = option_and_then profile_of (text_at atoms profile)

-- what refuses a profile by its atom: it is no atom, or no profile's
abbrev pub profile_checks : List (List ℕ) → ℕ → List Refusal
profile_checks atoms profile = when (is_none (text_at atoms profile)) PathInvalid ∷ when (is_none (profile_at atoms profile)) PathUnsupported ∷ []

-- ---- one binding

-- what a binding picks of a profile's controller: for the action's type, by the path's text
abbrev pub pick_of : CoreState → Profile → Binding → Option Pick
pick_of s which b = option_and_then (λ type. option_and_then (component which type) (text_at s.atoms b.path)) (type_of_action s.inputs b.action)

-- what refuses a binding: its action, its action's set, its path, or that the controller has no such part for the action
abbrev pub binding_checks : CoreState → Profile → Binding → List Refusal
binding_checks s which b =
    no_handle s.handles Action b.action
    ∷ when (is_in_sealed_set s.inputs b.action) ActionsetsAlreadyAttached
    ∷ when (is_none (text_at s.atoms b.path)) PathInvalid
    ∷ when (is_none (pick_of s which b)) PathUnsupported
    ∷ []

abbrev pub bound_of : CoreState → Profile → Binding → Option Bound
bound_of s which b = option_map (λ pick. record { action = b.action; pick = pick }) (pick_of s which b)

-- ---- all bindings of a call

-- what refuses them, one after another
abbrev pub bindings_checks : CoreState → Option Profile → List Binding → List Refusal
bindings_checks s None list = []
bindings_checks s (Some which) list = flat_map (binding_checks s which) list

-- what is suggested once they took the place of what was suggested for the profile
abbrev pub suggested : CoreState → Option Profile → List Binding → List (List Bound)
suggested s None list = s.suggestions
suggested s (Some which) list = with_suggestions s.suggestions which (filter_map (bound_of s which) list)

-- xrSuggestInteractionProfileBindings
abbrev pub suggest_bindings_rule : CoreState → ℕ → ℕ → List Binding → Rule
suggest_bindings_rule s instance profile list = record (ordinary s) {
  handles = no_handle s.handles Instance instance ∷ [];
  behind = profile_checks s.atoms profile ++ (number_checks list ++ bindings_checks s (profile_at s.atoms profile) list);
  takes_memory = true;
  effect = done (record s { suggestions = suggested s (profile_at s.atoms profile) list }) Nothing;
}
