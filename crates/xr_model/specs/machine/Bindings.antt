-- What is suggested for each profile (OpenXR 1.0 chapter 11, xrSuggestInteractionProfileBindings). How many may be suggested at
-- once is this project's own.
use Rattle.std.specs.Prelude.{ℕ, ◌==◌, not, nat_le, List, [], ◌∷◌, ◌++◌, Bool, length, map, replicate, slice_get, slice_set, unwrap_or}
use Rattle.std.specs.List.{filter}
use Rattle.xr_types.specs.declared.code.Code.TheVariants.{ValidationFailure, LimitReached, OutOfMemory}
use Rattle.xr_types.specs.declared.input.Bound.{Bound}
use Rattle.xr_types.specs.declared.input.Profile.{Profile}
use Rattle.xr_types.specs.declared.input.Profile.TheVariants as profile
use Rattle.xr_types.specs.declared.limits.TheConstants.{MOST_SUGGESTED}
use Rattle.xr_model.specs.machine.Handles.{is_among}
use Rattle.xr_model.specs.machine.Refusals.{Refusal, when}

-- the place of a profile among the four
abbrev pub profile_place : Profile → ℕ
profile_place profile.Simple = 0
profile_place profile.Touch = 1
profile_place profile.Vive = 2
profile_place profile.Xbox = 3

-- what is suggested for each profile, in the order of the call
abbrev pub no_suggestions : List (List Bound)
no_suggestions = replicate 4 []

abbrev pub suggestions_of : List (List Bound) → Profile → List Bound
suggestions_of suggestions which = unwrap_or (slice_get suggestions (profile_place which)) []

-- what refuses suggestions by their number
abbrev pub number_checks : {T : Type 0} → List T → List Refusal
number_checks bindings = when (length bindings == 0) ValidationFailure ∷ when (not (nat_le (length bindings) MOST_SUGGESTED)) LimitReached ∷ []

-- what refuses them by their number, and for want of memory behind that
abbrev pub suggest_refusals : {T : Type 0} → List T → Bool → List Refusal
suggest_refusals bindings short = number_checks bindings ++ when short OutOfMemory ∷ []

-- these take the place of what was suggested for the profile
abbrev pub with_suggestions : List (List Bound) → Profile → List Bound → List (List Bound)
with_suggestions suggestions which bindings = slice_set suggestions (profile_place which) bindings

-- without those of an action
abbrev pub without_suggestions_of : List (List Bound) → ℕ → List (List Bound)
without_suggestions_of suggestions action = map (λ bindings. filter (λ b. not (b.action == action)) bindings) suggestions

-- without those of these actions
abbrev pub without_suggestions : List (List Bound) → List ℕ → List (List Bound)
without_suggestions suggestions handles = map (λ bindings. filter (λ b. not (is_among handles b.action)) bindings) suggestions
