-- What is suggested for a profile is the last list that was taken for it, without the actions that went.
use Rattle.std.specs.Prelude.{◌≡◌, ◌==◌, Bool, false, List, [], ◌∷◌, filter_map, Option, Some, None, if◌then◌else◌}
use Rattle.std.specs.List.{filter}
use Rattle.xr_types.specs.Code.{is_success}
use Rattle.xr_types.specs.declared.handles.Kind.TheVariants.{Action}
use Rattle.xr_types.specs.declared.input.Bound.{Bound}
use Rattle.xr_types.specs.declared.input.Profile.{Profile}
use Rattle.xr_model.specs.machine.Calls.{Entry}
use Rattle.xr_types.specs.declared.calls.Call.{Call}
use Rattle.xr_types.specs.declared.calls.Call.TheVariants as ask
use Rattle.xr_model.specs.machine.Bindings.{profile_place, suggestions_of}
use Rattle.xr_model.specs.machine.Handles.{is_live}
use Rattle.xr_model.specs.machine.Rules.Bindings.{profile_at, bound_of}
use Rattle.xr_model.specs.machine.State.{CoreState, Settings, State, opening}
use Rattle.xr_model.specs.machine.Machine.{step}
use Rattle.xr_model.specs.machine.History.{after, IsLegal}

-- an atom's profile, where it has one, is this profile
abbrev pub is_profile : Option Profile → Profile → Bool
is_profile None which = false
is_profile (Some profile) which = profile_place profile == profile_place which

-- the list that a call brings for a profile; each other call leaves the list that was there
abbrev pub brought_by : CoreState → Profile → List Bound → Call → List Bound
brought_by s which before (ask.SuggestBindings instance profile list) =
    if is_profile (profile_at s.atoms profile) which then filter_map (bound_of s which) list else before
brought_by s which before _ = before

-- a list is taken where the call that brings it succeeds
abbrev pub taken_by : State → Profile → List Bound → Entry → List Bound
taken_by s which before e = if is_success (step s e).1.reply.code then brought_by s.core which before e.call else before

-- the last list that was taken for a profile, told what it was before these entries
abbrev pub last_taken : State → Profile → List Bound → List Entry → List Bound
last_taken s which before [] = before
last_taken s which before (e ∷ es) = last_taken (step s e).0 which (taken_by s which before e) es

-- After every legal history, what is suggested for a profile is that list without the actions that are no longer live.
abbrev pub SuggestionsAreTheLastTaken : Type 0
SuggestionsAreTheLastTaken =
    (settings : Settings) (es : List Entry) (which : Profile) → IsLegal settings es
    → suggestions_of (after (opening settings) es).core.suggestions which
    ≡ filter (λ b. is_live (after (opening settings) es).core.handles Action b.action) (last_taken (opening settings) which [] es)
