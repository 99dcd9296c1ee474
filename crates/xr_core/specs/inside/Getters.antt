-- What the method of a getter says.
use Rattle.std.specs.Prelude.{◌≡◌, ℕ, ◌==◌, List, Option, None, Result, option_map, option_and_then, unwrap_or, slice_get, if◌then◌else◌}
use Rattle.xr_types.specs.declared.calls.Actor.{Actor}
use Rattle.xr_types.specs.declared.calls.Gives.{Gives}
use Rattle.xr_types.specs.declared.calls.Gives.TheVariants.{Nothing}
use Rattle.xr_types.specs.declared.calls.Reply.{Reply}
use Rattle.xr_types.specs.declared.code.Code.{Code}
use Rattle.xr_types.specs.declared.code.Code.TheVariants.{Success}
use Rattle.xr_types.specs.declared.handles.Kind.TheVariants as kind
use Rattle.xr_types.specs.declared.input.ActionType.{ActionType}
use Rattle.xr_model.specs.machine.HandlePlaces.{place_among}
use Rattle.xr_model.specs.machine.LiveSessions.{Session, session_at}
use Rattle.xr_model.specs.machine.PartAnswers.{or_refused}
use Rattle.xr_model.specs.machine.Publication.{publication_of, loss_read, getter_gives, shown_by, shown_of}
use Rattle.xr_model.specs.machine.Refusals.{first_of}
use Rattle.xr_model.specs.machine.Rule.{refusals}
use Rattle.xr_model.specs.machine.SessionLife.{Life}
use Rattle.xr_model.specs.machine.SessionRule.{code_on}
use Rattle.xr_model.specs.machine.Machine.{rule_of}
use Rattle.xr_types.specs.declared.calls.Call.{Call}
use Rattle.xr_model.specs.machine.Rules.Session.{columns_of}
use Rattle.xr_model.specs.machine.Rules.Sync.{getter_rule}
use Rattle.xr_model.specs.machine.State.{CoreState, CellReads}
use Rattle.xr_core.specs.declared.halt.Halt.{Halt}
use Rattle.xr_core.specs.inside.Deciding.{Decides}

-- what getters look at of a session: its life, and the action sets that it has attached
abbrev pub look : Session → Life × Option (List ℕ)
look x = (x.life, x.attached)

-- the same of the session with this handle; 0 is nobody's
abbrev pub named_look : List Session → ℕ → Option (Life × Option (List ℕ))
named_look xs session = if session == 0 then None else option_map look (session_at xs session)

-- what a column of an action shows in a session to a getter of this type, and nothing where there is none
abbrev pub shown_at : CoreState → ℕ → ActionType → ℕ → ℕ → Gives
shown_at s session wanted action column =
    unwrap_or (option_map (λ c. shown_by wanted (shown_of c)) (option_and_then (λ place. option_and_then (λ row. slice_get row column) (slice_get (columns_of s session) place)) (place_among s.handles kind.Action action))) Nothing

-- what a getter of this type gives beside its code, and what refuses it
abbrev pub getter_reads : CoreState → ActionType → ℕ → ℕ → ℕ → Result (Code × Gives) Code
getter_reads s wanted session action sub =
    or_refused (first_of (refusals (getter_rule s wanted session action sub))) (code_on (loss_read (publication_of s) session) Success, getter_gives (publication_of s) wanted session action sub)

-- it decides each call whose rule is that of a getter of this type
abbrev pub DecidesGetter : CoreState → ActionType → ℕ → ℕ → ℕ → Result Reply Halt → Type 0
DecidesGetter s wanted session action sub result =
    (what : Call) → ((who : Actor) (reads : CellReads) (given : ℕ) → rule_of s reads who given what ≡ getter_rule s wanted session action sub) → Decides s what s result
