-- What was published last in a history, and what a getter reads of it (OpenXR 1.0 chapter 11, the getters of action states).
use Rattle.std.specs.Prelude.{ℕ, ◌++◌, List, [], ◌∷◌, Option, Some, None, if◌then◌else◌}
use Rattle.xr_types.specs.declared.calls.Gives.{Gives}
use Rattle.xr_types.specs.declared.code.Code.TheVariants.{Success}
use Rattle.xr_types.specs.declared.input.ActionType.{ActionType}
use Rattle.xr_types.specs.declared.input.ActionType.TheVariants as type
use Rattle.xr_model.specs.machine.Calls.{Entry, Outcome}
use Rattle.xr_types.specs.declared.calls.Call.{Call}
use Rattle.xr_types.specs.declared.calls.Call.TheVariants as ask
use Rattle.xr_model.specs.machine.Publication.{Publication, publication_of, loss_read, getter_handles, getter_checks, getter_gives}
use Rattle.xr_types.specs.CallKinds.{publishes}
use Rattle.xr_model.specs.machine.Refusals.{Refusal, first_of}
use Rattle.xr_model.specs.machine.SessionRule.{Loss, code_on, losses}
use Rattle.xr_model.specs.machine.State.{Settings, State, opening}
use Rattle.xr_model.specs.machine.Machine.{step}

-- ---- what was published last

-- what was published last, once an entry was made
abbrev pub published_behind : Publication → State → Entry → Publication
published_behind p s e = if publishes e.call (step s e).1.reply.code then publication_of (step s e).0.core else p

-- what was published last behind a history that begins in this state, where this was published before it
abbrev pub published_from : Publication → State → List Entry → Publication
published_from p s [] = p
published_from p s (e ∷ es) = published_from (published_behind p s e) (step s e).0 es

-- a run begins with the publication of its opening state
abbrev pub published_last : Settings → List Entry → Publication
published_last settings history = published_from (publication_of (opening settings).core) (opening settings) history

-- ---- what a getter reads

-- what refuses a getter, in its order
abbrev pub getter_refusals : Publication → ActionType → ℕ → ℕ → ℕ → List Refusal
getter_refusals p wanted session action sub = getter_handles p session action ++ (losses (Some (loss_read p session)) ++ getter_checks p wanted session action sub)

-- what is answered on a session with this loss; its place is that of the call which published
abbrev pub answered : Publication → Loss → Option Refusal → Gives → Outcome
answered p loss None value = record { reply = record { code = code_on loss Success; gives = value; place = p.number }; text = []; shown = None }
answered p loss (Some r) value = record { reply = record { code = r.code; gives = r.gives; place = p.number }; text = []; shown = None }

abbrev pub read : Publication → ActionType → ℕ → ℕ → ℕ → Outcome
read p wanted session action sub =
    answered p (loss_read p session) (first_of (getter_refusals p wanted session action sub)) (getter_gives p wanted session action sub)

-- what is read of a publication, by a call that is a getter
abbrev pub reads : Publication → Call → Option Outcome
reads p (ask.GetBoolean session action sub) = Some (read p type.Boolean session action sub)
reads p (ask.GetFloat session action sub) = Some (read p type.Float session action sub)
reads p (ask.GetVector session action sub) = Some (read p type.Vector session action sub)
reads p (ask.GetPoseActive session action sub) = Some (read p type.Pose session action sub)
reads p _ = None
