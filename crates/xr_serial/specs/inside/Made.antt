-- A call that was made, or has to wait.
use Rattle.std.specs.Prelude.{◌≡◌, ℕ, Bool, true, false, List, [], ◌∷◌, ◌++◌, Option, Some, None, if◌then◌else◌}
use Rattle.xr_types.specs.declared.calls.Actor.{Actor}
use Rattle.xr_types.specs.declared.calls.Actor.TheVariants.{Compositor}
use Rattle.xr_types.specs.declared.calls.Gives.{Gives}
use Rattle.xr_types.specs.declared.calls.Reply.{Reply}
use Rattle.xr_types.specs.declared.calls.Gives.TheVariants as gives
use Rattle.xr_types.specs.declared.frames.Shown.{Shown}
use Rattle.xr_model.specs.machine.Calls.{Entry, Outcome, Exchange, is_actor}
use Rattle.xr_types.specs.declared.calls.Call.{Call}
use Rattle.xr_types.specs.declared.calls.Call.TheVariants as ask
use Rattle.xr_model.specs.machine.CoreCalls.{entry_of}
use Rattle.xr_model.specs.machine.State.{State}
use Rattle.xr_model.specs.machine.Machine.{IsAllowed, ready, step}
use Rattle.xr_types.specs.declared.made.Made.{Made}
use Rattle.xr_model.specs.runs.Lists.{made_at}
use Rattle.xr_runs.specs.Sides.{exchange_of}

-- An answered call: its entry is allowed and ready, and the outcome and the new state are the machine's.
pub record IsAnswered (old new : State) (who : Actor) (what : Call) (outcome : Outcome) : Type 0 where
  pub allowed : IsAllowed old (entry_of who what outcome.reply)
  pub is_ready : ready old (entry_of who what outcome.reply) ≡ true
  pub leads : new ≡ (step old (entry_of who what outcome.reply)).0
  pub comes : (step old (entry_of who what outcome.reply)).1 ≡ outcome

-- the call before it is answered
abbrev pub asked : Actor → Call → Entry
asked who what = record { actor = who; call = what; given = 0; short = false }

-- the frame that a call shows by its reply, where one is left in its place; only the compositor's call shows any
abbrev pub frame_told : Gives → Shown → Option Shown
frame_told gives.Shown frame = Some frame
frame_told _ frame = None

abbrev pub frame_shown : Call → Gives → Shown → Option Shown
frame_shown ask.NextFrame given frame = frame_told given frame
frame_shown _ given frame = None

-- what an answered call came to, by the frame that was left in its place
abbrev pub outcome_with : Call → Reply → List ℕ → Shown → Outcome
outcome_with what reply text frame = record { reply = reply; text = text; shown = frame_shown what reply.gives frame }

-- ---- a call that its actor keeps

-- It was made, and stands at the end of the list as the call of the op at this place.
pub record CallMade (old new : State) (who : Actor) (what : Call) (place : ℕ) (list after : List Made) : Type 0 where
  pub outcome : Outcome
  pub call : IsAnswered old new who what outcome
  pub listed : after ≡ list ++ made_at place (exchange_of what outcome) ∷ []

-- It has to wait, and all is as it was.
pub record CallWaits (old new : State) (who : Actor) (what : Call) (list after : List Made) : Type 0 where
  pub waits : ready old (asked who what) ≡ false
  pub same : new ≡ old
  pub unlisted : after ≡ list

abbrev pub CallTurn : State → State → Actor → Call → ℕ → List Made → List Made → Bool → Type 0
CallTurn old new who what place list after true = CallMade old new who what place list after
CallTurn old new who what place list after false = CallWaits old new who what list after

-- ---- a call of the compositor, which puts its frame into a place

-- It was made, or it has to wait and all is as it was.
abbrev pub ComposedOrWaits : State → State → Call → Shown → Option Reply → Type 0
ComposedOrWaits old new what frame (Some reply) = (text : List ℕ) × IsAnswered old new Compositor what (outcome_with what reply text frame)
ComposedOrWaits old new what frame None = (new ≡ old) × (ready old (asked Compositor what) ≡ false)

-- each actor's calls, once this actor has made one more
abbrev pub calls_with : (Actor → List Exchange) → Actor → Exchange → Actor → List Exchange
calls_with calls by t who = if is_actor who by then calls who ++ t ∷ [] else calls who
