-- What holds of the table of states, of the rounds in which sessions settle, and of where both lead the sessions of a history.
use Rattle.std.specs.Prelude.{◌≡◌, ◌==◌, ◌&&◌, ℕ, Bool, true, false, List, Option, Some, None, if◌then◌else◌}
use Rattle.xr_types.specs.Code.{is_success}
use Rattle.xr_types.specs.declared.calls.Call.{Call}
use Rattle.xr_types.specs.declared.calls.Call.TheVariants as ask
use Rattle.xr_types.specs.declared.device.DeviceEvent.TheVariants as event
use Rattle.xr_types.specs.declared.device.Wish.{Wish}
use Rattle.xr_types.specs.declared.device.Wish.TheVariants as wish
use Rattle.xr_types.specs.declared.session.SessionState.{SessionState}
use Rattle.xr_types.specs.declared.session.SessionState.TheVariants.{Idle, Ready, Synchronized, Visible, Focused, Stopping, LossPending, Exiting}
use Rattle.xr_model.specs.machine.Calls.{Entry}
use Rattle.xr_model.specs.machine.LiveSessions.{Session, session_at}
use Rattle.xr_model.specs.machine.SessionLife.{Life, next_state, settled_session}
use Rattle.xr_model.specs.machine.State.{Settings, opening}
use Rattle.xr_model.specs.machine.Machine.{step}
use Rattle.xr_model.specs.machine.History.{after}
use Rattle.xr_model.specs.machine.Target.{Standing, target_of, round_for, rounds, most_rounds, own_wish}

-- where a session has settled, no row fits
abbrev pub NoRowFits : Type 0
NoRowFits = (w : Wish) (life : Life) → next_state w (settled_session w life).life.exit (settled_session w life).life.state ≡ None

-- One round is all of them: where the target has changed by then, nothing is left to change.
abbrev pub OneRoundIsEnough : Type 0
OneRoundIsEnough = (w : Wish) (t : Standing) → rounds most_rounds w t ≡ round_for w (target_of t.sessions) t

-- ---- the table

-- Where a state leads by itself, told the session's part of the device's wish and whether its end was asked for (OpenXR 1.0 chapter 9,
-- "Session Lifecycle"). A ready session waits for its first frame, and a stopping one for its end.
abbrev pub leads_to : SessionState → Wish → Bool → Option SessionState
leads_to Idle w true = Some Exiting
leads_to Idle wish.Rest false = None
leads_to Idle w false = Some Ready
leads_to Synchronized w true = Some Stopping
leads_to Synchronized wish.Rest false = Some Stopping
leads_to Synchronized wish.Ready false = None
leads_to Synchronized w false = Some Visible
leads_to Visible w true = Some Synchronized
leads_to Visible wish.Visible false = None
leads_to Visible wish.Focused false = Some Focused
leads_to Visible w false = Some Synchronized
leads_to Focused wish.Focused false = None
leads_to Focused w exit = Some Visible
leads_to _ w exit = None

-- the first row that fits leads there
abbrev pub NextStates : Type 0
NextStates = (w : Wish) (exit : Bool) (state : SessionState) → next_state w exit state ≡ leads_to state w exit

-- ---- the states of a history

-- Where a state comes to rest. A session in one of the three states of a running frame loop stops where its end was asked for or the
-- device rests, and else comes to the state that the device wishes.
abbrev pub wished : Wish → Bool → SessionState
wished w true = Stopping
wished wish.Rest false = Stopping
wished wish.Ready false = Synchronized
wished wish.Visible false = Visible
wished wish.Focused false = Focused

abbrev pub rests_at : SessionState → Wish → Bool → SessionState
rests_at Idle w true = Exiting
rests_at Idle wish.Rest false = Idle
rests_at Idle w false = Ready
rests_at Synchronized w exit = wished w exit
rests_at Visible w exit = wished w exit
rests_at Focused w exit = wished w exit
rests_at state w exit = state

-- the first frame that is ended synchronizes a ready session
abbrev pub first_frame : SessionState → SessionState
first_frame Ready = Synchronized
first_frame state = state

-- a loss takes all but an exiting one
abbrev pub lost_to : SessionState → SessionState
lost_to Exiting = Exiting
lost_to state = LossPending

-- where a call brings a session with this handle that is in this state, told whether it succeeds
abbrev pub brought_to : Call → ℕ → Bool → SessionState → SessionState
brought_to (ask.EndFrame session time blend layers) handle good state = if good && (session == handle) then first_frame state else state
brought_to (ask.EndSession session) handle good state = if good && (session == handle) then Idle else state
brought_to (ask.Device event.Loss) handle good state = lost_to state
brought_to _ handle good state = state

-- the state of what was listed, where something was; a new session is idle
abbrev pub state_before : Option Session → SessionState
state_before None = Idle
state_before (Some x) = x.life.state

-- In every history a listed session rests, behind each entry, where the state leads to which the entry brings it, under its own part of
-- the device's wish and by whether its end was asked for.
abbrev pub StatesFollowTheTable : Type 0
StatesFollowTheTable =
    (settings : Settings) (es : List Entry) (e : Entry) (session : ℕ) (y : Session)
    → session_at (step (after (opening settings) es) e).0.core.sessions session ≡ Some y
    → y.life.state
    ≡ rests_at (brought_to e.call session (is_success (step (after (opening settings) es) e).1.reply.code) (state_before (session_at (after (opening settings) es).core.sessions session)))
    (own_wish (step (after (opening settings) es) e).0.core.device.wish (target_of (step (after (opening settings) es) e).0.core.sessions) y) y.life.exit
