-- What changes sessions before they settle, and what is left of inputs and spaces where actions are gone.
use Rattle.std.specs.Prelude.{is_none, ◌==◌, ◌+◌, ◌++◌, ℕ, Bool, ◌∷◌, List, [], map, Option, Some, None}
use Rattle.std.specs.List.{position_from}
use Rattle.xr_types.specs.declared.code.Code.{Code}
use Rattle.xr_types.specs.declared.device.Wish.{Wish}
use Rattle.xr_types.specs.declared.session.SessionState.{SessionState}
use Rattle.xr_types.specs.declared.handles.Kind.TheVariants as kind
use Rattle.xr_types.specs.declared.input.Column.{Column}
use Rattle.xr_model.specs.machine.Bindings.{without_suggestions}
use Rattle.xr_model.specs.machine.Destroyed.{has_action, sessions_left, spaces_left}
use Rattle.xr_model.specs.machine.Frames.{reset_loop}
use Rattle.xr_model.specs.machine.Handles.{with_handle, without, destroyed_by}
use Rattle.xr_model.specs.machine.Refusals.{Refusal, first_of, unless}
use Rattle.xr_types.specs.declared.calls.Call.{Call}
use Rattle.xr_types.specs.declared.calls.Call.TheVariants as ask
use Rattle.xr_model.specs.machine.SessionLife.{Life, Changed, unchanged, next_state, losing_session, lost_session, is_lost, begin_checks, begun_session, end_checks, ended_session, exit_checks, exiting_session}
use Rattle.xr_model.specs.machine.PartAnswers.{code_by}
use Rattle.xr_model.specs.machine.LiveSessions.{Session, session_at, with_columns, with_session_at, told_states}
use Rattle.xr_model.specs.machine.Sets.{without_inputs}
use Rattle.xr_model.specs.machine.Spaces.{left_spaces}
use Rattle.xr_model.specs.machine.State.{CoreState}
use Rattle.xr_model.specs.machine.Sync.{left_columns}
use Rattle.xr_model.specs.machine.Target.{own_wish, other_settled, target_settled}
use Rattle.xr_model.specs.machine.Rules.Session.{life_of, loop_of, new_session, changed_in, told_of, with_loop}
use Rattle.xr_core.specs.declared.sessions.Change.{Change}
use Rattle.xr_core.specs.declared.sessions.Change.TheVariants.{Others, Target, Loss, Lost}
use Rattle.xr_core.specs.declared.sessions.LifeCall.{LifeCall}
use Rattle.xr_core.specs.declared.sessions.LifeCall.TheVariants.{Begin, End, RequestExit}

-- what happens to all sessions does this to each
abbrev pub change_by : Change → Session → Changed
change_by (Others wish target) = other_settled wish target
change_by (Target wish target) = target_settled wish target
change_by Loss = λ x. losing_session x.life
change_by Lost = λ x. unchanged (lost_session x.life)

-- a session has settled where no row of the table of states fits it, by its own part of the device's wish
abbrev pub has_settled : Wish → ℕ → Session → Bool
has_settled w target x = is_none (next_state (own_wish w target x) x.life.exit x.life.state)

-- ---- one session before all settle

-- a new session stands behind the others, and its first states are told
abbrev pub session_added : CoreState → ℕ → ℕ → Changed → CoreState
session_added s instance given c = record s {
  handles = with_handle s.handles kind.Session instance given;
  sessions = s.sessions ++ new_session s given c.life ∷ [];
  events = told_states s.events (s.created + 1) given c.through;
  created = s.created + 1;
}

-- the session has changed, and its states are told
abbrev pub changed_alone : CoreState → Option Session → (Life → Changed) → CoreState
changed_alone s o f = record s { sessions = changed_in o f s.sessions; events = told_of o f s.events }

-- ---- a call that changes one session

abbrev pub life_request : ℕ → LifeCall → Call
life_request session (Begin view) = ask.BeginSession session view
life_request session End = ask.EndSession session
life_request session RequestExit = ask.RequestExitSession session

-- what refuses it behind a lost session, and how the session changes
abbrev pub checks_of : LifeCall → Life → List Refusal
checks_of (Begin view) life = begin_checks life view
checks_of End life = end_checks life
checks_of RequestExit life = exit_checks life

abbrev pub change_of : Wish → LifeCall → Life → Changed
change_of w (Begin view) life = unchanged (begun_session life)
change_of w End life = ended_session w life
change_of w RequestExit life = exiting_session w life

abbrev pub refusals_of : LifeCall → Life → List Refusal
refusals_of call life = is_lost life ∷ checks_of call life

-- what is left of the life, what is told and what is answered
unfoldable pub life_after : Wish → LifeCall → Life → Life
life_after w call life = unless (first_of (refusals_of call life)) life (change_of w call life).life

unfoldable pub told_after : Wish → LifeCall → Life → List SessionState
told_after w call life = unless (first_of (refusals_of call life)) [] (change_of w call life).through

unfoldable pub answer_to : LifeCall → Life → Code
answer_to call life = code_by (first_of (refusals_of call life))

-- the core once the call was made of the session with this handle, and before all settle
unfoldable pub changed_life : CoreState → ℕ → LifeCall → CoreState
changed_life s session call =
    unless (first_of (refusals_of call (life_of s session))) s (changed_alone s (session_at s.sessions session) (change_of s.device.wish call))

-- where the call begins or ends a running period, no frame of the session is waited for or begun
abbrev pub with_period : CoreState → ℕ → LifeCall → CoreState
with_period s session (Begin view) = with_loop s session (reset_loop (loop_of s session))
with_period s session End = with_loop s session (reset_loop (loop_of s session))
with_period s session RequestExit = s

abbrev pub ordinal_in : Option Session → ℕ
ordinal_in None = 0
ordinal_in (Some x) = x.ordinal

-- actions show this in the session from now on
abbrev pub with_shown : CoreState → ℕ → List (List Column) → CoreState
with_shown s session columns = record s { sessions = with_session_at session (with_columns columns) s.sessions }

-- what actions show in any session, and what spaces move with, is gone where no action stands
abbrev pub with_places_left : CoreState → CoreState
with_places_left s = record s {
  sessions = map (λ x. with_columns (left_columns (has_action s.handles.actions) x.columns) x) s.sessions;
  room = left_spaces (has_action s.handles.actions) s.room;
}

-- where a session stands, from 0
abbrev pub place_at : List Session → ℕ → Option ℕ
place_at xs handle = position_from (λ x. x.handle == handle) 0 xs

-- A handle and all below it are out of all parts but the swapchains. The sessions that are left haven't settled.
abbrev pub taken_out : CoreState → ℕ → CoreState
taken_out s handle = record s {
  handles = without s.handles handle;
  sessions = sessions_left (without s.handles handle) (destroyed_by s.handles handle) s.sessions;
  inputs = without_inputs s.inputs (destroyed_by s.handles handle);
  suggestions = without_suggestions s.suggestions (destroyed_by s.handles handle);
  room = spaces_left s.handles handle s.room;
}
