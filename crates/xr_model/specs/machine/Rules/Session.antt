-- The rules of the calls on sessions (OpenXR 1.0 chapter 9, "Session").
use Rattle.std.specs.Prelude.{ℕ, ◌+◌, ◌==◌, not, List, [], ◌∷◌, ◌++◌, Option, Some, None}
use Rattle.xr_types.specs.declared.code.Code.TheVariants.{SystemInvalid}
use Rattle.xr_types.specs.declared.calls.Gives.TheVariants.{Nothing, Handle}
use Rattle.xr_types.specs.declared.handles.Kind.TheVariants.{Instance, Session}
use Rattle.xr_types.specs.declared.input.Column.{Column}
use Rattle.xr_types.specs.declared.session.ViewConfig.{ViewConfig}
use Rattle.xr_model.specs.machine.Events.{Queue}
use Rattle.xr_model.specs.machine.Frames.{FrameLoop, new_loop, reset_loop}
use Rattle.xr_model.specs.machine.Handles.{no_handle, no_room, with_handle, destroyed_by}
use Rattle.xr_model.specs.machine.Refusals.{Refusal, when}
use Rattle.xr_model.specs.machine.SessionLife.{Life, Changed, unchanged, started_session, begin_checks, begun_session, end_checks, ended_session, exit_checks, exiting_session}
use Rattle.xr_model.specs.machine.LiveSessions as sessions
use Rattle.xr_model.specs.machine.LiveSessions.{session_at, life_in, loop_in, shown_in, with_session_at, with_frame_loop, with_life_at, told_states}
use Rattle.xr_model.specs.machine.State.{CoreState}
use Rattle.xr_model.specs.machine.Sync.{no_columns}
use Rattle.xr_model.specs.machine.Target.{settled}
use Rattle.xr_model.specs.machine.Destroyed.{without_handle, freed_by}
use Rattle.xr_model.specs.machine.SessionRule.{loss_of}
use Rattle.xr_model.specs.machine.Rule.{Rule, ordinary, done, destroying}
use Rattle.xr_model.specs.machine.Rules.Instance.{the_system}

-- ---- coming and going

abbrev pub new_session : CoreState → ℕ → Life → sessions.Session
new_session s given life = record { handle = given; ordinal = s.created + 1; life = life; frame_loop = new_loop; attached = None; columns = no_columns }

-- a new session stands behind the others with no sets attached, a new loop of frames and all columns inactive, and its first states
-- are told
abbrev pub with_session : CoreState → ℕ → ℕ → Changed → CoreState
with_session s instance given c = settled (record s {
  handles = with_handle s.handles Session instance given;
  sessions = s.sessions ++ new_session s given c.life ∷ [];
  events = told_states s.events (s.created + 1) given c.through;
  created = s.created + 1;
})

-- xrCreateSession: of the one system, and as many sessions as may be live
abbrev pub create_session_rule : CoreState → ℕ → ℕ → ℕ → Rule
create_session_rule s given instance system = record (ordinary s) {
  handles = no_handle s.handles Instance instance ∷ [];
  behind = when (not (system == the_system)) SystemInvalid ∷ no_room s.handles Session ∷ [];
  creates = Some Session;
  effect = done (with_session s instance given (started_session s.device.wish)) (Handle given);
}

-- xrDestroySession: all below the session goes with it, and what actions showed in it; events that wait stay. It is refused for its
-- handle alone, also where the session is lost.
abbrev pub destroy_session_rule : CoreState → ℕ → Rule
destroy_session_rule s session = record (ordinary s) {
  handles = no_handle s.handles Session session ∷ [];
  effect = destroying (without_handle s session) (destroyed_by s.handles session) (freed_by s session);
}

-- ---- calls on a live session

-- the sessions once one of them has changed, where there is one, and what is told of it
abbrev pub changed_in : Option sessions.Session → (Life → Changed) → List sessions.Session → List sessions.Session
changed_in None f xs = xs
changed_in (Some x) f xs = with_life_at x.handle (f x.life).life xs

abbrev pub told_of : Option sessions.Session → (Life → Changed) → Queue → Queue
told_of None f q = q
told_of (Some x) f q = told_states q x.ordinal x.handle (f x.life).through

-- the session has changed, its states are told, and all settle
abbrev pub with_change : CoreState → Option sessions.Session → (Life → Changed) → CoreState
with_change s o f = settled (record s { sessions = changed_in o f s.sessions; events = told_of o f s.events })

-- the loop of frames of a session stands so
abbrev pub with_loop : CoreState → ℕ → FrameLoop → CoreState
with_loop s session l = record s { sessions = with_session_at session (with_frame_loop l) s.sessions }

abbrev pub loop_of : CoreState → ℕ → FrameLoop
loop_of s session = loop_in (session_at s.sessions session)

abbrev pub life_of : CoreState → ℕ → Life
life_of s session = life_in (session_at s.sessions session)

-- what actions show in it
abbrev pub columns_of : CoreState → ℕ → List (List Column)
columns_of s session = shown_in (session_at s.sessions session)

-- a call that changes a session: what refuses it, and how the session changes
abbrev pub changing_rule : CoreState → ℕ → List Refusal → (Life → Changed) → Rule
changing_rule s session checks f = record (ordinary s) {
  on = Some (loss_of (life_of s session));
  handles = no_handle s.handles Session session ∷ [];
  before = checks;
  effect = done (with_change s (session_at s.sessions session) f) Nothing;
}

-- the same of a call by which a running period begins or ends: no frame is waited for or begun then
abbrev pub period_rule : CoreState → ℕ → List Refusal → (Life → Changed) → Rule
period_rule s session checks f = record (changing_rule s session checks f) {
  effect = done (with_change (with_loop s session (reset_loop (loop_of s session))) (session_at s.sessions session) f) Nothing;
}

-- xrBeginSession
abbrev pub begin_session_rule : CoreState → ℕ → ViewConfig → Rule
begin_session_rule s session view = period_rule s session (begin_checks (life_of s session) view) (λ life. unchanged (begun_session life))

-- xrEndSession
abbrev pub end_session_rule : CoreState → ℕ → Rule
end_session_rule s session = period_rule s session (end_checks (life_of s session)) (ended_session s.device.wish)

-- xrRequestExitSession
abbrev pub request_exit_session_rule : CoreState → ℕ → Rule
request_exit_session_rule s session = changing_rule s session (exit_checks (life_of s session)) (exiting_session s.device.wish)
