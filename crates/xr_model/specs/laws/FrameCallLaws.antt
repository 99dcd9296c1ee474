-- What the calls on frames come to in every legal history: when a wait is held back and what it gives, when a frame is discarded, and
-- when the compositor is told the end.
use Rattle.std.specs.Prelude.{◌≡◌, ◌↔◌, ◌+◌, ◌==◌, ◌&&◌, ◌||◌, not, nat_le, nat_lt, int_le, int_lt, pos, ℕ, ℤ, Bool, true, false, List, [], ◌∷◌, length, None, if◌then◌else◌}
use Rattle.xr_types.specs.Code.{is_success}
use Rattle.xr_types.specs.declared.code.Code.TheVariants.{FrameDiscarded}
use Rattle.xr_types.specs.declared.calls.Actor.TheVariants.{App}
use Rattle.xr_types.specs.declared.calls.Call.{Call}
use Rattle.xr_types.specs.declared.calls.Call.TheVariants as ask
use Rattle.xr_types.specs.declared.calls.Gives.{Gives}
use Rattle.xr_types.specs.declared.calls.Gives.TheVariants as gives
use Rattle.xr_types.specs.declared.session.FrameState.{FrameState}
use Rattle.xr_types.specs.declared.session.SessionState.{SessionState}
use Rattle.xr_types.specs.declared.session.SessionState.TheVariants.{Visible, Focused}
use Rattle.xr_model.specs.machine.Calls.{Entry}
use Rattle.xr_model.specs.machine.Frames.{one_if, most_time}
use Rattle.xr_model.specs.machine.Refusals.{first_of}
use Rattle.xr_model.specs.machine.Rule.{refusals}
use Rattle.xr_model.specs.machine.Rules.Session.{life_of}
use Rattle.xr_model.specs.machine.State.{Settings, State, opening}
use Rattle.xr_model.specs.machine.Machine.{IsPresent, reads_of, ready, rule, step}
use Rattle.xr_model.specs.machine.History.{after, IsLegal}
use Rattle.xr_model.specs.laws.DecidedEntries.{past_of, waits, begins, is_begun, period}
use Rattle.xr_model.specs.laws.FrameLaws.{IsPredicted}
use Rattle.xr_model.specs.laws.SessionLaws.{creates_session}

-- nothing refuses the entry in this state
abbrev pub IsUnrefused : State → Entry → Type 0
IsUnrefused s e = first_of (refusals (rule s.core (reads_of s e.call) e)) ≡ None

-- ---- rendering

-- what a session in this state renders is shown (OpenXR 1.0 chapter 9, "Session Lifecycle")
abbrev pub is_shown : SessionState → Bool
is_shown Visible = true
is_shown Focused = true
is_shown _ = false

-- A wait that succeeds tells to render exactly where its session is in such a state.
abbrev pub RendersWhereShown : Type 0
RendersWhereShown =
    (s : State) (e : Entry) (session : ℕ) (f : FrameState) → e.call ≡ ask.WaitFrame session → is_success (step s e).1.reply.code ≡ true
    → (step s e).1.reply.gives ≡ gives.Frame f → f.render ≡ is_shown (life_of s.core session).state

-- ---- times

-- the call waits for a frame of this session
abbrev pub waits_for_frame : Call → ℕ → Bool
waits_for_frame (ask.WaitFrame session) handle = session == handle
waits_for_frame _ handle = false

-- the time of the frame that is given, else this one
abbrev pub time_given : Gives → ℤ → ℤ
time_given (gives.Frame f) before = f.time
time_given _ before = before

-- the time that was given last to a session since its creation, once an entry was made, told what it was before
abbrev pub given_after : State → Entry → ℕ → ℤ → ℤ
given_after s e session before =
    if creates_session e session then pos 0
    else (if waits_for_frame e.call session && is_success (step s e).1.reply.code then time_given (step s e).1.reply.gives before else before)

-- the same behind these entries; a new session was given 0
abbrev pub given_last : State → ℕ → ℤ → List Entry → ℤ
given_last s session before [] = before
given_last s session before (e ∷ es) = given_last (step s e).0 session (given_after s e session before) es

-- A frame of this time comes behind one of the last time: its time is the one that is predicted for the session, the period is the
-- device's, and the times rise up to the largest.
pub record IsNextFrame (s : State) (last : ℤ) (f : FrameState) : Type 0 where
  pub time : IsPredicted last s.core.device.clock s.core.device.base s.core.device.period f.time
  pub period : f.period ≡ s.core.device.period
  pub rises : int_lt last f.time || int_le most_time f.time ≡ true

-- After a legal history a wait that succeeds gives such a frame, where the device's period is at least 1.
abbrev pub WaitsGiveTheNextTime : Type 0
WaitsGiveTheNextTime =
    (settings : Settings) (es : List Entry) (e : Entry) (session : ℕ) (f : FrameState) → IsLegal settings es → e.call ≡ ask.WaitFrame session
    → is_success (step (after (opening settings) es) e).1.reply.code ≡ true → (step (after (opening settings) es) e).1.reply.gives ≡ gives.Frame f
    → int_le (pos 1) (after (opening settings) es).core.device.period ≡ true
    → IsNextFrame (after (opening settings) es) (given_last (opening settings) session (pos 0) es) f

-- ---- when a wait is held back

-- so many frames may be pending, of all sessions, or begun, of one, at once
abbrev pub most_at_once : ℕ
most_at_once = 3

-- After a legal history a wait that nothing refuses is ready but where more frames were waited for than begun in the running period,
-- and where as many are pending, of all sessions, or begun, of its own, as may be.
abbrev pub WaitsAreHeldBack : Type 0
WaitsAreHeldBack =
    (settings : Settings) (es : List Entry) (e : Entry) (session : ℕ) → IsLegal settings es → e.call ≡ ask.WaitFrame session → IsUnrefused (after (opening settings) es) e
    → ready (after (opening settings) es) e
    ≡ not (nat_lt (begins session (past_of settings es)) (waits session (past_of settings es))
    || nat_le most_at_once (length (after (opening settings) es).core.frames.pending + one_if (is_begun session (period session (past_of settings es)))))

-- ---- discarded frames

-- After a legal history a begin tells of a discarded frame exactly where nothing refuses it and a frame was begun and not ended in the
-- running period.
abbrev pub DiscardsAreTold : Type 0
DiscardsAreTold =
    (settings : Settings) (es : List Entry) (e : Entry) (session : ℕ) → IsLegal settings es → e.call ≡ ask.BeginFrame session
    → ((step (after (opening settings) es) e).1.reply.code ≡ FrameDiscarded)
    ↔ (IsUnrefused (after (opening settings) es) e × (is_begun session (period session (past_of settings es)) ≡ true))

-- ---- the compositor

-- every application that there was has left
abbrev pub AllHaveLeft : State → Type 0
AllHaveLeft s = (k : ℕ) → IsPresent s.core (App k) → ⊥

-- Where the compositor asks for a frame and isn't refused, it waits only while none is pending; it is told the end exactly where none
-- is, and then every application has left.
pub record EndsWhereAllLeft (s : State) (e : Entry) : Type 0 where
  pub waits : ready s e ≡ false → s.core.frames.pending ≡ []
  pub told : ready s e ≡ true → ((step s e).1.reply.gives ≡ gives.Ended) ↔ (s.core.frames.pending ≡ [])
  pub left : ready s e ≡ true → s.core.frames.pending ≡ [] → AllHaveLeft s
  pub all : AllHaveLeft s → ready s e ≡ true

abbrev pub EndsAreTold : Type 0
EndsAreTold =
    (settings : Settings) (es : List Entry) (e : Entry) → IsLegal settings es → e.call ≡ ask.NextFrame → IsUnrefused (after (opening settings) es) e
    → EndsWhereAllLeft (after (opening settings) es) e
