-- What holds of a session from its creation to its end, and of the device's clock.
use Rattle.std.specs.Prelude.{◌≡◌, ◌≤◌, ◌<◌, ◌==◌, ◌&&◌, ◌||◌, ℕ, Bool, true, false, int_le, nat_lt, not, length, List, [], ◌∷◌, Some, None, if◌then◌else◌}
use Rattle.std.specs.List.{filter, list_any}
use Rattle.xr_types.specs.Code.{is_success}
use Rattle.xr_model.specs.machine.Calls.{Entry}
use Rattle.xr_types.specs.declared.calls.Call.{Call}
use Rattle.xr_types.specs.declared.calls.Call.TheVariants as ask
use Rattle.xr_types.specs.declared.device.Wish.TheVariants as wish
use Rattle.xr_types.specs.declared.session.SessionState.{SessionState}
use Rattle.xr_types.specs.declared.session.SessionState.TheVariants.{Synchronized, Visible, Focused}
use Rattle.xr_model.specs.machine.SessionLife.{is_state, is_wish, next_state}
use Rattle.xr_model.specs.machine.Target.{target_of, is_target, own_wish}
use Rattle.xr_model.specs.machine.LiveSessions.{Session, session_at}
use Rattle.xr_model.specs.machine.State.{Settings, State, opening}
use Rattle.xr_model.specs.machine.Machine.{step}
use Rattle.xr_model.specs.machine.History.{after, IsLegal}
use Rattle.xr_model.specs.laws.SessionLaws.{creates_session}

-- ---- the clock

-- the device's clock never goes back
abbrev pub ClockNeverFalls : Type 0
ClockNeverFalls = (s : State) (e : Entry) → int_le s.core.device.clock (step s e).0.core.device.clock ≡ true

-- ---- states

-- After every history no row of the table of states fits a listed session under its own wish.
abbrev pub SessionsHaveSettled : Type 0
SessionsHaveSettled =
    (settings : Settings) (es : List Entry) (session : ℕ) (x : Session) → session_at (after (opening settings) es).core.sessions session ≡ Some x
    → next_state (own_wish (after (opening settings) es).core.device.wish (target_of (after (opening settings) es).core.sessions) x) x.life.exit x.life.state ≡ None

-- ---- the focus

-- these sessions are listed in the order of their ordinals, which are above this one
abbrev pub AreRising : ℕ → List Session → Type 0
AreRising n [] = Unit {0}
AreRising n (x ∷ xs) = (n < x.ordinal) × AreRising x.ordinal xs

-- After every history the sessions are listed in the order of their ordinals, which begin at 1.
abbrev pub SessionsAreInOrder : Type 0
SessionsAreInOrder = (settings : Settings) (es : List Entry) → AreRising 0 (after (opening settings) es).core.sessions

abbrev pub is_focused : Session → Bool
is_focused x = is_state x.life.state Focused

-- After every history, legal or not, at most one session is focused.
abbrev pub AtMostOneIsFocused : Type 0
AtMostOneIsFocused = (settings : Settings) (es : List Entry) → length (filter is_focused (after (opening settings) es).core.sessions) ≤ 1

-- After every history a session that is focused is the target.
abbrev pub FocusedIsTheTarget : Type 0
FocusedIsTheTarget =
    (settings : Settings) (es : List Entry) (session : ℕ) (x : Session) → session_at (after (opening settings) es).core.sessions session ≡ Some x
    → is_focused x ≡ true → is_target (target_of (after (opening settings) es).core.sessions) x ≡ true

-- a session in one of these states takes part in the focus, unless its end was asked for
abbrev pub takes_part : SessionState → Bool → Bool
takes_part Synchronized false = true
takes_part Visible false = true
takes_part Focused false = true
takes_part _ exit = false

-- a session takes part that was created later than one with this ordinal
abbrev pub is_later_one : ℕ → Session → Bool
is_later_one ordinal y = takes_part y.life.state y.life.exit && nat_lt ordinal y.ordinal

-- After every history a listed session is focused exactly where the device wishes the focus, the session takes part in it, and none that
-- was created later does.
abbrev pub TheLastIsFocused : Type 0
TheLastIsFocused =
    (settings : Settings) (es : List Entry) (session : ℕ) (x : Session) → session_at (after (opening settings) es).core.sessions session ≡ Some x
    → is_focused x
    ≡ (is_wish (after (opening settings) es).core.device.wish wish.Focused
    && (takes_part x.life.state x.life.exit && not (list_any (is_later_one x.ordinal) (after (opening settings) es).core.sessions)))

-- ---- the loss

-- a session that is lost stays so as long as it is listed
abbrev pub LostStaysLost : Type 0
LostStaysLost =
    (s : State) (e : Entry) (session : ℕ) (x y : Session)
    → session_at s.core.sessions session ≡ Some x → session_at (step s e).0.core.sessions session ≡ Some y
    → x.life.lost ≡ true → y.life.lost ≡ true

-- ---- the asking for the end

-- the call asks for this session's end
abbrev pub asks_for_end : Call → ℕ → Bool
asks_for_end (ask.RequestExitSession session) handle = session == handle
asks_for_end _ handle = false

-- The end of a session was asked for exactly where it was before, or this call asks for it and succeeds.
abbrev pub OnlyItsCallAsksForTheEnd : Type 0
OnlyItsCallAsksForTheEnd =
    (s : State) (e : Entry) (session : ℕ) (x y : Session)
    → session_at s.core.sessions session ≡ Some x → session_at (step s e).0.core.sessions session ≡ Some y
    → y.life.exit ≡ x.life.exit || (asks_for_end e.call session && is_success (step s e).1.reply.code)

-- ---- running

-- the call begins this session
abbrev pub begins : Call → ℕ → Bool
begins (ask.BeginSession session view) handle = session == handle
begins _ handle = false

-- the call ends this session
abbrev pub ends : Call → ℕ → Bool
ends (ask.EndSession session) handle = session == handle
ends _ handle = false

-- what is known of a session's running after an entry, told what was known before it
abbrev pub begun_after : State → Entry → ℕ → Bool → Bool
begun_after s e session before =
    if creates_session e session then false
    else (if begins e.call session && is_success (step s e).1.reply.code then true
    else (if ends e.call session && is_success (step s e).1.reply.code then false
    else before))

-- whether the session was begun and not ended since its creation, where that is known of the time before these entries
abbrev pub was_begun : State → ℕ → Bool → List Entry → Bool
was_begun s session before [] = before
was_begun s session before (e ∷ es) = was_begun (step s e).0 session (begun_after s e session before) es

-- A listed session is running exactly where a call has begun it and none has ended it since.
abbrev pub RunningIsBegunAndNotEnded : Type 0
RunningIsBegunAndNotEnded =
    (settings : Settings) (es : List Entry) (session : ℕ) (x : Session) → IsLegal settings es
    → session_at (after (opening settings) es).core.sessions session ≡ Some x
    → x.life.running ≡ was_begun (opening settings) session false es
