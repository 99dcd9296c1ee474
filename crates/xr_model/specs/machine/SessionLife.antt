-- The states of a session, and the table of what leads from one to another (OpenXR 1.0 chapter 9, "Session Lifecycle"). What a
-- device's wish, a loss and a lost device do to a session is this project's own.
use Rattle.std.specs.Prelude.{zero, suc, ℕ, ◌==◌, ◌&&◌, ◌||◌, Bool, true, false, not, List, [], ◌∷◌, Option, Some, None, if◌then◌else◌}
use Rattle.std.specs.List.{find}
use Rattle.xr_types.specs.declared.code.Code.TheVariants.{SessionLost, SessionRunning, SessionNotRunning, SessionNotReady, SessionNotStopping, ViewConfigurationTypeUnsupported}
use Rattle.xr_types.specs.declared.device.Wish.{Wish}
use Rattle.xr_types.specs.declared.device.Wish.TheVariants as wish
use Rattle.xr_types.specs.declared.session.SessionState.{SessionState}
use Rattle.xr_types.specs.declared.session.SessionState.TheVariants.{Idle, Ready, Synchronized, Visible, Focused, Stopping, LossPending, Exiting}
use Rattle.xr_types.specs.declared.session.ViewConfig.{ViewConfig}
use Rattle.xr_types.specs.declared.session.ViewConfig.TheVariants.{Mono, Stereo}
use Rattle.xr_model.specs.machine.Refusals.{Refusal, when}

-- ---- comparing states and wishes

abbrev pub state_number : SessionState → ℕ
state_number Idle = 0
state_number Ready = 1
state_number Synchronized = 2
state_number Visible = 3
state_number Focused = 4
state_number Stopping = 5
state_number LossPending = 6
state_number Exiting = 7

abbrev pub is_state : SessionState → SessionState → Bool
is_state a b = state_number a == state_number b

abbrev pub wish_number : Wish → ℕ
wish_number wish.Rest = 0
wish_number wish.Ready = 1
wish_number wish.Visible = 2
wish_number wish.Focused = 3

abbrev pub is_wish : Wish → Wish → Bool
is_wish a b = wish_number a == wish_number b

abbrev pub is_mono : ViewConfig → Bool
is_mono Mono = true
is_mono Stereo = false

-- ---- the table

-- a session in the one state goes to the other where the condition holds
pub record Row : Type 0 where
  pub from : SessionState
  pub where_ : Bool
  pub to : SessionState

abbrev pub row : SessionState → Bool → SessionState → Row
row from test to = record { from = from; where_ = test; to = to }

-- by the session's part of the device's wish, and whether the application has asked for its end
abbrev pub table : Wish → Bool → List Row
table w exit =
    row Idle exit Exiting
    ∷ row Idle (not (is_wish w wish.Rest)) Ready
    ∷ row Synchronized (exit || is_wish w wish.Rest) Stopping
    ∷ row Synchronized (is_wish w wish.Visible || is_wish w wish.Focused) Visible
    ∷ row Visible (exit || (is_wish w wish.Rest || is_wish w wish.Ready)) Synchronized
    ∷ row Visible (is_wish w wish.Focused) Focused
    ∷ row Focused (exit || not (is_wish w wish.Focused)) Visible
    ∷ []

abbrev pub to_of : Option Row → Option SessionState
to_of None = None
to_of (Some r) = Some r.to

-- where the first row that fits leads
abbrev pub next_state : Wish → Bool → SessionState → Option SessionState
next_state w exit state = to_of (find (λ r. is_state r.from state && r.where_) (table w exit))

-- the states that are gone through until no row fits, in at most so many changes
abbrev pub changes : ℕ → Wish → Bool → SessionState → List SessionState
changes zero w exit state = []
changes (suc n) w exit state = elim (next_state w exit state) [ None ↦ [] | Some to ↦ to ∷ changes n w exit to ]

-- more changes than there can be
abbrev pub most_changes : ℕ
most_changes = 4

abbrev pub last_of : SessionState → List SessionState → SessionState
last_of state [] = state
last_of state (to ∷ tos) = last_of to tos

-- ---- what a session keeps

-- its state; whether it was begun and not ended, whether the application has asked for its end, and
-- whether the device is lost
pub record Life : Type 0 where
  pub state : SessionState
  pub running : Bool
  pub exit : Bool
  pub lost : Bool

-- a session, and the states through which it has come there
pub record Changed : Type 0 where
  pub life : Life
  pub through : List SessionState

abbrev pub unchanged : Life → Changed
unchanged life = record { life = life; through = [] }

-- the first row that fits is applied, until none fits
abbrev pub settled_session : Wish → Life → Changed
settled_session w life =
    let through = changes most_changes w life.exit life.state in
    record { life = record life { state = last_of life.state through }; through = through }

-- a state is entered, and the session settles
abbrev pub entered : Wish → Life → SessionState → Changed
entered w life to =
    let rest = settled_session w (record life { state = to }) in
    record { life = rest.life; through = to ∷ rest.through }

-- ---- what changes it

-- a new session is idle
abbrev pub started_session : Wish → Changed
started_session w = entered w (record { state = Idle; running = false; exit = false; lost = false }) Idle

-- a session whose device is lost
abbrev pub is_lost : Life → Refusal
is_lost life = when life.lost SessionLost

-- xrBeginSession
abbrev pub begin_checks : Life → ViewConfig → List Refusal
begin_checks life view =
    when life.running SessionRunning
    ∷ when (not (is_state life.state Ready)) SessionNotReady
    ∷ when (is_mono view) ViewConfigurationTypeUnsupported
    ∷ []

abbrev pub begin_refusals : Life → ViewConfig → List Refusal
begin_refusals life view = is_lost life ∷ begin_checks life view

-- a ready session has no row, so it stays where it is
abbrev pub begun_session : Life → Life
begun_session life = record life { running = true }

-- xrEndSession
abbrev pub end_checks : Life → List Refusal
end_checks life =
    when (not life.running) SessionNotRunning
    ∷ when (not (is_state life.state Stopping)) SessionNotStopping
    ∷ []

abbrev pub end_refusals : Life → List Refusal
end_refusals life = is_lost life ∷ end_checks life

abbrev pub ended_session : Wish → Life → Changed
ended_session w life = entered w (record life { running = false }) Idle

-- xrRequestExitSession
abbrev pub exit_checks : Life → List Refusal
exit_checks life = when (not life.running) SessionNotRunning ∷ []

abbrev pub exit_refusals : Life → List Refusal
exit_refusals life = is_lost life ∷ exit_checks life

abbrev pub exiting_session : Wish → Life → Changed
exiting_session w life = settled_session w (record life { exit = true })

-- the first frame of a session that was begun
abbrev pub synced_session : Wish → Life → Changed
synced_session w life = if is_state life.state Ready then entered w life Synchronized else unchanged life

-- a loss takes a session from any state but the two that are the end of it
abbrev pub losing_session : Life → Changed
losing_session life =
    if is_state life.state Exiting || is_state life.state LossPending then unchanged life
    else record { life = record life { state = LossPending }; through = LossPending ∷ [] }

-- the device is lost, of which nothing is told
abbrev pub lost_session : Life → Life
lost_session life = record life { lost = true }
