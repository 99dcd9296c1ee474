-- What holds of the listed sessions, of lost ones and of pending losses.
use Rattle.std.specs.Prelude.{◌≡◌, ◌↔◌, ◌==◌, ◌&&◌, ◌||◌, ℕ, Bool, true, false, not, List, [], ◌∷◌, Option, Some, None, is_some, if◌then◌else◌}
use Rattle.xr_types.specs.declared.code.Code.TheVariants.{Success, SessionLost, SessionLossPending}
use Rattle.xr_types.specs.declared.device.DeviceEvent.TheVariants as event
use Rattle.xr_types.specs.declared.handles.Kind.TheVariants as kind
use Rattle.xr_types.specs.declared.session.SessionState.TheVariants.{LossPending}
use Rattle.xr_model.specs.machine.Calls.{Entry}
use Rattle.xr_types.specs.declared.calls.Call.{Call}
use Rattle.xr_types.specs.declared.calls.Call.TheVariants as ask
use Rattle.xr_model.specs.machine.Handles.{Handles, is_live}
use Rattle.xr_model.specs.machine.HandlePlaces.{parent_of, is_below}
use Rattle.xr_model.specs.machine.SessionLife.{is_state}
use Rattle.xr_model.specs.machine.LiveSessions.{Session, session_at}
use Rattle.xr_model.specs.machine.Rules.Session.{life_of}
use Rattle.xr_model.specs.machine.Rules.Spaces.{session_above}
use Rattle.xr_model.specs.machine.State.{Settings, State, opening}
use Rattle.xr_model.specs.machine.Rule.{refusal}
use Rattle.xr_model.specs.machine.Machine.{reads_of, rule, step}
use Rattle.xr_model.specs.machine.History.{after, IsLegal}

-- ---- which sessions are listed

-- the live handles of sessions are those of the listed ones
abbrev pub AreListed : Handles → List Session → Type 0
AreListed h xs = (handle : ℕ) → is_some (session_at xs handle) ≡ is_live h kind.Session handle

abbrev pub SessionsAreListed : Type 0
SessionsAreListed = (settings : Settings) (es : List Entry) → IsLegal settings es → AreListed (after (opening settings) es).core.handles (after (opening settings) es).core.sessions

-- ---- lost sessions

-- the session that a call is made on; one on spaces is made where both live in one session, and one on a swapchain where that lives
abbrev pub session_of : Handles → Call → Option ℕ
session_of h (ask.CreateInstance major minor) = None
session_of h (ask.DestroyInstance instance) = None
session_of h (ask.GetSystem instance form) = None
session_of h (ask.StringToPath instance text) = None
session_of h (ask.PathToString instance path capacity) = None
session_of h (ask.PollEvent instance) = None
session_of h (ask.CreateSession instance system) = None
session_of h (ask.DestroySession session) = None
session_of h (ask.BeginSession session view) = Some session
session_of h (ask.EndSession session) = Some session
session_of h (ask.RequestExitSession session) = Some session
session_of h (ask.CreateReferenceSpace session kind offset) = Some session
session_of h (ask.CreateActionSpace session action sub offset) = if is_live h kind.Action action then Some session else None
session_of h (ask.DestroySpace space) = None
session_of h (ask.LocateSpace space base time) = if is_live h kind.Space space && is_below h kind.Space (session_above h space) base then parent_of h space else None
session_of h (ask.CreateActionSet instance name localized priority) = None
session_of h (ask.DestroyActionSet set) = None
session_of h (ask.CreateAction set name kind subs localized) = None
session_of h (ask.DestroyAction action) = None
session_of h (ask.SuggestBindings instance profile bindings) = None
session_of h (ask.AttachSets session sets) = Some session
session_of h (ask.SyncActions session active) = Some session
session_of h (ask.GetBoolean session action sub) = None
session_of h (ask.GetFloat session action sub) = None
session_of h (ask.GetVector session action sub) = None
session_of h (ask.GetPoseActive session action sub) = None
session_of h (ask.CreateSwapchain session format width height fixed) = Some session
session_of h (ask.DestroySwapchain chain) = None
session_of h (ask.AcquireImage chain) = if is_live h kind.Swapchain chain then parent_of h chain else None
session_of h (ask.WaitImage chain timeout start) = if is_live h kind.Swapchain chain then parent_of h chain else None
session_of h (ask.Paint chain stamp) = if is_live h kind.Swapchain chain then parent_of h chain else None
session_of h (ask.ReleaseImage chain) = if is_live h kind.Swapchain chain then parent_of h chain else None
session_of h (ask.WaitFrame session) = Some session
session_of h (ask.BeginFrame session) = Some session
session_of h (ask.EndFrame session time blend layers) = Some session
session_of h (ask.Mark number value) = None
session_of h (ask.AwaitMark number) = None
session_of h ask.Leave = None
session_of h (ask.Device what) = None
session_of h ask.NextFrame = None
session_of h ask.ImageDone = None

-- the device is lost; a fault of it and a garbled line are that too
abbrev pub is_device_lost : Call → Bool
is_device_lost (ask.Device event.Lost) = true
is_device_lost (ask.Device event.Fault) = true
is_device_lost (ask.Device (event.Garbled line)) = true
is_device_lost _ = false

abbrev pub is_session_creation : Call → Bool
is_session_creation (ask.CreateSession instance system) = true
is_session_creation _ = false

-- the entry creates the session with this handle
abbrev pub creates_session : Entry → ℕ → Bool
creates_session e session = is_session_creation e.call && (e.given == session)

-- whether the device was lost after the session's creation, where that is known of the time before these entries
abbrev pub was_lost : ℕ → Bool → List Entry → Bool
was_lost session before [] = before
was_lost session before (e ∷ es) = was_lost session (not (creates_session e session) && (before || is_device_lost e.call)) es

-- A call on a session is answered by its loss exactly where its handle is live and the device was lost after the
-- session's creation.
abbrev pub LostSessions : Type 0
LostSessions =
    (settings : Settings) (es : List Entry) (e : Entry) (session : ℕ) → IsLegal settings es → session_of (after (opening settings) es).core.handles e.call ≡ Some session
    → ((step (after (opening settings) es) e).1.reply.code ≡ SessionLost)
    ↔ ((is_live (after (opening settings) es).core.handles kind.Session session ≡ true) × (was_lost session false es ≡ true))

-- ---- pending losses

-- A call on a session is answered by a pending loss exactly where nothing refuses it, its own code is a plain success, and the
-- session is in that state.
abbrev pub PendingLosses : Type 0
PendingLosses =
    (s : State) (e : Entry) (session : ℕ) → session_of s.core.handles e.call ≡ Some session
    → ((step s e).1.reply.code ≡ SessionLossPending)
    ↔ ((refusal e.short (rule s.core (reads_of s e.call) e) ≡ None) × ((rule s.core (reads_of s e.call) e).effect.code ≡ Success) × (is_state (life_of s.core session).state LossPending ≡ true))

-- ---- getters

-- it is a getter of this session and this action
abbrev pub is_getter_of : Call → ℕ → ℕ → Bool
is_getter_of (ask.GetBoolean session action sub) s a = (session == s) && (action == a)
is_getter_of (ask.GetFloat session action sub) s a = (session == s) && (action == a)
is_getter_of (ask.GetVector session action sub) s a = (session == s) && (action == a)
is_getter_of (ask.GetPoseActive session action sub) s a = (session == s) && (action == a)
is_getter_of _ s a = false

-- So it is with a getter of a live action: the loss comes exactly where the session is live and the device was lost after its creation.
abbrev pub LostGetters : Type 0
LostGetters =
    (settings : Settings) (es : List Entry) (e : Entry) (session action : ℕ) → IsLegal settings es → is_getter_of e.call session action ≡ true
    → is_live (after (opening settings) es).core.handles kind.Action action ≡ true
    → ((step (after (opening settings) es) e).1.reply.code ≡ SessionLost)
    ↔ ((is_live (after (opening settings) es).core.handles kind.Session session ≡ true) × (was_lost session false es ≡ true))

-- And the pending loss exactly where nothing refuses it and the session is in that state.
abbrev pub PendingGetters : Type 0
PendingGetters =
    (s : State) (e : Entry) (session action : ℕ) → is_getter_of e.call session action ≡ true
    → ((step s e).1.reply.code ≡ SessionLossPending)
    ↔ ((refusal e.short (rule s.core (reads_of s e.call) e) ≡ None) × (is_state (life_of s.core session).state LossPending ≡ true))
