-- What is published stays as long as nobody publishes.
use Rattle.std.proofs.Common.{◌≡◌, ◌==◌, ℕ, not, Bool, true, false, List, [], ◌∷◌, map, Option, Some, None, refl, sym, ap, ◌∙◌, true≢false}
use Rattle.std.specs.List.{list_any}
use Rattle.std.specs.Prelude.{if◌then◌else◌}
use Rattle.xr_types.specs.declared.code.Code.{Code}
use Rattle.xr_types.specs.declared.code.Code.TheVariants.{Success, CallOrderInvalid, SessionNotRunning, SessionNotStopping}
use Rattle.xr_types.specs.declared.device.DeviceEvent.{DeviceEvent}
use Rattle.xr_types.specs.declared.device.DeviceEvent.TheVariants as event
use Rattle.xr_types.specs.declared.device.Wish.TheVariants as wish
use Rattle.xr_types.specs.declared.handles.Kind.TheVariants as kind
use Rattle.xr_types.specs.declared.input.User.{User}
use Rattle.xr_types.specs.declared.input.User.TheVariants as user
use Rattle.xr_types.specs.declared.session.SessionState.TheVariants.{Focused, Stopping}
use Rattle.xr_types.specs.CallKinds.{publishes, is_published}
use Rattle.xr_types.specs.declared.calls.Call.{Call}
use Rattle.xr_types.specs.declared.calls.Call.TheVariants as ask
use Rattle.xr_model.specs.machine.Handles.{no_handle}
use Rattle.xr_model.specs.machine.LiveSessions.{Session, session_at, life_in}
use Rattle.xr_model.specs.machine.Paths.{with_text}
use Rattle.xr_model.specs.machine.Publication.{PublishedSession, published_session, publication_of, user_atom, atom_of_user}
use Rattle.xr_model.specs.machine.Refusals.{Refusal, when}
use Rattle.xr_model.specs.machine.Calls.{Entry}
use Rattle.xr_model.specs.machine.Rule.{Effect, refusal, unless_refused, told_on}
use Rattle.xr_model.specs.machine.Rules.Device.{behind_event}
use Rattle.xr_model.specs.machine.Rules.Session.{life_of, with_change, loop_of, with_loop}
use Rattle.xr_model.specs.machine.Rules.Sync.{synced_code}
use Rattle.xr_model.specs.machine.SessionLife.{Life, Changed, begun_session, unchanged, ended_session, exiting_session, synced_session, is_state, is_lost}
use Rattle.xr_model.specs.machine.SessionRule.{Loss, code_on, loss_of}
use Rattle.xr_model.specs.machine.Sets.{is_declared}
use Rattle.xr_model.specs.machine.State.{CoreState, CellReads}
use Rattle.xr_model.specs.machine.Machine.{effect, rule}
use Rattle.xr_model.specs.machine.Rules.Frames.{next_time}
use Rattle.xr_model.specs.machine.Frames.{FrameLoop, reset_loop, waited_loop, begun_loop, ended_loop}
use Rattle.xr_model.proofs.HandleSteps.{first_fails}
use Rattle.xr_model.proofs.ListSteps.{none_behind}
use Rattle.xr_model.proofs.SeenSessions.{exiting_loss, ended_loss, synced_loss, change_seen, rounds_seen, loop_seen}
use Rattle.xr_model.proofs.UserAtoms.{known_user, KnowsDeclared}
use Rattle.xr_model.proofs.SessionSteps.{loop_last}

-- ---- codes

published_still : (loss : Loss) → is_published (code_on loss Success) ≡ true
published_still loss = by loss.pending
  where
    by : (b : Bool) → is_published (code_on (record loss { pending = b }) Success) ≡ true
    by true = refl
    by false = refl

synced_publishes : (loss : Loss) (is_focused : Bool) → is_published (code_on loss (synced_code is_focused)) ≡ true
synced_publishes loss true = published_still loss
synced_publishes loss false = refl

-- ---- what stays

module _ (s : CoreState) where
  -- what a state publishes is what this one does, but for the number
  abbrev pub Alike : CoreState → Type 0
  Alike t = publication_of (record t { published = s.published }) ≡ publication_of s

  kept : (o : Option Refusal) (x : Effect) → (o ≡ None → Alike x.state) → Alike (unless_refused s o x).state
  kept None x done = done refl
  kept (Some r) x done = refl

  -- a call that publishes where it succeeds
  silent : (o : Option Refusal) (x : Effect) → is_published x.code ≡ true → is_published (unless_refused s o x).code ≡ false → Alike (unless_refused s o x).state
  silent None x good quiet = absurd (true≢false (sym good ∙ quiet))
  silent (Some r) x good quiet = refl

  -- the sessions change, and nothing that is seen of them
  abbrev all_seen : List Session → List PublishedSession
  all_seen xs = map (published_session s.handles s.inputs.actions) xs

  sessions_alike : (xs : List Session) → all_seen xs ≡ all_seen s.sessions → publication_of (record s { sessions = xs }) ≡ publication_of s
  sessions_alike xs same = ap (λ (ys : List PublishedSession). record (publication_of s) { sessions = ys }) same

  -- one text more
  atom_alike : (text : List ℕ) → KnowsDeclared s.atoms s.inputs.actions → (who : User) → atom_of_user (with_text s.atoms text) s.inputs.actions who ≡ atom_of_user s.atoms s.inputs.actions who
  atom_alike text known who = by (list_any (λ x. is_declared x.declared who) s.inputs.actions) (known who)
    where
      by : (b : Bool) → (b ≡ true → (user_atom s.atoms who == 0) ≡ false) → (if b then user_atom (with_text s.atoms text) who else 0) ≡ (if b then user_atom s.atoms who else 0)
      by true has = known_user s.atoms text who (has refl)
      by false has = refl

  atoms_alike : (text : List ℕ) → KnowsDeclared s.atoms s.inputs.actions → publication_of (record s { atoms = with_text s.atoms text }) ≡ publication_of s
  atoms_alike text known = rw (atom_alike text known user.Left, atom_alike text known user.Right, atom_alike text known user.Head, atom_alike text known user.Gamepad, atom_alike text known user.Treadmill) refl

  changed : (session : ℕ) (f : Life → Changed) → ((x : Session) → session_at s.sessions session ≡ Some x → loss_of (f x.life).life ≡ loss_of x.life)
      → publication_of (record s { sessions = (with_change s (session_at s.sessions session) f).sessions }) ≡ publication_of s
  changed session f same = sessions_alike (with_change s (session_at s.sessions session) f).sessions (rounds_seen s.handles s.inputs.actions s.device.wish _ ∙ change_seen s.handles s.inputs.actions s.sessions session f same)

  -- and its loop of frames
  with_period : (session : ℕ) (f : Life → Changed) (l : FrameLoop) → ((x : Session) → session_at s.sessions session ≡ Some x → loss_of (f x.life).life ≡ loss_of x.life)
      → publication_of (record s { sessions = (with_change (with_loop s session l) (session_at s.sessions session) f).sessions }) ≡ publication_of s
  with_period session f l same =
      sessions_alike (with_change (with_loop s session l) (session_at s.sessions session) f).sessions
      (rounds_seen s.handles s.inputs.actions s.device.wish _ ∙ ap (λ (xs : List Session). all_seen xs) (loop_last session f l s.sessions) ∙ loop_seen s.handles s.inputs.actions _ session l ∙ change_seen s.handles s.inputs.actions s.sessions session f same)

  events : (what : DeviceEvent) → publishes (ask.Device what) Success ≡ false → Alike (behind_event s what)
  events (event.Wish wish) quiet = sessions_alike _ (rounds_seen s.handles s.inputs.actions wish (record { sessions = s.sessions; events = s.events }))
  events event.Loss quiet = absurd (true≢false quiet)
  events event.Lost quiet = absurd (true≢false quiet)
  events event.Fault quiet = absurd (true≢false quiet)
  events (event.Garbled line) quiet = absurd (true≢false quiet)
  events _ quiet = refl

-- a session that may end is stopping
stops : (s : CoreState) (reads : CellReads) (e : Entry) (session : ℕ) → refusal e.short (rule s reads (record e { call = ask.EndSession session })) ≡ None → (x : Session) → session_at s.sessions session ≡ Some x → is_state x.life.state Stopping ≡ true
stops s reads e session none x there =
    let life = life_of s session in
    let behind = none_behind (no_handle s.handles kind.Session session ∷ is_lost life ∷ when (not life.running) SessionNotRunning ∷ []) (when (not (is_state life.state Stopping)) SessionNotStopping ∷ when false CallOrderInvalid ∷ []) none in
    ap (λ o. is_state (life_in o).state Stopping) (sym there) ∙ first_fails (is_state life.state Stopping) SessionNotStopping (when false CallOrderInvalid ∷ []) behind

-- an event publishes whatever its code
device_quiet : (what : DeviceEvent) (code : Code) → publishes (ask.Device what) code ≡ false → publishes (ask.Device what) Success ≡ false
device_quiet event.Loss code quiet = quiet
device_quiet event.Lost code quiet = quiet
device_quiet event.Fault code quiet = quiet
device_quiet (event.Garbled line) code quiet = quiet
device_quiet _ code quiet = refl

-- what a state publishes behind a call that doesn't publish
pub contents_stay : (s : CoreState) (reads : CellReads) (e : Entry) → KnowsDeclared s.atoms s.inputs.actions → publishes e.call (effect s reads e).code ≡ false → Alike s (effect s reads e).state
contents_stay s reads e known quiet = by e.call quiet
  where
    by : (r : Call) → publishes r (effect s reads (record e { call = r })).code ≡ false → Alike s (effect s reads (record e { call = r })).state
    by (ask.CreateSession instance system) quiet =
        let f = rule s reads (record e { call = ask.CreateSession instance system }) in
        silent s (refusal e.short f) (told_on f.on f.effect) refl quiet
    by (ask.DestroySession session) quiet =
        let f = rule s reads (record e { call = ask.DestroySession session }) in
        silent s (refusal e.short f) (told_on f.on f.effect) refl quiet
    by (ask.CreateAction set name type subs localized) quiet =
        let f = rule s reads (record e { call = ask.CreateAction set name type subs localized }) in
        silent s (refusal e.short f) (told_on f.on f.effect) refl quiet
    by (ask.DestroyAction action) quiet =
        let f = rule s reads (record e { call = ask.DestroyAction action }) in
        silent s (refusal e.short f) (told_on f.on f.effect) refl quiet
    by (ask.DestroyActionSet set) quiet =
        let f = rule s reads (record e { call = ask.DestroyActionSet set }) in
        silent s (refusal e.short f) (told_on f.on f.effect) refl quiet
    by (ask.DestroyInstance instance) quiet =
        let f = rule s reads (record e { call = ask.DestroyInstance instance }) in
        silent s (refusal e.short f) (told_on f.on f.effect) refl quiet
    by (ask.AttachSets session sets) quiet =
        let f = rule s reads (record e { call = ask.AttachSets session sets }) in
        silent s (refusal e.short f) (told_on f.on f.effect) (published_still (loss_of (life_of s session))) quiet
    by (ask.SyncActions session active) quiet =
        let f = rule s reads (record e { call = ask.SyncActions session active }) in
        silent s (refusal e.short f) (told_on f.on f.effect) (synced_publishes (loss_of (life_of s session)) (is_state (life_of s session).state Focused)) quiet
    by (ask.StringToPath instance text) quiet =
        let f = rule s reads (record e { call = ask.StringToPath instance text }) in
        kept s (refusal e.short f) (told_on f.on f.effect) (λ none. atoms_alike s text known)
    by (ask.BeginSession session view) quiet =
        let f = rule s reads (record e { call = ask.BeginSession session view }) in
        kept s (refusal e.short f) (told_on f.on f.effect) (λ none. with_period s session (λ life. unchanged (begun_session life)) (reset_loop (loop_of s session)) (λ x there. refl))
    by (ask.EndSession session) quiet =
        let f = rule s reads (record e { call = ask.EndSession session }) in
        kept s (refusal e.short f) (told_on f.on f.effect) (λ none. with_period s session (ended_session s.device.wish) (reset_loop (loop_of s session)) (λ x there. ended_loss s.device.wish x.life (stops s reads e session none x there)))
    by (ask.RequestExitSession session) quiet =
        let f = rule s reads (record e { call = ask.RequestExitSession session }) in
        kept s (refusal e.short f) (told_on f.on f.effect) (λ none. changed s session (exiting_session s.device.wish) (λ x there. exiting_loss s.device.wish x.life))
    by (ask.EndFrame session time blend layers) quiet =
        let f = rule s reads (record e { call = ask.EndFrame session time blend layers }) in
        kept s (refusal e.short f) (told_on f.on f.effect) (λ none. with_period s session (synced_session wish.Ready) (ended_loop (loop_of s session)) (λ x there. synced_loss wish.Ready x.life))
    by (ask.WaitFrame session) quiet =
        let f = rule s reads (record e { call = ask.WaitFrame session }) in
        kept s (refusal e.short f) (told_on f.on f.effect) (λ none. sessions_alike s _ (loop_seen s.handles s.inputs.actions s.sessions session (waited_loop (loop_of s session) (next_time s session))))
    by (ask.BeginFrame session) quiet =
        let f = rule s reads (record e { call = ask.BeginFrame session }) in
        kept s (refusal e.short f) (told_on f.on f.effect) (λ none. sessions_alike s _ (loop_seen s.handles s.inputs.actions s.sessions session (begun_loop (loop_of s session))))
    by (ask.Device what) quiet = events s what (device_quiet what (effect s reads (record e { call = ask.Device what })).code quiet)
    by r quiet =
        let f = rule s reads (record e { call = r }) in
        kept s (refusal e.short f) (told_on f.on f.effect) (λ none. refl)
