-- What an entry does to the handles and to the listed sessions: the one case split for laws on both.
use Rattle.std.proofs.Common.{◌≡◌, ◌==◌, ◌&&◌, ◌||◌, ℕ, Bool, true, false, List, [], ◌∷◌, ◌++◌, Option, Some, None, ap, ◌∙◌, refl, sym}
use Rattle.std.specs.Prelude.{if◌then◌else◌}
use Rattle.xr_types.specs.Code.{is_success}
use Rattle.xr_types.specs.declared.device.DeviceEvent.{DeviceEvent}
use Rattle.xr_types.specs.declared.device.DeviceEvent.TheVariants as event
use Rattle.xr_types.specs.declared.handles.Kind.TheVariants as kind
use Rattle.xr_types.specs.declared.calls.Call.{Call}
use Rattle.xr_types.specs.declared.calls.Call.TheVariants as ask
use Rattle.xr_types.specs.declared.device.Wish.{Wish}
use Rattle.xr_types.specs.declared.device.Wish.TheVariants as wish
use Rattle.xr_types.specs.declared.session.SessionState.TheVariants.{Ready, Synchronized, Exiting, LossPending}
use Rattle.xr_model.specs.machine.Calls.{Entry}
use Rattle.xr_model.specs.machine.Handles.{Handles, is_live, has_room, with_handle, without, without_alone, destroyed_by}
use Rattle.xr_model.specs.machine.Sets.{sets_named}
use Rattle.xr_model.specs.machine.Refusals.{Refusal}
use Rattle.xr_model.specs.machine.State.{CoreState, CellReads}
use Rattle.xr_model.specs.machine.Rule.{Effect, refusal, told_on, unless_refused}
use Rattle.xr_model.specs.machine.Rules.Instance.{the_system}
use Rattle.xr_model.specs.machine.Rules.Device.{behind_event}
use Rattle.xr_model.specs.machine.Rules.Session.{new_session, with_change, changed_in, with_loop}
use Rattle.xr_model.specs.machine.SessionLife.{Life, Changed, unchanged, started_session, begun_session, ended_session, exiting_session, losing_session, lost_session, synced_session, entered, is_state}
use Rattle.xr_model.specs.machine.LiveSessions.{Session, session_at, with_session_at, with_life, with_attached, each_changed, with_frame_loop, with_columns}
use Rattle.xr_model.specs.machine.Machine.{core_step, rule}
use Rattle.xr_model.specs.machine.Target.{Standing, rounds, most_rounds}
use Rattle.xr_model.specs.machine.Frames.{FrameLoop}
use Rattle.xr_model.specs.laws.SessionLaws.{is_device_lost, is_session_creation}
use Rattle.xr_model.proofs.Listed.{found_once, handle_of}
use Rattle.xr_model.proofs.Targets.{rounds_keep}
use Rattle.xr_model.specs.machine.Destroyed.{sessions_left}

-- changes of all sessions that leave whether they are lost keep a property
abbrev pub Closed : (Handles → List Session → Type 0) → Type 0
Closed P = (h : Handles) (xs : List Session) (f : Session → Changed) → ((x : Session) → (f x).life.lost ≡ x.life.lost) → P h xs → P h (each_changed f xs)

-- so it holds where the sessions have settled
settles : (P : Handles → List Session → Type 0) → Closed P → (h : Handles) (w : Wish) (t : Standing) → P h t.sessions → P h (rounds most_rounds w t).sessions
settles P closed h w t has = rounds_keep (P h) (λ f steady xs there. closed h xs f (λ x. ap (λ (life : Life). life.lost) (steady x)) there) w t has

-- a property that the handles and the sessions have before an entry, and that each thing that it may do keeps
pub record Keeps (P : Handles → List Session → Type 0) (s : CoreState) (reads : CellReads) (e : Entry) : Type 0 where
  pub same : is_device_lost e.call ≡ false → is_session_creation e.call && is_success (core_step s reads e).1.reply.code ≡ false → P s.handles s.sessions
  pub instance : is_device_lost e.call ≡ false → is_session_creation e.call ≡ false → P (with_handle s.handles kind.Instance 0 e.given) s.sessions
  pub session : is_device_lost e.call ≡ false → is_session_creation e.call ≡ true → is_success (core_step s reads e).1.reply.code ≡ true → has_room s.handles kind.Session ≡ true
      → (instance : ℕ) → P (with_handle s.handles kind.Session instance e.given) (s.sessions ++ new_session s e.given (started_session s.device.wish).life ∷ [])
  pub set : is_device_lost e.call ≡ false → is_session_creation e.call ≡ false → (instance : ℕ) → P (with_handle s.handles kind.ActionSet instance e.given) s.sessions
  pub action : is_device_lost e.call ≡ false → is_session_creation e.call ≡ false → (set : ℕ) → P (with_handle s.handles kind.Action set e.given) s.sessions
  pub space : is_device_lost e.call ≡ false → is_session_creation e.call ≡ false → (session : ℕ) → P (with_handle s.handles kind.Space session e.given) s.sessions
  pub chain : is_device_lost e.call ≡ false → is_session_creation e.call ≡ false → (session : ℕ) → P (with_handle s.handles kind.Swapchain session e.given) s.sessions
  pub without : is_device_lost e.call ≡ false → is_session_creation e.call ≡ false → (handle : ℕ) → P (without s.handles handle) (sessions_left (without s.handles handle) (destroyed_by s.handles handle) s.sessions)
  pub alone : is_device_lost e.call ≡ false → is_session_creation e.call ≡ false → (space : ℕ) → P (without_alone s.handles kind.Space space) s.sessions
  pub chain_alone : is_device_lost e.call ≡ false → is_session_creation e.call ≡ false → (chain : ℕ) → P (without_alone s.handles kind.Swapchain chain) s.sessions
  pub lives : is_device_lost e.call ≡ false → is_session_creation e.call ≡ false → (session : ℕ) (f : Session → Session) → ((x : Session) → (f x).handle ≡ x.handle) → ((x : Session) → session_at s.sessions session ≡ Some x → (f x).life.lost ≡ x.life.lost) → ((x : Session) → (f x).attached ≡ x.attached) → P s.handles (with_session_at session f s.sessions)
  pub attach : is_device_lost e.call ≡ false → is_session_creation e.call ≡ false → (session : ℕ) (sets : List ℕ) → P s.handles (with_session_at session (with_attached (sets_named s.inputs sets)) s.sessions)
  pub each : Closed P
  pub lost : is_device_lost e.call ≡ true → is_session_creation e.call ≡ false → P s.handles (each_changed (λ x. unchanged (lost_session x.life)) s.sessions)

abbrev Has : (Handles → List Session → Type 0) → CoreState → Type 0
Has P s = P s.handles s.sessions

kept : (P : Handles → List Session → Type 0) (s : CoreState) (o : Option Refusal) (x : Effect) → Has P s → (o ≡ None → Has P x.state) → Has P (unless_refused s o x).state
kept P s None x same done = done refl
kept P s (Some r) x same done = same

losing_keeps : (life : Life) → (losing_session life).life.lost ≡ life.lost
losing_keeps life = by (is_state life.state Exiting) (is_state life.state LossPending)
  where
    by : (a b : Bool) → (if a || b then unchanged life else record { life = record life { state = LossPending }; through = LossPending ∷ [] }).life.lost ≡ life.lost
    by true b = refl
    by false true = refl
    by false false = refl

pub synced_keeps : (w : Wish) (life : Life) → (synced_session w life).life.lost ≡ life.lost
synced_keeps w life = by (is_state life.state Ready)
  where
    by : (a : Bool) → (if a then entered w life Synchronized else unchanged life).life.lost ≡ life.lost
    by true = refl
    by false = refl

-- a session changes twice
pub twice : (handle : ℕ) (f g : Session → Session) → ((x : Session) → (g x).handle ≡ x.handle) → (xs : List Session)
    → with_session_at handle f (with_session_at handle g xs) ≡ with_session_at handle (λ x. f (g x)) xs
twice handle f g named [] = refl
twice handle f g named (x ∷ xs) = by (x.handle == handle) refl (twice handle f g named xs)
  where
    by : (b : Bool) → (x.handle == handle) ≡ b → with_session_at handle f (with_session_at handle g xs) ≡ with_session_at handle (λ y. f (g y)) xs
        → with_session_at handle f (if b then g x ∷ xs else x ∷ with_session_at handle g xs) ≡ (if b then f (g x) ∷ xs else x ∷ with_session_at handle (λ y. f (g y)) xs)
    by true eb more = let here : ((g x).handle == handle) ≡ true = ap (λ (n : ℕ). n == handle) (named x) ∙ eb in rw here refl
    by false eb more = rw (eb, more) refl

-- a loop of frames may as well change behind the life
pub loop_last : (session : ℕ) (f : Life → Changed) (l : FrameLoop) (xs : List Session)
    → changed_in (session_at xs session) f (with_session_at session (with_frame_loop l) xs) ≡ with_session_at session (with_frame_loop l) (changed_in (session_at xs session) f xs)
loop_last session f l xs = by (session_at xs session) refl
  where
    by : (o : Option Session) → session_at xs session ≡ o → changed_in o f (with_session_at session (with_frame_loop l) xs) ≡ with_session_at session (with_frame_loop l) (changed_in o f xs)
    by None eo = refl
    by (Some x) eo =
        rw (handle_of xs session x eo)
        (twice session (with_life (f x.life).life) (with_frame_loop l) (λ y. refl) xs ∙ sym (twice session (with_frame_loop l) (with_life (f x.life).life) (λ y. refl) xs))

module _ (P : Handles → List Session → Type 0) (s : CoreState) (reads : CellReads) (e : Entry) where
  changed : Closed P → (session : ℕ) (f : Life → Changed) (o : Option Session) → session_at s.sessions session ≡ o → Has P s → ((x : Session) → session_at s.sessions session ≡ Some x → P s.handles (with_session_at x.handle (with_life (f x.life).life) s.sessions)) → Has P (with_change s o f)
  changed closed session f None found same lives = settles P closed s.handles s.device.wish _ same
  changed closed session f (Some x) found same lives = settles P closed s.handles s.device.wish _ (lives x found)

  -- its loop of frames changes, and then its life
  with_period : Closed P → (session : ℕ) (f : Life → Changed) (l : FrameLoop) (o : Option Session) → session_at s.sessions session ≡ o
      → ((g : Session → Session) → ((x : Session) → (g x).handle ≡ x.handle) → ((x : Session) → session_at s.sessions session ≡ Some x → (g x).life.lost ≡ x.life.lost) → ((x : Session) → (g x).attached ≡ x.attached) → P s.handles (with_session_at session g s.sessions))
      → ((life : Life) → (f life).life.lost ≡ life.lost) → Has P (with_change (with_loop s session l) o f)
  with_period closed session f l None found lives keeps = settles P closed s.handles s.device.wish _ (lives (with_frame_loop l) (λ y. refl) (λ y there. refl) (λ y. refl))
  with_period closed session f l (Some x) found lives keeps =
      let there : P s.handles (with_session_at x.handle (with_life (f x.life).life) (with_session_at session (with_frame_loop l) s.sessions)) =
      rw (handle_of s.sessions session x found, twice session (with_life (f x.life).life) (with_frame_loop l) (λ y. refl) s.sessions)
      (lives (λ y. with_life (f x.life).life (with_frame_loop l y)) (λ y. refl) (λ y there. keeps x.life ∙ ap (λ (z : Session). z.life.lost) (one x y (sym found ∙ there))) (λ y. refl)) in
      settles P closed s.handles s.device.wish _ there
    where
      one : (a b : Session) → Some a ≡ Some b → a ≡ b
      one a b same = cc

  events : (what : DeviceEvent) → Keeps P s reads (record e { call = ask.Device what }) → Has P (behind_event s what)
  events (event.Clock time) k = k.same refl refl
  events (event.Grid base period) k = k.same refl refl
  events (event.Wish wish) k = settles P k.each s.handles wish _ (k.same refl refl)
  events event.Loss k = settles P k.each s.handles s.device.wish _ (k.each s.handles s.sessions (λ x. losing_session x.life) (λ x. losing_keeps x.life) (k.same refl refl))
  events event.Lost k = k.lost refl refl
  events (event.Mark mark) k = k.same refl refl
  events event.Fault k = k.lost refl refl
  events (event.Garbled line) k = k.lost refl refl
  events (event.Await mark) k = k.same refl refl
  events (event.Stage on) k = k.same refl refl
  events (event.Profile user profile) k = k.same refl refl
  events (event.Input user row value) k = k.same refl refl
  events (event.Pose origin time pose) k = k.same refl refl

  -- the creation of a session, by what refuses it
  created : (instance system : ℕ) → Keeps P s reads (record e { call = ask.CreateSession instance system }) → Has P (core_step s reads (record e { call = ask.CreateSession instance system })).0
  created instance system k = by (is_live s.handles kind.Instance instance) refl (system == the_system) refl (has_room s.handles kind.Session) refl
    where
      by : (a : Bool) → is_live s.handles kind.Instance instance ≡ a → (b : Bool) → (system == the_system) ≡ b → (c : Bool) → has_room s.handles kind.Session ≡ c → Has P (core_step s reads (record e { call = ask.CreateSession instance system })).0
      by false ea b eb c ec = rw ea (k.same refl (rw ea refl))
      by true ea false eb c ec = rw (ea, eb) (k.same refl (rw (ea, eb) refl))
      by true ea true eb false ec = rw (ea, eb, ec) (k.same refl (rw (ea, eb, ec) refl))
      by true ea true eb true ec = rw (ea, eb, ec) (settles P k.each _ s.device.wish _ (k.session refl refl (rw (ea, eb, ec) refl) ec instance))

-- the property holds after the entry
pub kept_by_step : (P : Handles → List Session → Type 0) (s : CoreState) (reads : CellReads) (e : Entry) → Keeps P s reads e → Has P (core_step s reads e).0
kept_by_step P s reads e = by e.call
  where
    by : (r : Call) → Keeps P s reads (record e { call = r }) → Has P (core_step s reads (record e { call = r })).0
    by (ask.CreateInstance major minor) k =
        let f = rule s reads (record e { call = ask.CreateInstance major minor }) in
        kept P s (refusal e.short f) (told_on f.on f.effect) (k.same refl refl) (λ none. k.instance refl refl)
    by (ask.CreateSession instance system) k = created P s reads e instance system k
    by (ask.DestroyInstance instance) k =
        let f = rule s reads (record e { call = ask.DestroyInstance instance }) in
        kept P s (refusal e.short f) (told_on f.on f.effect) (k.same refl refl) (λ none. settles P k.each _ s.device.wish _ (k.without refl refl instance))
    by (ask.CreateReferenceSpace session what offset) k =
        let f = rule s reads (record e { call = ask.CreateReferenceSpace session what offset }) in
        kept P s (refusal e.short f) (told_on f.on f.effect) (k.same refl refl) (λ none. k.space refl refl session)
    by (ask.CreateActionSpace session action sub offset) k =
        let f = rule s reads (record e { call = ask.CreateActionSpace session action sub offset }) in
        kept P s (refusal e.short f) (told_on f.on f.effect) (k.same refl refl) (λ none. k.space refl refl session)
    by (ask.CreateSwapchain session format width height fixed) k =
        let f = rule s reads (record e { call = ask.CreateSwapchain session format width height fixed }) in
        kept P s (refusal e.short f) (told_on f.on f.effect) (k.same refl refl) (λ none. k.chain refl refl session)
    by (ask.DestroySwapchain chain) k =
        let f = rule s reads (record e { call = ask.DestroySwapchain chain }) in
        kept P s (refusal e.short f) (told_on f.on f.effect) (k.same refl refl) (λ none. k.chain_alone refl refl chain)
    by (ask.DestroySpace space) k =
        let f = rule s reads (record e { call = ask.DestroySpace space }) in
        kept P s (refusal e.short f) (told_on f.on f.effect) (k.same refl refl) (λ none. k.alone refl refl space)
    by (ask.CreateActionSet instance name localized priority) k =
        let f = rule s reads (record e { call = ask.CreateActionSet instance name localized priority }) in
        kept P s (refusal e.short f) (told_on f.on f.effect) (k.same refl refl) (λ none. k.set refl refl instance)
    by (ask.DestroyActionSet set) k =
        let f = rule s reads (record e { call = ask.DestroyActionSet set }) in
        kept P s (refusal e.short f) (told_on f.on f.effect) (k.same refl refl) (λ none. settles P k.each _ s.device.wish _ (k.without refl refl set))
    by (ask.CreateAction set name type subs localized) k =
        let f = rule s reads (record e { call = ask.CreateAction set name type subs localized }) in
        kept P s (refusal e.short f) (told_on f.on f.effect) (k.same refl refl) (λ none. k.action refl refl set)
    by (ask.DestroyAction action) k =
        let f = rule s reads (record e { call = ask.DestroyAction action }) in
        kept P s (refusal e.short f) (told_on f.on f.effect) (k.same refl refl) (λ none. settles P k.each _ s.device.wish _ (k.without refl refl action))
    by (ask.DestroySession session) k =
        let f = rule s reads (record e { call = ask.DestroySession session }) in
        kept P s (refusal e.short f) (told_on f.on f.effect) (k.same refl refl) (λ none. settles P k.each _ s.device.wish _ (k.without refl refl session))
    by (ask.BeginSession session view) k =
        let f = rule s reads (record e { call = ask.BeginSession session view }) in
        kept P s (refusal e.short f) (told_on f.on f.effect) (k.same refl refl) (λ none. with_period P s reads e k.each session (λ life. unchanged (begun_session life)) _ (session_at s.sessions session) refl (k.lives refl refl session) (λ life. refl))
    by (ask.EndSession session) k =
        let f = rule s reads (record e { call = ask.EndSession session }) in
        kept P s (refusal e.short f) (told_on f.on f.effect) (k.same refl refl) (λ none. with_period P s reads e k.each session (ended_session s.device.wish) _ (session_at s.sessions session) refl (k.lives refl refl session) (λ life. refl))
    by (ask.WaitFrame session) k =
        let f = rule s reads (record e { call = ask.WaitFrame session }) in
        kept P s (refusal e.short f) (told_on f.on f.effect) (k.same refl refl) (λ none. k.lives refl refl session (with_frame_loop _) (λ y. refl) (λ y there. refl) (λ y. refl))
    by (ask.BeginFrame session) k =
        let f = rule s reads (record e { call = ask.BeginFrame session }) in
        kept P s (refusal e.short f) (told_on f.on f.effect) (k.same refl refl) (λ none. k.lives refl refl session (with_frame_loop _) (λ y. refl) (λ y there. refl) (λ y. refl))
    by (ask.RequestExitSession session) k =
        let f = rule s reads (record e { call = ask.RequestExitSession session }) in
        kept P s (refusal e.short f) (told_on f.on f.effect) (k.same refl refl) (λ none. changed P s reads e k.each session (exiting_session s.device.wish) (session_at s.sessions session) refl (k.same refl refl) (λ x found. k.lives refl refl x.handle (with_life _) (λ y. refl) (λ y there. ap (λ (z : Session). z.life.lost) (found_once s.sessions session x y found there)) (λ y. refl)))
    by (ask.SyncActions session active) k =
        let f = rule s reads (record e { call = ask.SyncActions session active }) in
        kept P s (refusal e.short f) (told_on f.on f.effect) (k.same refl refl) (λ none. k.lives refl refl session (with_columns _) (λ y. refl) (λ y there. refl) (λ y. refl))
    by (ask.AttachSets session handles) k =
        let f = rule s reads (record e { call = ask.AttachSets session handles }) in
        kept P s (refusal e.short f) (told_on f.on f.effect) (k.same refl refl) (λ none. k.attach refl refl session handles)
    by (ask.EndFrame session time blend layers) k =
        let f = rule s reads (record e { call = ask.EndFrame session time blend layers }) in
        kept P s (refusal e.short f) (told_on f.on f.effect) (k.same refl refl) (λ none. with_period P s reads e k.each session (synced_session wish.Ready) _ (session_at s.sessions session) refl (k.lives refl refl session) (synced_keeps wish.Ready))
    by (ask.Device what) k = events P s reads e what k
    by r k = let f = rule s reads (record e { call = r }) in kept P s (refusal e.short f) (told_on f.on f.effect) (k.same refl refl) (λ none. k.same refl refl)
