-- Where the table of states leads, and the sessions of a history with it.
use Rattle.std.proofs.Common.{◌≡◌, ◌==◌, ℕ, Bool, true, false, not, List, [], ◌∷◌, ◌++◌, Option, Some, None, option_map, refl, sym, ap, subst, ◌∙◌, true≢false}
use Rattle.std.specs.Prelude.{if◌then◌else◌}
use Rattle.xr_types.specs.Code.{is_success}
use Rattle.xr_types.specs.declared.calls.Call.{Call}
use Rattle.xr_types.specs.declared.calls.Call.TheVariants as ask
use Rattle.xr_types.specs.declared.device.DeviceEvent.{DeviceEvent}
use Rattle.xr_types.specs.declared.device.DeviceEvent.TheVariants as event
use Rattle.xr_types.specs.declared.device.Wish.{Wish}
use Rattle.xr_types.specs.declared.device.Wish.TheVariants as wish
use Rattle.xr_types.specs.declared.session.SessionState.{SessionState}
use Rattle.xr_types.specs.declared.session.SessionState.TheVariants.{Idle, Ready, Synchronized, Visible, Focused, Stopping, LossPending, Exiting}
use Rattle.xr_types.specs.declared.handles.Kind.TheVariants as kind
use Rattle.xr_model.specs.machine.Calls.{Entry}
use Rattle.xr_model.specs.machine.Destroyed.{without_handle, left_session, sessions_left}
use Rattle.xr_model.specs.machine.Frames.{FrameLoop, reset_loop, waited_loop, begun_loop, ended_loop}
use Rattle.xr_model.specs.machine.Handles.{is_live, without, destroyed_by, Handles}
use Rattle.xr_model.specs.machine.LiveSessions.{Session, session_at, with_session_at, with_frame_loop, with_life, with_attached, still_live, each_changed, with_columns}
use Rattle.xr_model.specs.machine.Refusals.{Refusal}
use Rattle.xr_model.specs.machine.Rule.{Effect, refusal, refusals, told_on, unless_refused}
use Rattle.xr_model.specs.machine.Rules.Device.{behind_event}
use Rattle.xr_model.specs.machine.Rules.Frames.{look_of, next_time}
use Rattle.xr_model.specs.machine.Rules.Session.{new_session, changed_in, life_of, loop_of}
use Rattle.xr_model.specs.machine.SessionLife.{Life, Changed, unchanged, next_state, changes, most_changes, last_of, begun_session, ended_session, exiting_session, losing_session, lost_session, started_session, synced_session}
use Rattle.xr_model.specs.machine.SessionRule.{loss_of}
use Rattle.xr_model.specs.machine.Sets.{sets_named}
use Rattle.xr_model.specs.machine.State.{CoreState, State, opening}
use Rattle.xr_model.specs.machine.Target.{target_of, without_focus, own_wish, Standing, other_settled, target_settled, rounds, most_rounds}
use Rattle.xr_model.specs.machine.Machine.{rule, reads_of, step}
use Rattle.xr_model.specs.machine.History.{after}
use Rattle.xr_model.specs.laws.StateLaws.{NextStates, rests_at, first_frame, lost_to, brought_to, state_before, StatesFollowTheTable}
use Rattle.xr_model.proofs.Rows.{same_key}
use Rattle.xr_model.proofs.LayerCodes.{layers_fail}
use Rattle.xr_model.proofs.Listed.{handle_of}
use Rattle.xr_model.proofs.SessionAnswers.{none_in, first_none}
use Rattle.xr_model.proofs.SessionLives.{found_at, found_each, found_without, where_left, found_left, found_more}
use Rattle.xr_model.proofs.SessionSteps.{loop_last}
use Rattle.xr_model.proofs.Settled.{IsSound, lost_sound, attached_sound, loop_sound, sound_after, each_found, synced_sound}
use Rattle.xr_model.proofs.Successes.{success_succeeds}
use Rattle.xr_model.proofs.Targets.{Settles, AreSettled, in_round, one_in_round, own_stays, once_is_enough}
use Rattle.xr_types.specs.declared.input.Column.{Column}

pub next_states : NextStates
next_states wish.Rest true Idle = refl
next_states wish.Rest true Ready = refl
next_states wish.Rest true Synchronized = refl
next_states wish.Rest true Visible = refl
next_states wish.Rest true Focused = refl
next_states wish.Rest true Stopping = refl
next_states wish.Rest true LossPending = refl
next_states wish.Rest true Exiting = refl
next_states wish.Rest false Idle = refl
next_states wish.Rest false Ready = refl
next_states wish.Rest false Synchronized = refl
next_states wish.Rest false Visible = refl
next_states wish.Rest false Focused = refl
next_states wish.Rest false Stopping = refl
next_states wish.Rest false LossPending = refl
next_states wish.Rest false Exiting = refl
next_states wish.Ready true Idle = refl
next_states wish.Ready true Ready = refl
next_states wish.Ready true Synchronized = refl
next_states wish.Ready true Visible = refl
next_states wish.Ready true Focused = refl
next_states wish.Ready true Stopping = refl
next_states wish.Ready true LossPending = refl
next_states wish.Ready true Exiting = refl
next_states wish.Ready false Idle = refl
next_states wish.Ready false Ready = refl
next_states wish.Ready false Synchronized = refl
next_states wish.Ready false Visible = refl
next_states wish.Ready false Focused = refl
next_states wish.Ready false Stopping = refl
next_states wish.Ready false LossPending = refl
next_states wish.Ready false Exiting = refl
next_states wish.Visible true Idle = refl
next_states wish.Visible true Ready = refl
next_states wish.Visible true Synchronized = refl
next_states wish.Visible true Visible = refl
next_states wish.Visible true Focused = refl
next_states wish.Visible true Stopping = refl
next_states wish.Visible true LossPending = refl
next_states wish.Visible true Exiting = refl
next_states wish.Visible false Idle = refl
next_states wish.Visible false Ready = refl
next_states wish.Visible false Synchronized = refl
next_states wish.Visible false Visible = refl
next_states wish.Visible false Focused = refl
next_states wish.Visible false Stopping = refl
next_states wish.Visible false LossPending = refl
next_states wish.Visible false Exiting = refl
next_states wish.Focused true Idle = refl
next_states wish.Focused true Ready = refl
next_states wish.Focused true Synchronized = refl
next_states wish.Focused true Visible = refl
next_states wish.Focused true Focused = refl
next_states wish.Focused true Stopping = refl
next_states wish.Focused true LossPending = refl
next_states wish.Focused true Exiting = refl
next_states wish.Focused false Idle = refl
next_states wish.Focused false Ready = refl
next_states wish.Focused false Synchronized = refl
next_states wish.Focused false Visible = refl
next_states wish.Focused false Focused = refl
next_states wish.Focused false Stopping = refl
next_states wish.Focused false LossPending = refl
next_states wish.Focused false Exiting = refl

-- where all rows are applied
settles : (w : Wish) (exit : Bool) (state : SessionState) → last_of state (changes most_changes w exit state) ≡ rests_at state w exit
settles wish.Rest true Idle = refl
settles wish.Rest true Ready = refl
settles wish.Rest true Synchronized = refl
settles wish.Rest true Visible = refl
settles wish.Rest true Focused = refl
settles wish.Rest true Stopping = refl
settles wish.Rest true LossPending = refl
settles wish.Rest true Exiting = refl
settles wish.Rest false Idle = refl
settles wish.Rest false Ready = refl
settles wish.Rest false Synchronized = refl
settles wish.Rest false Visible = refl
settles wish.Rest false Focused = refl
settles wish.Rest false Stopping = refl
settles wish.Rest false LossPending = refl
settles wish.Rest false Exiting = refl
settles wish.Ready true Idle = refl
settles wish.Ready true Ready = refl
settles wish.Ready true Synchronized = refl
settles wish.Ready true Visible = refl
settles wish.Ready true Focused = refl
settles wish.Ready true Stopping = refl
settles wish.Ready true LossPending = refl
settles wish.Ready true Exiting = refl
settles wish.Ready false Idle = refl
settles wish.Ready false Ready = refl
settles wish.Ready false Synchronized = refl
settles wish.Ready false Visible = refl
settles wish.Ready false Focused = refl
settles wish.Ready false Stopping = refl
settles wish.Ready false LossPending = refl
settles wish.Ready false Exiting = refl
settles wish.Visible true Idle = refl
settles wish.Visible true Ready = refl
settles wish.Visible true Synchronized = refl
settles wish.Visible true Visible = refl
settles wish.Visible true Focused = refl
settles wish.Visible true Stopping = refl
settles wish.Visible true LossPending = refl
settles wish.Visible true Exiting = refl
settles wish.Visible false Idle = refl
settles wish.Visible false Ready = refl
settles wish.Visible false Synchronized = refl
settles wish.Visible false Visible = refl
settles wish.Visible false Focused = refl
settles wish.Visible false Stopping = refl
settles wish.Visible false LossPending = refl
settles wish.Visible false Exiting = refl
settles wish.Focused true Idle = refl
settles wish.Focused true Ready = refl
settles wish.Focused true Synchronized = refl
settles wish.Focused true Visible = refl
settles wish.Focused true Focused = refl
settles wish.Focused true Stopping = refl
settles wish.Focused true LossPending = refl
settles wish.Focused true Exiting = refl
settles wish.Focused false Idle = refl
settles wish.Focused false Ready = refl
settles wish.Focused false Synchronized = refl
settles wish.Focused false Visible = refl
settles wish.Focused false Focused = refl
settles wish.Focused false Stopping = refl
settles wish.Focused false LossPending = refl
settles wish.Focused false Exiting = refl

-- what has settled rests
last_none : (state : SessionState) (o : Option SessionState) → o ≡ None → (more : SessionState → List SessionState) → last_of state (elim o [ None ↦ [] | Some to ↦ more to ]) ≡ state
last_none state None none more = refl
last_none state (Some to) none more = cc

stays : (w : Wish) (life : Life) → next_state w life.exit life.state ≡ None → life.state ≡ rests_at life.state w life.exit
stays w life settled = sym (last_none life.state (next_state w life.exit life.state) settled (λ to. to ∷ changes 3 w life.exit to)) ∙ settles w life.exit life.state

-- ---- where settling leads

-- a session's own part of a wish, told whether it is the target
abbrev part : Wish → Bool → Wish
part w it = if it then w else without_focus w

-- under this wish a life comes to rest where this state leads
abbrev LeadsTo : Wish → Life → SessionState → Type 0
LeadsTo w life to = rests_at life.state w life.exit ≡ rests_at to w life.exit

-- what is found comes to rest where this state leads, under either part of the wish
abbrev Comes : Wish → SessionState → Option Session → Type 0
Comes w to None = Unit {0}
Comes w to (Some x) = (it : Bool) → LeadsTo (part w it) x.life to

-- what is found rests there, under its own part of the wish
abbrev Rests : Wish → ℕ → SessionState → Option Session → Type 0
Rests w target to None = Unit {0}
Rests w target to (Some y) = y.life.state ≡ rests_at to (own_wish w target y) y.life.exit

-- what has not changed does, from its own state
unchanged_comes : (w : Wish) (o : Option Session) → Comes w (state_before o) o
unchanged_comes w None = tt
unchanged_comes w (Some x) = λ it. refl

in_round_rests : (w : Wish) (target : ℕ) (to : SessionState) (x : Session) → Comes w to (Some x) → Rests w target to (Some (one_in_round w target x))
in_round_rests w target to x comes = by (x.ordinal == target) refl
  where
    by : (b : Bool) → (x.ordinal == target) ≡ b → Rests w target to (Some (one_in_round w target x))
    by true eb = rw eb (settles w x.life.exit x.life.state ∙ comes true)
    by false eb = rw eb (settles (without_focus w) x.life.exit x.life.state ∙ comes false)

rounds_rest : (w : Wish) (t : Standing) (to : SessionState) (handle : ℕ) → Comes w to (session_at t.sessions handle)
    → Rests w (target_of (rounds most_rounds w t).sessions) to (session_at (rounds most_rounds w t).sessions handle)
rounds_rest w t to handle comes =
    subst (λ (u : Standing). Rests w (target_of u.sessions) to (session_at u.sessions handle)) (sym (once_is_enough w t))
    (subst (λ (o : Option Session). Rests w (target_of new) to o) (sym found) (by (session_at t.sessions handle) comes))
  where
    target : ℕ
    target = target_of t.sessions

    new : List Session
    new = in_round w target t.sessions

    others : Session → Session
    others x = with_life (other_settled w target x).life x

    its : Session → Session
    its x = with_life (target_settled w target x).life x

    found : session_at new handle ≡ option_map its (option_map others (session_at t.sessions handle))
    found =
        found_each (target_settled w target) handle (each_changed (other_settled w target) t.sessions)
        ∙ ap (option_map its) (found_each (other_settled w target) handle t.sessions)

    by : (o : Option Session) → Comes w to o → Rests w (target_of new) to (option_map its (option_map others o))
    by None comes = tt
    by (Some x) comes =
        in_round_rests w target to x comes
        ∙ ap (λ (v : Wish). rests_at to v (one_in_round w target x).life.exit) (sym (own_stays w t.sessions x))

-- where all have settled each rests in its state
settled_rest : (w : Wish) (xs : List Session) → AreSettled w (target_of xs) xs → (handle : ℕ)
    → Rests w (target_of xs) (state_before (session_at xs handle)) (session_at xs handle)
settled_rest w xs each handle = by (session_at xs handle) refl
  where
    by : (o : Option Session) → session_at xs handle ≡ o → Rests w (target_of xs) (state_before o) o
    by None eo = tt
    by (Some x) eo = stays (own_wish w (target_of xs) x) x.life (each_found (Settles w (target_of xs)) xs each handle x eo)

-- ---- what an entry makes of one session before all settle

-- an idle session, whatever the wish was
idle_again : (w : Wish) (exit it : Bool) → rests_at (last_of Idle (changes most_changes w exit Idle)) (part w it) exit ≡ rests_at Idle (part w it) exit
idle_again wish.Rest true true = refl
idle_again wish.Rest true false = refl
idle_again wish.Rest false true = refl
idle_again wish.Rest false false = refl
idle_again wish.Ready true true = refl
idle_again wish.Ready true false = refl
idle_again wish.Ready false true = refl
idle_again wish.Ready false false = refl
idle_again wish.Visible true true = refl
idle_again wish.Visible true false = refl
idle_again wish.Visible false true = refl
idle_again wish.Visible false false = refl
idle_again wish.Focused true true = refl
idle_again wish.Focused true false = refl
idle_again wish.Focused false true = refl
idle_again wish.Focused false false = refl

-- one whose end was asked for
asked_again : (w v : Wish) (state : SessionState) → rests_at (last_of state (changes most_changes w true state)) v true ≡ rests_at state v true
asked_again w v state = rw (settles w true state) (by state)
  where
    by : (state : SessionState) → rests_at (rests_at state w true) v true ≡ rests_at state v true
    by Idle = refl
    by Ready = refl
    by Synchronized = refl
    by Visible = refl
    by Focused = refl
    by Stopping = refl
    by LossPending = refl
    by Exiting = refl

-- one whose first frame of a period is ended
synced_again : (v : Wish) (life : Life) → LeadsTo v (synced_session wish.Ready life).life (first_frame life.state)
synced_again v life = by life.state life.exit
  where
    by : (state : SessionState) (exit : Bool) → LeadsTo v (synced_session wish.Ready (record life { state = state; exit = exit })).life (first_frame state)
    by Idle exit = refl
    by Ready true = refl
    by Ready false = refl
    by Synchronized exit = refl
    by Visible exit = refl
    by Focused exit = refl
    by Stopping exit = refl
    by LossPending exit = refl
    by Exiting exit = refl

lost_again : (v : Wish) (life : Life) → LeadsTo v (losing_session life).life (lost_to life.state)
lost_again v life = by life.state
  where
    by : (state : SessionState) → LeadsTo v (losing_session (record life { state = state })).life (lost_to state)
    by Idle = refl
    by Ready = refl
    by Synchronized = refl
    by Visible = refl
    by Focused = refl
    by Stopping = refl
    by LossPending = refl
    by Exiting = refl

-- the session with one handle changes, and comes where that leads
module _ (w : Wish) (f : Life → Changed) (to : SessionState → SessionState)
    (leads : (life : Life) (it : Bool) → LeadsTo (part w it) (f life).life (to life.state)) where
  -- where it is this one
  abbrev where_it : Bool → SessionState → SessionState
  where_it it state = if it then to state else state

  changed_comes : (xs : List Session) (session handle : ℕ)
      → Comes w (where_it (session == handle) (state_before (session_at xs handle))) (session_at (changed_in (session_at xs session) f xs) handle)
  changed_comes xs session handle = by (session_at xs session) refl
    where
      some_is : (x y : Session) → Some x ≡ Some y → x ≡ y
      some_is x y same = cc

      none : (b : Bool) → (session == handle) ≡ b → session_at xs session ≡ None → Comes w (where_it b (state_before (session_at xs handle))) (session_at xs handle)
      none true eb eo = let away : session_at xs handle ≡ None = subst (λ (n : ℕ). session_at xs n ≡ None) (same_key session handle eb) eo in rw away tt
      none false eb eo = unchanged_comes w (session_at xs handle)

      one : (z : Session) → session_at xs session ≡ Some z → (b : Bool) → (session == handle) ≡ b → (o : Option Session) → session_at xs handle ≡ o
          → Comes w (where_it b (state_before o)) (option_map (λ x. if b then with_life (f z.life).life x else x) o)
      one z ez b eb None eo = tt
      one z ez false eb (Some x) eo = λ it. refl
      one z ez true eb (Some x) eo =
          let found : session_at xs handle ≡ Some z = subst (λ (n : ℕ). session_at xs n ≡ Some z) (same_key session handle eb) ez in
          subst (λ (y : Session). Comes w (to y.life.state) (Some (with_life (f z.life).life y))) (some_is z x (sym found ∙ eo)) (λ it. leads z.life it)

      by : (o : Option Session) → session_at xs session ≡ o
          → Comes w (where_it (session == handle) (state_before (session_at xs handle))) (session_at (changed_in o f xs) handle)
      by None eo = none (session == handle) refl eo
      by (Some z) eo =
          let named = handle_of xs session z eo in
          rw (found_at z.handle handle (with_life (f z.life).life) (λ x. refl) xs, named)
          (one z eo (session == handle) refl (session_at xs handle) refl)

-- ---- a history

-- a call that brings a session to the same state, refused or not
kept : (P : CoreState → Type 0) (s : CoreState) (o : Option Refusal) (x : Effect) → P s → P x.state → P (unless_refused s o x).state
kept P s None x same done = done
kept P s (Some r) x same done = same

-- a call none of whose refusals is a success
carried : (P : CoreState → Bool → Type 0) (s : CoreState) (o : Option Refusal) (x : Effect)
    → none_in is_success o ≡ true → is_success x.code ≡ true → P s false → P x.state true
    → P (unless_refused s o x).state (is_success (unless_refused s o x).code)
carried P s None x none good same done = rw good done
carried P s (Some r) x none good same done = rw (refused (is_success r.code) none) same
  where
    refused : (b : Bool) → not b ≡ true → b ≡ false
    refused true none = absurd (true≢false (sym none))
    refused false none = refl

module _ (s : State) (e : Entry) (handle : ℕ) (sound : IsSound s) where
  abbrev before : SessionState
  before = state_before (session_at s.core.sessions handle)

  -- what is found in these sessions rests where this state leads
  abbrev RestsAmong : Wish → SessionState → List Session → Type 0
  RestsAmong w to xs = Rests w (target_of xs) to (session_at xs handle)

  abbrev RestsIn : SessionState → CoreState → Type 0
  RestsIn to t = RestsAmong t.device.wish to t.sessions

  still : RestsIn before s.core
  still = settled_rest s.core.device.wish s.core.sessions sound.1 handle

  -- a session joins
  joined : (new : Session) → new.life ≡ (started_session s.core.device.wish).life → Comes s.core.device.wish before (session_at (s.core.sessions ++ new ∷ []) handle)
  joined new is = rw (found_more new handle s.core.sessions) (by (session_at s.core.sessions handle) (new.handle == handle))
    where
      by : (o : Option Session) (b : Bool) → Comes s.core.device.wish (state_before o) (elim o [ None ↦ if b then Some new else None | Some x ↦ Some x ])
      by None true = rw is (λ it. idle_again s.core.device.wish false it)
      by None false = tt
      by (Some x) b = λ it. refl

  -- some go
  left : (top : ℕ) → Comes s.core.device.wish before (session_at (sessions_left (without s.core.handles top) (destroyed_by s.core.handles top) s.core.sessions) handle)
  left top =
      let h = without s.core.handles top in
      let sets = destroyed_by s.core.handles top in
      rw (found_without h sets handle (still_live h s.core.sessions), found_left (λ n. is_live h kind.Session n) handle s.core.sessions)
      (by h sets (is_live h kind.Session handle) (session_at s.core.sessions handle))
    where
      by : (h : Handles) (gone : List ℕ) (b : Bool) (o : Option Session) → Comes s.core.device.wish (state_before o) (option_map (left_session h gone) (where_left b o))
      by h gone true None = tt
      by h gone true (Some x) = λ it. refl
      by h gone false None = tt
      by h gone false (Some x) = tt

  gone : (top : ℕ) → RestsIn before (without_handle s.core top)
  gone top = rounds_rest s.core.device.wish _ before handle (left top)

  -- one changes but for its life
  beside : (session : ℕ) (g : Session → Session) → ((x : Session) → (g x).handle ≡ x.handle) → ((x : Session) → (g x).life ≡ x.life)
      → AreSettled s.core.device.wish (target_of (with_session_at session g s.core.sessions)) (with_session_at session g s.core.sessions)
      → RestsAmong s.core.device.wish before (with_session_at session g s.core.sessions)
  beside session g named lives there =
      let new = with_session_at session g s.core.sessions in
      subst (λ (to : SessionState). RestsAmong s.core.device.wish to new)
      (ap state_before (found_at session handle g named s.core.sessions) ∙ same (session == handle) (session_at s.core.sessions handle))
      (settled_rest s.core.device.wish new there handle)
    where
      same : (b : Bool) (o : Option Session) → state_before (option_map (λ x. if b then g x else x) o) ≡ state_before o
      same b None = refl
      same true (Some x) = ap (λ (life : Life). life.state) (lives x)
      same false (Some x) = refl

  -- one is synced
  synced : (session : ℕ) (columns : List (List Column)) → RestsAmong s.core.device.wish before (with_session_at session (with_columns columns) s.core.sessions)
  synced session columns = beside session (with_columns columns) (λ x. refl) (λ x. refl) (synced_sound s.core sound session columns).1

  -- one attaches its sets
  attached : (session : ℕ) (sets : List ℕ) → RestsAmong s.core.device.wish before (with_session_at session (with_attached sets) s.core.sessions)
  attached session sets = beside session (with_attached sets) (λ x. refl) (λ x. refl) (attached_sound s.core sound session sets).1

  -- its loop of frames changes
  looped : (session : ℕ) (l : FrameLoop) → RestsAmong s.core.device.wish before (with_session_at session (with_frame_loop l) s.core.sessions)
  looped session l = beside session (with_frame_loop l) (λ x. refl) (λ x. refl) (loop_sound s.core sound session l).1

  -- the device is lost
  lost : RestsAmong s.core.device.wish before (each_changed (λ x. unchanged (lost_session x.life)) s.core.sessions)
  lost =
      let new = each_changed (λ x. unchanged (lost_session x.life)) s.core.sessions in
      let there = lost_sound s.core sound in
      subst (λ (to : SessionState). RestsAmong s.core.device.wish to new)
      (ap state_before (found_each (λ x. unchanged (lost_session x.life)) handle s.core.sessions) ∙ same (session_at s.core.sessions handle))
      (settled_rest s.core.device.wish new there.1 handle)
    where
      same : (o : Option Session) → state_before (option_map (λ x. with_life (lost_session x.life) x) o) ≡ state_before o
      same None = refl
      same (Some x) = refl

  -- one changes, and its loop of frames
  period : (f : Life → Changed) (to : SessionState → SessionState) → ((life : Life) (it : Bool) → LeadsTo (part s.core.device.wish it) (f life).life (to life.state))
      → (session : ℕ) (l : FrameLoop)
      → Comes s.core.device.wish (if session == handle then to before else before) (session_at (changed_in (session_at s.core.sessions session) f (with_session_at session (with_frame_loop l) s.core.sessions)) handle)
  period f to leads session l =
      let xs = changed_in (session_at s.core.sessions session) f s.core.sessions in
      rw (loop_last session f l s.core.sessions, found_at session handle (with_frame_loop l) (λ x. refl) xs)
      (still_comes (if session == handle then to before else before) (session == handle) (session_at xs handle) (changed_comes s.core.device.wish f to leads s.core.sessions session handle))
    where
      still_comes : (state : SessionState) (b : Bool) (o : Option Session) → Comes s.core.device.wish state o → Comes s.core.device.wish state (option_map (λ x. if b then with_frame_loop l x else x) o)
      still_comes state b None comes = tt
      still_comes state true (Some x) comes = comes
      still_comes state false (Some x) comes = comes

  -- all settle, and what changed still comes where its state leads
  kept_on : (session : ℕ) (t : Standing) → Comes s.core.device.wish (if session == handle then before else before) (session_at t.sessions handle)
      → RestsAmong s.core.device.wish before (rounds most_rounds s.core.device.wish t).sessions
  kept_on session t comes = rounds_rest s.core.device.wish t before handle (subst (λ (to : SessionState). Comes s.core.device.wish to (session_at t.sessions handle)) (same (session == handle)) comes)
    where
      same : (b : Bool) → (if b then before else before) ≡ before
      same true = refl
      same false = refl

  losing : Comes s.core.device.wish (lost_to before) (session_at (each_changed (λ x. losing_session x.life) s.core.sessions) handle)
  losing = rw (found_each (λ x. losing_session x.life) handle s.core.sessions) (by (session_at s.core.sessions handle))
    where
      by : (o : Option Session) → Comes s.core.device.wish (lost_to (state_before o)) (option_map (λ x. with_life (losing_session x.life).life x) o)
      by None = tt
      by (Some x) = λ it. lost_again (part s.core.device.wish it) x.life

  events : (what : DeviceEvent) → RestsIn (brought_to (ask.Device what) handle true before) (behind_event s.core what)
  events (event.Wish w) = rounds_rest w (record { sessions = s.core.sessions; events = s.core.events }) before handle (unchanged_comes w (session_at s.core.sessions handle))
  events event.Loss = rounds_rest s.core.device.wish _ (lost_to before) handle losing
  events event.Lost = lost
  events event.Fault = lost
  events (event.Garbled line) = lost
  events _ = still

  rests_behind : RestsIn (brought_to e.call handle (is_success (step s e).1.reply.code) before) (step s e).0.core
  rests_behind = by e.call
    where
      by : (r : Call) → RestsIn (brought_to r handle (is_success (step s (record e { call = r })).1.reply.code) before) (step s (record e { call = r })).0.core
      by (ask.CreateSession instance system) =
          let f = rule s.core (reads_of s (ask.CreateSession instance system)) (record e { call = ask.CreateSession instance system }) in
          kept (RestsIn before) s.core (refusal e.short f) (told_on f.on f.effect) still
          (rounds_rest s.core.device.wish _ before handle (joined (new_session s.core e.given (started_session s.core.device.wish).life) refl))
      by (ask.BeginSession session view) =
          let f = rule s.core (reads_of s (ask.BeginSession session view)) (record e { call = ask.BeginSession session view }) in
          kept (RestsIn before) s.core (refusal e.short f) (told_on f.on f.effect) still
          (kept_on session _ (period (λ life. unchanged (begun_session life)) (λ state. state) (λ life it. refl) session (reset_loop (loop_of s.core session))))
      by (ask.EndSession session) =
          let f = rule s.core (reads_of s (ask.EndSession session)) (record e { call = ask.EndSession session }) in
          carried (λ t good. RestsIn (brought_to (ask.EndSession session) handle good before) t) s.core (refusal e.short f) (told_on f.on f.effect)
          (first_none is_success (refusals f) refl)
          (success_succeeds (loss_of (life_of s.core session))) still
          (rounds_rest s.core.device.wish _ (if session == handle then Idle else before) handle
          (period (ended_session s.core.device.wish) (λ state. Idle) (λ life it. idle_again s.core.device.wish life.exit it) session (reset_loop (loop_of s.core session))))
      by (ask.RequestExitSession session) =
          let f = rule s.core (reads_of s (ask.RequestExitSession session)) (record e { call = ask.RequestExitSession session }) in
          kept (RestsIn before) s.core (refusal e.short f) (told_on f.on f.effect) still
          (kept_on session _
          (changed_comes s.core.device.wish (exiting_session s.core.device.wish) (λ state. state) (λ life it. asked_again s.core.device.wish (part s.core.device.wish it) life.state) s.core.sessions session handle))
      by (ask.EndFrame session time blend layers) =
          let f = rule s.core (reads_of s (ask.EndFrame session time blend layers)) (record e { call = ask.EndFrame session time blend layers }) in
          carried (λ t good. RestsIn (brought_to (ask.EndFrame session time blend layers) handle good before) t) s.core (refusal e.short f) (told_on f.on f.effect)
          (first_none is_success (refusals f) (layers_fail (look_of s.core session) layers))
          (success_succeeds (loss_of (life_of s.core session))) still
          (rounds_rest s.core.device.wish _ (if session == handle then first_frame before else before) handle
          (period (synced_session wish.Ready) first_frame (λ life it. synced_again (part s.core.device.wish it) life) session (ended_loop (loop_of s.core session))))
      by (ask.WaitFrame session) =
          let f = rule s.core (reads_of s (ask.WaitFrame session)) (record e { call = ask.WaitFrame session }) in
          kept (RestsIn before) s.core (refusal e.short f) (told_on f.on f.effect) still (looped session (waited_loop (loop_of s.core session) (next_time s.core session)))
      by (ask.BeginFrame session) =
          let f = rule s.core (reads_of s (ask.BeginFrame session)) (record e { call = ask.BeginFrame session }) in
          kept (RestsIn before) s.core (refusal e.short f) (told_on f.on f.effect) still (looped session (begun_loop (loop_of s.core session)))
      by (ask.SyncActions session active) =
          let f = rule s.core (reads_of s (ask.SyncActions session active)) (record e { call = ask.SyncActions session active }) in
          kept (RestsIn before) s.core (refusal e.short f) (told_on f.on f.effect) still (synced session _)
      by (ask.AttachSets session sets) =
          let f = rule s.core (reads_of s (ask.AttachSets session sets)) (record e { call = ask.AttachSets session sets }) in
          kept (RestsIn before) s.core (refusal e.short f) (told_on f.on f.effect) still (attached session (sets_named s.core.inputs sets))
      by (ask.DestroyInstance top) =
          let f = rule s.core (reads_of s (ask.DestroyInstance top)) (record e { call = ask.DestroyInstance top }) in
          kept (RestsIn before) s.core (refusal e.short f) (told_on f.on f.effect) still (gone top)
      by (ask.DestroySession top) =
          let f = rule s.core (reads_of s (ask.DestroySession top)) (record e { call = ask.DestroySession top }) in
          kept (RestsIn before) s.core (refusal e.short f) (told_on f.on f.effect) still (gone top)
      by (ask.DestroyActionSet top) =
          let f = rule s.core (reads_of s (ask.DestroyActionSet top)) (record e { call = ask.DestroyActionSet top }) in
          kept (RestsIn before) s.core (refusal e.short f) (told_on f.on f.effect) still (gone top)
      by (ask.DestroyAction top) =
          let f = rule s.core (reads_of s (ask.DestroyAction top)) (record e { call = ask.DestroyAction top }) in
          kept (RestsIn before) s.core (refusal e.short f) (told_on f.on f.effect) still (gone top)
      by (ask.Device what) = events what
      by r =
          let f = rule s.core (reads_of s r) (record e { call = r }) in
          kept (RestsIn before) s.core (refusal e.short f) (told_on f.on f.effect) still still

pub states_follow_the_table : StatesFollowTheTable
states_follow_the_table settings es e session y found =
    subst (Rests (step s e).0.core.device.wish (target_of (step s e).0.core.sessions) to) found
    (rests_behind s e session (sound_after (opening settings) es ((tt, tt), tt)))
  where
    s : State
    s = after (opening settings) es

    to : SessionState
    to = brought_to e.call session (is_success (step s e).1.reply.code) (state_before (session_at s.core.sessions session))
