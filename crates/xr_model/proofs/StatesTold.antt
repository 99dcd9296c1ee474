-- Each call but a poll and the instance's end puts the states into the queue through which sessions went.
use Rattle.std.proofs.Common.{◌≡◌, ◌≢◌, ◌+◌, ◌==◌, ◌||◌, ℕ, ℤ, Bool, true, false, List, [], ◌∷◌, ◌++◌, Option, Some, None, refl, sym, ap, subst, ◌∙◌, true≢false}
use Rattle.std.specs.Prelude.{is_some, if◌then◌else◌}
use Rattle.xr_types.specs.declared.device.DeviceEvent.{DeviceEvent}
use Rattle.xr_types.specs.declared.device.DeviceEvent.TheVariants as event
use Rattle.xr_types.specs.declared.handles.Kind.TheVariants as kind
use Rattle.xr_types.specs.declared.session.SessionState.TheVariants.{Ready, Synchronized, Exiting, LossPending, Idle, Focused}
use Rattle.xr_types.specs.declared.calls.Call.{Call}
use Rattle.xr_types.specs.declared.calls.Call.TheVariants as ask
use Rattle.xr_types.specs.declared.session.Event.{Event}
use Rattle.xr_types.specs.declared.device.Wish.{Wish}
use Rattle.xr_types.specs.declared.device.Wish.TheVariants as wish
use Rattle.xr_types.specs.declared.session.SessionState.{SessionState}
use Rattle.xr_model.specs.machine.Calls.{Entry}
use Rattle.xr_model.specs.machine.Events.{Queue}
use Rattle.xr_model.specs.machine.Handles.{is_live, without, destroyed_by, was_given}
use Rattle.xr_model.specs.machine.Sets.{sets_named}
use Rattle.xr_model.specs.machine.Refusals.{Refusal}
use Rattle.xr_model.specs.machine.SessionLife.{Life, Changed, unchanged, started_session, begun_session, settled_session, ended_session, exiting_session, losing_session, lost_session, synced_session, entered, last_of, is_state}
use Rattle.xr_model.specs.machine.Target.{target_of, is_target, own_wish, Standing, other_settled, target_settled, rounds, most_rounds}
use Rattle.xr_model.specs.machine.Destroyed.{without_handle, left_session, sessions_left}
use Rattle.xr_model.specs.machine.LiveSessions.{Session, session_at, with_life, with_session_at, with_attached, still_live, told_states, each_changed, told_changes, with_frame_loop, with_columns}
use Rattle.xr_model.specs.machine.State.{CoreState, Settings, State, opening}
use Rattle.xr_model.specs.machine.Rule.{Effect, refusal, told_on, unless_refused}
use Rattle.xr_model.specs.machine.Rules.Device.{behind_event}
use Rattle.xr_model.specs.machine.Rules.Session.{new_session, changed_in, told_of, loop_of, columns_of, life_of}
use Rattle.xr_model.specs.machine.Machine.{rule, reads_of, step, IsAllowed}
use Rattle.xr_model.specs.machine.History.{after, opening_clocks, clocks_after, IsLegalFrom, IsLegal}
use Rattle.xr_model.specs.machine.Rules.Frames.{next_time}
use Rattle.xr_model.specs.machine.Frames.{FrameLoop, reset_loop, waited_loop, begun_loop, ended_loop}
use Rattle.xr_model.specs.laws.SessionLaws.{AreListed}
use Rattle.xr_model.specs.laws.EventLaws.{pushed_all, is_of_session, state_at, last_told, AreTold, polls, ends, StatesAreTold}
use Rattle.xr_model.specs.laws.Soundness.{AreKnown}
use Rattle.xr_model.proofs.Rows.{itself, same_key, is_false}
use Rattle.xr_model.proofs.Destroying.{known_step, known_after, known_opening}
use Rattle.xr_model.proofs.DestroyedForGood.{legal_behind}
use Rattle.xr_model.proofs.HandleSteps.{succeeds}
use Rattle.xr_model.proofs.Histories.{fronts_are_legal}
use Rattle.xr_model.proofs.Listed.{handle_of, listed_none}
use Rattle.xr_model.proofs.LostSessions.{new_session_given, listed_after, sessions_are_listed}
use Rattle.xr_model.proofs.SessionSteps.{kept_by_step, loop_last}
use Rattle.xr_model.proofs.Targets.{once_is_enough}
use Rattle.xr_model.proofs.ToldStates.{pushed_more, all_more, last_more, all_still_own, states_of, one_told, last_here, last_else, last_new, own_states, AreApart, listed_state, state_before, state_new, ordinal_new, apart_more, apart_lives, state_else, state_here, ordinal_here, state_found, state_beside, left_state, apart_left, state_map, apart_map, changes_of, each_told, listed_each, apart_each, own_each, last_each, state_loop, all_own_loop}
use Rattle.xr_model.specs.machine.Rules.Sync.{columns_synced}

-- ---- listed sessions have handles of their own

unlisted : (s : State) (given : ℕ) → AreKnown s.core.handles → AreListed s.core.handles s.core.sessions → (given ≢ 0) × (was_given s.core.handles given ≡ false) → is_some (state_at s.core.sessions given) ≡ false
unlisted s given known listed fresh =
    let nz : (given == 0) ≡ false = is_false (given == 0) (λ is. fresh.0 (same_key given 0 is)) in
    listed_state s.core.sessions given ∙ listed given ∙ rw (nz, (known given nz fresh.1).sessions) refl

pub apart_step : (s : State) (e : Entry) → IsAllowed s e → AreKnown s.core.handles → AreListed s.core.handles s.core.sessions → AreApart s.core.sessions → AreApart (step s e).0.core.sessions
apart_step s e allowed known listed apart = kept_by_step (λ h xs. AreApart xs) s.core (reads_of s e.call) e (record {
  same = λ d c. apart;
  instance = λ d c. apart;
  session = λ d c good room instance. apart_more s.core.sessions (new_session s.core e.given (started_session s.core.device.wish).life) apart (unlisted s e.given known listed (new_session_given s e allowed c good));
  set = λ d c instance. apart;
  action = λ d c set. apart;
  space = λ d c session. apart;
  chain = λ d c session. apart;
  without = λ d c handle. apart_map (left_session (without s.core.handles handle) (destroyed_by s.core.handles handle)) (λ x. refl) (λ x. refl) (still_live (without s.core.handles handle) s.core.sessions) (apart_left (λ n. is_live (without s.core.handles handle) kind.Session n) s.core.sessions apart);
  alone = λ d c space. apart;
  chain_alone = λ d c chain. apart;
  lives = λ d c session f named same keeps. apart_lives session f named s.core.sessions apart;
  attach = λ d c session sets. apart_lives session (with_attached (sets_named s.core.inputs sets)) (λ x. refl) s.core.sessions apart;
  each = λ h xs f keeps there. apart_each f xs there;
  lost = λ d c. apart_each (λ x. unchanged (lost_session x.life)) s.core.sessions apart;
})

apart_after : (s : State) (clocks : List ℤ) (es : List Entry) → IsLegalFrom s clocks es → AreKnown s.core.handles → AreListed s.core.handles s.core.sessions → AreApart s.core.sessions → AreApart (after s es).core.sessions
apart_after s clocks [] legal known listed apart = apart
apart_after s clocks (e ∷ es) legal known listed apart =
    apart_after (step s e).0 (clocks_after clocks e (step s e).0) es legal.3 (known_step s e known) (listed_after s clocks (e ∷ []) (legal.0, legal.1, legal.2, tt) listed) (apart_step s e legal.0 known listed apart)

pub all_apart : (settings : Settings) (es : List Entry) → IsLegal settings es → AreApart (after (opening settings) es).core.sessions
all_apart settings es legal = apart_after (opening settings) (opening_clocks settings) es legal (known_opening settings) listed_none tt

-- ---- one entry

losing_truly : (life : Life) → (losing_session life).life.state ≡ last_of life.state (losing_session life).through
losing_truly life = by (is_state life.state Exiting || is_state life.state LossPending)
  where
    by : (b : Bool) → (if b then unchanged life else record { life = record life { state = LossPending }; through = LossPending ∷ [] }).life.state ≡ last_of life.state (if b then unchanged life else record { life = record life { state = LossPending }; through = LossPending ∷ [] }).through
    by true = refl
    by false = refl

synced_truly : (w : Wish) (life : Life) → (synced_session w life).life.state ≡ last_of life.state (synced_session w life).through
synced_truly w life = by (is_state life.state Ready)
  where
    by : (b : Bool) → (if b then entered w life Synchronized else unchanged life).life.state ≡ last_of life.state (if b then entered w life Synchronized else unchanged life).through
    by true = refl
    by false = refl

-- some events tell it
abbrev Tells : Queue → Queue → List Session → List Session → Type 0
Tells q new xs ys = (events : List Event) × AreTold events q new xs ys

-- no event comes
nothing : (q : Queue) (xs ys : List Session) → ((k : ℕ) → is_some (state_at ys k) ≡ true → state_at xs k ≡ state_at ys k) → Tells q q xs ys
nothing q xs ys same = ([], record { queue = refl; own = refl; last = same })

unless : (P : Queue → List Session → Type 0) (s : CoreState) (o : Option Refusal) (x : Effect) → P s.events s.sessions → (o ≡ None → P x.state.events x.state.sessions) → P (unless_refused s o x).state.events (unless_refused s o x).state.sessions
unless P s None x same done = done refl
unless P s (Some r) x same done = same

module _ (q : Queue) (xs : List Session) where
  -- one session changes
  changed : (f : Life → Changed) → ((life : Life) → (f life).life.state ≡ last_of life.state (f life).through) → (session : ℕ) (o : Option Session) → session_at xs session ≡ o → Tells q (told_of o f q) xs (changed_in o f xs)
  changed f truly session None found = nothing q xs xs (λ k there. refl)
  changed f truly session (Some x) found = (
    states_of x.ordinal x.handle (f x.life).through ++ [],
    record {
      queue = one_told q x.ordinal x.handle (f x.life).through;
      own = own_states (changed_in (Some x) f xs) x.ordinal x.handle (f x.life).through [] (ordinal_here x.handle (f x.life).life xs x itself_found) refl;
      last = λ k there. by k (x.handle == k) refl;
    },
  )
    where
      itself_found : session_at xs x.handle ≡ Some x
      itself_found = subst (λ (n : ℕ). session_at xs n ≡ Some x) (sym (handle_of xs session x found)) found

      by : (k : ℕ) (b : Bool) → (x.handle == k) ≡ b → last_told k (state_at xs k) (states_of x.ordinal x.handle (f x.life).through ++ []) ≡ state_at (changed_in (Some x) f xs) k
      by k true eb = subst (λ (n : ℕ). last_told n (state_at xs n) (states_of x.ordinal x.handle (f x.life).through ++ []) ≡ state_at (changed_in (Some x) f xs) n) (same_key x.handle k eb)
          (ap (λ (o : Option _). last_told x.handle o (states_of x.ordinal x.handle (f x.life).through ++ [])) (state_found xs x.handle x itself_found)
          ∙ last_here x.handle x.ordinal x.handle (f x.life).through [] x.life.state (itself x.handle)
          ∙ ap Some (sym (truly x.life)) ∙ sym (state_here x.handle (f x.life).life xs x itself_found))
      by k false eb = last_else k x.ordinal x.handle (f x.life).through [] (state_at xs k) eb ∙ sym (state_else x.handle (f x.life).life xs k eb)

  -- each session changes
  each : AreApart xs → (f : Session → Changed) → ((x : Session) → (f x).life.state ≡ last_of x.life.state (f x).through) → Tells q (told_changes q f xs) xs (each_changed f xs)
  each apart f truly = (
    changes_of f xs,
    record {
      queue = each_told f q xs;
      own = own_each f xs apart;
      last = λ k there. last_each f truly xs apart k (sym (listed_each f xs k) ∙ there);
    },
  )

-- sessions that have changed change again
then_each : (q mid : Queue) (xs ys : List Session) → AreApart ys → (f : Session → Changed) → ((x : Session) → (f x).life.state ≡ last_of x.life.state (f x).through)
    → Tells q mid xs ys → Tells q (told_changes mid f ys) xs (each_changed f ys)
then_each q mid xs ys apart f truly (first, one) = (
  first ++ changes_of f ys,
  record {
    queue = each_told f mid ys ∙ ap (λ (r : Queue). pushed_all r (changes_of f ys)) one.queue ∙ sym (pushed_more q first (changes_of f ys));
    own = all_more (is_of_session (each_changed f ys)) first (changes_of f ys) (all_still_own f ys first one.own) (own_each f ys apart);
    last = λ k there.
        let here : is_some (state_at ys k) ≡ true = sym (listed_each f ys k) ∙ there in
        last_more k (state_at xs k) first (changes_of f ys) ∙ ap (λ (o : Option SessionState). last_told k o (changes_of f ys)) (one.last k here) ∙ last_each f truly ys apart k here;
  },
)

other_truly : (w : Wish) (target : ℕ) (x : Session) → (other_settled w target x).life.state ≡ last_of x.life.state (other_settled w target x).through
other_truly w target x = by (is_target target x)
  where
    by : (b : Bool) → (if b then unchanged x.life else settled_session (own_wish w target x) x.life).life.state ≡ last_of x.life.state (if b then unchanged x.life else settled_session (own_wish w target x) x.life).through
    by true = refl
    by false = refl

target_truly : (w : Wish) (target : ℕ) (x : Session) → (target_settled w target x).life.state ≡ last_of x.life.state (target_settled w target x).through
target_truly w target x = by (is_target target x)
  where
    by : (b : Bool) → (if b then settled_session (own_wish w target x) x.life else unchanged x.life).life.state ≡ last_of x.life.state (if b then settled_session (own_wish w target x) x.life else unchanged x.life).through
    by true = refl
    by false = refl

-- they settle
then_all : (w : Wish) (q mid : Queue) (xs ys : List Session) → AreApart ys → Tells q mid xs ys
    → Tells q (rounds most_rounds w (record { sessions = ys; events = mid })).events xs (rounds most_rounds w (record { sessions = ys; events = mid })).sessions
then_all w q mid xs ys apart one =
    subst (λ (t : Standing). Tells q t.events xs t.sessions) (sym (once_is_enough w (record { sessions = ys; events = mid })))
    (then_each q (told_changes mid (other_settled w (target_of ys)) ys) xs (each_changed (other_settled w (target_of ys)) ys) (apart_each (other_settled w (target_of ys)) ys apart)
    (target_settled w (target_of ys)) (target_truly w (target_of ys)) (then_each q mid xs ys apart (other_settled w (target_of ys)) (other_truly w (target_of ys)) one))

-- one session changes, and all settle
then_changed : (w : Wish) (q : Queue) (xs : List Session) → AreApart xs → (f : Life → Changed) → ((life : Life) → (f life).life.state ≡ last_of life.state (f life).through) → (session : ℕ)
    → Tells q (rounds most_rounds w (record { sessions = changed_in (session_at xs session) f xs; events = told_of (session_at xs session) f q })).events xs
    (rounds most_rounds w (record { sessions = changed_in (session_at xs session) f xs; events = told_of (session_at xs session) f q })).sessions
then_changed w q xs apart f truly session =
    then_all w q (told_of (session_at xs session) f q) xs (changed_in (session_at xs session) f xs) (still_apart (session_at xs session)) (changed q xs f truly session (session_at xs session) refl)
  where
    still_apart : (o : Option Session) → AreApart (changed_in o f xs)
    still_apart None = apart
    still_apart (Some x) = apart_lives x.handle (with_life (f x.life).life) (λ y. refl) xs apart

-- a loop of frames changes
then_loop : (q mid : Queue) (xs ys : List Session) (session : ℕ) (l : FrameLoop) → Tells q mid xs ys → Tells q mid xs (with_session_at session (with_frame_loop l) ys)
then_loop q mid xs ys session l (first, one) = (
  first,
  record {
    queue = one.queue;
    own = all_own_loop session l ys first one.own;
    last = λ k there. one.last k (ap (λ (o : Option SessionState). is_some o) (sym (state_loop session l ys k)) ∙ there) ∙ sym (state_loop session l ys k);
  },
)

-- a session's loop of frames and its life change, and all settle
then_period : (w : Wish) (q : Queue) (xs : List Session) → AreApart xs → (f : Life → Changed) → ((life : Life) → (f life).life.state ≡ last_of life.state (f life).through) → (session : ℕ) (l : FrameLoop)
    → Tells q (rounds most_rounds w (record { sessions = changed_in (session_at xs session) f (with_session_at session (with_frame_loop l) xs); events = told_of (session_at xs session) f q })).events xs
    (rounds most_rounds w (record { sessions = changed_in (session_at xs session) f (with_session_at session (with_frame_loop l) xs); events = told_of (session_at xs session) f q })).sessions
then_period w q xs apart f truly session l =
    then_all w q (told_of (session_at xs session) f q) xs (changed_in (session_at xs session) f (with_session_at session (with_frame_loop l) xs)) (still_apart (session_at xs session))
    (subst (λ ys. Tells q (told_of (session_at xs session) f q) xs ys) (sym (loop_last session f l xs))
    (then_loop q (told_of (session_at xs session) f q) xs (changed_in (session_at xs session) f xs) session l (changed q xs f truly session (session_at xs session) refl)))
  where
    looped : AreApart (with_session_at session (with_frame_loop l) xs)
    looped = apart_lives session (with_frame_loop l) (λ y. refl) xs apart

    still_apart : (o : Option Session) → AreApart (changed_in o f (with_session_at session (with_frame_loop l) xs))
    still_apart None = looped
    still_apart (Some x) = apart_lives x.handle (with_life (f x.life).life) (λ y. refl) (with_session_at session (with_frame_loop l) xs) looped

-- a session comes
created : (s : CoreState) (given : ℕ) → is_some (state_at s.sessions given) ≡ false
    → Tells s.events (told_states s.events (s.created + 1) given (started_session s.device.wish).through) s.sessions (s.sessions ++ new_session s given (started_session s.device.wish).life ∷ [])
created s given none = (
  states_of (s.created + 1) given (started_session s.device.wish).through ++ [],
  record {
    queue = one_told s.events (s.created + 1) given (started_session s.device.wish).through;
    own = own_states (s.sessions ++ new ∷ []) (s.created + 1) given (started_session s.device.wish).through [] (ordinal_new s.sessions new none) refl;
    last = λ k there. by k (given == k) refl;
  },
)
  where
    new : Session
    new = new_session s given (started_session s.device.wish).life

    by : (k : ℕ) (b : Bool) → (given == k) ≡ b → last_told k (state_at s.sessions k) (states_of (s.created + 1) given (started_session s.device.wish).through ++ []) ≡ state_at (s.sessions ++ new ∷ []) k
    by k true eb = subst (λ (n : ℕ). last_told n (state_at s.sessions n) (states_of (s.created + 1) given (started_session s.device.wish).through ++ []) ≡ state_at (s.sessions ++ new ∷ []) n) (same_key given k eb)
        (last_new given (s.created + 1) given Idle (settled_session s.device.wish (record { state = Idle; running = false; exit = false; lost = false })).through (state_at s.sessions given) (itself given) ∙ sym (state_new s.sessions new none))
    by k false eb = last_else k (s.created + 1) given (started_session s.device.wish).through [] (state_at s.sessions k) eb ∙ sym (state_before s.sessions new k eb)

module _ (s : State) (apart : AreApart s.core.sessions) where
  abbrev Told : Queue → List Session → Type 0
  Told q ys = Tells s.core.events q s.core.sessions ys

  as_before : Told s.core.events s.core.sessions
  as_before = nothing s.core.events s.core.sessions s.core.sessions (λ k there. refl)

  -- sessions go, of which nothing is told
  went : (handle : ℕ) → Told s.core.events (sessions_left (without s.core.handles handle) (destroyed_by s.core.handles handle) s.core.sessions)
  went handle =
      nothing s.core.events s.core.sessions (sessions_left (without s.core.handles handle) (destroyed_by s.core.handles handle) s.core.sessions)
      (λ k there.
      let same = state_map (left_session (without s.core.handles handle) (destroyed_by s.core.handles handle)) (λ x. refl) (λ x. refl) (still_live (without s.core.handles handle) s.core.sessions) k in
      left_state (λ n. is_live (without s.core.handles handle) kind.Session n) s.core.sessions k (ap (λ (o : Option SessionState). is_some o) (sym same) ∙ there) ∙ sym same)

  -- and those that are left settle
  gone : (handle : ℕ) → Tells s.core.events (without_handle s.core handle).events s.core.sessions (without_handle s.core handle).sessions
  gone handle =
      let left = sessions_left (without s.core.handles handle) (destroyed_by s.core.handles handle) s.core.sessions in
      let still = apart_map (left_session (without s.core.handles handle) (destroyed_by s.core.handles handle)) (λ x. refl) (λ x. refl) (still_live (without s.core.handles handle) s.core.sessions)
      (apart_left (λ n. is_live (without s.core.handles handle) kind.Session n) s.core.sessions apart) in
      then_all s.core.device.wish s.core.events s.core.events s.core.sessions left still (went handle)

  events : (what : DeviceEvent) → Told (behind_event s.core what).events (behind_event s.core what).sessions
  events (event.Wish wish) = then_all wish s.core.events s.core.events s.core.sessions s.core.sessions apart as_before
  events event.Loss =
      then_all s.core.device.wish s.core.events _ s.core.sessions _ (apart_each (λ x. losing_session x.life) s.core.sessions apart)
      (each s.core.events s.core.sessions apart (λ x. losing_session x.life) (λ x. losing_truly x.life))
  events event.Lost = each s.core.events s.core.sessions apart (λ x. unchanged (lost_session x.life)) (λ x. refl)
  events event.Fault = each s.core.events s.core.sessions apart (λ x. unchanged (lost_session x.life)) (λ x. refl)
  events (event.Garbled line) = each s.core.events s.core.sessions apart (λ x. unchanged (lost_session x.life)) (λ x. refl)
  events _ = as_before

pub told_step : (s : State) (e : Entry) → IsAllowed s e → AreKnown s.core.handles → AreListed s.core.handles s.core.sessions → AreApart s.core.sessions → polls s e ≡ false → ends s e ≡ false
    → Tells s.core.events (step s e).0.core.events s.core.sessions (step s e).0.core.sessions
told_step s e allowed known listed apart = by e.call allowed
  where
    by : (r : Call) → IsAllowed s (record e { call = r }) → polls s (record e { call = r }) ≡ false → ends s (record e { call = r }) ≡ false → Tells s.core.events (step s (record e { call = r })).0.core.events s.core.sessions (step s (record e { call = r })).0.core.sessions
    by (ask.PollEvent instance) allowed no_poll no_end =
        let f = rule s.core (reads_of s (ask.PollEvent instance)) (record e { call = ask.PollEvent instance }) in
        unless (λ q ys. Tells s.core.events q s.core.sessions ys) s.core (refusal e.short f) (told_on f.on f.effect) (as_before s apart)
        (λ none. absurd (true≢false (sym (succeeds s.core (refusal e.short f) (told_on f.on f.effect) refl none) ∙ no_poll)))
    by (ask.DestroyInstance instance) allowed no_poll no_end =
        let f = rule s.core (reads_of s (ask.DestroyInstance instance)) (record e { call = ask.DestroyInstance instance }) in
        unless (λ q ys. Tells s.core.events q s.core.sessions ys) s.core (refusal e.short f) (told_on f.on f.effect) (as_before s apart)
        (λ none. absurd (true≢false (sym (succeeds s.core (refusal e.short f) (told_on f.on f.effect) refl none) ∙ no_end)))
    by (ask.CreateSession instance system) allowed no_poll no_end =
        let e' : Entry = record e { call = ask.CreateSession instance system } in
        let f = rule s.core (reads_of s (ask.CreateSession instance system)) e' in
        unless (λ q ys. Tells s.core.events q s.core.sessions ys) s.core (refusal e.short f) (told_on f.on f.effect) (as_before s apart)
        (λ none.
        let fresh = unlisted s e.given known listed (new_session_given s e' allowed refl (succeeds s.core (refusal e.short f) (told_on f.on f.effect) refl none)) in
        then_all s.core.device.wish s.core.events _ s.core.sessions _ (apart_more s.core.sessions (new_session s.core e.given (started_session s.core.device.wish).life) apart fresh) (created s.core e.given fresh))
    by (ask.BeginSession session view) allowed no_poll no_end =
        let f = rule s.core (reads_of s (ask.BeginSession session view)) (record e { call = ask.BeginSession session view }) in
        unless (λ q ys. Tells s.core.events q s.core.sessions ys) s.core (refusal e.short f) (told_on f.on f.effect) (as_before s apart)
        (λ none. then_period s.core.device.wish s.core.events s.core.sessions apart (λ life. unchanged (begun_session life)) (λ life. refl) session (reset_loop (loop_of s.core session)))
    by (ask.EndSession session) allowed no_poll no_end =
        let f = rule s.core (reads_of s (ask.EndSession session)) (record e { call = ask.EndSession session }) in
        unless (λ q ys. Tells s.core.events q s.core.sessions ys) s.core (refusal e.short f) (told_on f.on f.effect) (as_before s apart)
        (λ none. then_period s.core.device.wish s.core.events s.core.sessions apart (ended_session s.core.device.wish) (λ life. refl) session (reset_loop (loop_of s.core session)))
    by (ask.RequestExitSession session) allowed no_poll no_end =
        let f = rule s.core (reads_of s (ask.RequestExitSession session)) (record e { call = ask.RequestExitSession session }) in
        unless (λ q ys. Tells s.core.events q s.core.sessions ys) s.core (refusal e.short f) (told_on f.on f.effect) (as_before s apart)
        (λ none. then_changed s.core.device.wish s.core.events s.core.sessions apart (exiting_session s.core.device.wish) (λ life. refl) session)
    by (ask.EndFrame session time blend layers) allowed no_poll no_end =
        let f = rule s.core (reads_of s (ask.EndFrame session time blend layers)) (record e { call = ask.EndFrame session time blend layers }) in
        unless (λ q ys. Tells s.core.events q s.core.sessions ys) s.core (refusal e.short f) (told_on f.on f.effect) (as_before s apart)
        (λ none. then_period s.core.device.wish s.core.events s.core.sessions apart (synced_session wish.Ready) (synced_truly wish.Ready) session (ended_loop (loop_of s.core session)))
    by (ask.WaitFrame session) allowed no_poll no_end =
        let f = rule s.core (reads_of s (ask.WaitFrame session)) (record e { call = ask.WaitFrame session }) in
        unless (λ q ys. Tells s.core.events q s.core.sessions ys) s.core (refusal e.short f) (told_on f.on f.effect) (as_before s apart)
        (λ none. then_loop s.core.events s.core.events s.core.sessions s.core.sessions session (waited_loop (loop_of s.core session) (next_time s.core session)) (as_before s apart))
    by (ask.BeginFrame session) allowed no_poll no_end =
        let f = rule s.core (reads_of s (ask.BeginFrame session)) (record e { call = ask.BeginFrame session }) in
        unless (λ q ys. Tells s.core.events q s.core.sessions ys) s.core (refusal e.short f) (told_on f.on f.effect) (as_before s apart)
        (λ none. then_loop s.core.events s.core.events s.core.sessions s.core.sessions session (begun_loop (loop_of s.core session)) (as_before s apart))
    by (ask.SyncActions session active) allowed no_poll no_end =
        let f = rule s.core (reads_of s (ask.SyncActions session active)) (record e { call = ask.SyncActions session active }) in
        let columns = columns_synced s.core (is_state (life_of s.core session).state Focused) active (columns_of s.core session) in
        unless (λ q ys. Tells s.core.events q s.core.sessions ys) s.core (refusal e.short f) (told_on f.on f.effect) (as_before s apart)
        (λ none. nothing s.core.events s.core.sessions (with_session_at session (with_columns columns) s.core.sessions) (λ k there. sym (state_beside session (with_columns columns) (λ x. refl) (λ x. refl) s.core.sessions k)))
    by (ask.AttachSets session handles) allowed no_poll no_end =
        let f = rule s.core (reads_of s (ask.AttachSets session handles)) (record e { call = ask.AttachSets session handles }) in
        unless (λ q ys. Tells s.core.events q s.core.sessions ys) s.core (refusal e.short f) (told_on f.on f.effect) (as_before s apart)
        (λ none. nothing s.core.events s.core.sessions (with_session_at session (with_attached (sets_named s.core.inputs handles)) s.core.sessions) (λ k there. sym (state_beside session (with_attached (sets_named s.core.inputs handles)) (λ x. refl) (λ x. refl) s.core.sessions k)))
    by (ask.DestroySession handle) allowed no_poll no_end =
        let f = rule s.core (reads_of s (ask.DestroySession handle)) (record e { call = ask.DestroySession handle }) in
        unless (λ q ys. Tells s.core.events q s.core.sessions ys) s.core (refusal e.short f) (told_on f.on f.effect) (as_before s apart) (λ none. gone s apart handle)
    by (ask.DestroyActionSet handle) allowed no_poll no_end =
        let f = rule s.core (reads_of s (ask.DestroyActionSet handle)) (record e { call = ask.DestroyActionSet handle }) in
        unless (λ q ys. Tells s.core.events q s.core.sessions ys) s.core (refusal e.short f) (told_on f.on f.effect) (as_before s apart) (λ none. gone s apart handle)
    by (ask.DestroyAction handle) allowed no_poll no_end =
        let f = rule s.core (reads_of s (ask.DestroyAction handle)) (record e { call = ask.DestroyAction handle }) in
        unless (λ q ys. Tells s.core.events q s.core.sessions ys) s.core (refusal e.short f) (told_on f.on f.effect) (as_before s apart) (λ none. gone s apart handle)
    by (ask.Device what) allowed no_poll no_end = events s apart what
    by r allowed no_poll no_end =
        let f = rule s.core (reads_of s r) (record e { call = r }) in
        unless (λ q ys. Tells s.core.events q s.core.sessions ys) s.core (refusal e.short f) (told_on f.on f.effect) (as_before s apart) (λ none. as_before s apart)

pub states_are_told : StatesAreTold
states_are_told settings es e legal no_poll no_end =
    let front = fronts_are_legal (opening settings) (opening_clocks settings) es (e ∷ []) legal in
    let rest = legal_behind (opening settings) (opening_clocks settings) es (e ∷ []) legal in
    told_step (after (opening settings) es) e rest.0 (known_after (opening settings) es (known_opening settings)) (sessions_are_listed settings es front) (all_apart settings es front) no_poll no_end
