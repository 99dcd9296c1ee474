-- The time that a wait gives is the one that is predicted behind the last time that was given to its session.
use Rattle.std.proofs.Common.{◌≡◌, ◌==◌, ◌&&◌, ◌||◌, ℕ, ℤ, Bool, true, false, List, [], ◌∷◌, Option, Some, None, pos, refl, sym, ap, subst, ◌∙◌, arith, true≢false}
use Rattle.std.specs.Prelude.{int_le, int_lt, is_some, if◌then◌else◌}
use Rattle.xr_types.specs.Code.{is_success}
use Rattle.xr_types.specs.declared.calls.Call.{Call}
use Rattle.xr_types.specs.declared.calls.Call.TheVariants as ask
use Rattle.xr_types.specs.declared.calls.Gives.TheVariants as gives
use Rattle.xr_types.specs.declared.handles.Kind.TheVariants as kind
use Rattle.xr_types.specs.declared.session.FrameState.{FrameState}
use Rattle.xr_model.specs.machine.Calls.{Entry}
use Rattle.xr_model.specs.machine.Frames.{FrameLoop, reset_loop, waited_loop, begun_loop, ended_loop, most_time}
use Rattle.xr_model.specs.machine.LiveSessions.{Session, session_at, loop_in}
use Rattle.xr_model.specs.machine.Handles.{is_live, was_given}
use Rattle.xr_model.specs.machine.Rules.Frames.{frame_state, next_time}
use Rattle.xr_model.specs.machine.Rules.Session.{loop_of}
use Rattle.xr_model.specs.machine.SessionLife.{started_session}
use Rattle.xr_model.specs.machine.State.{CoreState, State, opening}
use Rattle.xr_model.specs.machine.Machine.{IsAllowed, reads_of, rule, step}
use Rattle.xr_model.specs.machine.History.{after, opening_clocks, clocks_after, IsLegalFrom}
use Rattle.xr_model.specs.laws.FrameLaws.{IsPredicted, time_of_grid}
use Rattle.xr_model.specs.laws.FrameCallLaws.{waits_for_frame, time_given, given_after, given_last, IsNextFrame, WaitsGiveTheNextTime}
use Rattle.xr_model.specs.laws.SessionLaws.{AreListed, is_session_creation, creates_session}
use Rattle.xr_model.specs.laws.Soundness.{AreKnown}
use Rattle.xr_model.proofs.FrameCalls.{where_done, same_frame}
use Rattle.xr_model.proofs.FrameOrder.{clear, failed_gives_none, is_live_by, live_given, live_nonzero}
use Rattle.xr_model.proofs.LostSessions.{new_session_given, listed_after, sessions_are_listed}
use Rattle.xr_model.proofs.Listed.{listed_none}
use Rattle.xr_model.proofs.SessionLives.{life_after, loop_after, time_of, Follows, lived}
use Rattle.xr_model.proofs.PredictedTimes.{times_are_predicted}
use Rattle.xr_model.proofs.Rows.{both_of, is_false, same_key}
use Rattle.xr_model.proofs.Destroying.{known_step, known_opening}

-- each listed session's loop has the time that was given to it last
abbrev TimesFit : CoreState → (ℕ → ℤ) → Type 0
TimesFit s known = (q : ℕ) (x : Session) → session_at s.sessions q ≡ Some x → x.frame_loop.predicted ≡ known q

-- so has that of a session that is live
live_time : (s : CoreState) (known : ℕ → ℤ) → TimesFit s known → AreListed s.handles s.sessions → (q : ℕ) → is_live s.handles kind.Session q ≡ true → (loop_of s q).predicted ≡ known q
live_time s known times listed q live = by (session_at s.sessions q) refl (listed q ∙ live)
  where
    by : (o : Option Session) → session_at s.sessions q ≡ o → is_some o ≡ true → (loop_in o).predicted ≡ known q
    by None eo there = absurd (true≢false (sym there))
    by (Some x) eo there = times q x eo

-- ---- a session is created

-- no handle is given that is live
not_again : (s : State) (e : Entry) → IsAllowed s e → AreKnown s.core.handles → (q : ℕ) → is_live s.core.handles kind.Session q ≡ true → creates_session e q ≡ false
not_again s e allowed known q live = is_false (creates_session e q) (λ creates. by (both_of (is_session_creation e.call) (e.given == q) creates) (is_success (step s e).1.reply.code) refl)
  where
    by : (is_session_creation e.call ≡ true) × ((e.given == q) ≡ true) → (good : Bool) → is_success (step s e).1.reply.code ≡ good → ⊥
    by two true eg =
        let new = new_session_given s e allowed two.0 eg in
        true≢false (sym (live_given s.core.handles q known live) ∙ subst (λ (n : ℕ). was_given s.core.handles n ≡ false) (same_key e.given q two.1) new.1)
    by two false eg =
        let zero : (e.given == 0) ≡ true = rw (failed_gives_none s e allowed two.0 eg) refl in
        true≢false (sym (subst (λ (n : ℕ). (n == 0) ≡ true) (same_key e.given q two.1) zero) ∙ live_nonzero s.core.handles q live)

-- ---- an entry

still_predicted : (b : Bool) (k l : FrameLoop) → k.predicted ≡ l.predicted → (if b then k else l).predicted ≡ l.predicted
still_predicted true k l same = same
still_predicted false k l same = refl

-- the time of a loop is another where a frame was waited for
time_after : (time : ℤ) (r : Call) (q : ℕ) (good : Bool) (l : FrameLoop) → (loop_after time r q good l).predicted ≡ (if waits_for_frame r q && good then time else l.predicted)
time_after time (ask.BeginSession session view) q good l = still_predicted (good && (session == q)) (reset_loop l) l refl
time_after time (ask.EndSession session) q good l = still_predicted (good && (session == q)) (reset_loop l) l refl
time_after time (ask.WaitFrame session) q good l = by (session == q) good
  where
    by : (a b : Bool) → (if b && a then waited_loop l time else l).predicted ≡ (if a && b then time else l.predicted)
    by true true = refl
    by true false = refl
    by false true = refl
    by false false = refl
time_after time (ask.BeginFrame session) q good l = still_predicted (good && (session == q)) (begun_loop l) l refl
time_after time (ask.EndFrame session time_ blend layers) q good l = still_predicted (good && (session == q)) (ended_loop l) l refl
time_after time _ q good l = refl

module _ (s : State) (e : Entry) (q : ℕ) (before : ℤ) where
  -- a wait that succeeds gives that time
  given : (r : Call) → waits_for_frame r q ≡ true → is_success (step s (record e { call = r })).1.reply.code ≡ true
      → time_of s.core r ≡ time_given (step s (record e { call = r })).1.reply.gives before
  given (ask.WaitFrame session) waits good =
      where_done (λ x. next_time s.core session ≡ time_given x.gives before) s.core (rule s.core (reads_of s (ask.WaitFrame session)) (record e { call = ask.WaitFrame session })) e.short refl (λ none. refl) good
  given _ waits good = absurd (true≢false (sym waits))

  told : (if waits_for_frame e.call q && is_success (step s e).1.reply.code then time_of s.core e.call else before)
      ≡ (if waits_for_frame e.call q && is_success (step s e).1.reply.code then time_given (step s e).1.reply.gives before else before)
  told = by (waits_for_frame e.call q) refl (is_success (step s e).1.reply.code) refl
    where
      by : (a : Bool) → waits_for_frame e.call q ≡ a → (b : Bool) → is_success (step s e).1.reply.code ≡ b
          → (if a && b then time_of s.core e.call else before) ≡ (if a && b then time_given (step s e).1.reply.gives before else before)
      by true ea true eb = given e.call ea eb
      by true ea false eb = refl
      by false ea b eb = refl

times_step : (s : State) (e : Entry) → IsAllowed s e → AreKnown s.core.handles → AreListed s.core.handles s.core.sessions → (known : ℕ → ℤ) → TimesFit s.core known
    → TimesFit (step s e).0.core (λ q. given_after s e q (known q))
times_step s e allowed handles listed known times q y found = by (session_at s.core.sessions q) refl (session_at (step s e).0.core.sessions q) found (lived s.core (reads_of s e.call) e q)
  where
    time : (z : Session) → Some z ≡ Some y → y.frame_loop.predicted ≡ z.frame_loop.predicted
    time z same = cc

    by : (o : Option Session) → session_at s.core.sessions q ≡ o → (n : Option Session) → n ≡ Some y
        → Follows (life_after e.call q (is_success (step s e).1.reply.code)) (loop_after (time_of s.core e.call) e.call q (is_success (step s e).1.reply.code)) (creates_session e q) (started_session s.core.device.wish).life o n
        → y.frame_loop.predicted ≡ given_after s e q (known q)
    by o eo None found follows = cc
    by None eo (Some z) found follows = rw follows.0 (time z found ∙ ap (λ (l : FrameLoop). l.predicted) follows.2)
    by (Some x) eo (Some z) found follows =
        let live : is_live s.core.handles kind.Session q ≡ true = sym (listed q) ∙ ap (λ (o : Option Session). is_some o) eo in
        let good = is_success (step s e).1.reply.code in
        let old = times q x eo in
        rw (not_again s e allowed handles q live)
        (time z found ∙ ap (λ (l : FrameLoop). l.predicted) follows.1 ∙ time_after (time_of s.core e.call) e.call q good x.frame_loop
        ∙ ap (λ (n : ℤ). if waits_for_frame e.call q && good then time_of s.core e.call else n) old ∙ told s e q (known q))

times_after : (s : State) (clocks : List ℤ) (es : List Entry) → IsLegalFrom s clocks es → AreKnown s.core.handles → AreListed s.core.handles s.core.sessions
    → (known : ℕ → ℤ) → TimesFit s.core known → TimesFit (after s es).core (λ q. given_last s q (known q) es)
times_after s clocks [] legal handles listed known times = times
times_after s clocks (e ∷ es) legal handles listed known times =
    times_after (step s e).0 (clocks_after clocks e (step s e).0) es legal.3 (known_step s e handles) (listed_after s clocks (e ∷ []) (legal.0, legal.1, legal.2, tt) listed)
    (λ q. given_after s e q (known q)) (times_step s e legal.0 handles listed known times)

-- ---- the frame that is given

rising : (last clock base period time : ℤ) → IsPredicted last clock base period time → int_lt last time || int_le most_time time ≡ true
rising last clock base period time p = by (int_lt most_time (time_of_grid base period p.place)) refl p.grid
  where
    or_true : (a b : Bool) → b ≡ true → a || b ≡ true
    or_true true b e = refl
    or_true false b e = e

    not_before_itself : (a : ℤ) → int_le a a ≡ true
    not_before_itself a = grind arith

    by : (b : Bool) → int_lt most_time (time_of_grid base period p.place) ≡ b → time ≡ (if b then most_time else time_of_grid base period p.place) → int_lt last time || int_le most_time time ≡ true
    by true eb is = rw is (or_true (int_lt last most_time) (int_le most_time most_time) (not_before_itself most_time))
    by false eb is = let later = (both_of (int_lt last (time_of_grid base period p.place)) _ p.later).0 in rw (is, later) refl

pub waits_give_the_next_time : WaitsGiveTheNextTime
waits_give_the_next_time settings es e session f legal is = subst Gives (sym is) waits
  where
    s : State
    s = after (opening settings) es

    Gives : Call → Type 0
    Gives r = is_success (step s (record e { call = r })).1.reply.code ≡ true → (step s (record e { call = r })).1.reply.gives ≡ gives.Frame f
        → int_le (pos 1) s.core.device.period ≡ true → IsNextFrame s (given_last (opening settings) session (pos 0) es) f

    predicted : is_live s.core.handles kind.Session session ≡ true → int_le (pos 1) s.core.device.period ≡ true
        → IsPredicted (given_last (opening settings) session (pos 0) es) s.core.device.clock s.core.device.base s.core.device.period (next_time s.core session)
    predicted live positive =
        let times = times_after (opening settings) (opening_clocks settings) es legal (known_opening settings) listed_none (λ q. pos 0) (λ q x found. none x found) in
        let last = live_time s.core (λ q. given_last (opening settings) q (pos 0) es) times (sessions_are_listed settings es legal) session live in
        subst (λ (n : ℤ). IsPredicted n s.core.device.clock s.core.device.base s.core.device.period (next_time s.core session)) last
        (times_are_predicted (loop_of s.core session).predicted s.core.device.clock s.core.device.base s.core.device.period positive)
      where
        none : (x : Session) → None ≡ Some x → x.frame_loop.predicted ≡ pos 0
        none x found = cc

    waits : Gives (ask.WaitFrame session)
    waits =
        let r = rule s.core (reads_of s (ask.WaitFrame session)) (record e { call = ask.WaitFrame session }) in
        where_done (λ x. x.gives ≡ gives.Frame f → int_le (pos 1) s.core.device.period ≡ true → IsNextFrame s (given_last (opening settings) session (pos 0) es) f) s.core r e.short refl
        (λ none same positive.
        let time = predicted (is_live_by (is_live s.core.handles kind.Session session) (clear r e.short none).handles) positive in
        subst (λ (x : FrameState). IsNextFrame s (given_last (opening settings) session (pos 0) es) x) (same_frame (frame_state s.core session) f same)
        (record { time = time; period = refl; rises = rising _ _ _ _ _ time }))
