-- A session is running exactly where it was begun and not ended.
use Rattle.std.proofs.Common.{true≢false, ◌≡◌, ◌==◌, ◌&&◌, ℕ, ℤ, Bool, true, false, List, [], ◌∷◌, Option, Some, None, refl, sym, ap, subst, ◌∙◌}
use Rattle.std.specs.Prelude.{is_some, if◌then◌else◌}
use Rattle.xr_types.specs.Code.{is_success}
use Rattle.xr_types.specs.declared.device.DeviceEvent.{DeviceEvent}
use Rattle.xr_types.specs.declared.device.DeviceEvent.TheVariants as event
use Rattle.xr_types.specs.declared.handles.Kind.TheVariants as kind
use Rattle.xr_model.specs.machine.Calls.{Entry}
use Rattle.xr_types.specs.declared.calls.Call.{Call}
use Rattle.xr_types.specs.declared.calls.Call.TheVariants as ask
use Rattle.xr_model.specs.machine.Handles.{is_live, was_given}
use Rattle.xr_model.specs.machine.SessionLife.{Life, started_session}
use Rattle.xr_model.specs.machine.LiveSessions.{Session, session_at}
use Rattle.xr_model.specs.machine.State.{State, opening}
use Rattle.xr_model.specs.machine.Machine.{rule, step, reads_of, IsAllowed, IsGiven}
use Rattle.xr_model.specs.machine.History.{after, opening_clocks, clocks_after, IsLegalFrom}
use Rattle.xr_model.specs.laws.SessionLaws.{AreListed, is_session_creation, creates_session}
use Rattle.xr_model.specs.laws.SessionLifeLaws.{begins, ends, begun_after, was_begun, RunningIsBegunAndNotEnded}
use Rattle.xr_model.proofs.Rows.{same_key, both_of}
use Rattle.xr_model.proofs.Listed.{listed_none}
use Rattle.xr_model.proofs.Destroying.{known_step, known_opening}
use Rattle.xr_model.proofs.LostSessions.{new_session_given, listed_after}
use Rattle.xr_model.proofs.SessionLives.{life_after, Follows, lived, loop_after, time_of}
use Rattle.xr_model.specs.laws.Soundness.{AreKnown}

-- ---- what a request does to a life

-- told whether the request begins the session, whether it ends it, and whether it was running
abbrev runs : Bool → Bool → Bool → Bool
runs begun ended before = if begun then true else (if ended then false else before)

runs_after : (r : Call) (handle : ℕ) (good : Bool) (life : Life)
    → (life_after r handle good life).running ≡ runs (begins r handle && good) (ends r handle && good) life.running
runs_after r handle good life = by r
  where
    begun : (good mine : Bool) → (if good && mine then record life { running = true } else life).running ≡ runs (mine && good) false life.running
    begun true true = refl
    begun true false = refl
    begun false true = refl
    begun false false = refl

    ended : (good mine : Bool) → (if good && mine then record life { running = false } else life).running ≡ runs false (mine && good) life.running
    ended true true = refl
    ended true false = refl
    ended false true = refl
    ended false false = refl

    asked : (b : Bool) → (if b then record life { exit = true } else life).running ≡ life.running
    asked true = refl
    asked false = refl

    events : (what : DeviceEvent) → (life_after (ask.Device what) handle good life).running ≡ life.running
    events event.Lost = refl
    events _ = refl

    by : (r : Call) → (life_after r handle good life).running ≡ runs (begins r handle && good) (ends r handle && good) life.running
    by (ask.BeginSession session view) = begun good (session == handle)
    by (ask.EndSession session) = ended good (session == handle)
    by (ask.RequestExitSession session) = asked (good && (session == handle))
    by (ask.Device what) = events what
    by _ = refl

-- ---- a listed session isn't created

unlisted : (s : State) (e : Entry) (session : ℕ) → IsAllowed s e → AreKnown s.core.handles → AreListed s.core.handles s.core.sessions
    → (x : Session) → session_at s.core.sessions session ≡ Some x → creates_session e session ≡ false
unlisted s e session allowed known listed x found = by (creates_session e session) refl
  where
    live : is_live s.core.handles kind.Session session ≡ true
    live = sym (listed session) ∙ ap (λ (o : Option Session). is_some o) found

    not_zero : e.given ≡ 0 → (e.given == session) ≡ true → ⊥
    not_zero zero mine =
        true≢false (sym (subst (λ (n : ℕ). is_live s.core.handles kind.Session n ≡ true) (sym (sym zero ∙ same_key e.given session mine)) live))

    fresh : was_given s.core.handles e.given ≡ false → (e.given == session) ≡ true → (session == 0) ≡ false → ⊥
    fresh new mine nonzero =
        let unknown = subst (λ (n : ℕ). was_given s.core.handles n ≡ false) (same_key e.given session mine) new in
        let dead : is_live s.core.handles kind.Session session ≡ false = rw (nonzero, (known session nonzero unknown).sessions) refl in
        true≢false (sym live ∙ dead)

    is_nonzero : (z : Bool) → (session == 0) ≡ z → z ≡ false
    is_nonzero true ez = absurd (true≢false (sym (subst (λ (n : ℕ). is_live s.core.handles kind.Session n ≡ true) (same_key session 0 ez) live)))
    is_nonzero false ez = refl

    good : Call → Bool
    good r = is_success (step s (record e { call = r })).1.reply.code

    none_given : (r : Call) → IsGiven (is_some (rule s.core (reads_of s r) (record e { call = r })).creates && good r) s.core.handles e.given
        → is_session_creation r ≡ true → good r ≡ false → e.given ≡ 0
    none_given (ask.CreateSession instance system) is creates failed = rw failed at is
    none_given _ is creates failed = absurd (true≢false (sym creates))

    never : is_session_creation e.call ≡ true → (e.given == session) ≡ true → (b : Bool) → is_success (step s e).1.reply.code ≡ b → ⊥
    never creates mine true eb = fresh (new_session_given s e allowed creates eb).1 mine (is_nonzero (session == 0) refl)
    never creates mine false eb = not_zero (none_given e.call allowed.handle creates eb) mine

    by : (b : Bool) → creates_session e session ≡ b → b ≡ false
    by true eb =
        let two = both_of (is_session_creation e.call) (e.given == session) eb in
        absurd (never two.0 two.1 (is_success (step s e).1.reply.code) refl)
    by false eb = refl

-- ---- after an entry, and after a history

abbrev AreRunning : (ℕ → Bool) → List Session → Type 0
AreRunning known xs = (session : ℕ) (x : Session) → session_at xs session ≡ Some x → x.life.running ≡ known session

running_step : (s : State) (e : Entry) → IsAllowed s e → AreKnown s.core.handles → AreListed s.core.handles s.core.sessions
    → (before : ℕ → Bool) → AreRunning before s.core.sessions
    → AreRunning (λ session. begun_after s e session (before session)) (step s e).0.core.sessions
running_step s e allowed known listed before running session y found =
    by (session_at s.core.sessions session) refl (session_at (step s e).0.core.sessions session) found (lived s.core (reads_of s e.call) e session)
  where
    some_is : (a b : Session) → Some a ≡ Some b → a ≡ b
    some_is a b same = cc

    by : (o : Option Session) → session_at s.core.sessions session ≡ o → (n : Option Session) → n ≡ Some y
        → Follows (life_after e.call session (is_success (step s e).1.reply.code)) (loop_after (time_of s.core e.call) e.call session (is_success (step s e).1.reply.code)) (creates_session e session)
        (started_session s.core.device.wish).life o n
        → y.life.running ≡ begun_after s e session (before session)
    by o eo None found follows = cc
    by None eo (Some z) found follows = ap (λ (x : Session). x.life.running) (sym (some_is z y found)) ∙ ap (λ (life : Life). life.running) follows.1 ∙ rw follows.0 refl
    by (Some x) eo (Some z) found follows =
        let old = unlisted s e session allowed known listed x eo in
        ap (λ (x : Session). x.life.running) (sym (some_is z y found)) ∙ ap (λ (life : Life). life.running) follows.0
        ∙ rw (old, sym (running session x eo)) (runs_after e.call session (is_success (step s e).1.reply.code) x.life)

running_after : (s : State) (clocks : List ℤ) (es : List Entry) → IsLegalFrom s clocks es
    → AreKnown s.core.handles → AreListed s.core.handles s.core.sessions
    → (before : ℕ → Bool) → AreRunning before s.core.sessions
    → (session : ℕ) (x : Session) → session_at (after s es).core.sessions session ≡ Some x → x.life.running ≡ was_begun s session (before session) es
running_after s clocks [] legal known listed before running session x found = running session x found
running_after s clocks (e ∷ es) legal known listed before running session x found =
    let next = clocks_after clocks e (step s e).0 in
    let still_listed = listed_after s clocks (e ∷ []) (legal.0, legal.1, legal.2, tt) listed in
    let still_running = running_step s e legal.0 known listed before running in
    running_after (step s e).0 next es legal.3 (known_step s e known) still_listed (λ n. begun_after s e n (before n)) still_running session x found

pub running_is_begun_and_not_ended : RunningIsBegunAndNotEnded
running_is_begun_and_not_ended settings es session x legal found =
    running_after (opening settings) (opening_clocks settings) es legal (known_opening settings) listed_none (λ n. false)
    (λ n y none. nothing y none) session x found
  where
    nothing : (y : Session) → None ≡ Some y → y.life.running ≡ false
    nothing y none = cc
