-- Which sessions are listed, and which of them are lost, after every legal history.
use Rattle.std.proofs.Common.{◌≡◌, ◌≢◌, ◌==◌, ◌&&◌, ◌||◌, ◌⊎◌, inl, inr, ℕ, ℤ, Bool, true, false, not, List, [], ◌∷◌, ◌++◌, Option, Some, None, refl, sym, ap, subst, ◌∙◌, true≢false}
use Rattle.std.specs.Prelude.{is_some, if◌then◌else◌}
use Rattle.std.specs.List.{filter}
use Rattle.xr_types.specs.declared.handles.Kind.TheVariants as kind
use Rattle.xr_types.specs.Code.{is_success}
use Rattle.xr_model.specs.machine.Calls.{Entry}
use Rattle.xr_types.specs.declared.calls.Call.{Call}
use Rattle.xr_types.specs.declared.calls.Call.TheVariants as ask
use Rattle.xr_model.specs.machine.Handles.{Handles, is_live, was_given, without, destroyed_by}
use Rattle.xr_model.specs.machine.State.{CoreState, CellReads, Settings, State, opening}
use Rattle.xr_model.specs.machine.SessionLife.{Life, Changed, unchanged, started_session, lost_session}
use Rattle.xr_model.specs.machine.LiveSessions.{Session, session_at, life_in, with_life, with_attached, with_session_at, still_live, each_changed}
use Rattle.xr_model.specs.machine.Sets.{sets_named}
use Rattle.xr_model.specs.machine.Rules.Session.{new_session, life_of}
use Rattle.xr_model.specs.machine.Machine.{rule, step, reads_of, IsAllowed, IsGiven}
use Rattle.xr_model.specs.machine.History.{after, opening_clocks, clocks_after, IsLegalFrom}
use Rattle.xr_model.specs.laws.SessionLaws.{AreListed, SessionsAreListed, is_device_lost, is_session_creation, creates_session, was_lost}
use Rattle.xr_model.proofs.Rows.{itself, same_key, is_false}
use Rattle.xr_model.proofs.Listed.{listed_none, listed_lives, listed_each, listed_more, listed_left}
use Rattle.xr_model.proofs.Keyed.{which_map}
use Rattle.xr_model.proofs.SessionSteps.{kept_by_step}
use Rattle.xr_model.proofs.Destroying.{known_step, known_opening}
use Rattle.xr_model.specs.laws.Soundness.{AreKnown}
use Rattle.xr_model.specs.machine.Destroyed.{left_session}

-- ---- a session's handle is new

nonzero : (n : ℕ) → n ≢ 0 → (n == 0) ≡ false
nonzero n not_zero = is_false (n == 0) (λ e. not_zero (same_key n 0 e))

given_to : (b : Bool) (h : Handles) (given : ℕ) → b ≡ true → IsGiven b h given → (given ≢ 0) × (was_given h given ≡ false)
given_to true h given e is = is
given_to false h given e is = absurd (true≢false (sym e))

not_given_to : (b : Bool) (h : Handles) (given : ℕ) → b ≡ false → IsGiven b h given → given ≡ 0
not_given_to true h given e is = absurd (true≢false e)
not_given_to false h given e is = is

creation_of_session : (s : CoreState) (reads : CellReads) (e : Entry) → is_session_creation e.call ≡ true → is_some (rule s reads e).creates ≡ true
creation_of_session s reads e = by e.call
  where
    by : (r : Call) → is_session_creation r ≡ true → is_some (rule s reads (record e { call = r })).creates ≡ true
    by (ask.CreateSession instance system) is = refl
    by _ is = absurd (true≢false (sym is))

and_true : (a b : Bool) → a ≡ true → b ≡ true → a && b ≡ true
and_true a b e f = rw (e, f) refl

-- what a legal creation of a session gives
pub new_session_given : (s : State) (e : Entry) → IsAllowed s e → is_session_creation e.call ≡ true → is_success (step s e).1.reply.code ≡ true → (e.given ≢ 0) × (was_given s.core.handles e.given ≡ false)
new_session_given s e allowed creates good =
    given_to (is_some (rule s.core (reads_of s e.call) e).creates && is_success (step s e).1.reply.code) s.core.handles e.given
    (and_true (is_some (rule s.core (reads_of s e.call) e).creates) (is_success (step s e).1.reply.code) (creation_of_session s.core (reads_of s e.call) e creates) good) allowed.handle

-- ---- listed

listed_step : (s : State) (e : Entry) → IsAllowed s e → AreListed s.core.handles s.core.sessions → AreListed (step s e).0.core.handles (step s e).0.core.sessions
listed_step s e allowed listed = kept_by_step (λ h xs. AreListed h xs) s.core (reads_of s e.call) e (record {
  same = λ d c. listed;
  instance = λ d c. listed;
  session = λ d c good room instance. let new = new_session_given s e allowed c good in listed_more s.core.handles s.core.sessions _ instance e.given listed refl (nonzero e.given new.0) room;
  set = λ d c instance. listed;
  action = λ d c set. listed;
  space = λ d c session. listed;
  chain = λ d c session. listed;
  without = λ d c handle. listed_left s.core.handles handle s.core.sessions listed;
  alone = λ d c space. listed;
  chain_alone = λ d c chain. listed;
  lives = λ d c session f named same keeps. listed_lives s.core.handles s.core.sessions session f named listed;
  attach = λ d c session sets. listed_lives s.core.handles s.core.sessions session (with_attached (sets_named s.core.inputs sets)) (λ x. refl) listed;
  each = λ h xs f keeps there. listed_each h f xs there;
  lost = λ d c. listed_each s.core.handles (λ x. unchanged (lost_session x.life)) s.core.sessions listed;
})

pub listed_after : (s : State) (clocks : List ℤ) (es : List Entry) → IsLegalFrom s clocks es → AreListed s.core.handles s.core.sessions → AreListed (after s es).core.handles (after s es).core.sessions
listed_after s clocks [] legal listed = listed
listed_after s clocks (e ∷ es) legal listed = listed_after (step s e).0 (clocks_after clocks e (step s e).0) es legal.3 (listed_step s e legal.0 listed)

pub sessions_are_listed : SessionsAreListed
sessions_are_listed settings es legal = listed_after (opening settings) (opening_clocks settings) es legal listed_none

-- ---- lost

-- what is known of a lost device before an entry, and what after it
abbrev after_entry : Entry → (ℕ → Bool) → ℕ → Bool
after_entry e before session = not (creates_session e session) && (before session || is_device_lost e.call)

abbrev AreLost : (ℕ → Bool) → List Session → Type 0
AreLost known xs = (session : ℕ) (x : Session) → session_at xs session ≡ Some x → x.life.lost ≡ known session

some_is : (x y : Session) → Some x ≡ Some y → x ≡ y
some_is x y e = cc

-- ---- what was found before

found_lives : (xs : List Session) (handle : ℕ) (f : Session → Session) → ((x : Session) → (f x).handle ≡ x.handle) → (same : (y : Session) → session_at xs handle ≡ Some y → (f y).life.lost ≡ y.life.lost) (session : ℕ) (x : Session) → session_at (with_session_at handle f xs) session ≡ Some x
    → (y : Session) × (session_at xs session ≡ Some y) × (x.life.lost ≡ y.life.lost)
found_lives [] handle f named same session x found = cc
found_lives (z ∷ xs) handle f named same session x found = by (z.handle == handle) refl (z.handle == session) refl found same (λ rest there. found_lives xs handle f named rest session x there)
  where
    moved : session_at (f z ∷ xs) session ≡ Some x → (if z.handle == session then Some (f z) else session_at xs session) ≡ Some x
    moved found = subst (λ (n : ℕ). (if n == session then Some (f z) else session_at xs session) ≡ Some x) (named z) found

    by : (b : Bool) → (z.handle == handle) ≡ b → (c : Bool) → (z.handle == session) ≡ c
        → session_at (if b then f z ∷ xs else z ∷ with_session_at handle f xs) session ≡ Some x
        → ((y : Session) → (if b then Some z else session_at xs handle) ≡ Some y → (f y).life.lost ≡ y.life.lost)
        → (((y : Session) → session_at xs handle ≡ Some y → (f y).life.lost ≡ y.life.lost) → session_at (with_session_at handle f xs) session ≡ Some x → (y : Session) × (session_at xs session ≡ Some y) × (x.life.lost ≡ y.life.lost))
        → (y : Session) × ((if c then Some z else session_at xs session) ≡ Some y) × (x.life.lost ≡ y.life.lost)
    by true eb true ec found same more = let there = moved found in (z, refl, ap (λ (w : Session). w.life.lost) (sym (some_is (f z) x (rw ec at there))) ∙ same z refl)
    by true eb false ec found same more = let there = moved found in (x, rw ec at there, refl)
    by false eb true ec found same more = (z, refl, ap (λ (w : Session). w.life.lost) (sym (some_is z x (rw ec at found))))
    by false eb false ec found same more = more same (rw ec at found)

found_each : (f : Session → Changed) (xs : List Session) (session : ℕ) (x : Session) → session_at (each_changed f xs) session ≡ Some x → (y : Session) × (session_at xs session ≡ Some y) × (x.life ≡ (f y).life)
found_each f [] session x found = cc
found_each f (z ∷ xs) session x found = by (z.handle == session) found (λ there. found_each f xs session x there)
  where
    by : (c : Bool) → (if c then Some (with_life (f z).life z) else session_at (each_changed f xs) session) ≡ Some x
        → (session_at (each_changed f xs) session ≡ Some x → (y : Session) × (session_at xs session ≡ Some y) × (x.life ≡ (f y).life))
        → (y : Session) × ((if c then Some z else session_at xs session) ≡ Some y) × (x.life ≡ (f y).life)
    by true found more = (z, refl, ap (λ (w : Session). w.life) (sym (some_is (with_life (f z).life z) x found)))
    by false found more = more found

-- among the others, or the new one
abbrev Found : List Session → Session → ℕ → Session → Type 0
Found xs z session x = (session_at xs session ≡ Some x) ⊎ ((z.handle ≡ session) × (x ≡ z))

found_more : (xs : List Session) (z : Session) (session : ℕ) (x : Session) → session_at (xs ++ z ∷ []) session ≡ Some x → Found xs z session x
found_more [] z session x found = by (z.handle == session) refl found
  where
    by : (c : Bool) → (z.handle == session) ≡ c → (if c then Some z else None) ≡ Some x → Found [] z session x
    by true ec found = inr (same_key z.handle session ec, sym (some_is z x found))
    by false ec found = cc
found_more (y ∷ ys) z session x found = by (y.handle == session) refl found (λ there. found_more ys z session x there)
  where
    by : (c : Bool) → (y.handle == session) ≡ c → (if c then Some y else session_at (ys ++ z ∷ []) session) ≡ Some x → (session_at (ys ++ z ∷ []) session ≡ Some x → Found ys z session x) → Found (y ∷ ys) z session x
    by true ec found more = inl (rw ec found)
    by false ec found more = next (more found)
      where
        next : Found ys z session x → Found (y ∷ ys) z session x
        next (inl there) = inl (rw ec there)
        next (inr new) = inr new

found_left : (p : ℕ → Bool) (xs : List Session) (session : ℕ) (x : Session) → session_at (filter (λ y. p y.handle) xs) session ≡ Some x → session_at xs session ≡ Some x
found_left p [] session x found = cc
found_left p (z ∷ xs) session x found = by (p z.handle) refl (z.handle == session) refl found (λ there. found_left p xs session x there)
  where
    absent : (ys : List Session) → p session ≡ false → session_at (filter (λ y. p y.handle) ys) session ≡ Some x → ⊥
    absent ys away there = gone ys there
      where
        gone : (ys : List Session) → session_at (filter (λ y. p y.handle) ys) session ≡ Some x → ⊥
        gone [] there = cc
        gone (y ∷ ys) there = one (p y.handle) refl (y.handle == session) refl there (λ later. gone ys later)
          where
            one : (b : Bool) → p y.handle ≡ b → (c : Bool) → (y.handle == session) ≡ c → session_at (if b then y ∷ filter (λ w. p w.handle) ys else filter (λ w. p w.handle) ys) session ≡ Some x → (session_at (filter (λ w. p w.handle) ys) session ≡ Some x → ⊥) → ⊥
            one true eb true ec there more = true≢false (sym (subst (λ (n : ℕ). p n ≡ true) (same_key y.handle session ec) eb) ∙ away)
            one true eb false ec there more = more (rw ec at there)
            one false eb c ec there more = more there

    by : (b : Bool) → p z.handle ≡ b → (c : Bool) → (z.handle == session) ≡ c → session_at (if b then z ∷ filter (λ y. p y.handle) xs else filter (λ y. p y.handle) xs) session ≡ Some x
        → (session_at (filter (λ y. p y.handle) xs) session ≡ Some x → session_at xs session ≡ Some x) → (if c then Some z else session_at xs session) ≡ Some x
    by true eb true ec found more = rw ec at found
    by true eb false ec found more = more (rw ec at found)
    by false eb true ec found more = absurd (absent xs (subst (λ (n : ℕ). p n ≡ false) (same_key z.handle session ec) eb) found)
    by false eb false ec found more = more found

-- ---- what an entry does to what is known

or_false : (b : Bool) → b || false ≡ b
or_false true = refl
or_false false = refl

or_true : (b : Bool) → b || true ≡ true
or_true true = refl
or_true false = refl

module _ (s : State) (e : Entry) (allowed : IsAllowed s e) (known : AreKnown s.core.handles) (listed : AreListed s.core.handles s.core.sessions) (before : ℕ → Bool) (lost_before : AreLost before s.core.sessions) where
  -- no listed session has the handle 0
  never_zero : (session : ℕ) (x : Session) → session_at s.core.sessions session ≡ Some x → (session == 0) ≡ true → ⊥
  never_zero session x found zero =
      let live : is_some (session_at s.core.sessions session) ≡ true = rw found refl in
      let dead : is_live s.core.handles kind.Session session ≡ false = rw zero refl in
      true≢false (sym live ∙ listed session ∙ dead)

  -- nor a handle that wasn't given
  never_new : (session : ℕ) (x : Session) → session_at s.core.sessions session ≡ Some x → was_given s.core.handles session ≡ false → ⊥
  never_new session x found fresh =
      let live : is_some (session_at s.core.sessions session) ≡ true = rw found refl in
      let nz : (session == 0) ≡ false = is_false (session == 0) (never_zero session x found) in
      let dead : is_live s.core.handles kind.Session session ≡ false = rw (nz, (known session nz fresh).sessions) refl in
      true≢false (sym live ∙ listed session ∙ dead)

  -- a session that the entry doesn't create
  as_before : (session : ℕ) → is_device_lost e.call ≡ false → creates_session e session ≡ false → before session ≡ after_entry e before session
  as_before session d c = rw (c, d) (sym (or_false (before session)))

  not_created : (session : ℕ) (x : Session) → session_at s.core.sessions session ≡ Some x → is_session_creation e.call && is_success (step s e).1.reply.code ≡ false → creates_session e session ≡ false
  not_created session x found refused = by (is_session_creation e.call) refl
    where
      by : (b : Bool) → is_session_creation e.call ≡ b → is_session_creation e.call && (e.given == session) ≡ false
      by false eb = rw eb refl
      by true eb =
          let failed : is_success (step s e).1.reply.code ≡ false = rw eb at refused in
          let none : is_some (rule s.core (reads_of s e.call) e).creates && is_success (step s e).1.reply.code ≡ false = rw (creation_of_session s.core (reads_of s e.call) e eb, failed) refl in
          let zero = not_given_to (is_some (rule s.core (reads_of s e.call) e).creates && is_success (step s e).1.reply.code) s.core.handles e.given none allowed.handle in
          rw eb (is_false (e.given == session) (λ same. never_zero session x found (subst (λ (n : ℕ). (n == 0) ≡ true) (sym zero ∙ same_key e.given session same) refl)))

  uncreated : (session : ℕ) → is_session_creation e.call ≡ false → creates_session e session ≡ false
  uncreated session c = rw c refl

  lost_step : AreLost (after_entry e before) (step s e).0.core.sessions
  lost_step = kept_by_step (λ h xs. AreLost (after_entry e before) xs) s.core (reads_of s e.call) e (record {
    same = λ d c session x found. lost_before session x found ∙ as_before session d (not_created session x found c);
    instance = λ d c session x found. lost_before session x found ∙ as_before session d (uncreated session c);
    session = λ d c good room instance session x found. created d c good session x (found_more s.core.sessions _ session x found);
    set = λ d c above session x found. lost_before session x found ∙ as_before session d (uncreated session c);
    action = λ d c above session x found. lost_before session x found ∙ as_before session d (uncreated session c);
    chain = λ d c above session x found. lost_before session x found ∙ as_before session d (uncreated session c);
    space = λ d c above session x found. lost_before session x found ∙ as_before session d (uncreated session c);
    without = λ d c handle session x found.
        let one = which_map (λ (y : Session). y.handle) (left_session (without s.core.handles handle) (destroyed_by s.core.handles handle)) (λ y. refl) (still_live (without s.core.handles handle) s.core.sessions) session x found in
        let there = found_left (λ n. is_live (without s.core.handles handle) kind.Session n) s.core.sessions session one.0 one.1 in
        ap (λ (y : Session). y.life.lost) one.2 ∙ lost_before session one.0 there ∙ as_before session d (uncreated session c);
    alone = λ d c space session x found. lost_before session x found ∙ as_before session d (uncreated session c);
    chain_alone = λ d c chain session x found. lost_before session x found ∙ as_before session d (uncreated session c);
    lives = λ d c handle f named same keeps session x found. let one = found_lives s.core.sessions handle f named same session x found in one.2 ∙ lost_before session one.0 one.1 ∙ as_before session d (uncreated session c);
    attach = λ d c handle sets session x found.
        let one = found_lives s.core.sessions handle (with_attached (sets_named s.core.inputs sets)) (λ y. refl) (λ y there. refl) session x found in
        one.2 ∙ lost_before session one.0 one.1 ∙ as_before session d (uncreated session c);
    each = λ h xs f keeps known session x found. let one = found_each f xs session x found in ap (λ (l : Life). l.lost) one.2 ∙ keeps one.0 ∙ known session one.0 one.1;
    lost = λ d c session x found. let one = found_each (λ x. unchanged (lost_session x.life)) s.core.sessions session x found in ap (λ (l : Life). l.lost) one.2 ∙ rw (uncreated session c, d) (sym (or_true (before session)));
  })
    where
      created : is_device_lost e.call ≡ false → is_session_creation e.call ≡ true → is_success (step s e).1.reply.code ≡ true → (session : ℕ) (x : Session) → Found s.core.sessions (new_session s.core e.given (started_session s.core.device.wish).life) session x → x.life.lost ≡ after_entry e before session
      created d c good session x (inl there) =
          let fresh = (new_session_given s e allowed c good).1 in
          lost_before session x there ∙ as_before session d (rw c (is_false (e.given == session) (λ same. never_new session x there (subst (λ (n : ℕ). was_given s.core.handles n ≡ false) (same_key e.given session same) fresh))))
      created d c good session x (inr new) = let itself_is : (e.given == session) ≡ true = subst (λ (n : ℕ). (e.given == n) ≡ true) new.0 (itself e.given) in rw (new.1, c, itself_is) refl

-- ---- after a history

lost_after : (s : State) (clocks : List ℤ) (es : List Entry) → IsLegalFrom s clocks es → AreKnown s.core.handles → AreListed s.core.handles s.core.sessions → (before : ℕ → Bool) → AreLost before s.core.sessions
    → (session : ℕ) (x : Session) → session_at (after s es).core.sessions session ≡ Some x → x.life.lost ≡ was_lost session (before session) es
lost_after s clocks [] legal known listed before lost_before session x found = lost_before session x found
lost_after s clocks (e ∷ es) legal known listed before lost_before session x found =
    lost_after (step s e).0 (clocks_after clocks e (step s e).0) es legal.3 (known_step s e known) (listed_step s e legal.0 listed) (after_entry e before) (lost_step s e legal.0 known listed before lost_before) session x found

-- ---- the loss that a live session answers

is_the_life : (xs : List Session) (session : ℕ) (known : Bool) → is_some (session_at xs session) ≡ true → ((x : Session) → session_at xs session ≡ Some x → x.life.lost ≡ known) → (life_in (session_at xs session)).lost ≡ known
is_the_life xs session known there lost = by (session_at xs session) there lost
  where
    by : (o : Option Session) → is_some o ≡ true → ((x : Session) → o ≡ Some x → x.life.lost ≡ known) → (life_in o).lost ≡ known
    by None there lost = absurd (true≢false (sym there))
    by (Some x) there lost = lost x refl

pub known_loss : (settings : Settings) (es : List Entry) (session : ℕ) → IsLegalFrom (opening settings) (opening_clocks settings) es → is_live (after (opening settings) es).core.handles kind.Session session ≡ true
    → (life_of (after (opening settings) es).core session).lost ≡ was_lost session false es
known_loss settings es session legal live =
    is_the_life (after (opening settings) es).core.sessions session (was_lost session false es) (sessions_are_listed settings es legal session ∙ live)
    (λ x found. lost_after (opening settings) (opening_clocks settings) es legal (known_opening settings) listed_none (λ n. false) (λ n x none. nothing x none) session x found)
  where
    nothing : (x : Session) → None ≡ Some x → x.life.lost ≡ false
    nothing x e = cc
