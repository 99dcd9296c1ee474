-- The loop of each listed session fits what is counted over every legal history, so calls are out of order where the counts say so.
use Rattle.std.proofs.Common.{◌≡◌, ◌≢◌, ◌==◌, ◌&&◌, ◌||◌, ◌+◌, ◌≤◌, ℕ, ℤ, suc, Bool, true, false, not, List, [], ◌∷◌, ◌++◌, length, Option, Some, None, refl, sym, ap, subst, ◌∙◌, arith, true≢false}
use Rattle.std.specs.Prelude.{is_some, nat_lt, if◌then◌else◌}
use Rattle.std.specs.List.{list_any, list_all}
use Rattle.xr_types.specs.declared.handles.Kind.TheVariants as kind
use Rattle.xr_types.specs.declared.handles.Slot.{Slot}
use Rattle.xr_types.specs.declared.frames.Blend.{Blend}
use Rattle.xr_types.specs.declared.frames.Layer.{Layer}
use Rattle.xr_types.specs.declared.session.ViewConfig.{ViewConfig}
use Rattle.xr_types.specs.Code.{is_success}
use Rattle.xr_types.specs.declared.code.Code.{Code}
use Rattle.xr_types.specs.declared.code.Code.TheVariants.{HandleInvalid, CallOrderInvalid, OutOfMemory}
use Rattle.xr_types.specs.declared.calls.Call.{Call}
use Rattle.xr_types.specs.declared.calls.Call.TheVariants as ask
use Rattle.xr_model.specs.machine.Calls.{Entry}
use Rattle.xr_model.specs.machine.State.{CoreState, CellReads, Settings, State, opening}
use Rattle.xr_model.specs.machine.Rule.{Rule, Effect, Did, refusals, refusal, or_short, told_on, unless_refused, carried_out}
use Rattle.xr_model.specs.machine.Rules.Frames.{look_of, next_time}
use Rattle.xr_model.specs.machine.Machine.{core_step, rule, step, reads_of, core_ready, IsAllowed, effect, IsGiven}
use Rattle.xr_model.specs.machine.History.{after, opening_clocks, clocks_after, IsLegalFrom}
use Rattle.xr_model.specs.machine.Frames.{Frames, FrameLoop, is_frame_held_back, new_loop, reset_loop, waited_loop, begun_loop, ended_loop, one_if}
use Rattle.xr_model.specs.machine.Handles.{Handles, no_handle, has, is_live, was_given, put_in, first_free, cleared}
use Rattle.xr_model.specs.machine.SessionRule.{Loss, losses}
use Rattle.xr_model.specs.machine.Refusals.{Refusal, when, first_of}
use Rattle.xr_model.specs.machine.LiveSessions.{Session, session_at, loop_in}
use Rattle.xr_model.specs.machine.SessionLife.{started_session}
use Rattle.xr_model.specs.machine.Rules.Session.{loop_of}
use Rattle.xr_model.specs.laws.SessionLaws.{is_session_creation, AreListed, creates_session}
use Rattle.xr_model.specs.laws.OrderLaws.{WaitsAndBegins}
use Rattle.xr_model.specs.laws.DecidedEntries.{Decided, decided, past_from, past_of, is_begin_session, is_end_session, is_wait_frame, is_begin_frame, is_end_frame, period_session, period, waits, begins, is_begun}
use Rattle.xr_model.specs.laws.Soundness.{AreKnown}
use Rattle.xr_model.proofs.LayerCodes.{layers_fail}
use Rattle.xr_model.proofs.SessionSteps.{kept_by_step}
use Rattle.xr_model.proofs.Listed.{listed_none}
use Rattle.xr_model.proofs.LostSessions.{new_session_given, listed_after}
use Rattle.xr_model.proofs.Successes.{success_still, begun_succeeds}
use Rattle.xr_model.proofs.Rows.{itself, same_key, neither_of, put_is_first, put_first, both_of, is_false}
use Rattle.xr_model.proofs.Destroying.{known_step, known_opening, and_false}
use Rattle.xr_model.proofs.SessionLives.{life_after, loop_after, time_of, Follows, lived}

-- ---- counts

-- a call that is counted for some session
abbrev pub is_counted : Call → Bool
is_counted (ask.BeginSession session view) = true
is_counted (ask.EndSession session) = true
is_counted (ask.WaitFrame session) = true
is_counted (ask.BeginFrame session) = true
is_counted (ask.EndFrame session time blend layers) = true
is_counted _ = false

-- a successful one on this session
abbrev pub touches : ℕ → Decided → Bool
touches q t = is_counted t.call && (t.is_done && (period_session t.call == q))

-- what touches no session acts on none
sorts_are_counted : (r : Call) (b : Bool) → is_counted r && b ≡ false
    → (is_begin_session r && b ≡ false) × (is_end_session r && b ≡ false) × (is_wait_frame r && b ≡ false) × (is_begin_frame r && b ≡ false) × (is_end_frame r && b ≡ false)
sorts_are_counted (ask.BeginSession session view) b e = (e, refl, refl, refl, refl)
sorts_are_counted (ask.EndSession session) b e = (refl, e, refl, refl, refl)
sorts_are_counted (ask.WaitFrame session) b e = (refl, refl, e, refl, refl)
sorts_are_counted (ask.BeginFrame session) b e = (refl, refl, refl, e, refl)
sorts_are_counted (ask.EndFrame session time blend layers) b e = (refl, refl, refl, refl, e)
sorts_are_counted _ b e = (refl, refl, refl, refl, refl)

-- ---- the loop by the counts of its session

pub record LoopFits (q : ℕ) (l : FrameLoop) (past : List Decided) : Type 0 where
  pub frames : waits q past ≡ begins q past + one_if l.has_waited
  pub begun : is_begun q (period q past) ≡ l.has_begun

pub loop_aside : (q : ℕ) (l : FrameLoop) (t : Decided) (past : List Decided) → touches q t ≡ false → LoopFits q l past → LoopFits q l (t ∷ past)
loop_aside q l t past aside fits =
    let none = sorts_are_counted t.call (t.is_done && (period_session t.call == q)) aside in
    record {
      frames = rw (none.0, none.1, none.2, none.3) fits.frames;
      begun = rw (none.0, none.1, none.3, none.4) fits.begun;
    }

-- what was never touched has no counts
pub loop_fresh : (q : ℕ) (past : List Decided) → list_any (touches q) past ≡ false → LoopFits q new_loop past
loop_fresh q [] none = record { frames = refl; begun = refl }
loop_fresh q (t ∷ past) none = by (touches q t) refl none (loop_fresh q past)
  where
    by : (b : Bool) → touches q t ≡ b → b || list_any (touches q) past ≡ false → (list_any (touches q) past ≡ false → LoopFits q new_loop past) → LoopFits q new_loop (t ∷ past)
    by true is none more = absurd (true≢false none)
    by false is none more = loop_aside q new_loop t past is (more none)

-- ---- what each call does to the counts of its session

module _ (h : ℕ) (l : FrameLoop) (past : List Decided) (g : ℕ) (d : Did) where
  begins_period : (view : ViewConfig) → LoopFits h (reset_loop l) (record { call = ask.BeginSession h view; is_done = true; given = g; did = d } ∷ past)
  begins_period view = record { frames = rw (itself h) refl; begun = rw (itself h) refl }

  ends_period : LoopFits h (reset_loop l) (record { call = ask.EndSession h; is_done = true; given = g; did = d } ∷ past)
  ends_period = record { frames = rw (itself h) refl; begun = rw (itself h) refl }

  waits_frame : (time : ℤ) → l.has_waited ≡ false → LoopFits h l past → LoopFits h (waited_loop l time) (record { call = ask.WaitFrame h; is_done = true; given = g; did = d } ∷ past)
  waits_frame time none fits =
      let frames : waits h past ≡ begins h past + 0 = rw none at fits.frames in
      record { frames = rw (itself h) (omega (arith, frames)); begun = fits.begun }

  begins_frame : l.has_waited ≡ true → LoopFits h l past → LoopFits h (begun_loop l) (record { call = ask.BeginFrame h; is_done = true; given = g; did = d } ∷ past)
  begins_frame some fits =
      let frames : waits h past ≡ begins h past + 1 = rw some at fits.frames in
      record { frames = rw (itself h) (omega (arith, frames)); begun = rw (itself h) refl }

  ends_frame : (time : ℤ) (blend : Blend) (layers : List Layer) → LoopFits h l past → LoopFits h (ended_loop l) (record { call = ask.EndFrame h time blend layers; is_done = true; given = g; did = d } ∷ past)
  ends_frame time blend layers fits = record { frames = fits.frames; begun = rw (itself h) refl }

-- ---- handles

-- two live handles of one place are one
pub only_row : (row : List Slot) (p q : ℕ) → length row ≡ 1 → has row p ≡ true → has row q ≡ true → p ≡ q
only_row [] p q one a b = absurd (true≢false (sym a))
only_row (s ∷ []) p q one a b = by (s.handle == p) refl (s.handle == q) refl a b
  where
    by : (c : Bool) → (s.handle == p) ≡ c → (d : Bool) → (s.handle == q) ≡ d → c || false ≡ true → d || false ≡ true → p ≡ q
    by true ec true ed a b = sym (same_key s.handle p ec) ∙ same_key s.handle q ed
    by true ec false ed a b = absurd (true≢false (sym b))
    by false ec d ed a b = absurd (true≢false (sym a))
only_row (s ∷ t ∷ row) p q one a b = absurd (omega (arith, one))

length_first : (new : Slot) (row : List Slot) → length (put_first new row) ≡ length row
unfolding put_first
length_first new [] = refl
length_first new (s ∷ ss) = by (s.handle == 0) (length_first new ss)
  where
    by : (b : Bool) → length (put_first new ss) ≡ length ss → length (if b then new ∷ ss else s ∷ put_first new ss) ≡ suc (length ss)
    by true more = refl
    by false more = ap (λ n. suc n) more

pub length_put : (new : Slot) (row : List Slot) → length (put_in row new (first_free row)) ≡ length row
length_put new row = ap (λ (l : List Slot). length l) (put_is_first new row) ∙ length_first new row

pub length_cleared : (handle : ℕ) (above : List ℕ) (row : List Slot) → length (cleared handle above row) ≡ length row
length_cleared handle above [] = refl
length_cleared handle above (s ∷ ss) = ap (λ n. suc n) (length_cleared handle above ss)

-- ---- refusals

abbrev pub all_fail : List Refusal → Bool
all_fail rs = list_all (λ r. not (is_success r.code)) rs

pub first_fails : (rs : List Refusal) (r : Refusal) → all_fail rs ≡ true → first_of rs ≡ Some r → is_success r.code ≡ false
first_fails [] r fails found = cc
first_fails (x ∷ rs) r fails found = by (is_success x.code) refl x.holds fails found (λ f g. first_fails rs r f g)
  where
    same : (a b : Refusal) → Some a ≡ Some b → a ≡ b
    same a b e = cc

    by : (c : Bool) → is_success x.code ≡ c → (b : Bool) → not c && all_fail rs ≡ true → (if b then Some x else first_of rs) ≡ Some r → (all_fail rs ≡ true → first_of rs ≡ Some r → is_success r.code ≡ false) → is_success r.code ≡ false
    by true ec b fails found more = absurd (true≢false (sym fails))
    by false ec true fails found more = rw (← same x r found) ec
    by false ec false fails found more = more fails found

-- the first of two parts
pub none_first : (b : Bool) (code : Code) (rs : List Refusal) → first_of (when b code ∷ rs) ≡ None → (b ≡ false) × (first_of rs ≡ None)
none_first true code rs none = absurd (some_is_not none)
  where
    some_is_not : Some (when true code) ≡ None → ⊥
    some_is_not e = cc
none_first false code rs none = (refl, none)

pub none_of : (xs ys : List Refusal) → first_of (xs ++ ys) ≡ None → (first_of xs ≡ None) × (first_of ys ≡ None)
none_of [] ys none = (refl, none)
none_of (x ∷ xs) ys none = by x.holds none (none_of xs ys)
  where
    some_is_not : Some x ≡ None → ⊥
    some_is_not e = cc

    by : (b : Bool) → (if b then Some x else first_of (xs ++ ys)) ≡ None → (first_of (xs ++ ys) ≡ None → (first_of xs ≡ None) × (first_of ys ≡ None)) → ((if b then Some x else first_of xs) ≡ None) × (first_of ys ≡ None)
    by true none more = absurd (some_is_not none)
    by false none more = more none

pub not_false : (b : Bool) → not b ≡ false → b ≡ true
not_false true e = refl
not_false false e = absurd (true≢false e)

-- what nothing refuses: neither its handles, nor what stands before the order, nor the order, nor what stands behind it
pub record IsClear (f : Rule) : Type 0 where
  pub whole : first_of (refusals f) ≡ None
  pub handles : first_of f.handles ≡ None
  pub before : first_of f.before ≡ None
  pub order : f.disorder ≡ false
  pub behind : first_of f.behind ≡ None

unshort : (short : Bool) (o : Option Refusal) → or_short short o ≡ None → o ≡ None
unshort false o none = none
unshort true None none = refl
unshort true (Some r) none = cc

pub clear : (f : Rule) (short : Bool) → refusal short f ≡ None → IsClear f
clear f short none =
    let whole = unshort (f.takes_memory && short) (first_of (refusals f)) none in
    let one = none_of f.handles _ whole in
    let two = none_of (losses f.on) _ one.1 in
    let three = none_of f.before _ two.1 in
    let four = none_first f.disorder CallOrderInvalid f.behind three.1 in
    record { whole = whole; handles = one.0; before = three.0; order = four.0; behind = four.1 }

-- a handle that refuses nothing is live
pub is_live_by : (live : Bool) → first_of (when (not live) HandleInvalid ∷ []) ≡ None → live ≡ true
is_live_by live none = not_false live (none_first (not live) HandleInvalid [] none).0

some_is : (x y : Refusal) → Some x ≡ Some y → x ≡ y
some_is x y e = cc

short_fails : (short : Bool) (o : Option Refusal) (r : Refusal) → ((x : Refusal) → o ≡ Some x → is_success x.code ≡ false) → or_short short o ≡ Some r → is_success r.code ≡ false
short_fails false o r fails found = fails r found
short_fails true None r fails found = rw (← some_is (when true OutOfMemory) r found) refl
short_fails true (Some x) r fails found = rw (← some_is x r found) (fails x refl)

-- by what refuses a call, if anything does
pub by_rule : (P : Effect → Type 0) (s : CoreState) (f : Rule) (short : Bool) → all_fail (refusals f) ≡ true → ((r : Refusal) → is_success r.code ≡ false → P (unless_refused s (Some r) (told_on f.on f.effect))) → (refusal short f ≡ None → P (told_on f.on f.effect)) → P (carried_out s short f)
by_rule P s f short fails refuse go = by (refusal short f) refl
  where
    by : (o : Option Refusal) → refusal short f ≡ o → P (unless_refused s o (told_on f.on f.effect))
    by None found = go found
    by (Some r) found = refuse r (short_fails (f.takes_memory && short) (first_of (refusals f)) r (λ x there. first_fails (refusals f) x fails there) found)

pub is_ready_to : (s : CoreState) (reads : CellReads) (e : Entry) → core_ready s reads e ≡ true → first_of (refusals (rule s reads e)) ≡ None → not (rule s reads e).waits ≡ true
is_ready_to s reads e is_ready none = by (not (rule s reads e).waits) (rw none at is_ready)
  where
    by : (b : Bool) → b || false ≡ true → b ≡ true
    by true e = refl
    by false e = absurd (true≢false (sym e))

-- a wait that isn't held back finds no frame waited for
pub not_waited : (f : Frames) (l : FrameLoop) → not (is_frame_held_back f l) ≡ true → l.has_waited ≡ false
not_waited f l free = by l.has_waited free
  where
    by : (b : Bool) → not (if b then true else nat_lt 2 (length f.pending + one_if l.has_begun)) ≡ true → b ≡ false
    by true free = absurd (true≢false (sym free))
    by false free = refl

-- the effect of what nothing refuses
pub goes : (s : CoreState) (o : Option Refusal) (x : Effect) → o ≡ None → unless_refused s o x ≡ x
goes s None x none = refl
goes s (Some r) x none = cc

-- ---- the loops of the listed sessions and the counts

-- What isn't given stands nowhere and was never touched; and the loop of each listed session is that of its counts.
pub record FramesFit (h : Handles) (xs : List Session) (past : List Decided) : Type 0 where
  pub known : AreKnown h
  pub listed : AreListed h xs
  pub untouched : (q : ℕ) → (q == 0) ≡ false → was_given h q ≡ false → list_any (touches q) past ≡ false
  pub loops : (q : ℕ) (x : Session) → session_at xs q ≡ Some x → LoopFits q x.frame_loop past

-- the loop of a session that is live
pub live_fits : (h : Handles) (xs : List Session) (past : List Decided) → FramesFit h xs past → (q : ℕ) → is_live h kind.Session q ≡ true → LoopFits q (loop_in (session_at xs q)) past
live_fits h xs past fits q live = by (session_at xs q) refl (fits.listed q ∙ live)
  where
    by : (o : Option Session) → session_at xs q ≡ o → is_some o ≡ true → LoopFits q (loop_in o) past
    by None eo there = absurd (true≢false (sym there))
    by (Some x) eo there = fits.loops q x eo

pub live_nonzero : (h : Handles) (q : ℕ) → is_live h kind.Session q ≡ true → (q == 0) ≡ false
live_nonzero h q live = by (q == 0) live
  where
    by : (z : Bool) → not z && has h.sessions q ≡ true → z ≡ false
    by true live = absurd (true≢false (sym live))
    by false live = refl

-- what is live was given
pub live_given : (h : Handles) (q : ℕ) → AreKnown h → is_live h kind.Session q ≡ true → was_given h q ≡ true
live_given h q known live = by (was_given h q) refl
  where
    by : (w : Bool) → was_given h q ≡ w → w ≡ true
    by true ew = refl
    by false ew = absurd (true≢false (sym live ∙ rw (live_nonzero h q live, (known q (live_nonzero h q live) ew).sessions) refl))

-- what isn't given after an entry wasn't before
given_before : (s : CoreState) (reads : CellReads) (e : Entry) (q : ℕ) → was_given (core_step s reads e).0.handles q ≡ false → was_given s.handles q ≡ false
given_before s reads e q = kept_by_step (λ h xs. was_given h q ≡ false → was_given s.handles q ≡ false) s reads e (record {
  same = λ d c new. new;
  instance = λ d c new. one new;
  session = λ d c good room instance new. one new;
  set = λ d c above new. one new;
  action = λ d c above new. one new;
  space = λ d c above new. one new;
  chain = λ d c above new. one new;
  without = λ d c handle new. new;
  alone = λ d c space new. new;
  chain_alone = λ d c chain new. new;
  lives = λ d c session f named same has new. new;
  attach = λ d c session sets new. new;
  each = λ h xs f keeps there. there;
  lost = λ d c new. new;
})
  where
    one : (e.given == q) || was_given s.handles q ≡ false → was_given s.handles q ≡ false
    one new = (neither_of (e.given == q) (was_given s.handles q) new).1

-- ---- a call that touches a session

module _ (s : CoreState) (reads : CellReads) (e : Entry) (is_ready : core_ready s reads e ≡ true) (past : List Decided) (q : ℕ) where
  -- what is known of an effect of a request: it touches a live session alone, and the loop that it leaves fits
  pub record Fits (r : Call) (x : Effect) : Type 0 where
    pub live : touches q (record { call = r; is_done = is_success x.code; given = e.given; did = x.did }) ≡ true → is_live s.handles kind.Session q ≡ true
    pub loop : (l : FrameLoop) → loop_in (session_at s.sessions q) ≡ l → LoopFits q l past
        → LoopFits q (loop_after (time_of s r) r q (is_success x.code) l) (record { call = r; is_done = is_success x.code; given = e.given; did = x.did } ∷ past)

  -- a call that isn't counted
  uncounted : (r : Call) (x : Effect) → is_counted r ≡ false → ((good : Bool) (l : FrameLoop) → loop_after (time_of s r) r q good l ≡ l) → Fits r x
  uncounted r x none stays = record {
    live = λ is. absurd (true≢false (sym is ∙ rw none refl));
    loop = λ l here fits. rw (stays (is_success x.code) l) (loop_aside q l _ past (rw none refl) fits);
  }

  -- a counted call that is refused
  refused : (r : Call) (x : Effect) → is_success x.code ≡ false → ((l : FrameLoop) → loop_after (time_of s r) r q false l ≡ l) → Fits r x
  refused r x failed stays = record {
    live = λ is. absurd (true≢false (sym is ∙ rw failed (and_false (is_counted r))));
    loop = λ l here fits. rw failed (rw (stays l) (loop_aside q l _ past (and_false (is_counted r)) fits));
  }

  -- one that succeeds on this session, told what it does to the loop
  succeeds : (r : Call) (x : Effect) (session : ℕ) (k : FrameLoop → FrameLoop) → is_success x.code ≡ true → is_counted r ≡ true → period_session r ≡ session
      → ((good : Bool) (l : FrameLoop) → loop_after (time_of s r) r q good l ≡ (if good && (session == q) then k l else l))
      → is_live s.handles kind.Session session ≡ true
      → ((l : FrameLoop) → session ≡ q → loop_in (session_at s.sessions q) ≡ l → LoopFits q l past → LoopFits q (k l) (record { call = r; is_done = true; given = e.given; did = x.did } ∷ past))
      → Fits r x
  succeeds r x session k good counts on does live change = record {
    live = λ is. subst (λ (n : ℕ). is_live s.handles kind.Session n ≡ true) (same_key session q (rw (counts, good, on) at is)) live;
    loop = λ l here fits. rw (good, does true l) (by (session == q) refl l here fits);
  }
    where
      by : (b : Bool) → (session == q) ≡ b → (l : FrameLoop) → loop_in (session_at s.sessions q) ≡ l → LoopFits q l past → LoopFits q (if b then k l else l) (record { call = r; is_done = true; given = e.given; did = x.did } ∷ past)
      by true eb l here fits = change l (same_key session q eb) here fits
      by false eb l here fits = loop_aside q l _ past (rw (counts, on, eb) refl) fits

  -- a counted call by its rule
  by_call : (r : Call) (f : Rule) (session : ℕ) (k : FrameLoop → FrameLoop) → all_fail (refusals f) ≡ true → is_success f.effect.code ≡ true → is_counted r ≡ true → period_session r ≡ session
      → ((good : Bool) (l : FrameLoop) → loop_after (time_of s r) r q good l ≡ (if good && (session == q) then k l else l))
      → f.handles ≡ no_handle s.handles kind.Session session ∷ []
      → (IsClear f → (l : FrameLoop) → session ≡ q → loop_in (session_at s.sessions q) ≡ l → LoopFits q l past → LoopFits q (k l) (record { call = r; is_done = true; given = e.given; did = f.effect.did } ∷ past))
      → Fits r (carried_out s e.short f)
  by_call r f session k fails good counts on does named change =
      by_rule (Fits r) s f e.short fails (λ y failed. refused r (unless_refused s (Some y) (told_on f.on f.effect)) failed (λ l. does false l)) (λ none. done f.on (clear f e.short none))
    where
      live : IsClear f → is_live s.handles kind.Session session ≡ true
      live free = is_live_by (is_live s.handles kind.Session session) (rw named at free.handles)

      done : (l : Option Loss) → IsClear f → Fits r (told_on l f.effect)
      done None free = succeeds r f.effect session k good counts on does (live free) (change free)
      done (Some loss) free = succeeds r (told_on (Some loss) f.effect) session k (success_still loss f.effect.code good) counts on does (live free) (change free)

  -- the loop of the call's own session
  own : (session : ℕ) (l : FrameLoop) → session ≡ q → loop_in (session_at s.sessions q) ≡ l → loop_of s session ≡ l
  own session l same here = ap (λ (n : ℕ). loop_in (session_at s.sessions n)) same ∙ here

  pub fits_call : Fits e.call (effect s reads e)
  fits_call = by e.call is_ready
    where
      by : (r : Call) → core_ready s reads (record e { call = r }) ≡ true → Fits r (effect s reads (record e { call = r }))
      by (ask.BeginSession session view) ready_is =
          by_call (ask.BeginSession session view) (rule s reads (record e { call = ask.BeginSession session view })) session reset_loop refl refl refl refl (λ good l. refl) refl
          (λ free l same here fits. subst (λ (n : ℕ). LoopFits n (reset_loop l) (record { call = ask.BeginSession session view; is_done = true; given = e.given; did = (rule s reads (record e { call = ask.BeginSession session view })).effect.did } ∷ past)) same (begins_period session l past e.given _ view))
      by (ask.EndSession session) ready_is =
          by_call (ask.EndSession session) (rule s reads (record e { call = ask.EndSession session })) session reset_loop refl refl refl refl (λ good l. refl) refl
          (λ free l same here fits. subst (λ (n : ℕ). LoopFits n (reset_loop l) (record { call = ask.EndSession session; is_done = true; given = e.given; did = (rule s reads (record e { call = ask.EndSession session })).effect.did } ∷ past)) same (ends_period session l past e.given _))
      by (ask.WaitFrame session) ready_is =
          by_call (ask.WaitFrame session) (rule s reads (record e { call = ask.WaitFrame session })) session (λ l. waited_loop l (next_time s session)) refl refl refl refl (λ good l. refl) refl
          (λ free l same here fits.
          let none = ap (λ (m : FrameLoop). m.has_waited) (sym (own session l same here)) ∙ not_waited s.frames (loop_of s session) (is_ready_to s reads (record e { call = ask.WaitFrame session }) ready_is free.whole) in
          subst (λ (n : ℕ). LoopFits n (waited_loop l (next_time s session)) (record { call = ask.WaitFrame session; is_done = true; given = e.given; did = (rule s reads (record e { call = ask.WaitFrame session })).effect.did } ∷ past)) same
          (waits_frame session l past e.given _ (next_time s session) none (subst (λ (n : ℕ). LoopFits n l past) (sym same) fits)))
      by (ask.BeginFrame session) ready_is =
          by_call (ask.BeginFrame session) (rule s reads (record e { call = ask.BeginFrame session })) session begun_loop refl (begun_succeeds (loop_of s session)) refl refl (λ good l. refl) refl
          (λ free l same here fits.
          let some = ap (λ (m : FrameLoop). m.has_waited) (sym (own session l same here)) ∙ not_false (loop_of s session).has_waited free.order in
          subst (λ (n : ℕ). LoopFits n (begun_loop l) (record { call = ask.BeginFrame session; is_done = true; given = e.given; did = (rule s reads (record e { call = ask.BeginFrame session })).effect.did } ∷ past)) same
          (begins_frame session l past e.given _ some (subst (λ (n : ℕ). LoopFits n l past) (sym same) fits)))
      by (ask.EndFrame session time blend layers) ready_is =
          by_call (ask.EndFrame session time blend layers) (rule s reads (record e { call = ask.EndFrame session time blend layers })) session ended_loop (layers_fail (look_of s session) layers) refl refl refl (λ good l. refl) refl
          (λ free l same here fits. subst (λ (n : ℕ). LoopFits n (ended_loop l) (record { call = ask.EndFrame session time blend layers; is_done = true; given = e.given; did = (rule s reads (record e { call = ask.EndFrame session time blend layers })).effect.did } ∷ past)) same
          (ends_frame session l past e.given _ time blend layers (subst (λ (n : ℕ). LoopFits n l past) (sym same) fits)))
      by r ready_is = uncounted r (effect s reads (record e { call = r })) refl (λ good l. refl)

-- ---- an entry keeps the fit

pub nonzero : (n : ℕ) → n ≢ 0 → (n == 0) ≡ false
nonzero n some = by (n == 0) refl
  where
    by : (b : Bool) → (n == 0) ≡ b → b ≡ false
    by true eb = absurd (some (same_key n 0 eb))
    by false eb = refl

-- a creation that fails gives no handle
pub failed_gives_none : (s : State) (e : Entry) → IsAllowed s e → is_session_creation e.call ≡ true → is_success (step s e).1.reply.code ≡ false → e.given ≡ 0
failed_gives_none s e allowed = by e.call allowed.handle
  where
    by : (r : Call) → IsGiven (is_some (rule s.core (reads_of s r) (record e { call = r })).creates && is_success (step s (record e { call = r })).1.reply.code) s.core.handles e.given
        → is_session_creation r ≡ true → is_success (step s (record e { call = r })).1.reply.code ≡ false → e.given ≡ 0
    by (ask.CreateSession instance system) is creates failed = rw failed at is
    by _ is creates failed = absurd (true≢false (sym creates))

-- the creation of a session isn't counted
creation_aside : (r : Call) → is_session_creation r ≡ true → is_counted r ≡ false
creation_aside (ask.CreateSession instance system) creates = refl
creation_aside _ creates = absurd (true≢false (sym creates))

pub fits_step : (s : State) (e : Entry) (past : List Decided) → (clocks : List ℤ) → IsLegalFrom s clocks (e ∷ []) → FramesFit s.core.handles s.core.sessions past
    → FramesFit (step s e).0.core.handles (step s e).0.core.sessions (decided s e ∷ past)
fits_step s e past clocks legal fits = record {
  known = known_step s e fits.known;
  listed = still_listed;
  untouched = λ q nz new.
      let before = given_before s.core (reads_of s e.call) e q new in
      let aside : touches q (decided s e) ≡ false = is_false (touches q (decided s e)) (λ is. true≢false (sym (live_given s.core.handles q fits.known ((fits_call s.core (reads_of s e.call) e legal.2 past q).live is)) ∙ before)) in
      rw aside (fits.untouched q nz before);
  loops = λ q y found. by q y (session_at s.core.sessions q) refl (session_at (step s e).0.core.sessions q) found (lived s.core (reads_of s e.call) e q) (fresh q y found);
}
  where
    still_listed : AreListed (step s e).0.core.handles (step s e).0.core.sessions
    still_listed = listed_after s clocks (e ∷ []) legal fits.listed

    some_is : (a b : Session) → Some a ≡ Some b → a ≡ b
    some_is a b same = cc

    -- a session that comes is new
    fresh : (q : ℕ) (y : Session) → session_at (step s e).0.core.sessions q ≡ Some y → creates_session e q ≡ true → list_any (touches q) past ≡ false
    fresh q y found creates = at (is_success (step s e).1.reply.code) refl
      where
        two : (is_session_creation e.call ≡ true) × ((e.given == q) ≡ true)
        two = both_of (is_session_creation e.call) (e.given == q) creates

        there : is_live (step s e).0.core.handles kind.Session q ≡ true
        there = sym (still_listed q) ∙ ap (λ (o : Option Session). is_some o) found

        at : (b : Bool) → is_success (step s e).1.reply.code ≡ b → list_any (touches q) past ≡ false
        at true eb =
            let new = new_session_given s e legal.0 two.0 eb in
            fits.untouched q (live_nonzero (step s e).0.core.handles q there) (subst (λ (n : ℕ). was_given s.core.handles n ≡ false) (same_key e.given q two.1) new.1)
        at false eb = absurd (true≢false (sym (subst (λ (n : ℕ). (n == q) ≡ true) (failed_gives_none s e legal.0 two.0 eb) two.1) ∙ zero_apart))
          where
            zero_apart : (0 == q) ≡ false
            zero_apart = is_false (0 == q) (λ is. true≢false (sym (subst (λ (n : ℕ). (n == 0) ≡ true) (same_key 0 q is) refl) ∙ live_nonzero (step s e).0.core.handles q there))

    by : (q : ℕ) (y : Session) (o : Option Session) → session_at s.core.sessions q ≡ o → (n : Option Session) → n ≡ Some y
        → Follows (life_after e.call q (is_success (step s e).1.reply.code)) (loop_after (time_of s.core e.call) e.call q (is_success (step s e).1.reply.code)) (creates_session e q) (started_session s.core.device.wish).life o n
        → (creates_session e q ≡ true → list_any (touches q) past ≡ false) → LoopFits q y.frame_loop (decided s e ∷ past)
    by q y o eo None found follows new = cc
    by q y None eo (Some z) found follows new =
        let creates = (both_of (is_session_creation e.call) (e.given == q) follows.0).0 in
        let aside : touches q (decided s e) ≡ false = rw (creation_aside e.call creates) refl in
        rw (sym (ap (λ (w : Session). w.frame_loop) (some_is z y found)), follows.2) (loop_aside q new_loop (decided s e) past aside (loop_fresh q past (new follows.0)))
    by q y (Some x) eo (Some z) found follows new =
        let here = fits.loops q x eo in
        rw (sym (ap (λ (w : Session). w.frame_loop) (some_is z y found)), follows.1)
        ((fits_call s.core (reads_of s e.call) e legal.2 past q).loop x.frame_loop (ap (λ (o : Option Session). loop_in o) eo) here)

pub fits_after : (s : State) (clocks : List ℤ) (past : List Decided) (es : List Entry) → IsLegalFrom s clocks es → FramesFit s.core.handles s.core.sessions past
    → FramesFit (after s es).core.handles (after s es).core.sessions (past_from s past es)
fits_after s clocks past [] legal fits = fits
fits_after s clocks past (e ∷ es) legal fits =
    fits_after (step s e).0 (clocks_after clocks e (step s e).0) (decided s e ∷ past) es legal.3 (fits_step s e past clocks (legal.0, legal.1, legal.2, tt) fits)

fits_opening : (settings : Settings) → FramesFit (opening settings).core.handles (opening settings).core.sessions []
fits_opening settings = record {
  known = known_opening settings;
  listed = listed_none;
  untouched = λ q nz new. refl;
  loops = λ q x found. none x found;
}
  where
    none : {q : ℕ} (x : Session) → None ≡ Some x → LoopFits q x.frame_loop []
    none x found = cc

pub fits_history : (settings : Settings) (es : List Entry) → IsLegalFrom (opening settings) (opening_clocks settings) es
    → FramesFit (after (opening settings) es).core.handles (after (opening settings) es).core.sessions (past_of settings es)
fits_history settings es legal = fits_after (opening settings) (opening_clocks settings) [] es legal (fits_opening settings)

pub waits_and_begins : WaitsAndBegins
waits_and_begins settings es session legal live =
    let fits = live_fits (after (opening settings) es).core.handles (after (opening settings) es).core.sessions (past_of settings es) (fits_history settings es legal) session live in
    by (loop_of (after (opening settings) es).core session).has_waited fits.frames
  where
    by : (b : Bool) → waits session (past_of settings es) ≡ begins session (past_of settings es) + one_if b
        → (begins session (past_of settings es) ≤ waits session (past_of settings es)) × (waits session (past_of settings es) ≤ begins session (past_of settings es) + 1)
    by true e = (omega (arith, e), omega (arith, e))
    by false e = (omega (arith, e), omega (arith, e))
