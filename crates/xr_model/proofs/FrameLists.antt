-- How many frames are pending, what an entry takes and adds, and how frames are numbered.
use Rattle.std.proofs.Common.{◌≡◌, ◌+◌, ◌≤◌, ◌++◌, ℕ, ℤ, Bool, true, false, not, List, [], ◌∷◌, drop, length, Option, Some, None, refl, sym, subst, ◌∙◌, append-nil, arith, true≢false, ◌*◌, ap}
use Rattle.std.specs.Prelude.{nat_lt, take, if◌then◌else◌}
use Rattle.std.proofs.lemmas.Bool.Decides.{nat_tests}
use Rattle.xr_types.specs.Code.{is_success}
use Rattle.xr_types.specs.declared.device.DeviceEvent.{DeviceEvent}
use Rattle.xr_types.specs.declared.device.DeviceEvent.TheVariants as event
use Rattle.xr_types.specs.Frames.{PendingFrame}
use Rattle.xr_types.specs.declared.frames.Shown.{Shown}
use Rattle.xr_types.specs.declared.calls.Call.{Call}
use Rattle.xr_types.specs.declared.calls.Call.TheVariants as ask
use Rattle.xr_types.specs.declared.device.Wish.TheVariants as wish
use Rattle.xr_types.specs.declared.handles.Kind.TheVariants as kind
use Rattle.xr_types.specs.declared.handles.TheConstants.{SESSIONS}
use Rattle.xr_model.specs.machine.Calls.{Entry}
use Rattle.xr_model.specs.machine.Frames.{Frames, one_if, is_frame_held_back, reset_loop, FrameLoop, waited_loop, begun_loop, ended_loop}
use Rattle.xr_model.specs.machine.SessionRule.{loss_of}
use Rattle.xr_model.specs.machine.Refusals.{Refusal}
use Rattle.xr_model.specs.machine.State.{CoreState, CellReads, State, opening}
use Rattle.xr_model.specs.machine.Rule.{Rule, Effect, refusal, told_on, unless_refused}
use Rattle.xr_model.specs.machine.Rules.Session.{life_of, loop_of, new_session, changed_in, told_of, columns_of}
use Rattle.xr_model.specs.machine.Rules.Device.{behind_event}
use Rattle.xr_model.specs.machine.Rules.Frames.{look_of, new_frame, oldest_shown, next_time}
use Rattle.xr_model.specs.machine.Machine.{core_step, core_ready, effect, rule, step, reads_of}
use Rattle.xr_model.specs.machine.History.{after, opening_clocks, clocks_after, IsLegalFrom}
use Rattle.xr_model.specs.machine.Handles.{is_live, without, destroyed_by}
use Rattle.xr_model.specs.machine.LiveSessions.{Session, session_at, with_session_at, with_frame_loop, with_life, with_attached, still_live, told_states, each_changed, told_changes, with_columns}
use Rattle.xr_model.specs.machine.SessionLife.{Life, Changed, unchanged, begun_session, started_session, ended_session, exiting_session, synced_session, losing_session, lost_session, is_state}
use Rattle.xr_model.specs.machine.Sets.{sets_named}
use Rattle.xr_model.specs.machine.Target.{Standing, rounds, most_rounds}
use Rattle.xr_model.specs.laws.FrameLaws.{submitted_if, submitted_from, AreNumbered, FramesAreNumbered, PendingAreFew}
use Rattle.xr_model.specs.laws.SessionLaws.{AreListed}
use Rattle.xr_model.specs.laws.Soundness.{AreKnown}
use Rattle.xr_model.proofs.Successes.{success_succeeds}
use Rattle.xr_model.proofs.LayerCodes.{layers_fail}
use Rattle.xr_model.proofs.FrameOrder.{by_rule, is_ready_to, not_false, clear, is_live_by}
use Rattle.xr_model.proofs.Limits.{LongAsMayBe, long_step, long_opening}
use Rattle.xr_model.proofs.Destroying.{known_step, known_opening}
use Rattle.xr_model.proofs.Listed.{listed_none}
use Rattle.xr_model.proofs.LoopSums.{sum_in, sum_map, sum_at, sum_rounds, sum_changed, sum_left, sum_more, sum_loop, others_few, listed_fit}
use Rattle.xr_model.proofs.LostSessions.{listed_after}
use Rattle.xr_model.proofs.StatesTold.{apart_step}
use Rattle.xr_model.proofs.ToldStates.{AreApart}
use Rattle.xr_model.specs.machine.Destroyed.{left_session, sessions_left}
use Rattle.xr_model.specs.machine.Rules.Sync.{columns_synced}
use Rattle.xr_types.specs.declared.session.SessionState.TheVariants.{Focused}

-- ---- what a call leaves of the frames that are pending

pub record Same (s : CoreState) (x : Effect) : Type 0 where
  pub pending : x.state.frames.pending ≡ s.frames.pending
  pub ended : x.state.ended ≡ s.ended
  pub shown : x.shown ≡ None

same_refused : (s : CoreState) (o : Option Refusal) (x : Effect) → Same s x → Same s (unless_refused s o x)
same_refused s None x same = same
same_refused s (Some r) x same = record { pending = refl; ended = refl; shown = refl }

-- the state alone
abbrev SameFrames : CoreState → CoreState → Type 0
SameFrames s t = (t.frames.pending ≡ s.frames.pending) × (t.ended ≡ s.ended)

event_same : (s : CoreState) (what : DeviceEvent) → SameFrames s (behind_event s what)
event_same s (event.Clock time) = (refl, refl)
event_same s _ = (refl, refl)

-- the calls that submit and show frames
abbrev pub is_frame_move : Call → Bool
is_frame_move (ask.EndFrame session time blend layers) = true
is_frame_move ask.NextFrame = true
is_frame_move _ = false

pub frames_stay : (s : CoreState) (reads : CellReads) (e : Entry) → is_frame_move e.call ≡ false → Same s (effect s reads e)
frames_stay s reads e aside = by e.call aside
  where
    by : (r : Call) → is_frame_move r ≡ false → Same s (effect s reads (record e { call = r }))
    by (ask.EndFrame session time blend layers) aside = absurd (true≢false aside)
    by ask.NextFrame aside = absurd (true≢false aside)
    by (ask.Device what) aside = let c = event_same s what in record { pending = c.0; ended = c.1; shown = refl }
    by r aside = let f = rule s reads (record e { call = r }) in same_refused s (refusal e.short f) (told_on f.on f.effect) (record { pending = refl; ended = refl; shown = refl })

-- ---- what an entry takes and adds

-- the frame that is pending behind a call where it succeeds, if it submits one
abbrev pub frame_if : Bool → CoreState → Call → List PendingFrame
frame_if true s (ask.EndFrame session time blend layers) = new_frame s session time layers ∷ []
frame_if _ s _ = []

-- the frames that a call takes where it shows one: the oldest of these
abbrev pub taken_if : Option Shown → List PendingFrame → List PendingFrame
taken_if None frames = []
taken_if (Some f) frames = take 1 frames

pub record Moves (s : CoreState) (x : Effect) (added : List PendingFrame) : Type 0 where
  pub pending : s.frames.pending ++ added ≡ taken_if x.shown s.frames.pending ++ x.state.frames.pending
  pub ended : x.state.ended ≡ s.ended + length added

moves_same : (s : CoreState) (x : Effect) → Same s x → Moves s x []
moves_same s x same = record {
  pending = append-nil s.frames.pending ∙ sym (rw (same.shown, same.pending) refl);
  ended = same.ended ∙ omega arith;
}

-- the oldest frame is taken and shown
takes : (fs : List PendingFrame) (stamps : List ℕ) → fs ++ [] ≡ taken_if (oldest_shown fs stamps) fs ++ drop 1 fs
takes [] stamps = refl
takes (f ∷ fs) stamps = append-nil (f ∷ fs)

moves_refused : (s : CoreState) (o : Option Refusal) (x : Effect) → Moves s x [] → Moves s (unless_refused s o x) []
moves_refused s None x m = m
moves_refused s (Some r) x m = moves_same s (unless_refused s (Some r) x) (record { pending = refl; ended = refl; shown = refl })

pub moves : (s : CoreState) (reads : CellReads) (e : Entry) → Moves s (effect s reads e) (frame_if (is_success (effect s reads e).code) s e.call)
moves s reads e = by e.call
  where
    still : (r : Call) (b : Bool) → is_frame_move r ≡ false → frame_if b s r ≡ [] → Moves s (effect s reads (record e { call = r })) (frame_if b s r)
    still r b aside none = rw none (moves_same s (effect s reads (record e { call = r })) (frames_stay s reads (record e { call = r }) aside))

    none_if : (b : Bool) (r : Call) → is_frame_move r ≡ false → frame_if b s r ≡ []
    none_if false r aside = refl
    none_if true (ask.EndFrame session time blend layers) aside = absurd (true≢false aside)
    none_if true _ aside = refl

    by : (r : Call) → Moves s (effect s reads (record e { call = r })) (frame_if (is_success (effect s reads (record e { call = r })).code) s r)
    by ask.NextFrame =
        let f = rule s reads (record e { call = ask.NextFrame }) in
        rw (none_next (is_success (effect s reads (record e { call = ask.NextFrame })).code)) (moves_refused s (refusal e.short f) f.effect (record { pending = takes s.frames.pending reads.stamps; ended = omega arith }))
      where
        none_next : (b : Bool) → frame_if b s ask.NextFrame ≡ []
        none_next true = refl
        none_next false = refl
    by (ask.EndFrame session time blend layers) = by_rule (λ x. Moves s x (frame_if (is_success x.code) s (ask.EndFrame session time blend layers))) s f e.short (layers_fail (look_of s session) layers) refused ended
      where
        f : Rule
        f = rule s reads (record e { call = ask.EndFrame session time blend layers })

        refused : (x : Refusal) → is_success x.code ≡ false → Moves s (unless_refused s (Some x) (told_on f.on f.effect)) (frame_if (is_success x.code) s (ask.EndFrame session time blend layers))
        refused x failed = rw failed (moves_same s (unless_refused s (Some x) f.effect) (record { pending = refl; ended = refl; shown = refl }))

        ended : refusal e.short f ≡ None → Moves s (told_on f.on f.effect) (frame_if (is_success (told_on f.on f.effect).code) s (ask.EndFrame session time blend layers))
        ended none = rw (success_succeeds (loss_of (life_of s session))) (record { pending = refl; ended = refl })
    by r = still r (is_success (effect s reads (record e { call = r })).code) refl (none_if (is_success (effect s reads (record e { call = r })).code) r refl)

-- ---- frames are numbered

numbered_by : (n : ℕ) (s : State) (b : Bool) (r : Call) → n ≡ s.core.ended + 1 → (rest : List Shown) → AreNumbered (n + length (frame_if b s.core r)) rest → AreNumbered n (submitted_if b s r ++ rest)
numbered_by n s false r is rest more = subst (λ (k : ℕ). AreNumbered k rest) (omega arith) more
numbered_by n s true (ask.EndFrame session time blend layers) is rest more = (sym is, more)
numbered_by n s true _ is rest more = subst (λ (k : ℕ). AreNumbered k rest) (omega arith) more

numbered_from : (s : State) (es : List Entry) → AreNumbered (s.core.ended + 1) (submitted_from s es)
numbered_from s [] = tt
numbered_from s (e ∷ es) =
    let m = (moves s.core (reads_of s e.call) e).ended in
    let here : (step s e).0.core.ended + 1 ≡ (s.core.ended + 1) + length (frame_if (is_success (step s e).1.reply.code) s.core e.call) = omega (arith, m) in
    numbered_by (s.core.ended + 1) s (is_success (step s e).1.reply.code) e.call refl (submitted_from (step s e).0 es)
    (subst (λ (k : ℕ). AreNumbered k (submitted_from (step s e).0 es)) here (numbered_from (step s e).0 es))

pub frames_are_numbered : FramesAreNumbered
frames_are_numbered settings es = numbered_from (opening settings) es

-- ---- few frames are pending

-- how many frames a loop has waited for and begun
abbrev busy : FrameLoop → ℕ
busy l = one_if l.has_waited + one_if l.has_begun

few_busy : (l : FrameLoop) → busy l ≤ 2
few_busy l = by l.has_waited l.has_begun
  where
    by : (a b : Bool) → one_if a + one_if b ≤ 2
    by true true = omega arith
    by true false = omega arith
    by false true = omega arith
    by false false = omega arith

abbrev IsBound : Frames → List Session → Type 0
IsBound f xs = length f.pending + sum_in busy xs ≤ 2 * SESSIONS + 1

bound_refused : (s : CoreState) (o : Option Refusal) (x : Effect) → IsBound s.frames s.sessions → (o ≡ None → IsBound x.state.frames x.state.sessions) → IsBound (unless_refused s o x).state.frames (unless_refused s o x).state.sessions
bound_refused s None x same done = done refl
bound_refused s (Some r) x same done = same

length_more : (fs : List PendingFrame) (f : PendingFrame) → length (fs ++ f ∷ []) ≡ length fs + 1
length_more [] f = refl
length_more (x ∷ fs) f = let more = length_more fs f in omega (arith, more)

length_taken : (fs : List PendingFrame) → length (drop 1 fs) ≤ length fs
length_taken [] = omega arith
length_taken (f ∷ fs) = omega arith

-- a wait that isn't held back leaves three with its session
waited_few : (f : Frames) (l : FrameLoop) (time : ℤ) → not (is_frame_held_back f l) ≡ true → (length f.pending + busy (waited_loop l time) ≤ 3) × (busy (waited_loop l time) ≡ busy l + 1)
waited_few f l time free = by l.has_waited free
  where
    by : (b : Bool) → not (if b then true else nat_lt 2 (length f.pending + one_if l.has_begun)) ≡ true → (length f.pending + (1 + one_if l.has_begun) ≤ 3) × (1 + one_if l.has_begun ≡ (one_if b + one_if l.has_begun) + 1)
    by true free = absurd (true≢false (sym free))
    by false free = (grind (arith, nat_tests, free), omega arith)

module _ (s : CoreState) (bound : IsBound s.frames s.sessions) where
  -- a loop changes to one that is no busier, then a life, and all settle
  period : (session : ℕ) (f : Life → Changed) (l : FrameLoop)
      → sum_in busy (rounds most_rounds s.device.wish (record { sessions = changed_in (session_at s.sessions session) f (with_session_at session (with_frame_loop l) s.sessions); events = told_of (session_at s.sessions session) f s.events })).sessions + busy (loop_of s session) ≤ sum_in busy s.sessions + busy l
  period session f l =
      let t : Standing = record { sessions = changed_in (session_at s.sessions session) f (with_session_at session (with_frame_loop l) s.sessions); events = told_of (session_at s.sessions session) f s.events } in
      let one = sum_rounds busy s.device.wish t ∙ sum_changed busy (session_at s.sessions session) f (with_session_at session (with_frame_loop l) s.sessions) in
      let two = sum_loop busy refl session l s.sessions in
      omega (arith, one, two)

  gone : (handle : ℕ) (t : Standing) → t.sessions ≡ sessions_left (without s.handles handle) (destroyed_by s.handles handle) s.sessions → IsBound s.frames (rounds most_rounds s.device.wish t).sessions
  gone handle t is =
      let one = sum_rounds busy s.device.wish t ∙ ap (λ xs. sum_in busy xs) is ∙ sum_map busy (left_session (without s.handles handle) (destroyed_by s.handles handle)) (λ x. refl) (still_live (without s.handles handle) s.sessions) in
      let two = sum_left busy (λ (x : Session). is_live (without s.handles handle) kind.Session x.handle) s.sessions in
      omega (arith, one, two, bound)

  lost : IsBound s.frames (each_changed (λ x. unchanged (lost_session x.life)) s.sessions)
  lost = let one = sum_map busy (λ x. with_life (lost_session x.life) x) (λ x. refl) s.sessions in omega (arith, one, bound)

  events : (what : DeviceEvent) → IsBound (behind_event s what).frames (behind_event s what).sessions
  events (event.Wish wish) = let one = sum_rounds busy wish (record { sessions = s.sessions; events = s.events }) in omega (arith, one, bound)
  events event.Loss =
      let t : Standing = record { sessions = each_changed (λ x. losing_session x.life) s.sessions; events = told_changes s.events (λ x. losing_session x.life) s.sessions } in
      let one = sum_rounds busy s.device.wish t ∙ sum_map busy (λ x. with_life (losing_session x.life).life x) (λ x. refl) s.sessions in
      omega (arith, one, bound)
  events event.Lost = lost
  events event.Fault = lost
  events (event.Garbled line) = lost
  events (event.Clock time) = bound
  events _ = bound

bound_step : (s : CoreState) (reads : CellReads) (e : Entry) → core_ready s reads e ≡ true → AreListed s.handles s.sessions → length s.sessions ≤ SESSIONS → IsBound s.frames s.sessions → IsBound (core_step s reads e).0.frames (core_step s reads e).0.sessions
bound_step s reads e is_ready listed few bound = by e.call is_ready
  where
    by : (r : Call) → core_ready s reads (record e { call = r }) ≡ true → IsBound (core_step s reads (record e { call = r })).0.frames (core_step s reads (record e { call = r })).0.sessions
    by (ask.CreateSession instance system) is_ready =
        let f = rule s reads (record e { call = ask.CreateSession instance system }) in
        let new = new_session s e.given (started_session s.device.wish).life in
        let t : Standing = record { sessions = s.sessions ++ new ∷ []; events = told_states s.events (s.created + 1) e.given (started_session s.device.wish).through } in
        let one = sum_rounds busy s.device.wish t ∙ sum_more busy s.sessions new refl in
        bound_refused s (refusal e.short f) (told_on f.on f.effect) bound (λ none. omega (arith, one, bound))
    by (ask.BeginSession session view) is_ready =
        let f = rule s reads (record e { call = ask.BeginSession session view }) in
        let one = period s bound session (λ life. unchanged (begun_session life)) (reset_loop (loop_of s session)) in
        bound_refused s (refusal e.short f) (told_on f.on f.effect) bound (λ none. omega (arith, one, bound))
    by (ask.EndSession session) is_ready =
        let f = rule s reads (record e { call = ask.EndSession session }) in
        let one = period s bound session (ended_session s.device.wish) (reset_loop (loop_of s session)) in
        bound_refused s (refusal e.short f) (told_on f.on f.effect) bound (λ none. omega (arith, one, bound))
    by (ask.RequestExitSession session) is_ready =
        let f = rule s reads (record e { call = ask.RequestExitSession session }) in
        let t : Standing = record { sessions = changed_in (session_at s.sessions session) (exiting_session s.device.wish) s.sessions; events = told_of (session_at s.sessions session) (exiting_session s.device.wish) s.events } in
        let one = sum_rounds busy s.device.wish t ∙ sum_changed busy (session_at s.sessions session) (exiting_session s.device.wish) s.sessions in
        bound_refused s (refusal e.short f) (told_on f.on f.effect) bound (λ none. omega (arith, one, bound))
    by (ask.WaitFrame session) is_ready =
        let f = rule s reads (record e { call = ask.WaitFrame session }) in
        bound_refused s (refusal e.short f) (told_on f.on f.effect) bound
        (λ none.
        let free = clear f e.short none in
        let live = is_live_by (is_live s.handles kind.Session session) free.handles in
        let three = waited_few s.frames (loop_of s session) (next_time s session) (is_ready_to s reads (record e { call = ask.WaitFrame session }) is_ready free.whole) in
        let others = others_few busy few_busy session s.sessions (listed session ∙ live) in
        let changed = sum_loop busy refl session (waited_loop (loop_of s session) (next_time s session)) s.sessions in
        let a = three.0 in
        let b = three.1 in
        omega (arith, a, b, others, changed, few))
    by (ask.BeginFrame session) is_ready =
        let f = rule s reads (record e { call = ask.BeginFrame session }) in
        bound_refused s (refusal e.short f) (told_on f.on f.effect) bound
        (λ none.
        let had = not_false (loop_of s session).has_waited (clear f e.short none).order in
        let one = started _ (sum_in busy s.sessions) (loop_of s session).has_waited (loop_of s session).has_begun had (sum_loop busy refl session (begun_loop (loop_of s session)) s.sessions) in
        omega (arith, one, bound))
      where
        started : (n m : ℕ) (w b : Bool) → w ≡ true → n + (one_if w + one_if b) ≤ m + (0 + 1) → n ≤ m
        started n m true b had less = omega (arith, less)
        started n m false b had less = absurd (true≢false (sym had))
    by (ask.EndFrame session time blend layers) is_ready =
        let f = rule s reads (record e { call = ask.EndFrame session time blend layers }) in
        bound_refused s (refusal e.short f) (told_on f.on f.effect) bound
        (λ none.
        let had = not_false (loop_of s session).has_begun (clear f e.short none).order in
        let one = ended _ (sum_in busy s.sessions) (one_if (loop_of s session).has_waited) (loop_of s session).has_begun had (period s bound session (synced_session wish.Ready) (ended_loop (loop_of s session))) in
        let more = length_more s.frames.pending (new_frame s session time layers) in
        omega (arith, one, more, bound))
      where
        ended : (n m w : ℕ) (b : Bool) → b ≡ true → n + (w + one_if b) ≤ m + (w + 0) → n + 1 ≤ m
        ended n m w true had less = omega (arith, less)
        ended n m w false had less = absurd (true≢false (sym had))
    by ask.NextFrame is_ready =
        let f = rule s reads (record e { call = ask.NextFrame }) in
        let taken = length_taken s.frames.pending in
        bound_refused s (refusal e.short f) (told_on f.on f.effect) bound (λ none. omega (arith, taken, bound))
    by (ask.SyncActions session active) is_ready =
        let f = rule s reads (record e { call = ask.SyncActions session active }) in
        let one = sum_at busy (with_columns (columns_synced s (is_state (life_of s session).state Focused) active (columns_of s session))) (λ x. refl) session s.sessions in
        bound_refused s (refusal e.short f) (told_on f.on f.effect) bound (λ none. omega (arith, one, bound))
    by (ask.AttachSets session handles) is_ready =
        let f = rule s reads (record e { call = ask.AttachSets session handles }) in
        let one = sum_at busy (with_attached (sets_named s.inputs handles)) (λ x. refl) session s.sessions in
        bound_refused s (refusal e.short f) (told_on f.on f.effect) bound (λ none. omega (arith, one, bound))
    by (ask.DestroyInstance top) is_ready =
        let f = rule s reads (record e { call = ask.DestroyInstance top }) in bound_refused s (refusal e.short f) (told_on f.on f.effect) bound (λ none. gone s bound top _ refl)
    by (ask.DestroySession top) is_ready =
        let f = rule s reads (record e { call = ask.DestroySession top }) in bound_refused s (refusal e.short f) (told_on f.on f.effect) bound (λ none. gone s bound top _ refl)
    by (ask.DestroyActionSet top) is_ready =
        let f = rule s reads (record e { call = ask.DestroyActionSet top }) in bound_refused s (refusal e.short f) (told_on f.on f.effect) bound (λ none. gone s bound top _ refl)
    by (ask.DestroyAction top) is_ready =
        let f = rule s reads (record e { call = ask.DestroyAction top }) in bound_refused s (refusal e.short f) (told_on f.on f.effect) bound (λ none. gone s bound top _ refl)
    by (ask.Device what) is_ready = events s bound what
    by r is_ready = let f = rule s reads (record e { call = r }) in bound_refused s (refusal e.short f) (told_on f.on f.effect) bound (λ none. bound)

bound_after : (s : State) (clocks : List ℤ) (es : List Entry) → IsLegalFrom s clocks es → AreKnown s.core.handles → AreListed s.core.handles s.core.sessions → AreApart s.core.sessions → LongAsMayBe s.core.handles
    → IsBound s.core.frames s.core.sessions → IsBound (after s es).core.frames (after s es).core.sessions
bound_after s clocks [] legal known listed apart long bound = bound
bound_after s clocks (e ∷ es) legal known listed apart long bound =
    bound_after (step s e).0 (clocks_after clocks e (step s e).0) es legal.3 (known_step s e known) (listed_after s clocks (e ∷ []) (legal.0, legal.1, legal.2, tt) listed) (apart_step s e legal.0 known listed apart)
    (long_step s.core (reads_of s e.call) e long)
    (bound_step s.core (reads_of s e.call) e legal.2 listed (subst (λ (n : ℕ). length s.core.sessions ≤ n) (long kind.Session) (listed_fit s.core.handles s.core.sessions listed apart)) bound)

pub pending_are_few : PendingAreFew
pending_are_few settings es legal =
    let bound = bound_after (opening settings) (opening_clocks settings) es legal (known_opening settings) listed_none tt (long_opening settings) (omega arith) in
    omega (arith, bound)
