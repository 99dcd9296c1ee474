-- Each frame that is taken was begun and ended before.
use Rattle.std.proofs.Common.{◌≡◌, ◌+◌, ◌*◌, ◌≤◌, ◌++◌, ◌∙◌, ℕ, Bool, true, false, List, [], ◌∷◌, length, Option, Some, None, refl, sym, ap, arith, true≢false}
use Rattle.xr_types.specs.Code.{is_success}
use Rattle.xr_types.specs.Frames.{PendingFrame}
use Rattle.xr_types.specs.declared.calls.Call.{Call}
use Rattle.xr_types.specs.declared.calls.Call.TheVariants as ask
use Rattle.xr_types.specs.declared.device.DeviceEvent.{DeviceEvent}
use Rattle.xr_types.specs.declared.device.DeviceEvent.TheVariants as event
use Rattle.xr_types.specs.declared.device.Wish.TheVariants as wish
use Rattle.xr_types.specs.declared.handles.Kind.TheVariants as kind
use Rattle.xr_model.specs.machine.Calls.{Entry}
use Rattle.xr_model.specs.machine.Frames.{FrameLoop, one_if, reset_loop, waited_loop, begun_loop, ended_loop}
use Rattle.xr_model.specs.machine.Refusals.{Refusal}
use Rattle.xr_model.specs.machine.State.{CoreState, CellReads, State, opening}
use Rattle.xr_model.specs.machine.Rule.{Rule, Effect, refusal, told_on, unless_refused}
use Rattle.xr_model.specs.machine.Rules.Frames.{look_of, oldest_shown, next_time}
use Rattle.xr_model.specs.machine.Machine.{effect, rule, step, reads_of}
use Rattle.xr_model.specs.machine.History.{shown_if}
use Rattle.xr_model.specs.machine.Handles.{is_live, without, destroyed_by}
use Rattle.xr_model.specs.machine.LiveSessions.{Session, session_at, with_session_at, with_frame_loop, with_life, with_attached, still_live, told_states, each_changed, told_changes, with_columns}
use Rattle.xr_model.specs.machine.SessionLife.{Life, Changed, unchanged, begun_session, started_session, ended_session, exiting_session, synced_session, losing_session, lost_session, is_state}
use Rattle.xr_model.specs.machine.Sets.{sets_named}
use Rattle.xr_model.specs.machine.Target.{Standing, rounds, most_rounds}
use Rattle.xr_model.specs.machine.Rules.Session.{new_session, changed_in, told_of, loop_of, columns_of, life_of}
use Rattle.xr_model.specs.machine.Rules.Device.{behind_event}
use Rattle.xr_model.specs.laws.FrameLaws.{shown_from, frame_call, frame_calls, TakenAreHalf}
use Rattle.xr_model.proofs.LayerCodes.{layers_fail}
use Rattle.xr_model.proofs.FrameOrder.{by_rule, clear, not_false}
use Rattle.xr_model.proofs.LoopSums.{sum_in, sum_map, sum_at, sum_rounds, sum_changed, sum_left, sum_more, sum_loop}
use Rattle.xr_model.proofs.FrameLists.{Moves, frame_if, taken_if, moves, frames_stay}
use Rattle.xr_model.specs.machine.Destroyed.{left_session, sessions_left}
use Rattle.xr_model.specs.machine.Rules.Sync.{columns_synced}
use Rattle.xr_types.specs.declared.session.SessionState.TheVariants.{Focused}

-- ---- how many frames are begun

abbrev weight : FrameLoop → ℕ
weight l = one_if l.has_begun

abbrev begun_in : List Session → ℕ
begun_in xs = sum_in weight xs

-- ---- what an entry does to the begun frames

abbrev begun : CoreState → ℕ
begun s = begun_in s.sessions

-- twice the frames that it submits, and those that are begun behind it, are at most those begun before and the call itself
abbrev Weighs : CoreState → Call → Effect → Type 0
Weighs s r x = 2 * length (frame_if (is_success x.code) s r) + begun x.state ≤ begun s + frame_call r

-- a call that submits none
submits_none : (s : CoreState) (r : Call) (x : Effect) → frame_if true s r ≡ [] → begun x.state ≤ begun s + frame_call r → Weighs s r x
submits_none s r x none few = by (is_success x.code)
  where
    by : (b : Bool) → 2 * length (frame_if b s r) + begun x.state ≤ begun s + frame_call r
    by true = rw none (omega (arith, few))
    by false = omega (arith, few)

begun_kept : (s : CoreState) (o : Option Refusal) (x : Effect) (n : ℕ) → begun s ≤ n → begun x.state ≤ n → begun (unless_refused s o x).state ≤ n
begun_kept s None x n same done = done
begun_kept s (Some y) x n same done = same

module _ (s : CoreState) where
  same : begun s ≤ begun s + 0
  same = omega arith

  -- a loop changes, then a life, and all settle
  period : (session : ℕ) (f : Life → Changed) (l : FrameLoop)
      → begun_in (rounds most_rounds s.device.wish (record { sessions = changed_in (session_at s.sessions session) f (with_session_at session (with_frame_loop l) s.sessions); events = told_of (session_at s.sessions session) f s.events })).sessions + one_if (loop_of s session).has_begun ≤ begun s + one_if l.has_begun
  period session f l =
      let t : Standing = record { sessions = changed_in (session_at s.sessions session) f (with_session_at session (with_frame_loop l) s.sessions); events = told_of (session_at s.sessions session) f s.events } in
      let one = sum_rounds weight s.device.wish t ∙ sum_changed weight (session_at s.sessions session) f (with_session_at session (with_frame_loop l) s.sessions) in
      let two = sum_loop weight refl session l s.sessions in
      omega (arith, one, two)

  gone : (handle : ℕ) (t : Standing) → t.sessions ≡ sessions_left (without s.handles handle) (destroyed_by s.handles handle) s.sessions → begun_in (rounds most_rounds s.device.wish t).sessions ≤ begun s + 0
  gone handle t is =
      let one = sum_rounds weight s.device.wish t ∙ ap (λ xs. begun_in xs) is ∙ sum_map weight (left_session (without s.handles handle) (destroyed_by s.handles handle)) (λ x. refl) (still_live (without s.handles handle) s.sessions) in
      let two = sum_left weight (λ (x : Session). is_live (without s.handles handle) kind.Session x.handle) s.sessions in
      omega (arith, one, two)

  lost : begun_in (each_changed (λ x. unchanged (lost_session x.life)) s.sessions) ≤ begun s + 0
  lost = let one = sum_map weight (λ x. with_life (lost_session x.life) x) (λ x. refl) s.sessions in omega (arith, one)

  events : (what : DeviceEvent) → begun (behind_event s what) ≤ begun s + 0
  events (event.Wish wish) = let one = sum_rounds weight wish (record { sessions = s.sessions; events = s.events }) in omega (arith, one)
  events event.Loss =
      let t : Standing = record { sessions = each_changed (λ x. losing_session x.life) s.sessions; events = told_changes s.events (λ x. losing_session x.life) s.sessions } in
      let one = sum_rounds weight s.device.wish t ∙ sum_map weight (λ x. with_life (losing_session x.life).life x) (λ x. refl) s.sessions in
      omega (arith, one)
  events event.Lost = lost
  events event.Fault = lost
  events (event.Garbled line) = lost
  events (event.Clock time) = same
  events _ = same

weighs : (s : CoreState) (reads : CellReads) (e : Entry) → Weighs s e.call (effect s reads e)
weighs s reads e = by e.call
  where
    by : (r : Call) → Weighs s r (effect s reads (record e { call = r }))
    by (ask.CreateSession instance system) =
        let f = rule s reads (record e { call = ask.CreateSession instance system }) in
        let new = new_session s e.given (started_session s.device.wish).life in
        let t : Standing = record { sessions = s.sessions ++ new ∷ []; events = told_states s.events (s.created + 1) e.given (started_session s.device.wish).through } in
        let one = sum_rounds weight s.device.wish t ∙ sum_more weight s.sessions new refl in
        submits_none s (ask.CreateSession instance system) (unless_refused s (refusal e.short f) (told_on f.on f.effect)) refl
        (begun_kept s (refusal e.short f) (told_on f.on f.effect) (begun s + 0) (same s) (omega (arith, one)))
    by (ask.BeginSession session view) =
        let f = rule s reads (record e { call = ask.BeginSession session view }) in
        let one = period s session (λ life. unchanged (begun_session life)) (reset_loop (loop_of s session)) in
        submits_none s (ask.BeginSession session view) (unless_refused s (refusal e.short f) (told_on f.on f.effect)) refl
        (begun_kept s (refusal e.short f) (told_on f.on f.effect) (begun s + 0) (same s) (omega (arith, one)))
    by (ask.EndSession session) =
        let f = rule s reads (record e { call = ask.EndSession session }) in
        let one = period s session (ended_session s.device.wish) (reset_loop (loop_of s session)) in
        submits_none s (ask.EndSession session) (unless_refused s (refusal e.short f) (told_on f.on f.effect)) refl
        (begun_kept s (refusal e.short f) (told_on f.on f.effect) (begun s + 0) (same s) (omega (arith, one)))
    by (ask.RequestExitSession session) =
        let f = rule s reads (record e { call = ask.RequestExitSession session }) in
        let t : Standing = record { sessions = changed_in (session_at s.sessions session) (exiting_session s.device.wish) s.sessions; events = told_of (session_at s.sessions session) (exiting_session s.device.wish) s.events } in
        let one = sum_rounds weight s.device.wish t ∙ sum_changed weight (session_at s.sessions session) (exiting_session s.device.wish) s.sessions in
        submits_none s (ask.RequestExitSession session) (unless_refused s (refusal e.short f) (told_on f.on f.effect)) refl
        (begun_kept s (refusal e.short f) (told_on f.on f.effect) (begun s + 0) (same s) (omega (arith, one)))
    by (ask.WaitFrame session) =
        let f = rule s reads (record e { call = ask.WaitFrame session }) in
        let one = sum_loop weight refl session (waited_loop (loop_of s session) (next_time s session)) s.sessions in
        submits_none s (ask.WaitFrame session) (unless_refused s (refusal e.short f) (told_on f.on f.effect)) refl
        (begun_kept s (refusal e.short f) (told_on f.on f.effect) (begun s + 0) (same s) (omega (arith, one)))
    by (ask.BeginFrame session) =
        let f = rule s reads (record e { call = ask.BeginFrame session }) in
        let one = sum_loop weight refl session (begun_loop (loop_of s session)) s.sessions in
        submits_none s (ask.BeginFrame session) (unless_refused s (refusal e.short f) (told_on f.on f.effect)) refl
        (begun_kept s (refusal e.short f) (told_on f.on f.effect) (begun s + 1) (omega arith) (omega (arith, one)))
    by (ask.EndFrame session time blend layers) =
        by_rule (Weighs s (ask.EndFrame session time blend layers)) s f e.short (layers_fail (look_of s session) layers) refused ended
      where
        f : Rule
        f = rule s reads (record e { call = ask.EndFrame session time blend layers })

        refused : (x : Refusal) → is_success x.code ≡ false → Weighs s (ask.EndFrame session time blend layers) (unless_refused s (Some x) (told_on f.on f.effect))
        refused x failed = rw failed (omega arith)

        few : (b h : Bool) (n : ℕ) → h ≡ true → n + one_if h ≤ begun s + 0 → 2 * length (frame_if b s (ask.EndFrame session time blend layers)) + n ≤ begun s + 1
        few b false n had less = absurd (true≢false (sym had))
        few true true n had less = omega (arith, less)
        few false true n had less = omega (arith, less)

        ended : refusal e.short f ≡ None → Weighs s (ask.EndFrame session time blend layers) (told_on f.on f.effect)
        ended none =
            let had = not_false (loop_of s session).has_begun (clear f e.short none).order in
            few (is_success (told_on f.on f.effect).code) (loop_of s session).has_begun _ had (period s session (synced_session wish.Ready) (ended_loop (loop_of s session)))
    by (ask.SyncActions session active) =
        let f = rule s reads (record e { call = ask.SyncActions session active }) in
        let one = sum_at weight (with_columns (columns_synced s (is_state (life_of s session).state Focused) active (columns_of s session))) (λ x. refl) session s.sessions in
        submits_none s (ask.SyncActions session active) (unless_refused s (refusal e.short f) (told_on f.on f.effect)) refl
        (begun_kept s (refusal e.short f) (told_on f.on f.effect) (begun s + 0) (same s) (omega (arith, one)))
    by (ask.AttachSets session handles) =
        let f = rule s reads (record e { call = ask.AttachSets session handles }) in
        let one = sum_at weight (with_attached (sets_named s.inputs handles)) (λ x. refl) session s.sessions in
        submits_none s (ask.AttachSets session handles) (unless_refused s (refusal e.short f) (told_on f.on f.effect)) refl
        (begun_kept s (refusal e.short f) (told_on f.on f.effect) (begun s + 0) (same s) (omega (arith, one)))
    by (ask.DestroyInstance top) =
        let f = rule s reads (record e { call = ask.DestroyInstance top }) in
        submits_none s (ask.DestroyInstance top) (unless_refused s (refusal e.short f) (told_on f.on f.effect)) refl (begun_kept s (refusal e.short f) (told_on f.on f.effect) (begun s + 0) (same s) (gone s top _ refl))
    by (ask.DestroySession top) =
        let f = rule s reads (record e { call = ask.DestroySession top }) in
        submits_none s (ask.DestroySession top) (unless_refused s (refusal e.short f) (told_on f.on f.effect)) refl (begun_kept s (refusal e.short f) (told_on f.on f.effect) (begun s + 0) (same s) (gone s top _ refl))
    by (ask.DestroyActionSet top) =
        let f = rule s reads (record e { call = ask.DestroyActionSet top }) in
        submits_none s (ask.DestroyActionSet top) (unless_refused s (refusal e.short f) (told_on f.on f.effect)) refl (begun_kept s (refusal e.short f) (told_on f.on f.effect) (begun s + 0) (same s) (gone s top _ refl))
    by (ask.DestroyAction top) =
        let f = rule s reads (record e { call = ask.DestroyAction top }) in
        submits_none s (ask.DestroyAction top) (unless_refused s (refusal e.short f) (told_on f.on f.effect)) refl (begun_kept s (refusal e.short f) (told_on f.on f.effect) (begun s + 0) (same s) (gone s top _ refl))
    by (ask.Device what) = submits_none s (ask.Device what) (effect s reads (record e { call = ask.Device what })) refl (events s what)
    by r =
        let f = rule s reads (record e { call = r }) in
        submits_none s r (unless_refused s (refusal e.short f) (told_on f.on f.effect)) refl (begun_kept s (refusal e.short f) (told_on f.on f.effect) (begun s + 0) (same s) (same s))

-- ---- over a history

length_both : {T : Type 0} (xs ys : List T) → length (xs ++ ys) ≡ length xs + length ys
length_both [] ys = omega arith
length_both (x ∷ xs) ys = let more = length_both xs ys in omega (arith, more)

-- a frame is shown where one is taken
taken_or_none : (s : CoreState) (x : Effect) (added : List PendingFrame) → Moves s x added → length s.frames.pending + length added ≡ length (taken_if x.shown s.frames.pending) + length x.state.frames.pending
taken_or_none s x added m =
    sym (length_both s.frames.pending added) ∙ ap (λ (l : List PendingFrame). length l) m.pending ∙ length_both (taken_if x.shown s.frames.pending) x.state.frames.pending

shown_is_taken : (s : CoreState) (reads : CellReads) (e : Entry) → length (shown_if (effect s reads e).shown) ≡ length (taken_if (effect s reads e).shown s.frames.pending)
shown_is_taken s reads e = by e.call
  where
    none : (x : Effect) → x.shown ≡ None → length (shown_if x.shown) ≡ length (taken_if x.shown s.frames.pending)
    none x is = rw is refl

    one : (fs : List PendingFrame) → length (shown_if (oldest_shown fs reads.stamps)) ≡ length (taken_if (oldest_shown fs reads.stamps) fs)
    one [] = refl
    one (f ∷ fs) = refl

    oldest : (o : Option Refusal) (x : Effect) → x.shown ≡ oldest_shown s.frames.pending reads.stamps → length (shown_if (unless_refused s o x).shown) ≡ length (taken_if (unless_refused s o x).shown s.frames.pending)
    oldest (Some r) x is = refl
    oldest None x is = rw is (one s.frames.pending)

    refused_shows : (o : Option Refusal) (x : Effect) → x.shown ≡ None → (unless_refused s o x).shown ≡ None
    refused_shows None x is = is
    refused_shows (Some r) x is = refl

    by : (r : Call) → length (shown_if (effect s reads (record e { call = r })).shown) ≡ length (taken_if (effect s reads (record e { call = r })).shown s.frames.pending)
    by ask.NextFrame = let f = rule s reads (record e { call = ask.NextFrame }) in oldest (refusal e.short f) f.effect refl
    by (ask.EndFrame session time blend layers) =
        let f = rule s reads (record e { call = ask.EndFrame session time blend layers }) in
        none (effect s reads (record e { call = ask.EndFrame session time blend layers })) (refused_shows (refusal e.short f) (told_on f.on f.effect) refl)
    by r = none (effect s reads (record e { call = r })) (frames_stay s reads (record e { call = r }) refl).shown

taken_from : (s : State) (es : List Entry)
    → 2 * length (shown_from s es) ≤ (2 * length s.core.frames.pending + begun s.core) + frame_calls es
taken_from s [] = omega arith
taken_from s (e ∷ es) =
    let t = (step s e).0 in
    let x = effect s.core (reads_of s e.call) e in
    let added = frame_if (is_success x.code) s.core e.call in
    let weight = weighs s.core (reads_of s e.call) e in
    let moved = taken_or_none s.core x added (moves s.core (reads_of s e.call) e) in
    let same = shown_is_taken s.core (reads_of s e.call) e in
    let here = length_both (shown_if (step s e).1.shown) (shown_from t es) in
    let rest = taken_from t es in
    omega (arith, weight, moved, same, here, rest)

pub taken_are_half : TakenAreHalf
taken_are_half settings es = let taken = taken_from (opening settings) es in omega (arith, taken)
