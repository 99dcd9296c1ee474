-- After every history the sessions are in the order of their ordinals, each has settled under its own wish, and one at most is focused.
use Rattle.std.proofs.Common.{◌≡◌, ◌≤◌, ◌+◌, ◌==◌, ℕ, Bool, true, false, List, [], ◌∷◌, ◌++◌, length, map, Option, Some, None, refl, sym, subst, ◌∙◌, true≢false, arith}
use Rattle.std.specs.Prelude.{max, if◌then◌else◌}
use Rattle.std.specs.List.{filter}
use Rattle.xr_types.specs.declared.device.DeviceEvent.{DeviceEvent}
use Rattle.xr_types.specs.declared.device.DeviceEvent.TheVariants as event
use Rattle.xr_types.specs.declared.device.Wish.{Wish}
use Rattle.xr_types.specs.declared.device.Wish.TheVariants as wish
use Rattle.xr_types.specs.declared.handles.Kind.TheVariants as kind
use Rattle.xr_types.specs.declared.session.SessionState.{SessionState}
use Rattle.xr_types.specs.declared.session.SessionState.TheVariants.{Idle, Ready, Synchronized, Visible, Focused, Stopping, LossPending, Exiting}
use Rattle.xr_types.specs.declared.calls.Call.{Call}
use Rattle.xr_types.specs.declared.calls.Call.TheVariants as ask
use Rattle.xr_model.specs.machine.Handles.{without, is_live, destroyed_by}
use Rattle.xr_model.specs.machine.Calls.{Entry}
use Rattle.xr_model.specs.machine.Refusals.{Refusal}
use Rattle.xr_model.specs.machine.SessionLife.{Life, Changed, unchanged, is_state, next_state, started_session, lost_session, losing_session, begun_session, ended_session, exiting_session, synced_session}
use Rattle.xr_model.specs.machine.LiveSessions.{Session, session_at, with_session_at, with_life, with_attached, still_live, each_changed, with_frame_loop, with_columns}
use Rattle.xr_model.specs.machine.Sets.{sets_named}
use Rattle.xr_model.specs.machine.State.{CoreState, State, opening}
use Rattle.xr_model.specs.machine.Target.{is_candidate, target_of, is_target, without_focus, Standing, rounds, most_rounds}
use Rattle.xr_model.specs.machine.Rule.{Effect, refusal, told_on, unless_refused}
use Rattle.xr_model.specs.machine.Rules.Device.{behind_event}
use Rattle.xr_model.specs.machine.Rules.Session.{new_session, changed_in, loop_of}
use Rattle.xr_model.specs.machine.Machine.{rule, step, reads_of}
use Rattle.xr_model.specs.machine.History.{after}
use Rattle.xr_model.specs.machine.Rules.Frames.{next_time}
use Rattle.xr_model.specs.machine.Frames.{FrameLoop, reset_loop, waited_loop, begun_loop, ended_loop}
use Rattle.xr_model.specs.laws.SessionLifeLaws.{SessionsHaveSettled, AreRising, SessionsAreInOrder, is_focused, AtMostOneIsFocused, FocusedIsTheTarget}
use Rattle.xr_model.proofs.Rows.{same_key}
use Rattle.xr_model.proofs.Targets.{Each, Settles, AreSettled, are_settled, rounds_keep}
use Rattle.xr_model.specs.machine.Destroyed.{left_session, sessions_left}
use Rattle.xr_types.specs.declared.input.Column.{Column}

-- ---- ordinals

-- in order, and none above the count of sessions that were created
abbrev pub InOrder : ℕ → List Session → Type 0
InOrder created xs = AreRising 0 xs × Each (λ x. x.ordinal ≤ created) xs

rising_from : (m n : ℕ) → n ≤ m → (xs : List Session) → AreRising m xs → AreRising n xs
rising_from m n less [] rising = tt
rising_from m n less (x ∷ xs) rising = let above = rising.0 in (omega (arith, less, above), rising.1)

-- the sessions change, and keep their ordinals
module _ (g : Session → Session) (ordinals : (x : Session) → (g x).ordinal ≡ x.ordinal) where
  rising_map : (n : ℕ) (xs : List Session) → AreRising n xs → AreRising n (map g xs)
  rising_map n [] rising = tt
  rising_map n (x ∷ xs) rising = rw (ordinals x) (rising.0, rising_map x.ordinal xs rising.1)

  few_map : (created : ℕ) (xs : List Session) → Each (λ x. x.ordinal ≤ created) xs → Each (λ x. x.ordinal ≤ created) (map g xs)
  few_map created [] few = tt
  few_map created (x ∷ xs) few = (rw (ordinals x) few.0, few_map created xs few.1)

  order_map : (created : ℕ) (xs : List Session) → InOrder created xs → InOrder created (map g xs)
  order_map created xs order = (rising_map 0 xs order.0, few_map created xs order.1)

  rising_at : (handle n : ℕ) (xs : List Session) → AreRising n xs → AreRising n (with_session_at handle g xs)
  rising_at handle n [] rising = tt
  rising_at handle n (x ∷ xs) rising = by (x.handle == handle) (rising_at handle x.ordinal xs rising.1)
    where
      by : (b : Bool) → AreRising x.ordinal (with_session_at handle g xs) → AreRising n (if b then g x ∷ xs else x ∷ with_session_at handle g xs)
      by true more = rw (ordinals x) rising
      by false more = (rising.0, more)

  few_at : (handle created : ℕ) (xs : List Session) → Each (λ x. x.ordinal ≤ created) xs → Each (λ x. x.ordinal ≤ created) (with_session_at handle g xs)
  few_at handle created [] few = tt
  few_at handle created (x ∷ xs) few = by (x.handle == handle) (few_at handle created xs few.1)
    where
      by : (b : Bool) → Each (λ x. x.ordinal ≤ created) (with_session_at handle g xs) → Each (λ x. x.ordinal ≤ created) (if b then g x ∷ xs else x ∷ with_session_at handle g xs)
      by true more = (rw (ordinals x) few.0, few.1)
      by false more = (few.0, more)

  order_at : (handle created : ℕ) (xs : List Session) → InOrder created xs → InOrder created (with_session_at handle g xs)
  order_at handle created xs order = (rising_at handle 0 xs order.0, few_at handle created xs order.1)

-- some go
module _ (p : Session → Bool) where
  rising_left : (n : ℕ) (xs : List Session) → AreRising n xs → AreRising n (filter p xs)
  rising_left n [] rising = tt
  rising_left n (x ∷ xs) rising = by (p x) (rising_left x.ordinal xs rising.1)
    where
      by : (b : Bool) → AreRising x.ordinal (filter p xs) → AreRising n (if b then x ∷ filter p xs else filter p xs)
      by true more = (rising.0, more)
      by false more = let above = rising.0 in rising_from x.ordinal n (omega (arith, above)) (filter p xs) more

  few_left : (created : ℕ) (xs : List Session) → Each (λ x. x.ordinal ≤ created) xs → Each (λ x. x.ordinal ≤ created) (filter p xs)
  few_left created [] few = tt
  few_left created (x ∷ xs) few = by (p x) (few_left created xs few.1)
    where
      by : (b : Bool) → Each (λ x. x.ordinal ≤ created) (filter p xs) → Each (λ x. x.ordinal ≤ created) (if b then x ∷ filter p xs else filter p xs)
      by true more = (few.0, more)
      by false more = more

-- one comes
rising_more : (n created : ℕ) → n ≤ created → (new : Session) → new.ordinal ≡ created + 1 → (xs : List Session) → AreRising n xs → Each (λ x. x.ordinal ≤ created) xs → AreRising n (xs ++ new ∷ [])
rising_more n created less new is [] rising few = (rw is (omega (arith, less)), tt)
rising_more n created less new is (x ∷ xs) rising few = (rising.0, rising_more x.ordinal created few.0 new is xs rising.1 few.1)

few_more : (created : ℕ) (new : Session) → new.ordinal ≡ created + 1 → (xs : List Session) → Each (λ x. x.ordinal ≤ created) xs → Each (λ x. x.ordinal ≤ created + 1) (xs ++ new ∷ [])
few_more created new is [] few = (rw is (omega arith), tt)
few_more created new is (x ∷ xs) few = let one = few.0 in (omega (arith, one), few_more created new is xs few.1)

order_more : (created : ℕ) (new : Session) → new.ordinal ≡ created + 1 → (xs : List Session) → InOrder created xs → InOrder (created + 1) (xs ++ new ∷ [])
order_more created new is xs order = (rising_more 0 created (omega arith) new is xs order.0 order.1, few_more created new is xs order.1)

-- ---- what stands where neither states nor what was asked change

-- a session has the ordinal, the state and the asking of another
abbrev IsAlike : Session → Session → Type 0
IsAlike x y = (y.ordinal ≡ x.ordinal) × (y.life.state ≡ x.life.state) × (y.life.exit ≡ x.life.exit)

module _ (w : Wish) (g : Session → Session) (alike : (x : Session) → IsAlike x (g x)) where
  one_stays : (target : ℕ) (x : Session) → Settles w target x → Settles w target (g x)
  one_stays target x settles = rw ((alike x).0, (alike x).1, (alike x).2) settles

  same_candidate : (x : Session) (rest : ℕ) → (if is_candidate (g x).life then max (g x).ordinal rest else rest) ≡ (if is_candidate x.life then max x.ordinal rest else rest)
  same_candidate x rest = rw ((alike x).0, (alike x).1, (alike x).2) refl

  target_map : (xs : List Session) → target_of (map g xs) ≡ target_of xs
  target_map [] = refl
  target_map (x ∷ xs) = rw (target_map xs) (same_candidate x (target_of xs))

  all_stay : (target : ℕ) (xs : List Session) → AreSettled w target xs → AreSettled w target (map g xs)
  all_stay target [] each = tt
  all_stay target (x ∷ xs) each = (one_stays target x each.0, all_stay target xs each.1)

  target_at : (handle : ℕ) (xs : List Session) → target_of (with_session_at handle g xs) ≡ target_of xs
  target_at handle [] = refl
  target_at handle (x ∷ xs) = by (x.handle == handle) (target_at handle xs)
    where
      by : (b : Bool) → target_of (with_session_at handle g xs) ≡ target_of xs → target_of (if b then g x ∷ xs else x ∷ with_session_at handle g xs) ≡ target_of (x ∷ xs)
      by true more = same_candidate x (target_of xs)
      by false more = rw more refl

  at_stays : (target handle : ℕ) (xs : List Session) → AreSettled w target xs → AreSettled w target (with_session_at handle g xs)
  at_stays target handle [] each = tt
  at_stays target handle (x ∷ xs) each = by (x.handle == handle) (at_stays target handle xs each.1)
    where
      by : (b : Bool) → AreSettled w target (with_session_at handle g xs) → AreSettled w target (if b then g x ∷ xs else x ∷ with_session_at handle g xs)
      by true more = (one_stays target x each.0, each.1)
      by false more = (each.0, more)

-- ---- an entry

-- in order, and settled
abbrev pub AreSound : ℕ → Wish → List Session → Type 0
AreSound created w xs = InOrder created xs × AreSettled w (target_of xs) xs

sound_rounds : (created : ℕ) (w : Wish) (t : Standing) → InOrder created t.sessions → AreSound created w (rounds most_rounds w t).sessions
sound_rounds created w t order = (rounds_keep (InOrder created) (λ f steady xs there. order_map (λ x. with_life (f x).life x) (λ x. refl) created xs there) w t order, are_settled w t)

kept : (s : CoreState) (o : Option Refusal) (x : Effect) → AreSound s.created s.device.wish s.sessions → AreSound x.state.created x.state.device.wish x.state.sessions
    → AreSound (unless_refused s o x).state.created (unless_refused s o x).state.device.wish (unless_refused s o x).state.sessions
kept s None x same done = done
kept s (Some r) x same done = same

module _ (s : CoreState) (sound : AreSound s.created s.device.wish s.sessions) where
  pub lost_sound : AreSound s.created s.device.wish (each_changed (λ x. unchanged (lost_session x.life)) s.sessions)
  lost_sound =
      let g = λ (x : Session). with_life (lost_session x.life) x in
      let there = all_stay s.device.wish g (λ x. (refl, refl, refl)) (target_of s.sessions) s.sessions sound.1 in
      (order_map g (λ x. refl) s.created s.sessions sound.0, rw (target_map s.device.wish g (λ x. (refl, refl, refl)) s.sessions) there)

  pub synced_sound : (session : ℕ) (columns : List (List Column)) → AreSound s.created s.device.wish (with_session_at session (with_columns columns) s.sessions)
  synced_sound session columns =
      let g = with_columns columns in
      let there = at_stays s.device.wish g (λ x. (refl, refl, refl)) (target_of s.sessions) session s.sessions sound.1 in
      (order_at g (λ x. refl) session s.created s.sessions sound.0, rw (target_at s.device.wish g (λ x. (refl, refl, refl)) session s.sessions) there)

  pub attached_sound : (session : ℕ) (sets : List ℕ) → AreSound s.created s.device.wish (with_session_at session (with_attached sets) s.sessions)
  attached_sound session sets =
      let g = with_attached sets in
      let there = at_stays s.device.wish g (λ x. (refl, refl, refl)) (target_of s.sessions) session s.sessions sound.1 in
      (order_at g (λ x. refl) session s.created s.sessions sound.0, rw (target_at s.device.wish g (λ x. (refl, refl, refl)) session s.sessions) there)

  changed_sound : (session : ℕ) (f : Life → Changed) (xs : List Session) → InOrder s.created xs → (t : Standing) → t.sessions ≡ changed_in (session_at s.sessions session) f xs → AreSound s.created s.device.wish (rounds most_rounds s.device.wish t).sessions
  changed_sound session f xs order t is = sound_rounds s.created s.device.wish t (subst (λ ys. InOrder s.created ys) (sym is) (by (session_at s.sessions session)))
    where
      by : (o : Option Session) → InOrder s.created (changed_in o f xs)
      by None = order
      by (Some x) = order_at (with_life (f x.life).life) (λ y. refl) x.handle s.created xs order

  -- its loop of frames changes
  loop_order : (session : ℕ) (l : FrameLoop) → InOrder s.created (with_session_at session (with_frame_loop l) s.sessions)
  loop_order session l = order_at (with_frame_loop l) (λ y. refl) session s.created s.sessions sound.0

  pub loop_sound : (session : ℕ) (l : FrameLoop) → AreSound s.created s.device.wish (with_session_at session (with_frame_loop l) s.sessions)
  loop_sound session l =
      let g = with_frame_loop l in
      let there = at_stays s.device.wish g (λ x. (refl, refl, refl)) (target_of s.sessions) session s.sessions sound.1 in
      (loop_order session l, rw (target_at s.device.wish g (λ x. (refl, refl, refl)) session s.sessions) there)

  gone_sound : (handle : ℕ) (t : Standing) → t.sessions ≡ sessions_left (without s.handles handle) (destroyed_by s.handles handle) s.sessions → AreSound s.created s.device.wish (rounds most_rounds s.device.wish t).sessions
  gone_sound handle t is =
      let p = λ (x : Session). is_live (without s.handles handle) kind.Session x.handle in
      let left : InOrder s.created (still_live (without s.handles handle) s.sessions) = (rising_left p 0 s.sessions sound.0.0, few_left p s.created s.sessions sound.0.1) in
      sound_rounds s.created s.device.wish t (subst (λ xs. InOrder s.created xs) (sym is) (order_map (left_session (without s.handles handle) (destroyed_by s.handles handle)) (λ x. refl) s.created (still_live (without s.handles handle) s.sessions) left))

  events : (what : DeviceEvent) → AreSound (behind_event s what).created (behind_event s what).device.wish (behind_event s what).sessions
  events (event.Wish wish) = sound_rounds s.created wish (record { sessions = s.sessions; events = s.events }) sound.0
  events event.Loss = sound_rounds s.created s.device.wish _ (order_map (λ x. with_life (losing_session x.life).life x) (λ x. refl) s.created s.sessions sound.0)
  events event.Lost = lost_sound
  events event.Fault = lost_sound
  events (event.Garbled line) = lost_sound
  events _ = sound

abbrev pub IsSound : State → Type 0
IsSound s = AreSound s.core.created s.core.device.wish s.core.sessions

sound_step : (s : State) (e : Entry) → IsSound s → IsSound (step s e).0
sound_step s e sound = by e.call
  where
    by : (r : Call) → IsSound (step s (record e { call = r })).0
    by (ask.CreateSession instance system) =
        let f = rule s.core (reads_of s (ask.CreateSession instance system)) (record e { call = ask.CreateSession instance system }) in
        kept s.core (refusal e.short f) (told_on f.on f.effect) sound
        (sound_rounds (s.core.created + 1) s.core.device.wish _ (order_more s.core.created (new_session s.core e.given (started_session s.core.device.wish).life) refl s.core.sessions sound.0))
    by (ask.BeginSession session view) =
        let f = rule s.core (reads_of s (ask.BeginSession session view)) (record e { call = ask.BeginSession session view }) in
        kept s.core (refusal e.short f) (told_on f.on f.effect) sound (changed_sound s.core sound session (λ life. unchanged (begun_session life)) _ (loop_order s.core sound session (reset_loop (loop_of s.core session))) _ refl)
    by (ask.EndSession session) =
        let f = rule s.core (reads_of s (ask.EndSession session)) (record e { call = ask.EndSession session }) in
        kept s.core (refusal e.short f) (told_on f.on f.effect) sound (changed_sound s.core sound session (ended_session s.core.device.wish) _ (loop_order s.core sound session (reset_loop (loop_of s.core session))) _ refl)
    by (ask.RequestExitSession session) =
        let f = rule s.core (reads_of s (ask.RequestExitSession session)) (record e { call = ask.RequestExitSession session }) in
        kept s.core (refusal e.short f) (told_on f.on f.effect) sound (changed_sound s.core sound session (exiting_session s.core.device.wish) s.core.sessions sound.0 _ refl)
    by (ask.EndFrame session time blend layers) =
        let f = rule s.core (reads_of s (ask.EndFrame session time blend layers)) (record e { call = ask.EndFrame session time blend layers }) in
        kept s.core (refusal e.short f) (told_on f.on f.effect) sound (changed_sound s.core sound session (synced_session wish.Ready) _ (loop_order s.core sound session (ended_loop (loop_of s.core session))) _ refl)
    by (ask.WaitFrame session) =
        let f = rule s.core (reads_of s (ask.WaitFrame session)) (record e { call = ask.WaitFrame session }) in
        kept s.core (refusal e.short f) (told_on f.on f.effect) sound (loop_sound s.core sound session (waited_loop (loop_of s.core session) (next_time s.core session)))
    by (ask.BeginFrame session) =
        let f = rule s.core (reads_of s (ask.BeginFrame session)) (record e { call = ask.BeginFrame session }) in
        kept s.core (refusal e.short f) (told_on f.on f.effect) sound (loop_sound s.core sound session (begun_loop (loop_of s.core session)))
    by (ask.SyncActions session active) =
        let f = rule s.core (reads_of s (ask.SyncActions session active)) (record e { call = ask.SyncActions session active }) in
        kept s.core (refusal e.short f) (told_on f.on f.effect) sound (synced_sound s.core sound session _)
    by (ask.AttachSets session handles) =
        let f = rule s.core (reads_of s (ask.AttachSets session handles)) (record e { call = ask.AttachSets session handles }) in
        kept s.core (refusal e.short f) (told_on f.on f.effect) sound (attached_sound s.core sound session (sets_named s.core.inputs handles))
    by (ask.DestroyInstance handle) =
        let f = rule s.core (reads_of s (ask.DestroyInstance handle)) (record e { call = ask.DestroyInstance handle }) in
        kept s.core (refusal e.short f) (told_on f.on f.effect) sound (gone_sound s.core sound handle _ refl)
    by (ask.DestroySession handle) =
        let f = rule s.core (reads_of s (ask.DestroySession handle)) (record e { call = ask.DestroySession handle }) in
        kept s.core (refusal e.short f) (told_on f.on f.effect) sound (gone_sound s.core sound handle _ refl)
    by (ask.DestroyActionSet handle) =
        let f = rule s.core (reads_of s (ask.DestroyActionSet handle)) (record e { call = ask.DestroyActionSet handle }) in
        kept s.core (refusal e.short f) (told_on f.on f.effect) sound (gone_sound s.core sound handle _ refl)
    by (ask.DestroyAction handle) =
        let f = rule s.core (reads_of s (ask.DestroyAction handle)) (record e { call = ask.DestroyAction handle }) in
        kept s.core (refusal e.short f) (told_on f.on f.effect) sound (gone_sound s.core sound handle _ refl)
    by (ask.Device what) = events s.core sound what
    by r =
        let f = rule s.core (reads_of s r) (record e { call = r }) in
        kept s.core (refusal e.short f) (told_on f.on f.effect) sound sound

pub sound_after : (s : State) (es : List Entry) → IsSound s → IsSound (after s es)
sound_after s [] sound = sound
sound_after s (e ∷ es) sound = sound_after (step s e).0 es (sound_step s e sound)

-- ---- the laws

pub each_found : (P : Session → Type 0) (xs : List Session) → Each P xs → (session : ℕ) (x : Session) → session_at xs session ≡ Some x → P x
each_found P [] each session x found = cc
each_found P (y ∷ ys) each session x found = by (y.handle == session) found (λ there. each_found P ys each.1 session x there)
  where
    some_is : (a b : Session) → Some a ≡ Some b → a ≡ b
    some_is a b same = cc

    by : (b : Bool) → (if b then Some y else session_at ys session) ≡ Some x → (session_at ys session ≡ Some x → P x) → P x
    by true found more = subst P (some_is y x found) each.0
    by false found more = more found

pub sessions_have_settled : SessionsHaveSettled
sessions_have_settled settings es session x found =
    let sound = sound_after (opening settings) es ((tt, tt), tt) in
    each_found (Settles (after (opening settings) es).core.device.wish (target_of (after (opening settings) es).core.sessions)) (after (opening settings) es).core.sessions sound.1 session x found

pub sessions_are_in_order : SessionsAreInOrder
sessions_are_in_order settings es = let sound = sound_after (opening settings) es ((tt, tt), tt) in sound.0.0

-- a session that is focused has the wish for it
focused_wish : (w : Wish) (exit : Bool) (state : SessionState) → next_state (without_focus w) exit state ≡ None → is_state state Focused ≡ false
focused_wish w exit Idle none = refl
focused_wish w exit Ready none = refl
focused_wish w exit Synchronized none = refl
focused_wish w exit Visible none = refl
focused_wish w exit Stopping none = refl
focused_wish w exit LossPending none = refl
focused_wish w exit Exiting none = refl
focused_wish wish.Rest true Focused none = cc
focused_wish wish.Rest false Focused none = cc
focused_wish wish.Ready true Focused none = cc
focused_wish wish.Ready false Focused none = cc
focused_wish wish.Visible true Focused none = cc
focused_wish wish.Visible false Focused none = cc
focused_wish wish.Focused true Focused none = cc
focused_wish wish.Focused false Focused none = cc

focused_is_target : (w : Wish) (target : ℕ) (x : Session) → Settles w target x → is_focused x ≡ true → is_target target x ≡ true
focused_is_target w target x settles focused = by (is_target target x) refl settles
  where
    by : (b : Bool) → is_target target x ≡ b → next_state (if b then w else without_focus w) x.life.exit x.life.state ≡ None → is_target target x ≡ true
    by true eb none = eb
    by false eb none = absurd (true≢false (sym focused ∙ focused_wish w x.life.exit x.life.state none))

pub focused_is_the_target : FocusedIsTheTarget
focused_is_the_target settings es session x found focused =
    let target = target_of (after (opening settings) es).core.sessions in
    focused_is_target (after (opening settings) es).core.device.wish target x (sessions_have_settled settings es session x found) focused

-- ordinals that rise are one at most where all are the same
one_at_most : (w : Wish) (target n : ℕ) (xs : List Session) → AreRising n xs → AreSettled w target xs
    → (length (filter is_focused xs) ≤ 1) × (target ≤ n → length (filter is_focused xs) ≡ 0)
one_at_most w target n [] rising each = (omega arith, λ less. refl)
one_at_most w target n (x ∷ xs) rising each = by (is_focused x) refl (one_at_most w target x.ordinal xs rising.1 each.1)
  where
    by : (b : Bool) → is_focused x ≡ b → (length (filter is_focused xs) ≤ 1) × (target ≤ x.ordinal → length (filter is_focused xs) ≡ 0)
        → (length (if b then x ∷ filter is_focused xs else filter is_focused xs) ≤ 1) × (target ≤ n → length (if b then x ∷ filter is_focused xs else filter is_focused xs) ≡ 0)
    by true eb more =
        let here : x.ordinal ≡ target = same_key x.ordinal target (focused_is_target w target x each.0 eb) in
        let above = rising.0 in
        let none = more.1 (omega (arith, here)) in
        (omega (arith, none), λ less. absurd (omega (arith, here, above, less)))
    by false eb more = let above = rising.0 in (more.0, λ less. more.1 (omega (arith, above, less)))

pub at_most_one_is_focused : AtMostOneIsFocused
at_most_one_is_focused settings es =
    let sound = sound_after (opening settings) es ((tt, tt), tt) in
    (one_at_most (after (opening settings) es).core.device.wish (target_of (after (opening settings) es).core.sessions) 0 (after (opening settings) es).core.sessions sound.0.0 sound.1).0
