-- What the calls on frames come to: when a wait is held back, what is rendered, when a frame is discarded, and when the end is told.
use Rattle.std.proofs.Common.{◌≡◌, ◌&&◌, ◌||◌, ◌+◌, ◌-◌, ◌<◌, ℕ, zero, suc, Bool, true, false, not, List, [], ◌∷◌, length, Option, Some, None, refl, sym, ap, subst, ◌∙◌, arith, true≢false}
use Rattle.std.specs.Prelude.{◌↔◌, nat_le, nat_lt, slice_get, slice_set, unwrap_or, if◌then◌else◌}
use Rattle.std.specs.List.{list_all}
use Rattle.std.proofs.lemmas.Bool.Decides.{nat_tests}
use Rattle.xr_types.specs.Code.{is_success}
use Rattle.xr_types.specs.Frames.{PendingFrame}
use Rattle.xr_types.specs.declared.code.Code.TheVariants.{Success, SessionLossPending, FrameDiscarded}
use Rattle.xr_types.specs.declared.calls.Actor.{Actor}
use Rattle.xr_types.specs.declared.calls.Actor.TheVariants.{App, Compositor, Device}
use Rattle.xr_types.specs.declared.calls.Call.{Call}
use Rattle.xr_types.specs.declared.calls.Call.TheVariants as ask
use Rattle.xr_types.specs.declared.calls.Gives.TheVariants as gives
use Rattle.xr_types.specs.declared.device.DeviceEvent.{DeviceEvent}
use Rattle.xr_types.specs.declared.device.DeviceEvent.TheVariants as event
use Rattle.xr_types.specs.declared.handles.Kind.TheVariants as kind
use Rattle.xr_types.specs.declared.session.FrameState.{FrameState}
use Rattle.xr_types.specs.declared.session.SessionState.{SessionState}
use Rattle.xr_types.specs.declared.session.SessionState.TheVariants.{Idle, Ready, Synchronized, Visible, Focused, Stopping, LossPending, Exiting}
use Rattle.xr_model.specs.machine.Calls.{Entry}
use Rattle.xr_model.specs.machine.Frames.{FrameLoop, begun_code, one_if, is_empty}
use Rattle.xr_model.specs.machine.Handles.{is_live}
use Rattle.xr_model.specs.machine.Refusals.{Refusal, first_of}
use Rattle.xr_model.specs.machine.Rule.{Rule, Effect, refusal, refusals, told_on, unless_refused, carried_out}
use Rattle.xr_model.specs.machine.Rules.Device.{behind_event}
use Rattle.xr_model.specs.machine.Rules.Frames.{frame_state, told_frame}
use Rattle.xr_model.specs.machine.Rules.Own.{left_with}
use Rattle.xr_model.specs.machine.Rules.Session.{life_of, loop_of}
use Rattle.xr_model.specs.machine.SessionLife.{is_state}
use Rattle.xr_model.specs.machine.SessionRule.{Loss, loss_of, code_on}
use Rattle.xr_model.specs.machine.State.{CoreState, State, opening}
use Rattle.xr_model.specs.machine.Machine.{reads_of, ready, rule, step}
use Rattle.xr_model.specs.machine.History.{after}
use Rattle.xr_model.specs.laws.DecidedEntries.{past_of, waits, begins, is_begun, period}
use Rattle.xr_model.specs.laws.FrameCallLaws.{is_shown, IsUnrefused, RendersWhereShown, most_at_once, WaitsAreHeldBack, DiscardsAreTold, AllHaveLeft, EndsWhereAllLeft, EndsAreTold}
use Rattle.xr_model.proofs.FittingColumns.{got}
use Rattle.xr_model.proofs.FrameOrder.{LoopFits, all_fail, by_rule, clear, fits_history, live_fits, is_live_by}

-- ---- what succeeds

-- a call that succeeds comes to what it comes to where nothing refuses it
pub where_done : (P : Effect → Type 0) (s : CoreState) (f : Rule) (short : Bool) → all_fail (refusals f) ≡ true → (refusal short f ≡ None → P (told_on f.on f.effect))
    → is_success (carried_out s short f).code ≡ true → P (carried_out s short f)
where_done P s f short fails go =
    by_rule (λ x. is_success x.code ≡ true → P x) s f short fails (λ r failed good. absurd (true≢false (sym good ∙ failed))) (λ none good. go none)

pub same_frame : (a b : FrameState) → gives.Frame a ≡ gives.Frame b → a ≡ b
same_frame a b same = cc

-- ---- rendering

renders : (state : SessionState) → is_state state Visible || is_state state Focused ≡ is_shown state
renders Idle = refl
renders Ready = refl
renders Synchronized = refl
renders Visible = refl
renders Focused = refl
renders Stopping = refl
renders LossPending = refl
renders Exiting = refl

pub renders_where_shown : RendersWhereShown
renders_where_shown s e session f is = subst Renders (sym is) waits
  where
    Renders : Call → Type 0
    Renders r = is_success (step s (record e { call = r })).1.reply.code ≡ true → (step s (record e { call = r })).1.reply.gives ≡ gives.Frame f → f.render ≡ is_shown (life_of s.core session).state

    waits : Renders (ask.WaitFrame session)
    waits = where_done (λ x. x.gives ≡ gives.Frame f → f.render ≡ is_shown (life_of s.core session).state) s.core (rule s.core (reads_of s (ask.WaitFrame session)) (record e { call = ask.WaitFrame session })) e.short refl
        (λ none same. ap (λ (x : FrameState). x.render) (sym (same_frame (frame_state s.core session) f same)) ∙ renders (life_of s.core session).state)

-- ---- when a wait is held back

-- a frame is waited for where more were waited for than begun
pub more_waits : (waits begins : ℕ) (b : Bool) → waits ≡ begins + one_if b → nat_lt begins waits ≡ b
more_waits waits begins true e = grind (arith, nat_tests, e)
more_waits waits begins false e = grind (arith, nat_tests, e)

held_by : (waits begins n : ℕ) (w : Bool) → waits ≡ begins + one_if w → (not (if w then true else nat_lt 2 n) || false) ≡ not (nat_lt begins waits || nat_le most_at_once n)
held_by waits begins n true e = rw (more_waits waits begins true e) refl
held_by waits begins n false e = rw (more_waits waits begins false e) (by (nat_lt 2 n) (nat_le 3 n) (grind (arith, nat_tests)))
  where
    by : (a b : Bool) → a ≡ b → not a || false ≡ not b
    by true b same = ap not same
    by false b same = ap not same

pub waits_are_held_back : WaitsAreHeldBack
waits_are_held_back settings es e session legal is = subst Held (sym is) waits_for
  where
    s : State
    s = after (opening settings) es

    Held : Call → Type 0
    Held r = IsUnrefused s (record e { call = r }) → ready s (record e { call = r })
        ≡ not (nat_lt (begins session (past_of settings es)) (waits session (past_of settings es)) || nat_le most_at_once (length s.core.frames.pending + one_if (is_begun session (period session (past_of settings es)))))

    waits_for : Held (ask.WaitFrame session)
    waits_for none =
        let f = rule s.core (reads_of s (ask.WaitFrame session)) (record e { call = ask.WaitFrame session }) in
        let fits = live_fits s.core.handles s.core.sessions (past_of settings es) (fits_history settings es legal) session (is_live_by (is_live s.core.handles kind.Session session) (clear f false none).handles) in
        rw (none, fits.begun) (held_by (waits session (past_of settings es)) (begins session (past_of settings es)) (length s.core.frames.pending + one_if (loop_of s.core session).has_begun) (loop_of s.core session).has_waited fits.frames)

-- ---- discarded frames

some_refuses : (r : Refusal) → Some r ≡ None → ⊥
some_refuses r e = cc

discarded : (loss : Loss) (l : FrameLoop) → code_on loss (begun_code l) ≡ FrameDiscarded → l.has_begun ≡ true
discarded loss l told = by l.has_begun told
  where
    plain : (b : Bool) → (if b then SessionLossPending else Success) ≡ FrameDiscarded → false ≡ true
    plain true told = cc
    plain false told = cc

    by : (b : Bool) → code_on loss (begun_code (record l { has_begun = b })) ≡ FrameDiscarded → b ≡ true
    by true told = refl
    by false told = plain loss.pending told

pub discards_are_told : DiscardsAreTold
discards_are_told settings es e session legal is = subst Tells (sym is) begins_frame
  where
    s : State
    s = after (opening settings) es

    Tells : Call → Type 0
    Tells r = ((step s (record e { call = r })).1.reply.code ≡ FrameDiscarded) ↔ (IsUnrefused s (record e { call = r }) × (is_begun session (period session (past_of settings es)) ≡ true))

    f : Rule
    f = rule s.core (reads_of s (ask.BeginFrame session)) (record e { call = ask.BeginFrame session })

    loss : Loss
    loss = loss_of (life_of s.core session)

    fits : first_of (refusals f) ≡ None → LoopFits session (loop_of s.core session) (past_of settings es)
    fits none = live_fits s.core.handles s.core.sessions (past_of settings es) (fits_history settings es legal) session (is_live_by (is_live s.core.handles kind.Session session) (clear f false none).handles)

    told : (carried_out s.core e.short f).code ≡ FrameDiscarded → (first_of (refusals f) ≡ None) × (is_begun session (period session (past_of settings es)) ≡ true)
    told code =
        by_rule (λ x. x.code ≡ FrameDiscarded → (first_of (refusals f) ≡ None) × (is_begun session (period session (past_of settings es)) ≡ true)) s.core f e.short refl
        (λ r failed same. absurd (true≢false (sym (ap is_success same) ∙ failed)))
        (λ none same. ((clear f e.short none).whole, (fits (clear f e.short none).whole).begun ∙ discarded loss (loop_of s.core session) same)) code

    begins_frame : Tells (ask.BeginFrame session)
    begins_frame = (told, (λ two. rw (two.0, sym (fits two.0).begun ∙ two.1) refl))

-- ---- the end

-- there is a place for each application
module _ (s : State) (e : Entry) where
  set_long : (xs : List Bool) (k : ℕ) (v : Bool) → length (slice_set xs k v) ≡ length xs
  set_long [] k v = refl
  set_long (x ∷ xs) zero v = refl
  set_long (x ∷ xs) (suc k) v = ap (λ (n : ℕ). suc n) (set_long xs k v)

  left_long : (who : Actor) → length (left_with s.core.left who) ≡ length s.core.left
  left_long (App k) = set_long s.core.left (k - 1) true
  left_long Compositor = refl
  left_long Device = refl

  long_kept : (o : Option Refusal) (x : Effect) → length x.state.left ≡ length s.core.left → length (unless_refused s.core o x).state.left ≡ length s.core.left
  long_kept None x same = same
  long_kept (Some r) x same = refl

  events_long : (what : DeviceEvent) → length (behind_event s.core what).left ≡ length s.core.left
  events_long (event.Clock time) = refl
  events_long _ = refl

  left_stays_long : length (step s e).0.core.left ≡ length s.core.left
  left_stays_long = by e.call
    where
      by : (r : Call) → length (step s (record e { call = r })).0.core.left ≡ length s.core.left
      by ask.Leave = left_long e.actor
      by (ask.Device what) = events_long what
      by r = let f = rule s.core (reads_of s r) (record e { call = r }) in long_kept (refusal e.short f) (told_on f.on f.effect) refl

all_counted : (s : State) (es : List Entry) → length s.core.left ≡ s.core.apps → length (after s es).core.left ≡ (after s es).core.apps
all_counted s [] all = all
all_counted s (e ∷ es) all = all_counted (step s e).0 es (left_stays_long s e ∙ all)

pub none_is_there : (left : List Bool) (i : ℕ) → list_all (λ has_left. has_left) left ≡ true → slice_get left i ≡ Some false → ⊥
none_is_there left i all found = true≢false (sym (got (λ has_left. has_left) left i true all refl) ∙ ap (λ (o : Option Bool). unwrap_or o true) found)

found_below : (xs : List Bool) (i : ℕ) (b : Bool) → slice_get xs i ≡ Some b → i < length xs
found_below [] i b found = cc
found_below (x ∷ xs) zero b found = omega arith
found_below (x ∷ xs) (suc i) b found = let more = found_below xs i b found in omega (arith, more)

all_left : (left : List Bool) → ((i : ℕ) → slice_get left i ≡ Some false → ⊥) → list_all (λ has_left. has_left) left ≡ true
all_left [] none = refl
all_left (true ∷ left) none = all_left left (λ i there. none (suc i) there)
all_left (false ∷ left) none = absurd (none 0 refl)

module _ (s : State) (e : Entry) (all : length s.core.left ≡ s.core.apps) where
  abbrev x : Entry
  x = record e { call = ask.NextFrame }

  told_end : (fs : List PendingFrame) → (told_frame fs ≡ gives.Ended) ↔ (fs ≡ [])
  told_end [] = ((λ told. refl), (λ none. refl))
  told_end (f ∷ fs) = ((λ told. cc), (λ none. cc))

  gives_by : first_of (refusals (rule s.core (reads_of s ask.NextFrame) x)) ≡ None → (step s x).1.reply.gives ≡ told_frame s.core.frames.pending
  gives_by none = rw none refl

  waits_by : first_of (refusals (rule s.core (reads_of s ask.NextFrame) x)) ≡ None
      → ready s x ≡ not (is_empty s.core.frames.pending && not (list_all (λ has_left. has_left) s.core.left))
  waits_by none = rw none (or_none (not (is_empty s.core.frames.pending && not (list_all (λ has_left. has_left) s.core.left))))
    where
      or_none : (b : Bool) → b || false ≡ b
      or_none true = refl
      or_none false = refl

  gone : AllHaveLeft s → list_all (λ has_left. has_left) s.core.left ≡ true
  gone left = all_left s.core.left (λ i there.
      let below = found_below s.core.left i false there in
      let same : (i + 1) - 1 ≡ i = omega arith in
      left (i + 1) (omega arith, omega (arith, all, below), ap (λ (k : ℕ). slice_get s.core.left k) same ∙ there))

  ends : IsUnrefused s x → EndsWhereAllLeft s x
  ends none = record {
    waits = λ held. waiting s.core.frames.pending (list_all (λ has_left. has_left) s.core.left) (sym (waits_by none) ∙ held);
    told = λ is_ready. let ended = told_end s.core.frames.pending in ((λ same. ended.0 (sym (gives_by none) ∙ same)), (λ is. gives_by none ∙ ended.1 is));
    left = λ is_ready is k there. none_is_there s.core.left (k - 1) (nobody s.core.frames.pending (list_all (λ has_left. has_left) s.core.left) is (sym (waits_by none) ∙ is_ready)) there.2;
    all = λ left. waits_by none ∙ rw (gone left) (never (is_empty s.core.frames.pending));
  }
    where
      waiting : (fs : List PendingFrame) (b : Bool) → not (is_empty fs && not b) ≡ false → fs ≡ []
      waiting [] b held = refl
      waiting (f ∷ fs) b held = absurd (true≢false held)

      nobody : (fs : List PendingFrame) (b : Bool) → fs ≡ [] → not (is_empty fs && not b) ≡ true → b ≡ true
      nobody [] true is e = refl
      nobody [] false is e = absurd (true≢false (sym e))
      nobody (f ∷ fs) b is e = cc

      never : (b : Bool) → not (b && false) ≡ true
      never true = refl
      never false = refl

pub ends_are_told : EndsAreTold
ends_are_told settings es e legal is = subst (λ (r : Call). IsUnrefused s (record e { call = r }) → EndsWhereAllLeft s (record e { call = r })) (sym is) (ends s e (all_counted (opening settings) es (apps_long settings.apps)))
  where
    s : State
    s = after (opening settings) es

    apps_long : (n : ℕ) → length (opening (record { apps = n })).core.left ≡ n
    apps_long zero = refl
    apps_long (suc n) = ap (λ (k : ℕ). suc k) (apps_long n)
