-- A history has few counted calls where each actor makes few: sums over the actors' numbers.
use Rattle.std.proofs.Common.{◌≡◌, ◌≢◌, ◌+◌, ◌*◌, ◌^◌, ◌≤◌, ◌<◌, ◌&&◌, ℕ, zero, suc, ℤ, not, Bool, true, false, List, [], ◌∷◌, ◌++◌, length, Option, Some, None, refl, sym, ap, subst, arith, true≢false, length-append}
use Rattle.std.specs.Prelude.{is_some, if◌then◌else◌}
use Rattle.std.specs.List.{list_all}
use mathlib.Core.Logic.{dite}
use native.Mathlib.Decide.{ℕ_discrete}
use Rattle.xr_types.specs.declared.calls.Actor.{Actor}
use Rattle.xr_types.specs.declared.calls.Actor.TheVariants.{Compositor}
use Rattle.xr_types.specs.declared.code.Code.TheVariants.{CallOrderInvalid}
use Rattle.xr_types.specs.Frames.{PendingFrame}
use Rattle.xr_types.specs.declared.frames.Shown.{Shown}
use Rattle.xr_model.specs.machine.CoreCalls.{asked}
use Rattle.xr_model.specs.machine.Frames.{is_empty}
use Rattle.xr_model.specs.machine.Refusals.{when, first_of}
use Rattle.xr_types.specs.CallKinds.{is_locked}
use Rattle.xr_model.specs.machine.Calls.{Entry, Exchange, is_actor}
use Rattle.xr_types.specs.declared.calls.Call.{Call}
use Rattle.xr_types.specs.declared.calls.Call.TheVariants as ask
use Rattle.xr_model.specs.machine.Rule.{is_by, or_short, unless_refused}
use Rattle.xr_model.specs.machine.Rules.Frames.{next_frame_rule, told_frame, oldest_shown}
use Rattle.xr_model.specs.machine.State.{State, CoreState, CellReads, opening, with_apps}
use Rattle.xr_model.specs.machine.Machine.{reads_of, step}
use Rattle.xr_model.specs.machine.History.{calls_from, clocks_after, opening_clocks, shown_if, IsLegalFrom}
use Rattle.xr_model.specs.laws.FewCalls.{how_many, is_frameless, is_end, tells_end, HasFewFrames, MayShow, FewMore, LockedAreFew}
use Rattle.xr_model.specs.laws.FrameLaws.{shown_from, frame_call, frame_calls}
use Rattle.xr_model.specs.laws.ImageLaws.{is_compositor_call, is_next_frame}
use Rattle.xr_model.specs.laws.Laws.{count_locked}
use Rattle.xr_model.specs.laws.Moments.{Moment, exchange_at, actor_at}
use Rattle.xr_model.specs.laws.MomentLaws.{HasNumber}
use Rattle.xr_model.proofs.GrowingHistories.{number_of}
use Rattle.xr_model.proofs.Rows.{both_of}
use Rattle.xr_model.proofs.TakenFrames.{taken_are_half}
use Rattle.xr_model.proofs.Turns.{actor_itself}

-- ---- one call more

many_more : (is_so : Exchange → Bool) (xs : List Exchange) (x : Exchange) → how_many is_so (xs ++ x ∷ []) ≡ how_many is_so xs + (if is_so x then 1 else 0)
many_more is_so [] x = by (is_so x)
  where
    by : (b : Bool) → (if b then 0 + 1 else 0) ≡ 0 + (if b then 1 else 0)
    by true = omega arith
    by false = omega arith
many_more is_so (y ∷ xs) x = by (is_so y) (many_more is_so xs x)
  where
    by : (b : Bool) → how_many is_so (xs ++ x ∷ []) ≡ how_many is_so xs + (if is_so x then 1 else 0)
        → (if b then how_many is_so (xs ++ x ∷ []) + 1 else how_many is_so (xs ++ x ∷ [])) ≡ (if b then how_many is_so xs + 1 else how_many is_so xs) + (if is_so x then 1 else 0)
    by true e = omega (arith, e)
    by false e = e

all_more : (is_so : Exchange → Bool) (xs : List Exchange) (x : Exchange) → list_all is_so xs ≡ true → is_so x ≡ true → list_all is_so (xs ++ x ∷ []) ≡ true
all_more is_so [] x all one = rw one refl
all_more is_so (y ∷ xs) x all one = let two = both_of (is_so y) (list_all is_so xs) all in rw (two.0, all_more is_so xs x two.1 one) refl

-- what the compositor asks for is one of its two calls
is_its_own : (r : Call) → is_by (asked Compositor r).caller Compositor ≡ true → is_compositor_call r ≡ true
is_its_own ask.NextFrame own = refl
is_its_own ask.ImageDone own = refl
is_its_own r own = absurd (true≢false (sym own))

abbrev is_at_most : Bool → Bool → Type 0
is_at_most a b = (if a then 1 else 0) ≤ (if b then 1 else 0)

-- a frame that is asked for in order is shown, or the end is told
shows_or_ends : (s : CoreState) (reads : CellReads) (out_of_order : Bool)
    → (unless_refused s (or_short false (first_of (when out_of_order CallOrderInvalid ∷ []))) (next_frame_rule s reads).effect).code ≢ CallOrderInvalid
    → is_at_most (not (is_some (unless_refused s (or_short false (first_of (when out_of_order CallOrderInvalid ∷ []))) (next_frame_rule s reads).effect).shown))
    (is_end (unless_refused s (or_short false (first_of (when out_of_order CallOrderInvalid ∷ []))) (next_frame_rule s reads).effect).gives)
shows_or_ends s reads true differs = absurd (differs refl)
shows_or_ends s reads false differs = by s.frames.pending
  where
    by : (frames : List PendingFrame) → is_at_most (not (is_some (oldest_shown frames reads.stamps))) (is_end (told_frame frames))
    by [] = omega arith
    by (f ∷ fs) = omega arith

nothing_at_most : (b : Bool) → is_at_most false b
nothing_at_most true = omega arith
nothing_at_most false = omega arith

ends_if_frameless : (m : Moment) (e : Entry) (calls : List Exchange) → is_compositor_call e.call ≡ true → MayShow m e calls → is_at_most (is_frameless (exchange_at m e)) (tells_end (exchange_at m e))
unfolding exchange_at
ends_if_frameless m e calls own may = by e.call own may.in_order
  where
    by : (r : Call) → is_compositor_call r ≡ true → (is_next_frame r ≡ true → (step m.state (record e { call = r })).1.reply.code ≢ CallOrderInvalid)
        → is_at_most (is_locked r && not (is_some (step m.state (record e { call = r })).1.shown)) (is_end (step m.state (record e { call = r })).1.reply.gives)
    by ask.NextFrame own differs = shows_or_ends m.state.core (reads_of m.state ask.NextFrame) (not (is_empty m.state.cells.held)) (differs refl)
    by ask.ImageDone own differs = nothing_at_most (is_end (step m.state (record e { call = ask.ImageDone })).1.reply.gives)
    by r own differs = absurd (true≢false (sym own))

asks_its_own : (m : Moment) (e : Entry) → is_compositor_call e.call ≡ true → is_compositor_call (exchange_at m e).call ≡ true
unfolding exchange_at
asks_its_own m e own = own

few_frames : (m : Moment) (e : Entry) (calls : List Exchange) → is_compositor_call e.call ≡ true → HasFewFrames calls → MayShow m e calls → HasFewFrames (calls ++ exchange_at m e ∷ [])
few_frames m e calls own few may =
    let x = exchange_at m e in
    let unended = may.unended in
    let shown = few.shown in
    let one = ends_if_frameless m e calls own may in
    record {
      its_own = all_more (λ y. is_compositor_call y.call) calls x few.its_own (asks_its_own m e own);
      shown = omega (arith, many_more is_frameless calls x, many_more tells_end calls x, shown, one);
      ended = omega (arith, many_more tells_end calls x, unended, at_most_one (tells_end x));
    }
  where
    at_most_one : (b : Bool) → (if b then 1 else 0) ≤ 1
    at_most_one true = omega arith
    at_most_one false = omega arith

one_longer : (calls : List Exchange) (x : Exchange) → length calls < 2 ^ 40 → length (calls ++ x ∷ []) ≤ 2 ^ 40
one_longer calls x few = omega (arith, length-append calls (x ∷ []))

pub few_more : FewMore
few_more zero m e calls is own few may = one_longer calls (exchange_at m e) may
few_more (suc (suc k)) m e calls is own few may = one_longer calls (exchange_at m e) may
few_more (suc zero) m e calls is own few may = few_frames m e calls (is_its_own e.call (subst (λ (who : Actor). is_by (asked who e.call).caller who ≡ true) is own)) few may

-- ---- sums over numbers

abbrev sum_to : ℕ → (ℕ → ℕ) → ℕ
sum_to zero f = 0
sum_to (suc n) f = f n + sum_to n f

sum_same : (count : ℕ) (f g : ℕ → ℕ) → ((n : ℕ) → g n ≤ f n) → sum_to count g ≤ sum_to count f
sum_same zero f g all = omega arith
sum_same (suc k) f g all = omega (arith, all k, sum_same k f g all)

-- where one term grows by so much, the sum does
sum_more : (count n by : ℕ) (f g : ℕ → ℕ) → n < count → ((k : ℕ) → g k ≤ f k) → g n + by ≤ f n → sum_to count g + by ≤ sum_to count f
sum_more zero n by f g inside all one = absurd (omega arith)
sum_more (suc k) n by f g inside all one = dite (ℕ_discrete n k)
    (λ e. let here : g k + by ≤ f k = subst (λ (i : ℕ). g i + by ≤ f i) e one in omega (arith, sum_same k f g all, here))
    (λ ne. omega (arith, all k, sum_more k n by f g (omega arith) all one))

-- each but the first two is at most 2^40
sum_few : (apps : ℕ) (f : ℕ → ℕ) → ((k : ℕ) → k < apps → f (suc (suc k)) ≤ 2 ^ 40) → sum_to (suc (suc apps)) f ≤ apps * 2 ^ 40 + (f 1 + f 0)
sum_few zero f all = omega arith
sum_few (suc k) f all = omega (arith, all k (omega arith), sum_few k f (λ i l. all i (omega arith)))

-- ---- weights of calls

abbrev weight : (Call → ℕ) → List Exchange → ℕ
weight w [] = 0
weight w (x ∷ xs) = w x.call + weight w xs

abbrev weight_of : (Call → ℕ) → List Entry → ℕ
weight_of w [] = 0
weight_of w (e ∷ es) = w e.call + weight_of w es

abbrev added : Bool → Exchange → List Exchange → List Exchange
added b x xs = if b then x ∷ xs else xs

weight_added : (w : Call → ℕ) (b : Bool) (x : Exchange) (xs : List Exchange) → weight w (added b x xs) ≡ (if b then w x.call else 0) + weight w xs
weight_added w true x xs = refl
weight_added w false x xs = omega arith

-- each entry weighs in with its actor's calls
weighs : (apps : ℕ) (w : Call → ℕ) (s : State) (clocks : List ℤ) (es : List Entry) → s.core.apps ≡ apps → IsLegalFrom s clocks es
    → weight_of w es ≤ sum_to (apps + 2) (λ n. weight w (calls_from s (actor_at n) es))
weighs apps w s clocks [] same legal = omega arith
weighs apps w s clocks (e ∷ es) same legal =
    let t = (step s e).0 in
    let x : Exchange = record { call = e.call; outcome = (step s e).1 } in
    let is : HasNumber apps e.actor = number_of apps s e.actor same legal.0.present in
    let is_so : is_actor (actor_at is.number) e.actor ≡ true = subst (λ (who : Actor). is_actor (actor_at is.number) who ≡ true) (sym is.is) (actor_itself (actor_at is.number)) in
    let more = sum_more (apps + 2) is.number (w e.call) (λ n. weight w (calls_from s (actor_at n) (e ∷ es))) (λ n. weight w (calls_from t (actor_at n) es)) is.is_below
    (λ n. omega (arith, weight_added w (is_actor (actor_at n) e.actor) x (calls_from t (actor_at n) es)))
    (whole (is_actor (actor_at is.number) e.actor) is_so x (calls_from t (actor_at is.number) es)) in
    omega (arith, more, weighs apps w t (clocks_after clocks e t) es same legal.3)
  where
    whole : (b : Bool) → b ≡ true → (x : Exchange) (xs : List Exchange) → weight w xs + w x.call ≤ weight w (added b x xs)
    whole true is x xs = omega arith
    whole false is x xs = absurd (true≢false (sym is))

weight_is_few : (w : Call → ℕ) → ((r : Call) → w r ≤ 1) → (xs : List Exchange) → weight w xs ≤ length xs
weight_is_few w one [] = omega arith
weight_is_few w one (x ∷ xs) = omega (arith, one x.call, weight_is_few w one xs)

-- ---- counted calls, and calls on frames

abbrev locks : Call → ℕ
locks r = if is_locked r then 1 else 0

locks_once : (r : Call) → locks r ≤ 1
locks_once r = by (is_locked r)
  where
    by : (b : Bool) → (if b then 1 else 0) ≤ 1
    by true = omega arith
    by false = omega arith

locked_weigh : (es : List Entry) → count_locked es ≡ weight_of locks es
locked_weigh [] = refl
locked_weigh (e ∷ es) = by (is_locked e.call) (locked_weigh es)
  where
    by : (b : Bool) → count_locked es ≡ weight_of locks es → (if b then count_locked es + 1 else count_locked es) ≡ (if b then 1 else 0) + weight_of locks es
    by true same = omega (arith, same)
    by false same = omega (arith, same)

frames_weigh : (es : List Entry) → frame_calls es ≡ weight_of frame_call es
frames_weigh [] = refl
frames_weigh (e ∷ es) = omega (arith, frames_weigh es)

frame_call_once : (r : Call) → frame_call r ≤ 1
frame_call_once (ask.BeginFrame session) = omega arith
frame_call_once (ask.EndFrame session time blend layers) = omega arith
frame_call_once r = omega arith

no_frame_call : (r : Call) → is_compositor_call r ≡ true → frame_call r ≡ 0
no_frame_call ask.NextFrame own = refl
no_frame_call ask.ImageDone own = refl
no_frame_call r own = absurd (true≢false (sym own))

-- the compositor neither begins nor ends frames
none_on_frames : (xs : List Exchange) → list_all (λ x. is_compositor_call x.call) xs ≡ true → weight frame_call xs ≡ 0
none_on_frames [] own = refl
none_on_frames (x ∷ xs) own =
    let two = both_of (is_compositor_call x.call) (list_all (λ y. is_compositor_call y.call) xs) own in
    omega (arith, no_frame_call x.call two.0, none_on_frames xs two.1)

-- ---- frames that are shown

abbrev shows : Exchange → Bool
shows x = is_some x.outcome.shown

-- a counted call shows a frame or is frameless
shown_or_frameless : (xs : List Exchange) → weight locks xs ≤ how_many is_frameless xs + how_many shows xs
shown_or_frameless [] = omega arith
shown_or_frameless (x ∷ xs) = by (is_locked x.call) (shows x) (shown_or_frameless xs)
  where
    by : (a b : Bool) → weight locks xs ≤ how_many is_frameless xs + how_many shows xs
        → (if a then 1 else 0) + weight locks xs ≤ (if a && not b then how_many is_frameless xs + 1 else how_many is_frameless xs) + (if b then how_many shows xs + 1 else how_many shows xs)
    by true true e = omega (arith, e)
    by true false e = omega (arith, e)
    by false true e = omega (arith, e)
    by false false e = omega (arith, e)

shown_are_taken : (s : State) (who : Actor) (es : List Entry) → how_many shows (calls_from s who es) ≤ length (shown_from s es)
shown_are_taken s who [] = omega arith
shown_are_taken s who (e ∷ es) = by (is_actor who e.actor) (step s e).1.shown (shown_are_taken (step s e).0 who es)
  where
    rest : List Exchange
    rest = calls_from (step s e).0 who es

    x : Option Shown → Exchange
    x f = record { call = e.call; outcome = record (step s e).1 { shown = f } }

    by : (b : Bool) (f : Option Shown) → how_many shows rest ≤ length (shown_from (step s e).0 es) → how_many shows (added b (x f) rest) ≤ length (shown_if f ++ shown_from (step s e).0 es)
    by true None few = few
    by true (Some f) few = omega (arith, few)
    by false None few = few
    by false (Some f) few = omega (arith, few)

-- ---- the whole

few_of : (w : Call → ℕ) → ((r : Call) → w r ≤ 1) → (xs : List Exchange) → length xs ≤ 2 ^ 40 → weight w xs ≤ 2 ^ 40
few_of w one xs few = omega (arith, weight_is_few w one xs)

pub locked_are_few : LockedAreFew
locked_are_few apps es small legal few =
    let s = opening (with_apps apps) in
    let clocks = opening_clocks (with_apps apps) in
    let made : ℕ → List Exchange = λ n. calls_from s (actor_at n) es in
    let two : apps + 2 ≡ suc (suc apps) = omega arith in
    let compositor : HasFewFrames (made 1) = few 1 (omega arith) in
    let device : length (made 0) ≤ 2 ^ 40 = few 0 (omega arith) in
    let all = weighs apps locks s clocks es refl legal in
    let on_frames = weighs apps frame_call s clocks es refl legal in
    let apps_few = sum_few apps (λ n. weight locks (made n)) (λ k l. few_of locks locks_once (made (suc (suc k))) (few (suc (suc k)) (omega arith))) in
    let apps_frames = sum_few apps (λ n. weight frame_call (made n)) (λ k l. few_of frame_call frame_call_once (made (suc (suc k))) (few (suc (suc k)) (omega arith))) in
    let locks_sum : sum_to (apps + 2) (λ n. weight locks (made n)) ≡ sum_to (suc (suc apps)) (λ n. weight locks (made n)) = ap (λ (k : ℕ). sum_to k (λ n. weight locks (made n))) two in
    let frames_sum : sum_to (apps + 2) (λ n. weight frame_call (made n)) ≡ sum_to (suc (suc apps)) (λ n. weight frame_call (made n)) = ap (λ (k : ℕ). sum_to k (λ n. weight frame_call (made n))) two in
    let device_locks : weight locks (made 0) ≤ 2 ^ 40 = few_of locks locks_once (made 0) device in
    let device_frames : weight frame_call (made 0) ≤ 2 ^ 40 = few_of frame_call frame_call_once (made 0) device in
    let shown : weight locks (made 1) ≤ how_many is_frameless (made 1) + how_many shows (made 1) = shown_or_frameless (made 1) in
    let once = compositor.shown in
    let ended = compositor.ended in
    let no_frames : weight frame_call (made 1) ≡ 0 = none_on_frames (made 1) compositor.its_own in
    omega (arith, small, all, locks_sum, apps_few, on_frames, frames_sum, apps_frames, device_locks, device_frames, shown, once, ended, no_frames, shown_are_taken s (actor_at 1) es, taken_are_half (with_apps apps) es, locked_weigh es, frames_weigh es)
