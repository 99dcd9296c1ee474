-- The turns of the compositor's worker, one after another.
use Rattle.std.proofs.Common.{◌≡◌, ◌≤◌, ◌<◌, ◌+◌, ◌^◌, ◌∙◌, ℕ, Bool, true, false, List, [], ◌∷◌, ◌++◌, length, Option, Some, None, IfSome, refl, sym, ap, subst, arith, true≢false, append_assoc, append-nil, length-append}
use Rattle.std.specs.Prelude.{Result, Ok, Err, if◌then◌else◌}
use Rattle.atomic_table.specs.Seated.{TableId}
use Rattle.xr_types.specs.declared.calls.Actor.{Actor}
use Rattle.xr_types.specs.declared.calls.Actor.TheVariants.{Compositor}
use Rattle.xr_types.specs.declared.calls.Gives.{Gives}
use Rattle.xr_types.specs.declared.calls.Gives.TheVariants as gives
use Rattle.xr_types.specs.declared.calls.NoMemory.{NoMemory}
use Rattle.xr_types.specs.declared.calls.Reply.{Reply}
use Rattle.xr_types.specs.declared.frames.Shown.{Shown}
use Rattle.xr_model.specs.laws.FewCalls.{is_end}
use Rattle.xr_model.specs.laws.ImageLaws.{is_next_frame}
use Rattle.xr_model.specs.laws.Laws.{count_locked}
use Rattle.xr_model.specs.laws.Moments.{opening_moment, exchange_at, actor_at, calls_by}
use Rattle.xr_model.specs.machine.History.{after, calls_from, shown_if}
use Rattle.xr_model.specs.machine.Machine.{step}
use Rattle.xr_types.specs.CallKinds.{is_locked}
use Rattle.xr_model.specs.machine.Calls.{Entry, Exchange, is_actor}
use Rattle.xr_types.specs.declared.calls.Call.{Call}
use Rattle.xr_types.specs.declared.calls.Call.TheVariants as ask
use Rattle.xr_model.specs.machine.State.{State, opening, with_apps}
use Rattle.xr_model.specs.runs.Lists.{frames_in, replies_in, reply_if_shown, end_of}
use Rattle.xr_model.specs.runs.Robin.{is_ended}
use Rattle.xr_model.proofs.Histories.{entries_are_counted}
use Rattle.xr_rule.specs.View.{Own, number_in, calls_in, with_call}
use Rattle.xr_runtime.specs.Calling.{behind}
use Rattle.xr_runtime.specs.Passes.{IsCompositor}
use Rattle.xr_runtime.specs.declared.passes.CompositorPass.{CompositorPass}
use Rattle.xr_compositor.specs.declared.Turned.{Turned}
use Rattle.xr_compositor.specs.declared.Turned.TheVariants as turned
use Rattle.xr_compositor.specs.Turns.{know_of, AreReturns, AsksForFrame, Turns}
use Rattle.xr_workers.specs.declared.compositor.Composed.{Composed}
use Rattle.xr_workers.specs.declared.compositor.Frames.{Frames}
use Rattle.xr_workers.specs.inside.Composing.{KeepsFrame, Composes, ListsAll}
use Rattle.xr_workers.specs.Workers.{Adds, turns_in, TurnsGated, ListsFramesIf, RanCompositor}
use Rattle.xr_workers.proofs.TurnsMade.{turn_gated}
use Rattle.xr_runs.specs.Runs.{GoesOn, a_frame, an_image, IsEnd}
use Rattle.xr_runs.specs.Sides.{AllGoOn}

-- ---- how many turns there are

locked_too : (r : Call) → is_next_frame r ≡ true → is_locked r ≡ true
locked_too ask.NextFrame is = refl
locked_too r is = absurd (true≢false (sym is))

one_at_most : (a b : Bool) (m n : ℕ) → (a ≡ true → b ≡ true) → m ≤ n → (if a then m + 1 else m) ≤ (if b then n + 1 else n)
one_at_most true true m n so less = omega (arith, less)
one_at_most true false m n so less = absurd (true≢false (sym (so refl)))
one_at_most false true m n so less = omega (arith, less)
one_at_most false false m n so less = less

skipped : (b : Bool) (m n : ℕ) → m ≤ n → m ≤ (if b then n + 1 else n)
skipped true m n less = omega (arith, less)
skipped false m n less = less

-- an actor's requests for a frame are counted calls
turns_are_few : (who : Actor) (s : State) (es : List Entry) → turns_in (calls_from s who es) ≤ count_locked es
turns_are_few who s [] = omega arith
turns_are_few who s (e ∷ es) = by (is_actor who e.actor) (turns_are_few who (step s e).0 es)
  where
    by : (b : Bool) → turns_in (calls_from (step s e).0 who es) ≤ count_locked es
        → turns_in (if b then record { call = e.call; outcome = (step s e).1 } ∷ calls_from (step s e).0 who es else calls_from (step s e).0 who es) ≤ count_locked (e ∷ es)
    by true few = one_at_most (is_next_frame e.call) (is_locked e.call) (turns_in (calls_from (step s e).0 who es)) (count_locked es) (locked_too e.call) few
    by false few = skipped (is_locked e.call) (turns_in (calls_from (step s e).0 who es)) (count_locked es) few

turns_added : (ts us : List Exchange) → turns_in (ts ++ us) ≡ turns_in ts + turns_in us
turns_added [] us = omega arith
turns_added (t ∷ ts) us = by (is_next_frame t.call) (turns_added ts us)
  where
    by : (b : Bool) → turns_in (ts ++ us) ≡ turns_in ts + turns_in us → (if b then turns_in (ts ++ us) + 1 else turns_in (ts ++ us)) ≡ (if b then turns_in ts + 1 else turns_in ts) + turns_in us
    by true e = omega (arith, e)
    by false e = e

one_turn : (t : Exchange) → t.call ≡ ask.NextFrame → turns_in (t ∷ []) ≡ 1
one_turn t asks = ap (λ (r : Call). if is_next_frame r then 0 + 1 else 0) asks

no_turns : (ts : List Exchange) → AreReturns ts → turns_in ts ≡ 0
no_turns [] all = refl
no_turns (t ∷ ts) all = ap (λ (r : Call). if is_next_frame r then turns_in ts + 1 else turns_in ts) all.0.asks ∙ no_turns ts all.1

own_added : (x : Exchange) (os : List Own) → 0 < length os → calls_in (with_call x os) ≡ calls_in os ++ x ∷ []
own_added x [] some = absurd (omega (arith, some))
own_added x (o ∷ os) some = refl

few_turns : (n apps : ℕ) (es : List Entry) → (after (opening (with_apps apps)) es).core.locked < 2 ^ 44 → turns_in (calls_by n (opening_moment apps) es) < 2 ^ 44
few_turns n apps es below =
    let few = turns_are_few (actor_at n) (opening (with_apps apps)) es in
    let counted : (after (opening (with_apps apps)) es).core.locked ≡ 0 + count_locked es = entries_are_counted (opening (with_apps apps)) es in
    omega (arith, few, counted, below)

-- a turn's request for a frame is counted, and fewer than 2^44 calls are
turns_below : (table : TableId) (old : CompositorPass) (frame : Exchange) → IsCompositor table old → AsksForFrame old frame → turns_in (calls_in (know_of old).own ++ frame ∷ []) < 2 ^ 44
turns_below table old frame is a =
    let k = know_of old in
    let x = exchange_at (behind k a.look) a.entry in
    let added : calls_in (with_call x k.own) ≡ calls_in k.own ++ frame ∷ [] = own_added x k.own is.rests.between.numbered ∙ ap (λ (y : Exchange). calls_in k.own ++ y ∷ []) (sym a.is) in
    subst (λ (ts : List Exchange). turns_in ts < 2 ^ 44) (a.sees.own ∙ added) (few_turns (number_in (with_call x k.own)) k.apps (a.look ++ a.entry ∷ []) a.sees.few)

-- ---- what calls show

goes_added : (ts us : List Exchange) → AllGoOn ts → AllGoOn us → AllGoOn (ts ++ us)
goes_added [] us all more = more
goes_added (t ∷ ts) us all more = (all.0, goes_added ts us all.1 more)

returns_go : (ts : List Exchange) → AreReturns ts → AllGoOn ts
returns_go [] all = tt
returns_go (t ∷ ts) all = (an_image all.0.asks all.0.succeeds all.0.gives_nothing, returns_go ts all.1)

frames_added : (ts us : List Exchange) → frames_in (ts ++ us) ≡ frames_in ts ++ frames_in us
frames_added [] us = refl
frames_added (t ∷ ts) us = ap (λ (l : List Shown). shown_if t.outcome.shown ++ l) (frames_added ts us) ∙ sym (append_assoc (shown_if t.outcome.shown) (frames_in ts) (frames_in us))

replies_added : (ts us : List Exchange) → replies_in (ts ++ us) ≡ replies_in ts ++ replies_in us
replies_added [] us = refl
replies_added (t ∷ ts) us = ap (λ (l : List Reply). reply_if_shown t.outcome.shown t.outcome.reply ++ l) (replies_added ts us) ∙ sym (append_assoc (reply_if_shown t.outcome.shown t.outcome.reply) (replies_in ts) (replies_in us))

no_frames : (ts : List Exchange) → AreReturns ts → (frames_in ts ≡ []) × (replies_in ts ≡ [])
no_frames [] all = (refl, refl)
no_frames (t ∷ ts) all = let rest = no_frames ts all.1 in (
  ap (λ (o : Option Shown). shown_if o ++ frames_in ts) all.0.shows_none ∙ rest.0,
  ap (λ (o : Option Shown). reply_if_shown o t.outcome.reply ++ replies_in ts) all.0.shows_none ∙ rest.1,
)

ends_none : (ts : List Exchange) (t : Exchange) → AllGoOn ts → t.outcome.reply.gives ≡ gives.Ended → end_of (ts ++ t ∷ []) ≡ Some t.outcome.reply
ends_none [] t all told = ap (λ (g : Gives). if is_ended g then Some t.outcome.reply else None) told
ends_none (u ∷ ts) t all told = by u all.0 (ends_none ts t all.1 told)
  where
    by : (x : Exchange) → GoesOn x → end_of (ts ++ t ∷ []) ≡ Some t.outcome.reply → (if is_ended x.outcome.reply.gives then Some x.outcome.reply else end_of (ts ++ t ∷ [])) ≡ Some t.outcome.reply
    by x (a_frame asks shown) later = ap (λ (g : Gives). if is_ended g then Some x.outcome.reply else end_of (ts ++ t ∷ [])) shown ∙ later
    by x (an_image asks ok nothing) later = ap (λ (g : Gives). if is_ended g then Some x.outcome.reply else end_of (ts ++ t ∷ [])) nothing ∙ later

ends_so : (ts : List Exchange) (t : Exchange) → AllGoOn ts → t.call ≡ ask.NextFrame → t.outcome.reply.gives ≡ gives.Ended → IsEnd (ts ++ t ∷ [])
ends_so [] t all asks told = (asks, told)
ends_so (u ∷ []) t all asks told = (all.0, (asks, told))
ends_so (u ∷ v ∷ ts) t all asks told = (all.0, ends_so (v ∷ ts) t all.1 asks told)

-- ---- the turns

no_calls : (table : TableId) (p : CompositorPass) → IsCompositor table p → p.calls ≡ 0 → calls_in p.seat.me.0.know.own ≡ []
no_calls table p is none = by (calls_in p.seat.me.0.know.own) (sym is.counts ∙ none)
  where
    by : (ts : List Exchange) → length ts ≡ 0 → ts ≡ []
    by [] size = refl
    by (t ∷ ts) size = absurd (omega (arith, size))

pub none_composed : (table : TableId) (p : CompositorPass) (kept : Option Frames) → IsCompositor table p → p.ended ≡ false → p.held.items ≡ [] → IfSome kept (λ k. (k.frames.items ≡ []) × (k.replies.items ≡ [])) → Composes table 0 p p kept
none_composed table p kept is unended none keeps = record {
  is = is;
  unended = unended;
  none_held = none;
  calls = [];
  adds = sym (append-nil (calls_in p.seat.me.0.know.own));
  goes = tt;
  turns_are = refl;
  few = omega arith;
  below = omega arith;
  keeps = keeps;
}

pub none_turned : (came went : Actor → ℕ → ℕ → Type 0) (table : TableId) (p : CompositorPass) (kept : Option Frames) (is : IsCompositor table p) (unended : p.ended ≡ false) (none : p.held.items ≡ [])
    (keeps : IfSome kept (λ k. (k.frames.items ≡ []) × (k.replies.items ≡ []))) → TurnsGated came went (none_composed table p kept is unended none keeps).calls
unfolding none_composed
none_turned came went table p kept is unended none keeps n less = absurd (omega (arith, less))

module _ (table : TableId) (turns : ℕ) (first old new : CompositorPass) (kept : Option Frames) (start : IsCompositor table first) (none : first.calls ≡ 0) (c : Composes table turns first old kept) where
  pub few_calls : old.calls < 2 ^ 62
  few_calls =
      let few = c.few in
      let below = c.below in
      let before = start.counts in
      let now = c.is.counts in
      let more = ap length c.adds in
      omega (arith, few, below, before, now, more, none, length-append (calls_in (know_of first).own) c.calls)

  -- what the pass has made is what it made in these turns
  pub all_own : calls_in (know_of old).own ≡ c.calls
  all_own = c.adds ∙ ap (λ (ts : List Exchange). ts ++ c.calls) (no_calls table first start none)

  turns_more : (frame : Exchange) → AsksForFrame old frame → frame.call ≡ ask.NextFrame → (turns + 1 ≡ turns_in (c.calls ++ frame ∷ [])) × (turns + 1 < 2 ^ 44)
  turns_more frame asks is =
      let added = turns_added c.calls (frame ∷ []) in
      let one = one_turn frame is in
      let are = c.turns_are in
      let below = subst (λ (ts : List Exchange). turns_in (ts ++ frame ∷ []) < 2 ^ 44) all_own (turns_below table old frame c.is asks) in
      (omega (arith, added, one, are), omega (arith, added, one, are, below))

  asked_frame : (frame : Exchange) → (a : AsksForFrame old frame) → frame.call ≡ ask.NextFrame
  unfolding exchange_at
  asked_frame frame a = ap (λ (t : Exchange). t.call) a.is ∙ a.asks

  -- the gate lies round one more
  pub turns_gated : (came went : Actor → ℕ → ℕ → Type 0) (before after : Shown) (turned : Turned) → (t : Turns table old before after turned new) → TurnsGated came went c.calls
      → came Compositor (turns + 1) (length (calls_in (know_of old).own)) → went Compositor (turns + 1) (length (calls_in (know_of new).own)) → TurnsGated came went (c.calls ++ t.frame ∷ t.images)
  turns_gated came went before after turned t gated comes goes =
      let asks : t.frame.call ≡ ask.NextFrame = asked_frame t.frame t.asks in
      let more = turns_more t.frame t.asks asks in
      let split = turns_added (c.calls ++ t.frame ∷ []) t.images in
      let join = ap turns_in (append_assoc c.calls (t.frame ∷ []) t.images) in
      let first_part = more.0 in
      let zero = no_turns t.images t.returns in
      let now : calls_in (know_of new).own ≡ c.calls ++ t.frame ∷ t.images = t.made ∙ ap (λ (ts : List Exchange). ts ++ t.frame ∷ t.images) all_own in
      turn_gated came went c.calls t.frame t.images turns (length (calls_in (know_of old).own)) (length (calls_in (know_of new).own)) (ap is_next_frame asks) c.turns_are (omega (arith, split, join, first_part, zero)) (ap length all_own) (ap length now) gated comes goes

  pub one_composed : (before after : Shown) (reply : Reply) (next : Option Frames) → Turns table old before after (turned.Shown reply) new → KeepsFrame kept after reply next → Composes table (turns + 1) first new next
  one_composed before after reply next t keeps =
      let asks : t.frame.call ≡ ask.NextFrame = asked_frame t.frame t.asks in
      let shown : t.frame.outcome.reply.gives ≡ gives.Shown = ap (λ (r : Reply). r.gives) (sym t.told.0) ∙ t.told.1 in
      let more = turns_more t.frame t.asks asks in
      let all : List Exchange = c.calls ++ t.frame ∷ t.images in record {
        is = t.is;
        unended = t.ended ∙ ap is_end shown;
        none_held = t.none_held;
        calls = all;
        adds = t.made ∙ (ap (λ (ts : List Exchange). ts ++ t.frame ∷ t.images) c.adds ∙ append_assoc (calls_in (know_of first).own) c.calls (t.frame ∷ t.images));
        goes = goes_added c.calls (t.frame ∷ t.images) c.goes (a_frame asks shown, returns_go t.images t.returns);
        turns_are =
            let split = turns_added (c.calls ++ t.frame ∷ []) t.images in
            let join = ap turns_in (append_assoc c.calls (t.frame ∷ []) t.images) in
            let first_part = more.0 in
            let zero = no_turns t.images t.returns in
            omega (arith, split, join, first_part, zero);
        few = let before = c.few in let images = t.few in omega (arith, before, images, length-append c.calls (t.frame ∷ t.images));
        below = more.1;
        keeps = by kept next keeps c.keeps;
      }
    where
      by : (k n : Option Frames) → KeepsFrame k after reply n → IfSome k (λ f. (f.frames.items ≡ frames_in c.calls) × (f.replies.items ≡ replies_in c.calls))
          → IfSome n (λ f. (f.frames.items ≡ frames_in (c.calls ++ t.frame ∷ t.images)) × (f.replies.items ≡ replies_in (c.calls ++ t.frame ∷ t.images)))
      by k None h so = tt
      by None (Some n) h so = absurd h
      by (Some k) (Some n) h so =
          let rest = no_frames t.images t.returns in
          let one_frame : frames_in (t.frame ∷ t.images) ≡ after ∷ [] = ap (λ (o : Option Shown). shown_if o ++ frames_in t.images) t.told.2 ∙ ap (λ (l : List Shown). after ∷ l) rest.0 in
          let one_reply : replies_in (t.frame ∷ t.images) ≡ reply ∷ [] =
          ap (λ (o : Option Shown). reply_if_shown o t.frame.outcome.reply ++ replies_in t.images) t.told.2 ∙ (ap (λ (l : List Reply). t.frame.outcome.reply ∷ l) rest.1 ∙ ap (λ (r : Reply). r ∷ []) (sym t.told.0)) in (
            h.0 ∙ (ap (λ (l : List Shown). l ++ after ∷ []) so.0 ∙ (ap (λ (l : List Shown). frames_in c.calls ++ l) (sym one_frame) ∙ sym (frames_added c.calls (t.frame ∷ t.images)))),
            h.1 ∙ (ap (λ (l : List Reply). l ++ reply ∷ []) so.1 ∙ (ap (λ (l : List Reply). replies_in c.calls ++ l) (sym one_reply) ∙ sym (replies_added c.calls (t.frame ∷ t.images)))),
          )

  pub one_turned : (came went : Actor → ℕ → ℕ → Type 0) (before after : Shown) (reply : Reply) (next : Option Frames) (t : Turns table old before after (turned.Shown reply) new) (keeps : KeepsFrame kept after reply next)
      → TurnsGated came went c.calls → came Compositor (turns + 1) (length (calls_in (know_of old).own)) → went Compositor (turns + 1) (length (calls_in (know_of new).own))
      → TurnsGated came went (one_composed before after reply next t keeps).calls
  unfolding one_composed
  one_turned came went before after reply next t keeps gated comes goes = turns_gated came went before after (turned.Shown reply) t gated comes goes

  -- the last turn, in which the end was told
  module _ (before after : Shown) (reply : Reply) (t : Turns table old before after (turned.Ended reply) new) where
    asks_last : t.frame.call ≡ ask.NextFrame
    asks_last = asked_frame t.frame t.asks

    told_last : t.frame.outcome.reply.gives ≡ gives.Ended
    told_last = ap (λ (r : Reply). r.gives) (sym t.told.0) ∙ t.told.1

    pub last_calls : Adds (know_of first) (know_of new) (c.calls ++ t.frame ∷ [])
    last_calls = t.made ∙ (ap (λ (ts : List Exchange). calls_in (know_of old).own ++ t.frame ∷ ts) t.at_end ∙ (ap (λ (ts : List Exchange). ts ++ t.frame ∷ []) c.adds ∙ append_assoc (calls_in (know_of first).own) c.calls (t.frame ∷ [])))

    pub ran_compositor : (list : Result Composed NoMemory) → ListsFramesIf (c.calls ++ t.frame ∷ []) list → RanCompositor table first new list
    ran_compositor list lists = record {
      is = t.is;
      ended = t.ended ∙ ap is_end told_last;
      calls = c.calls ++ t.frame ∷ [];
      made = last_calls;
      ends = ends_so c.calls t.frame c.goes asks_last told_last;
      lists = lists;
    }

    -- what is listed where memory wasn't short
    pub lists_all : (k : Frames) (list : Composed) → kept ≡ Some k → list ≡ record { frames = k.frames.items; replies = k.replies.items; ended = reply } → ListsFramesIf (c.calls ++ t.frame ∷ []) (Ok list)
    lists_all k list some is =
        let so = subst (λ (o : Option Frames). IfSome o (λ f. (f.frames.items ≡ frames_in c.calls) × (f.replies.items ≡ replies_in c.calls))) some c.keeps in
        let none_shown : frames_in (t.frame ∷ []) ≡ [] = ap (λ (o : Option Shown). shown_if o ++ []) t.told.2 in
        let no_reply : replies_in (t.frame ∷ []) ≡ [] = ap (λ (o : Option Shown). reply_if_shown o t.frame.outcome.reply ++ []) t.told.2 in record {
          frames = ap (λ (l : Composed). l.frames) is ∙ (so.0 ∙ (sym (append-nil (frames_in c.calls)) ∙ (ap (λ (l : List Shown). frames_in c.calls ++ l) (sym none_shown) ∙ sym (frames_added c.calls (t.frame ∷ [])))));
          replies = ap (λ (l : Composed). l.replies) is ∙ (so.1 ∙ (sym (append-nil (replies_in c.calls)) ∙ (ap (λ (l : List Reply). replies_in c.calls ++ l) (sym no_reply) ∙ sym (replies_added c.calls (t.frame ∷ [])))));
          ended = ends_none c.calls t.frame c.goes told_last ∙ ap Some (sym t.told.0 ∙ ap (λ (l : Composed). l.ended) (sym is));
        }

    pub ran_by : (list : Result Composed NoMemory) → ListsAll kept reply list → RanCompositor table first new list
    ran_by list all = ran_compositor list (by kept refl list all)
      where
        by : (k : Option Frames) → kept ≡ k → (l : Result Composed NoMemory) → ListsAll k reply l → ListsFramesIf (c.calls ++ t.frame ∷ []) l
        by None is (Ok l) h = absurd h
        by None is (Err short) h = tt
        by (Some k) is (Ok l) h = lists_all k l is h
        by (Some k) is (Err short) h = absurd h
