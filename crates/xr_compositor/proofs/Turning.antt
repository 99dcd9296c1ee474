-- The calls of a turn, put together.
use Rattle.std.proofs.Common.{◌≡◌, ◌≤◌, ◌<◌, ◌^◌, ◌+◌, false, List, [], ◌∷◌, ◌++◌, length, refl, sym, ap, ◌∙◌, arith, append_assoc, append-nil, length-append, Option, Some, None}
use Rattle.atomic_table.specs.Seated.{TableId}
use Rattle.xr_types.specs.declared.calls.Gives.TheVariants as gives
use Rattle.xr_types.specs.declared.calls.Reply.{Reply}
use Rattle.xr_types.specs.declared.code.Code.TheVariants.{Success}
use Rattle.xr_types.specs.declared.frames.Image.{Image}
use Rattle.xr_types.specs.Frames.{PendingFrame}
use Rattle.xr_types.specs.declared.frames.Shown.{Shown}
use Rattle.xr_model.specs.laws.FewCalls.{is_end}
use Rattle.xr_model.specs.laws.Moments.{Moment, opening_moment, exchange_at}
use Rattle.xr_model.specs.machine.CoreCalls.{Lent, left_in, shown_over}
use Rattle.xr_model.specs.machine.Machine.{step}
use Rattle.xr_model.specs.machine.Calls.{Entry, Exchange}
use Rattle.xr_types.specs.declared.calls.Call.TheVariants as ask
use Rattle.xr_model.specs.machine.State.{State, with_apps}
use Rattle.xr_rule.specs.View.{Know, know_after}
use Rattle.xr_runtime.specs.Calling.{behind, seen_by, entry_by}
use Rattle.xr_runtime.specs.Passes.{IsCompositor, Composes}
use Rattle.xr_runtime.specs.declared.passes.CompositorPass.{CompositorPass}
use Rattle.xr_runtime.proofs.Passing.{seat_is, calls_more, knows_after}
use Rattle.xr_rule.proofs.Carrying.{moments_in_turn}
use Rattle.xr_compositor.specs.declared.Turned.TheVariants as turned
use Rattle.xr_compositor.specs.Turns.{know_of, own_calls, IsReturn, AreReturns, GaveOneBack, GivesBack, GaveAllBack, AsksForFrame, Turns}
use Rattle.xr_compositor.proofs.FewImages.{few_held}

-- ---- an image that is given back

-- where some are held one is given back, and one less is held behind that
returned_so : (s : State) (e : Entry) → 0 < length s.cells.held
    → ((step s (record e { call = ask.ImageDone })).1.reply.code ≡ Success) × ((step s (record e { call = ask.ImageDone })).1.reply.gives ≡ gives.Nothing) × ((step s (record e { call = ask.ImageDone })).1.shown ≡ None)
returned_so s e = by s.cells.held
  where
    at : List Image → State
    at held = record s { cells = record s.cells { held = held } }

    by : (held : List Image) → 0 < length held
        → ((step (at held) (record e { call = ask.ImageDone })).1.reply.code ≡ Success) × ((step (at held) (record e { call = ask.ImageDone })).1.reply.gives ≡ gives.Nothing) × ((step (at held) (record e { call = ask.ImageDone })).1.shown ≡ None)
    by [] some = absurd (omega arith)
    by (i ∷ held) some = (refl, refl, refl)

one_less : (s : State) (e : Entry) → 0 < length s.cells.held → length (step s (record e { call = ask.ImageDone })).0.cells.held + 1 ≡ length s.cells.held
one_less s e = by s.cells.held
  where
    at : List Image → State
    at held = record s { cells = record s.cells { held = held } }

    by : (held : List Image) → 0 < length held → length (step (at held) (record e { call = ask.ImageDone })).0.cells.held + 1 ≡ length held
    by [] some = absurd (omega arith)
    by (i ∷ held) some = omega arith

is_return : (m : Moment) (e : Entry) → 0 < length m.state.cells.held → IsReturn (exchange_at m (record e { call = ask.ImageDone }))
unfolding exchange_at
is_return m e some = let so = returned_so m.state e some in record { asks = refl; succeeds = so.0; gives_nothing = so.1; shows_none = so.2 }

pub gave_one : (table : TableId) (old new : CompositorPass) (reply : Reply) (before after : Lent) → IsCompositor table old → Composes table old ask.ImageDone before after reply new
    → 0 < length old.held.items → GaveOneBack table old new
gave_one table old new reply before after is c some_held =
    let k = know_of old in
    let e : Entry = entry_by k ask.ImageDone reply in
    let m : Moment = behind k c.called.look in
    let known = ap length c.held_before in
    let some : 0 < length m.state.cells.held = omega (arith, some_held, known) in
    let so = returned_so m.state e some in
    let less = one_less m.state e some in
    let now : length new.held.items ≡ length (step m.state e).0.cells.held =
    ap length c.is.held_is ∙ ap (λ (q : Know). length (seen_by q).state.cells.held) (knows_after old.seat.me new.seat.me ask.ImageDone reply before after is.rests.between c.called)
    ∙ ap (λ (z : Moment). length z.state.cells.held) (moments_in_turn (opening_moment k.apps) c.called.look (e ∷ [])) in record {
      is = c.is;
      unended = c.ended_is ∙ (ap (λ (r : Reply). is_end r.gives) (sym c.called.replies) ∙ ap is_end so.1);
      image = exchange_at m e;
      made = (seat_is old.seat.me new.seat.me ask.ImageDone reply before after is.rests.between c.called).calls;
      returns = is_return m e some;
      held = omega (arith, now, less, known);
    }

-- ---- all images

pub none_left : (held : List Image) → length held ≡ 0 → held ≡ []
none_left [] none = refl
none_left (x ∷ xs) none = absurd (omega arith)

pub none_back : (table : TableId) (p : CompositorPass) → IsCompositor table p → p.ended ≡ false → GivesBack table p p
none_back table p is unended = record { is = is; unended = unended; images = []; made = sym (append-nil (own_calls p)); returns = tt; each = omega arith }

returns_more : (ts : List Exchange) (t : Exchange) → AreReturns ts → IsReturn t → AreReturns (ts ++ t ∷ [])
returns_more [] t all one = (one, tt)
returns_more (u ∷ ts) t all one = (all.0, returns_more ts t all.1 one)

pub one_back : (table : TableId) (first old new : CompositorPass) → GivesBack table first old → GaveOneBack table old new → GivesBack table first new
one_back table first old new b o = record {
  is = o.is;
  unended = o.unended;
  images = b.images ++ o.image ∷ [];
  made = o.made ∙ (ap (λ (ts : List Exchange). ts ++ o.image ∷ []) b.made ∙ append_assoc (own_calls first) b.images (o.image ∷ []));
  returns = returns_more b.images o.image b.returns o.returns;
  each = let before = b.each in let one = o.held in omega (arith, before, one, length-append b.images (o.image ∷ []));
}

pub calls_and_held : (table : TableId) (old new : CompositorPass) → IsCompositor table old → GivesBack table old new → new.calls + length new.held.items ≡ old.calls + length old.held.items
calls_and_held table old new is b =
    let before = is.counts in
    let now = b.is.counts in
    let more = ap length b.made in
    let each = b.each in
    omega (arith, before, now, more, each, length-append (own_calls old) b.images)

-- ---- the frame

-- where the end is told, none is held behind that
ended_so : (s : State) (e : Entry) → (step s (record e { call = ask.NextFrame })).1.reply.gives ≡ gives.Ended → length (step s (record e { call = ask.NextFrame })).0.cells.held ≡ 0
ended_so s e = by s.cells.held s.core.frames.pending
  where
    at : List Image → List PendingFrame → State
    at held pending = record s { core = record s.core { frames = record s.core.frames { pending = pending } }; cells = record s.cells { held = held } }

    by : (held : List Image) (pending : List PendingFrame) → (step (at held pending) (record e { call = ask.NextFrame })).1.reply.gives ≡ gives.Ended → length (step (at held pending) (record e { call = ask.NextFrame })).0.cells.held ≡ 0
    by [] [] told = refl
    by [] (f ∷ fs) told = absurd (cc told)
    by (i ∷ held) pending told = absurd (cc told)

-- where a frame is told, it is shown, and else none is
told_so : (s : State) (e : Entry) (before : Shown) → (step s (record e { call = ask.NextFrame })).1.reply.gives ≡ gives.Shown
    → (step s (record e { call = ask.NextFrame })).1.shown ≡ Some (shown_over (step s (record e { call = ask.NextFrame })).1.shown before)
told_so s e before = by s.cells.held s.core.frames.pending
  where
    at : List Image → List PendingFrame → State
    at held pending = record s { core = record s.core { frames = record s.core.frames { pending = pending } }; cells = record s.cells { held = held } }

    by : (held : List Image) (pending : List PendingFrame) → (step (at held pending) (record e { call = ask.NextFrame })).1.reply.gives ≡ gives.Shown
        → (step (at held pending) (record e { call = ask.NextFrame })).1.shown ≡ Some (shown_over (step (at held pending) (record e { call = ask.NextFrame })).1.shown before)
    by [] [] told = absurd (cc told)
    by [] (f ∷ fs) told = refl
    by (i ∷ held) pending told = absurd (cc told)

none_so : (s : State) (e : Entry) → (step s (record e { call = ask.NextFrame })).1.reply.gives ≡ gives.Ended → (step s (record e { call = ask.NextFrame })).1.shown ≡ None
none_so s e = by s.cells.held s.core.frames.pending
  where
    at : List Image → List PendingFrame → State
    at held pending = record s { core = record s.core { frames = record s.core.frames { pending = pending } }; cells = record s.cells { held = held } }

    by : (held : List Image) (pending : List PendingFrame) → (step (at held pending) (record e { call = ask.NextFrame })).1.reply.gives ≡ gives.Ended → (step (at held pending) (record e { call = ask.NextFrame })).1.shown ≡ None
    by [] [] told = refl
    by [] (f ∷ fs) told = absurd (cc told)
    by (i ∷ held) pending told = absurd (cc told)

shown_there : (m : Moment) (e : Entry) (before after : Lent) → after ≡ left_in (step m.state (record e { call = ask.NextFrame })).1.text (step m.state (record e { call = ask.NextFrame })).1.shown before
    → (step m.state (record e { call = ask.NextFrame })).1.reply.gives ≡ gives.Shown → (exchange_at m (record e { call = ask.NextFrame })).outcome.shown ≡ Some after.frame
unfolding exchange_at
shown_there m e before after is told = told_so m.state e before.frame told ∙ ap (λ (l : Lent). Some l.frame) (sym is)

none_there : (m : Moment) (e : Entry) (before after : Lent) → after ≡ left_in (step m.state (record e { call = ask.NextFrame })).1.text (step m.state (record e { call = ask.NextFrame })).1.shown before
    → (step m.state (record e { call = ask.NextFrame })).1.reply.gives ≡ gives.Ended → ((exchange_at m (record e { call = ask.NextFrame })).outcome.shown ≡ None) × (after.frame ≡ before.frame)
unfolding exchange_at
none_there m e before after is told = let none = none_so m.state e told in (none, ap (λ (l : Lent). l.frame) is ∙ ap (λ (o : Option Shown). shown_over o before.frame) none)

replies_so : (m : Moment) (e : Entry) (reply : Reply) → (step m.state e).1.reply ≡ reply → reply ≡ (exchange_at m e).outcome.reply
unfolding exchange_at
replies_so m e reply is = sym is

module _ (table : TableId) (old new : CompositorPass) (reply : Reply) (before after : Lent) (is : IsCompositor table old) (c : Composes table old ask.NextFrame before after reply new) where
  abbrev k : Know
  k = know_of old

  abbrev e : Entry
  e = entry_by k ask.NextFrame reply

  abbrev frame : Exchange
  frame = exchange_at (behind k c.called.look) e

  one_call : own_calls new ≡ own_calls old ++ frame ∷ []
  one_call = (seat_is old.seat.me new.seat.me ask.NextFrame reply before after is.rests.between c.called).calls

  knows_now : know_of new ≡ know_after k c.called.look e
  knows_now = knows_after old.seat.me new.seat.me ask.NextFrame reply before after is.rests.between c.called

  abbrev asked_for : AsksForFrame old frame
  asked_for = record {
    look = c.called.look;
    entry = e;
    saw = c.called.decides.saw;
    sees = c.called.decides.sees;
    asks = refl;
    is = refl;
  }

  held_now : length new.held.items ≡ length (seen_by (know_after k c.called.look e)).state.cells.held
  held_now = ap length c.is.held_is ∙ ap (λ (q : Know). length (seen_by q).state.cells.held) knows_now

  few_now : length new.held.items ≤ 48
  few_now = let few = few_held (with_apps k.apps) (c.called.look ++ e ∷ []) c.called.decides.sees.legal in omega (arith, held_now, few)

  told_frame : reply ≡ frame.outcome.reply
  told_frame = replies_so (behind k c.called.look) e reply c.called.replies

  pub room_to_give_back : old.calls < 2 ^ 62 → new.calls + length new.held.items < 2 ^ 63
  room_to_give_back few =
      let more = calls_more old.seat.me new.seat.me ask.NextFrame reply before after is.rests.between c.called in
      let counts = is.counts in
      let now = c.is.counts in
      omega (arith, few, more, counts, now, few_now)

  pub turned_shown : (last : CompositorPass) → reply.gives ≡ gives.Shown → GaveAllBack table new last → Turns table old before.frame after.frame (turned.Shown reply) last
  turned_shown last shown g = record {
    is = g.back.is;
    frame = frame;
    images = g.back.images;
    made = g.back.made ∙ (ap (λ (ts : List Exchange). ts ++ g.back.images) one_call ∙ append_assoc (own_calls old) (frame ∷ []) g.back.images);
    asks = asked_for;
    told = (told_frame, shown, shown_there (behind k c.called.look) e before after c.called.writes (ap (λ (r : Reply). r.gives) c.called.replies ∙ shown));
    returns = g.back.returns;
    each = let all = g.back.each in let none = ap length g.none_held in omega (arith, all, none, held_now);
    few = let all = g.back.each in omega (arith, all, few_now);
    at_end = tt;
    none_held = g.none_held;
    ended = g.back.unended ∙ sym (ap (λ (r : Reply). is_end r.gives) (sym told_frame) ∙ ap is_end shown);
  }

  none_at_end : reply.gives ≡ gives.Ended → length new.held.items ≡ 0
  none_at_end told = ap length c.is.held_is ∙ (ap (λ (q : Know). length (seen_by q).state.cells.held) knows_now ∙ (ap (λ (m : Moment). length m.state.cells.held) (moments_in_turn (opening_moment k.apps) c.called.look (e ∷ [])) ∙ ended_so (behind k c.called.look).state e (ap (λ (r : Reply). r.gives) c.called.replies ∙ told)))

  pub turned_ended : reply.gives ≡ gives.Ended → Turns table old before.frame after.frame (turned.Ended reply) new
  turned_ended told = record {
    is = c.is;
    frame = frame;
    images = [];
    made = one_call;
    asks = asked_for;
    told = let none = none_there (behind k c.called.look) e before after c.called.writes (ap (λ (r : Reply). r.gives) c.called.replies ∙ told) in (told_frame, told, none.0, none.1);
    returns = tt;
    each = sym (none_at_end told) ∙ held_now;
    few = omega arith;
    at_end = refl;
    none_held = none_left new.held.items (none_at_end told);
    ended = c.ended_is ∙ ap (λ (r : Reply). is_end r.gives) told_frame;
  }
