-- A pass keeps its promise over each of its calls.
use Rattle.std.proofs.Common.{◌≡◌, ◌&&◌, not, ◌-◌, ◌+◌, ◌<◌, ◌^◌, ◌≤ℤ◌, ℕ, ℤ, pos, Bool, true, false, List, [], ◌∷◌, ◌++◌, length, sym, refl, ap, ◌∙◌, subst, Option, arith, length-append}
use Rattle.atomic_table.specs.Seated.{TableId}
use Rattle.std.specs.Prelude.{unwrap_or, if◌then◌else◌}
use Rattle.std.proofs.lemmas.List.{length-set, length-replicate}
use Rattle.xr_types.specs.declared.calls.Actor.{Actor}
use Rattle.xr_types.specs.declared.calls.Actor.TheVariants.{App, Compositor, Device}
use Rattle.xr_types.specs.declared.calls.Reply.{Reply}
use Rattle.xr_types.specs.declared.frames.Image.{Image}
use Rattle.xr_model.specs.machine.CoreCalls.{Lent, MayAsk}
use Rattle.xr_model.specs.machine.History.{after, clock_of, with_clock, clocks_after, opening_clocks, StartsAt}
use Rattle.xr_model.specs.machine.Machine.{IsPresent, step}
use Rattle.xr_types.specs.CallKinds.{is_locked, is_leave}
use Rattle.xr_model.specs.machine.Calls.{Entry, Exchange, is_actor}
use Rattle.xr_types.specs.declared.calls.Call.{Call}
use Rattle.xr_types.specs.declared.calls.Call.TheVariants as ask
use Rattle.xr_model.specs.machine.State.{State, opening, with_apps}
use Rattle.xr_model.specs.laws.FewCalls.{how_many, is_end, tells_end}
use Rattle.xr_model.specs.laws.DecidedEntries.{is_image_done}
use Rattle.xr_model.specs.laws.Moments.{Moment, opening_moment, moment_after, clocks_over, IsLegalAt, exchange_at, actor_at}
use Rattle.xr_model.specs.laws.MomentLaws.{leaves_by_none}
use Rattle.xr_model.proofs.MarkValues.{set_there}
use Rattle.xr_model.proofs.OthersEntries.{actors_stay}
use Rattle.xr_rule.specs.Seats.{IsBetween}
use Rattle.xr_rule.specs.View.{Own, Know, View, number_in, calls_in, with_call, know_after}
use Rattle.xr_rule.proofs.Carrying.{moments_in_turn, held_seen}
use Rattle.xr_runtime.specs.Calling.{Has, actor_of, behind, seen_by, entry_by, HasRoom, MayMake, Called, Reads}
use Rattle.xr_runtime.specs.Passes.{MayCall, AppCalls, IsCompositor, Composes, IsDevice, Tells}
use Rattle.xr_runtime.specs.declared.passes.AppPass.{AppPass}
use Rattle.xr_runtime.specs.declared.passes.CompositorPass.{CompositorPass}
use Rattle.xr_runtime.specs.declared.passes.DevicePass.{DevicePass}
use Rattle.xr_runtime.proofs.Making.{asks_as_compositor}
use Rattle.xr_runtime.proofs.Going.{here_at_look, clock_at_look, rest_is_legal}

-- ---- what a call makes of a seat

pub record OneMore (x : Exchange) (os ps : List Own) : Type 0 where
  pub number : number_in ps ≡ number_in os
  pub calls : calls_in ps ≡ calls_in os ++ x ∷ []
  pub parts : length ps ≡ length os

one_more : (x : Exchange) (os : List Own) → 0 < length os → OneMore x os (with_call x os)
one_more x [] some = absurd (omega arith)
one_more x (o ∷ os) some = record { number = refl; calls = refl; parts = refl }

module _ (m n : Has) (what : Call) (reply : Reply) (before after : Lent) (between : IsBetween m) (c : Called m what reply before after n) where
  abbrev k : Know
  k = m.0.know

  abbrev e : Entry
  e = entry_by k what reply

  pub knows_after : n.0.know ≡ know_after k c.look e
  knows_after = ap (λ (v : View). v.know) c.decides.is

  -- its numbers are as they were, and its own has one call more
  pub seat_is : OneMore (exchange_at (behind k c.look) e) k.own n.0.know.own
  seat_is = subst (λ (q : Know). OneMore (exchange_at (behind k c.look) e) k.own q.own) (sym knows_after) (one_more (exchange_at (behind k c.look) e) k.own between.numbered)

  pub rests_after : IsBetween n
  rests_after = record { idle = ap (λ (v : View). v.turn) c.decides.is; carries = c.carries; sees_none = ap (λ (v : View). v.eyes) c.decides.is; numbered = let parts = seat_is.parts in let some = between.numbered in omega (arith, parts, some) }

  pub actor_stays : actor_of n.0.know ≡ actor_of k
  actor_stays = ap actor_at seat_is.number

  pub calls_more : length (calls_in n.0.know.own) ≡ length (calls_in k.own) + 1
  calls_more = ap length seat_is.calls ∙ length-append (calls_in k.own) (exchange_at (behind k c.look) e ∷ [])

  pub seen_after : seen_by n.0.know ≡ moment_after (behind k c.look) (e ∷ [])
  seen_after = ap seen_by knows_after ∙ moments_in_turn (opening_moment k.apps) c.look (e ∷ [])

-- ---- an application is there, and its clock

-- clocks are as many as applications
as_many : (s : State) (clocks : List ℤ) (es : List Entry) → length (clocks_over s clocks es) ≡ length clocks
as_many s clocks [] = refl
as_many s clocks (e ∷ es) = as_many (step s e).0 (clocks_after clocks e (step s e).0) es ∙ kept (is_locked e.call) e.actor
  where
    kept : (b : Bool) (who : Actor) → length (if b then with_clock clocks who (step s e).0.core.device.clock else clocks) ≡ length clocks
    kept false who = refl
    kept true (App k) = length-set clocks (k - 1) (step s e).0.core.device.clock
    kept true Compositor = refl
    kept true Device = refl

same_apps : (s : State) (es : List Entry) → (after s es).core.apps ≡ s.core.apps
same_apps s [] = refl
same_apps s (e ∷ es) = same_apps (step s e).0 es

-- an application that is there has a clock
has_clock : (k : Know) (es : List Entry) (app : ℕ) → IsPresent (behind k es).state.core (App app) → app - 1 < length (behind k es).clocks
has_clock k es app there =
    let some = there.0 in let most = there.1 in let apps = same_apps (opening (with_apps k.apps)) es in
    let many = as_many (opening (with_apps k.apps)) (opening_clocks (with_apps k.apps)) es in let first = length-replicate k.apps (pos 0) in omega (arith, some, most, apps, many, first)

-- behind a call of its own an application's clock is the device's, where the call is counted
clock_next : (clocks : List ℤ) (app : ℕ) (time : ℤ) (b : Bool) → app - 1 < length clocks → clock_of (if b then with_clock clocks (App app) time else clocks) (App app) ≡ (if b then time else clock_of clocks (App app))
clock_next clocks app time true within = ap (λ (o : Option ℤ). unwrap_or o (pos 0)) (set_there clocks (app - 1) time within)
clock_next clocks app time false within = refl

-- an entry that doesn't say so lets its actor stay
and_false : (a b : Bool) → b ≡ false → not (a && b) ≡ true
and_false true b is = rw is refl
and_false false b is = refl

stays_by : (who : Actor) (e : Entry) → is_leave e.call ≡ false → leaves_by_none who (e ∷ []) ≡ true
stays_by who e is = rw (and_false (is_actor who e.actor) (is_leave e.call) is) refl

begun_still : (b : Bool) (clock old : ℤ) → pos 0 ≤ℤ clock → pos 0 ≤ℤ old → pos 0 ≤ℤ (if b then clock else old)
begun_still true clock old now before = now
begun_still false clock old now before = before

module _ (table : TableId) (old new : AppPass) (what : Call) (reply : Reply) (before after : Lent) (may : MayCall table old) (c : Called old.seat.me what reply before after new.seat.me) where
  abbrev m : Has
  m = old.seat.me

  abbrev n : Has
  n = new.seat.me

  abbrev o : Know
  o = old.seat.me.0.know

  abbrev now : Moment
  now = behind o c.look

  abbrev made : Entry
  made = entry_by o what reply

  abbrev between : IsBetween m
  between = may.is.rests.between

  there_before : IsPresent (seen_by o).state.core (actor_of o)
  there_before = subst (λ (a : Actor). IsPresent (seen_by o).state.core a) (sym may.is.is_own) (may.is.here may.here)

  there_now : IsPresent now.state.core (actor_of o)
  there_now = here_at_look o c.look c.decides.saw there_before

  is_seen : seen_by n.0.know ≡ moment_after now (made ∷ [])
  is_seen = seen_after m n what reply before after between c

  stays_there : is_leave what ≡ false → IsPresent (seen_by n.0.know).state.core (App old.app)
  stays_there stays =
      let next = actors_stay now (made ∷ []) (actor_of o) (rest_is_legal (opening_moment o.apps) c.look (made ∷ []) c.decides.sees.legal) (stays_by (actor_of o) made stays) there_now in
      subst (λ (z : Moment × Actor). IsPresent z.0.state.core z.1) (λ i. (sym is_seen i, may.is.is_own i)) next

  clock_now : clock_of now.clocks (App old.app) ≡ old.clock
  clock_now = ap (clock_of now.clocks) (sym may.is.is_own) ∙ (clock_at_look o c.look c.decides.saw there_before ∙ (ap (clock_of (seen_by o).clocks) may.is.is_own ∙ sym may.is.clock_is))

  has_place : old.app - 1 < length now.clocks
  has_place = has_clock o c.look old.app (subst (λ (a : Actor). IsPresent now.state.core a) may.is.is_own there_now)

  abbrev time : ℤ
  time = (step now.state made).0.core.device.clock

  clock_here : clock_of (moment_after now (made ∷ [])).clocks (App old.app) ≡ (if is_locked what then time else clock_of now.clocks (App old.app))
  clock_here =
      subst (λ (a : Actor). clock_of (if is_locked what then with_clock now.clocks a time else now.clocks) (App old.app) ≡ (if is_locked what then time else clock_of now.clocks (App old.app)))
      (sym may.is.is_own)
      (clock_next now.clocks old.app time (is_locked what) has_place)

  clock_after : (clock : ℤ) (images : List Image) → Reads n.0.know what clock images → (if is_locked what then clock else old.clock) ≡ clock_of (seen_by n.0.know).clocks (App old.app)
  clock_after clock images r =
      let is : clock ≡ time = r.clock_is ∙ ap (λ (z : Moment). z.state.core.device.clock) is_seen in
      sym (ap (λ (z : Moment). clock_of z.clocks (App old.app)) is_seen ∙ (clock_here ∙ (λ i. if is_locked what then sym is i else clock_now i)))

  app_goes_on : new.seat.table_id ≡ old.seat.table_id → new.app ≡ old.app → new.calls ≡ old.calls + 1 → new.left ≡ is_leave what → new.clock ≡ clock_of (seen_by n.0.know).clocks (App old.app) → pos 0 ≤ℤ new.clock → AppCalls table old what before after reply new
  app_goes_on id app_is calls_are left_is clock_is begun =
      let more = seat_is m n what reply before after between c in record {
        is = record {
          rests = record { own = id ∙ may.is.rests.own; between = rests_after m n what reply before after between c; alone = more.parts ∙ may.is.rests.alone };
          is_own = actor_stays m n what reply before after between c ∙ (may.is.is_own ∙ ap App (sym app_is));
          here = λ stays. subst (λ (k : ℕ). IsPresent (seen_by n.0.know).state.core (App k)) (sym app_is) (stays_there (sym left_is ∙ stays));
          clock_is = clock_is ∙ ap (λ (k : ℕ). clock_of (seen_by n.0.know).clocks (App k)) (sym app_is);
          begun = begun;
          counts = calls_are ∙ (ap (λ (z : ℕ). z + 1) may.is.counts ∙ sym (calls_more m n what reply before after between c));
        };
        same = app_is;
        counted = calls_are;
        left_is = left_is;
        called = c;
      }

  pub app_called : (clock : ℤ) (images : List Image) → new.seat.table_id ≡ old.seat.table_id → Reads n.0.know what clock images → new.app ≡ old.app → new.calls ≡ old.calls + 1 → new.left ≡ is_leave what
      → new.clock ≡ (if is_locked what then clock else old.clock) → AppCalls table old what before after reply new
  app_called clock images id r app_is calls_are left_is clock_is =
      app_goes_on id app_is calls_are left_is (clock_is ∙ clock_after clock images r) (subst (λ (z : ℤ). pos 0 ≤ℤ z) (sym clock_is) (begun_still (is_locked what) clock old.clock r.begun may.is.begun))

  -- a call that isn't counted leaves the clock
  clock_stays : is_locked what ≡ false → old.clock ≡ clock_of (seen_by n.0.know).clocks (App old.app)
  clock_stays free = sym (ap (λ (z : Moment). clock_of z.clocks (App old.app)) is_seen ∙ (clock_here ∙ (ap (λ (b : Bool). if b then time else clock_of now.clocks (App old.app)) free ∙ clock_now)))

  pub app_read : new.seat.table_id ≡ old.seat.table_id → new.app ≡ old.app → new.calls ≡ old.calls + 1 → new.left ≡ is_leave what → is_locked what ≡ false → new.clock ≡ old.clock → AppCalls table old what before after reply new
  app_read id app_is calls_are left_is free clock_is = app_goes_on id app_is calls_are left_is (clock_is ∙ clock_stays free) (subst (λ (z : ℤ). pos 0 ≤ℤ z) (sym clock_is) may.is.begun)

-- ---- the compositor and the device

no_device : Device ≡ Compositor → ⊥
no_device is = cc

pub may_ask_frame : (table : TableId) (p : CompositorPass) (size : ℕ) → IsCompositor table p → p.ended ≡ false → p.held.items ≡ [] → MayMake p.seat.me Compositor ask.NextFrame size
may_ask_frame table p size is unended none_held = record {
  between = is.rests.between;
  is_own = sym (ap actor_at is.is_own);
  here = tt;
  asks = record { caller = refl; numbers = refl; buffer = tt };
  starts = tt;
  has_room = subst (λ (n : ℕ). HasRoom n (calls_in p.seat.me.0.know.own)) (sym is.is_own) (is.unended unended);
  other = refl;
  none_held = λ asks_it. sym is.held_is ∙ none_held;
}

pub may_tell : (table : TableId) (p : DevicePass) (what : Call) (size : ℕ) → IsDevice table p → p.calls < 2 ^ 40 → MayAsk Device what size → StartsAt (pos 0) what → is_image_done what ≡ false → MayMake p.seat.me Device what size
may_tell table p what size is few asks starts other = record {
  between = is.rests.between;
  is_own = sym (ap actor_at is.is_own);
  here = tt;
  asks = asks;
  starts = starts;
  has_room = subst (λ (n : ℕ). HasRoom n (calls_in p.seat.me.0.know.own)) (sym is.is_own) (subst (λ (n : ℕ). n < 2 ^ 40) is.counts few);
  other = other;
  none_held = λ asks_it. absurd (no_device (asks_as_compositor Device what asks.caller asks_it));
}

how_many_more : (xs : List Exchange) (x : Exchange) → tells_end x ≡ false → how_many tells_end (xs ++ x ∷ []) ≡ how_many tells_end xs
how_many_more [] x untold = rw untold refl
how_many_more (y ∷ ys) x untold = ap (λ (n : ℕ). if tells_end y then n + 1 else n) (how_many_more ys x untold)

module _ (table : TableId) (old new : CompositorPass) (what : Call) (reply : Reply) (before after : Lent) (is : IsCompositor table old) (c : Called old.seat.me what reply before after new.seat.me) where
  not_told : is_end reply.gives ≡ false → tells_end (exchange_at (behind old.seat.me.0.know c.look) (entry_by old.seat.me.0.know what reply)) ≡ false
  unfolding exchange_at
  not_told untold = ap (λ (r : Reply). is_end r.gives) c.replies ∙ untold

  -- whichever images it is told are held behind the call
  pub composed : new.seat.table_id ≡ old.seat.table_id → new.held.items ≡ (seen_by new.seat.me.0.know).state.cells.held → new.calls ≡ old.calls + 1 → old.ended ≡ false → new.ended ≡ is_end reply.gives → Composes table old what before after reply new
  composed id held_is calls_are unended ended_is =
      let between = is.rests.between in
      let more = seat_is old.seat.me new.seat.me what reply before after between c in record {
        is = record {
          rests = record { own = id ∙ is.rests.own; between = rests_after old.seat.me new.seat.me what reply before after between c; alone = more.parts ∙ is.rests.alone };
          is_own = more.number ∙ is.is_own;
          legal = subst (λ (k : Know). IsLegalAt (opening_moment k.apps) k.seen) (sym (knows_after old.seat.me new.seat.me what reply before after between c)) c.decides.sees.legal;
          held_is = held_is;
          counts = calls_are ∙ (ap (λ (z : ℕ). z + 1) is.counts ∙ sym (calls_more old.seat.me new.seat.me what reply before after between c));
          unended = λ untold. ap (how_many tells_end) more.calls ∙ (how_many_more (calls_in old.seat.me.0.know.own) (exchange_at (behind old.seat.me.0.know c.look) (entry_by old.seat.me.0.know what reply)) (not_told (sym ended_is ∙ untold)) ∙ is.unended unended);
        };
        ended_is = ended_is;
        called = c;
        held_before = is.held_is ∙ sym (held_seen old.seat.me.0.know c.look c.decides.saw is.is_own);
      }

pub told : (table : TableId) (old new : DevicePass) (what : Call) (reply : Reply) (before after : Lent) → IsDevice table old → Called old.seat.me what reply before after new.seat.me → new.seat.table_id ≡ old.seat.table_id → new.calls ≡ old.calls + 1
    → Tells table old what reply new
told table old new what reply before after is c id calls_are =
    let between = is.rests.between in
    let more = seat_is old.seat.me new.seat.me what reply before after between c in record {
      is = record {
        rests = record { own = id ∙ is.rests.own; between = rests_after old.seat.me new.seat.me what reply before after between c; alone = more.parts ∙ is.rests.alone };
        is_own = more.number ∙ is.is_own;
        counts = calls_are ∙ (ap (λ (z : ℕ). z + 1) is.counts ∙ sym (calls_more old.seat.me new.seat.me what reply before after between c));
      };
      before = before;
      after = after;
      called = c;
    }
