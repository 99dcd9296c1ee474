-- A call under the lock: what is taken, lent, noted or decided, and given back, put together.
use Rattle.std.proofs.Common.{Box, Global, ◌≡◌, ℕ, zero, suc, ℤ, ◌<◌, ◌≤ℤ◌, pos, ◌^◌, Bool, true, false, List, [], ◌∷◌, ◌++◌, sym, refl, ap, ◌∙◌, subst, Option, Some, None, true≢false}
use Rattle.xr_types.specs.declared.calls.Actor.{Actor}
use Rattle.xr_types.specs.declared.calls.Actor.TheVariants.{App, Compositor, Device}
use Rattle.xr_types.specs.declared.calls.Call.{Call}
use Rattle.xr_types.specs.declared.calls.Reply.{Reply}
use Rattle.xr_types.specs.declared.calls.Step.{Step}
use Rattle.xr_types.specs.declared.calls.Step.TheVariants.{Done, NotReady}
use Rattle.xr_types.specs.declared.frames.Image.{Image}
use Rattle.xr_types.specs.CallKinds.{publishes}
use Rattle.xr_types.specs.declared.code.Code.{Code}
use Rattle.xr_types.specs.declared.code.Code.TheVariants.{Success, CallOrderInvalid}
use Rattle.xr_model.specs.machine.CoreCalls as core
use Rattle.xr_model.specs.machine.CoreCalls.{Lent, asked, MayAsk, left_in}
use Rattle.xr_model.specs.machine.History.{StartsAt, clock_of}
use Rattle.xr_model.specs.machine.Machine.{IsPresent, step}
use Rattle.xr_model.specs.machine.Calls.{Entry, Exchange, Outcome}
use Rattle.xr_types.specs.declared.calls.Call.TheVariants as ask
use Rattle.xr_model.specs.machine.Rule.{is_by}
use Rattle.xr_model.specs.machine.State.{CoreState, State, WholeCore, opening_cells}
use Rattle.xr_model.specs.laws.FewCalls.{MayAdd}
use Rattle.xr_model.specs.laws.ImageLaws.{is_next_frame}
use Rattle.xr_model.specs.laws.Moments.{Moment, opening_moment, exchange_at, actor_at}
use Rattle.xr_model.proofs.Histories.{after_is_in_turn}
use Rattle.xr_model.specs.laws.ImageWords.{are_getters}
use Rattle.xr_model.specs.laws.PublicationLaws.{none_is_by}
use Rattle.xr_rule.proofs.Carrying.{getters_behind, moments_stay, held_seen}
use Rattle.xr_rule.proofs.Histories.{none-between}
use Rattle.xr_rule.proofs.Resting.{at_rest}
use Rattle.xr_rule.specs.declared.held.Held.{Held}
use Rattle.xr_rule.specs.Plays.{Decides, DecidesBehind, Publishes}
use Rattle.xr_rule.specs.Rule.{state_at}
use Rattle.xr_rule.specs.Seats.{holder, stands_in}
use Rattle.xr_rule.specs.View.{Know, Hold, View, Eyes, Keeps, number_in, calls_in, hold_from, know_after}
use Rattle.xr_lock.specs.Holders.{noted_entry, Taken, NotesCall, Noted, MayGive, Given}
use Rattle.xr_snap.specs.Publishing.{HasPublished}
use Rattle.xr_words.specs.Table.{wait_entry}
use Rattle.xr_words.specs.Lent.{own_entry, Prepares, Decided, Waits, Tells}
use Rattle.xr_runtime.specs.Calling.{Has, actor_of, behind, seen_by, HasRoom, MayMake, Called, Reads, Waited}
use Rattle.xr_runtime.specs.Lending.{MayLend, IsTold}
use Rattle.xr_runtime.specs.Settling.{keeps, MaySettle, SettlesBy, Settles}
use Rattle.xr_runtime.proofs.Going.{here_at_look, clock_at_look}

abbrev pub stands : List ℕ → Held WholeCore → CoreState → Type 0
stands = stands_in keeps

pub kept_is : (k : Know) (n : Has) (held : Held WholeCore) (taken : Taken stands k n held) → held.value.value.kept ≡ (state_at k taken.look).core
kept_is k n held taken = taken.stands_now.1 opening_cells

-- ---- what the core asks

pub may_make : (m n : Has) (held : Held WholeCore) (core2 : WholeCore) (who : Actor) (what : Call) (size : ℕ) → MayMake m who what size → Taken stands m.0.know n held → core2.kept ≡ held.value.value.kept → core.MayMake core2.kept who what size
may_make m n held core2 who what size may taken same = record {
  asks = may.asks;
  present = subst (λ (s : CoreState). IsPresent s who) (sym (same ∙ kept_is m.0.know n held taken))
      (subst (λ (a : Actor). IsPresent (behind m.0.know taken.look).state.core a) (sym may.is_own) (here_at_look m.0.know taken.look taken.sees (subst (λ (a : Actor). IsPresent (seen_by m.0.know).state.core a) may.is_own may.here)));
}

pub few_calls : (k : Know) (n : Has) (held : Held WholeCore) (core2 : WholeCore) → Taken stands k n held → core2.kept ≡ held.value.value.kept → core2.kept.locked < 2 ^ 44
few_calls k n held core2 taken same = subst (λ (s : CoreState). s.locked < 2 ^ 44) (sym (same ∙ kept_is k n held taken)) taken.sees.few

-- the request for a frame is answered as out of order only where images are held
asks_frame : (r : Call) → is_next_frame r ≡ true → r ≡ ask.NextFrame
asks_frame ask.NextFrame is = refl
asks_frame r is = absurd (true≢false (sym is))

pub asks_as_compositor : (who : Actor) (what : Call) → is_by (asked who what).caller who ≡ true → is_next_frame what ≡ true → who ≡ Compositor
asks_as_compositor Compositor what by asks = refl
asks_as_compositor (App k) ask.NextFrame by asks = absurd (true≢false (sym by))
asks_as_compositor (App k) what by asks = absurd (true≢false (sym asks))
asks_as_compositor Device ask.NextFrame by asks = absurd (true≢false (sym by))
asks_as_compositor Device what by asks = absurd (true≢false (sym asks))

-- a frame that is asked for publishes nothing
frames_publish_none : (r : Call) (c : Code) → is_next_frame r ≡ true → publishes r c ≡ false
frames_publish_none ask.NextFrame c is = refl
frames_publish_none r c is = absurd (true≢false (sym is))

only_one : (n : ℕ) → actor_at n ≡ Compositor → n ≡ 1
only_one zero is = absurd (cc is)
only_one (suc zero) is = refl
only_one (suc (suc n)) is = absurd (cc is)

frame_in_order : (s : State) (e : Entry) → s.cells.held ≡ [] → e.call ≡ ask.NextFrame → (step s e).1.reply.code ≡ Success
frame_in_order s e none asks = subst (λ (r : Call). (step s (record e { call = r })).1.reply.code ≡ Success) (sym asks) (by s.cells.held none)
  where
    by : (held : List Image) → held ≡ [] → (step (record s { cells = record s.cells { held = held } }) (record e { call = ask.NextFrame })).1.reply.code ≡ Success
    by [] is = refl
    by (x ∷ xs) is = absurd (cc is)

pub may_add : (n : ℕ) (m : Moment) (e : Entry) (calls : List Exchange) → HasRoom n calls → (is_next_frame e.call ≡ true → m.state.cells.held ≡ []) → MayAdd n m e calls
unfolding exchange_at
may_add (suc zero) m e calls room none = record { in_order = λ asks is. wrong_code (sym (frame_in_order m.state e (none asks) (asks_frame e.call asks)) ∙ is); unended = room }
  where
    wrong_code : Success ≡ CallOrderInvalid → ⊥
    wrong_code is = cc
may_add zero m e calls room none = room
may_add (suc (suc n)) m e calls room none = room

outcome_same : (m n : Moment) (e : Entry) → exchange_at m e ≡ exchange_at n e → (step m.state e).1 ≡ (step n.state e).1
unfolding exchange_at
outcome_same m n e same = ap (λ (x : Exchange). x.outcome) same

comes_to : (m : Moment) (e : Entry) (reply : Reply) → reply ≡ (step m.state e).1.reply → (exchange_at m e).outcome.reply ≡ reply
unfolding exchange_at
comes_to m e reply is = sym is

core_then : (k : Know) (look : List Entry) (e : Entry) → (state_at k (look ++ e ∷ [])).core ≡ (step (state_at k look) e).0.core
core_then k look e = ap (λ (s : State). s.core) (after_is_in_turn (opening_moment k.apps).state look (e ∷ []))

module _ (m n : Has) (held : Held WholeCore) (core2 : WholeCore) (who : Actor) (call : Call) (size : ℕ) (may : MayMake m who (call) size) (taken : Taken stands m.0.know n held) (same : core2.kept ≡ held.value.value.kept) where
  abbrev k : Know
  k = m.0.know

  abbrev what : Call
  what = call

  abbrev now : Moment
  now = behind k taken.look

  abbrev look_hold : Hold
  look_hold = hold_from taken.ticket taken.look

  abbrev its_eyes : Eyes
  its_eyes = Keeps taken.counts 0

  here : IsPresent (seen_by k).state.core (actor_of k)
  here = subst (λ (a : Actor). IsPresent (seen_by k).state.core a) may.is_own may.here

  starts : StartsAt (clock_of now.clocks (actor_of k)) what
  starts = subst (λ (c : ℤ). StartsAt c what) (sym (clock_at_look k taken.look taken.sees here)) (subst (λ (a : Actor). StartsAt (clock_of (seen_by k).clocks a) what) may.is_own may.starts)

  asks : MayAsk (actor_of k) what size
  asks = subst (λ (a : Actor). MayAsk a what size) may.is_own may.asks

  its_number : is_next_frame what ≡ true → number_in k.own ≡ 1
  its_number frame = only_one (number_in k.own) (asks_as_compositor (actor_of k) what asks.caller frame)

  none_held : is_next_frame what ≡ true → now.state.cells.held ≡ []
  none_held frame = held_seen k taken.look taken.sees (its_number frame) ∙ may.none_held frame

  pub may_lend : (is_next_frame what ≡ true → core2.held ≡ []) → MayLend n core2 who what
  may_lend settled = subst (λ (z : Has). MayLend z core2 who what) (sym taken.is) record {
    hold = look_hold;
    is = refl;
    unnoted = refl;
    unmade = refl;
    legal = taken.sees.legal;
    kept = same ∙ kept_is k n held taken;
    is_own = may.is_own;
    other = may.other;
    starts = starts;
    few = may_add (number_in k.own) now (wait_entry k what) (calls_in k.own) may.has_room none_held;
    frames = λ frame. (settled frame, none_held frame);
  }

  module _ (new : Held WholeCore) (as_many : new.counts ≡ held.counts) (p : Has) (before after : Lent) where
    counts_are : new.counts ≡ taken.counts
    counts_are = as_many ∙ taken.stands_now.0

    tells_of : (answer : Step) (decided : Bool) → IsTold n core2 what new.value.value before after answer decided p → Tells k look_hold its_eyes ((0, None) ∷ []) what new.value.value before after core2.kept answer decided p
    tells_of answer decided told = subst (λ (z : Has). IsTold z core2 what new.value.value before after answer decided p) taken.is told look_hold refl

    -- ---- it has to wait

    module _ (answer : Step) (decided : Bool) (told : IsTold n core2 what new.value.value before after answer decided p) (waits : answer ≡ NotReady) where
      waits_told : (decided ≡ false) × Waits k look_hold its_eyes ((0, None) ∷ []) what new.value.value before after core2.kept p
      waits_told = tells_of NotReady decided (subst (λ (z : Step). IsTold n core2 what new.value.value before after z decided p) waits told)

      pub give_waiting : MayGive stands p new
      give_waiting = subst (λ (z : Has). MayGive stands z new) (sym waits_told.1.same) record {
        hold = look_hold;
        counts = taken.counts;
        looked = 0;
        is = refl;
        publishes_none = tt;
        unmade = λ _. refl;
        stands_so = (counts_are, λ cells. waits_told.1.kept ∙ (same ∙ kept_is k n held taken));
      }

      pub gave_waiting : (w : Has) → Given p w → Waited m before after w
      gave_waiting w given =
          let g = subst (λ (z : Has). Given z w) waits_told.1.same given look_hold refl in
          record { same = (λ i. (g.1 i, g.0 i)) ∙ sym (at_rest m may.between); unwritten = waits_told.1.unwritten }

    module _ (reply : Reply) where
      abbrev e : Entry
      e = own_entry k what reply

      -- ---- it is noted

      module _ (prepared : Prepares k look_hold its_eyes ((0, None) ∷ []) what new.value.value before after reply p) where
        abbrev note_hold : Hold
        note_hold = record look_hold { made = prepared.made }

        abbrev noted_hold : Hold
        noted_hold = record look_hold { made = prepared.made; noted = Some e }

        pub note_so : NotesCall stands p new call reply
        note_so = subst (λ (z : Has). NotesCall stands z new call reply) (sym prepared.is) record {
          notes = record {
            hold = note_hold;
            is = refl;
            unnoted = refl;
            may = record {
              decides = record { by_own = refl; caller = asks.caller; numbers = asks.numbers; comes = record { allowed = prepared.answers.allowed; starts = starts; is_ready = prepared.answers.is_ready }; few = may_add (number_in k.own) now e (calls_in k.own) may.has_room none_held };
              returns_none = may.other;
              claims_none = prepared.claims_none;
              made_is = prepared.made_is;
            };
          };
          replies = comes_to now e reply prepared.answers.replies;
          counts = taken.counts;
          stands_next = (counts_are, λ cells. prepared.answers.leads ∙ sym (core_then k taken.look e));
        }

        keeps_noted : p.0.eyes ≡ Keeps new.counts 0
        keeps_noted = ap (λ (z : Has). z.0.eyes) prepared.is ∙ ap (λ (cs : List ℕ). Keeps cs 0) (sym counts_are)

        pub noted_is : (q : Has) → Noted p (noted_entry p.0.know call reply) q → q ≡ holder k noted_hold its_eyes
        noted_is q noted = subst (λ (z : Has). Noted z (noted_entry z.0.know call reply) q) prepared.is noted note_hold refl

        -- its reply is the noted entry's
        quiet : publishes call reply.code ≡ false → publishes what (step now.state e).1.reply.code ≡ false
        quiet is = subst (λ (r : Reply). publishes what r.code ≡ false) prepared.answers.replies is

        pub give_noted : (q : Has) (last : Held WholeCore) → last.value ≡ new.value → last.counts ≡ new.counts → publishes call reply.code ≡ false → Noted p (noted_entry p.0.know call reply) q → MayGive stands q last
        give_noted q last value_is as_counted none noted = subst (λ (z : Has). MayGive stands z last) (sym (noted_is q noted)) record {
          hold = noted_hold;
          counts = taken.counts;
          looked = 0;
          is = refl;
          publishes_none = quiet none;
          unmade = λ unnoted. absurd (some_is_none e unnoted);
          stands_so = (as_counted ∙ counts_are, λ cells. ap (λ (b : Box WholeCore Global). b.value.kept) value_is ∙ (prepared.answers.leads ∙ sym (core_then k taken.look e)));
        }
          where
            some_is_none : (x : Entry) → ◌≡◌ {A = Option Entry} (Some x) None → ⊥
            some_is_none x bad = cc

        -- where a frame was asked for, getters alone came between
        getters_came : (v : View) (d : DecidesBehind k taken.look e v) → is_next_frame what ≡ true → are_getters d.more ≡ true
        getters_came v d frame =
            let n : ℕ = number_in k.own in
            let none = none-between n (opening_moment k.apps) taken.look (taken.look ++ d.more) (d.more, refl) (taken.sees.own ∙ sym d.decides.saw.own) in
            getters_behind taken.look d.more d.decides.saw.by_callers d.free (subst (λ (z : ℕ). none_is_by (actor_at z) d.more ≡ true) (its_number frame) none)

        -- and the images that are held are those of the frame that was taken
        held_now : (v : View) (d : DecidesBehind k taken.look e v) → is_next_frame what ≡ true → new.value.value.held ≡ (seen_by v.know).state.cells.held
        held_now v d frame =
            let there : behind k (taken.look ++ d.more) ≡ now = moments_stay (opening_moment k.apps) taken.look d.more (getters_came v d frame) in
            prepared.holds frame
            ∙ (ap (λ (x : Moment). (step x.state e).0.cells.held) (sym there)
            ∙ (ap (λ (s : State). s.cells.held) (sym (after_is_in_turn (opening_moment k.apps).state (taken.look ++ d.more) (e ∷ []))) ∙ ap (λ (u : View). (seen_by u.know).state.cells.held) (sym d.decides.is)))

        pub called_noted : (q w : Has) (clock : ℤ) (images : List Image) → Noted p (noted_entry p.0.know call reply) q → Given q w → clock ≡ new.value.value.kept.device.clock → pos 0 ≤ℤ clock → (is_next_frame what ≡ true → images ≡ new.value.value.held)
            → Called m what reply before after w × Reads w.0.know what clock images
        called_noted q w clock images noted given clock_is begun images_are =
            let g = subst (λ (z : Has). Given z w) (noted_is q noted) given noted_hold refl in
            let d : DecidesBehind k taken.look e w.0 = g.1 in
            let there : Moment = behind k (taken.look ++ d.more) in
            let outcome : (step there.state e).1 ≡ (step now.state e).1 = outcome_same there now e d.same in (
              record {
                look = taken.look ++ d.more;
                decides = d.decides;
                carries = g.0;
                replies = ap (λ (o : Outcome). o.reply) outcome ∙ sym prepared.answers.replies;
                writes = subst (λ (o : Outcome). after ≡ left_in o.text o.shown before) (sym outcome) prepared.answers.writes;
              },
              record {
                clock_is = clock_is ∙ (ap (λ (s : CoreState). s.device.clock) (prepared.answers.leads ∙ sym (core_then k taken.look e) ∙ sym d.core) ∙ ap (λ (v : View). (seen_by v.know).state.core.device.clock) (sym d.decides.is));
                begun = begun;
                images_are = λ frame. images_are frame ∙ held_now w.0 d frame;
              },
            )

        -- ---- it publishes

        module _ (q u : Has) (last : Held WholeCore) (value_is : last.value ≡ new.value) (noted : Noted p (noted_entry p.0.know call reply) q) (published : HasPublished q u last.counts) where
          shown : (u.1 ≡ (0, None) ∷ []) × Publishes k noted_hold e last.counts u.0
          shown = subst (λ (z : Has). HasPublished z u last.counts) (noted_is q noted) published noted_hold e refl refl

          abbrev behind_look : List Entry
          behind_look = taken.look ++ shown.1.more

          abbrev kept_hold : Hold
          kept_hold = hold_from taken.ticket (behind_look ++ e ∷ [])

          u_is : u ≡ holder (know_after k behind_look e) kept_hold (Keeps last.counts 0)
          u_is = λ i. (shown.1.is i, shown.0 i)

          leads_there : new.value.value.kept ≡ (state_at k (behind_look ++ e ∷ [])).core
          leads_there = prepared.answers.leads ∙ sym (core_then k taken.look e) ∙ sym shown.1.core

          pub give_published : MayGive stands u last
          give_published = subst (λ (z : Has). MayGive stands z last) (sym u_is) record {
            hold = kept_hold;
            counts = last.counts;
            looked = 0;
            is = refl;
            publishes_none = tt;
            unmade = λ _. refl;
            stands_so = (refl, λ cells. ap (λ (b : Box WholeCore Global). b.value.kept) value_is ∙ leads_there);
          }

          pub called_published : (w : Has) (clock : ℤ) (images : List Image) → Given u w → clock ≡ new.value.value.kept.device.clock → pos 0 ≤ℤ clock → publishes call reply.code ≡ true → Called m what reply before after w × Reads w.0.know what clock images
          called_published w clock images given clock_is begun publishing =
              let g = subst (λ (z : Has). Given z w) u_is given kept_hold refl in
              let there : Moment = behind k behind_look in
              let outcome : (step there.state e).1 ≡ (step now.state e).1 = outcome_same there now e shown.1.same in (
                record {
                  look = behind_look;
                  decides = record { is = g.1; saw = shown.1.saw; sees = shown.1.sees };
                  carries = g.0;
                  replies = ap (λ (o : Outcome). o.reply) outcome ∙ sym prepared.answers.replies;
                  writes = subst (λ (o : Outcome). after ≡ left_in o.text o.shown before) (sym outcome) prepared.answers.writes;
                },
                record {
                  clock_is = clock_is ∙ (ap (λ (s : CoreState). s.device.clock) leads_there ∙ ap (λ (v : View). (seen_by v.know).state.core.device.clock) (sym g.1));
                  begun = begun;
                  images_are = λ frame. absurd (true≢false (sym publishing ∙ frames_publish_none what reply.code frame));
                },
              )

      -- ---- it was decided at a claim

      module _ (decided : Decided k look_hold its_eyes ((0, None) ∷ []) what new.value.value before after reply p) where
        abbrev x : Entry
        x = wait_entry k what

        abbrev there_look : List Entry
        there_look = taken.look ++ decided.decides.more

        abbrev k_then : Know
        k_then = know_after k there_look x

        leads : new.value.value.kept ≡ (state_at k (there_look ++ x ∷ [])).core
        leads = decided.answers.leads ∙ (ap (λ (y : Entry). (step (state_at k there_look) y).0.core) decided.is_wait ∙ sym (core_then k there_look x))

        pub give_decided : (last : Held WholeCore) → last.value ≡ new.value → last.counts ≡ new.counts → MayGive stands p last
        give_decided last value_is as_counted = subst (λ (z : Has). MayGive stands z last) (sym decided.decides.is) record {
          hold = hold_from taken.ticket (there_look ++ x ∷ []);
          counts = taken.counts;
          looked = 0;
          is = refl;
          publishes_none = tt;
          unmade = λ _. refl;
          stands_so = (as_counted ∙ counts_are, λ cells. ap (λ (b : Box WholeCore Global). b.value.kept) value_is ∙ leads);
        }

        keeps_decided : p.0.eyes ≡ Keeps new.counts 0
        keeps_decided = ap (λ (z : Has). z.0.eyes) decided.decides.is ∙ ap (λ (cs : List ℕ). Keeps cs 0) (sym counts_are)

        pub called_decided : (w : Has) (clock : ℤ) (images : List Image) → Given p w → clock ≡ new.value.value.kept.device.clock → pos 0 ≤ℤ clock → Called m what reply before after w × Reads w.0.know what clock images
        called_decided w clock images given clock_is begun =
            let g = subst (λ (z : Has). Given z w) decided.decides.is given (hold_from taken.ticket (there_look ++ x ∷ [])) refl in (
              record {
                look = there_look;
                decides = subst (λ (y : Entry). Decides k there_look y w.0) (sym decided.is_wait) record { is = g.1; saw = decided.decides.saw; sees = decided.decides.sees };
                carries = g.0;
                replies = sym decided.answers.replies;
                writes = decided.answers.writes;
              },
              record { clock_is = clock_is ∙ (ap (λ (s : CoreState). s.device.clock) leads ∙ ap (λ (v : View). (seen_by v.know).state.core.device.clock) (sym g.1)); begun = begun; images_are = λ frame. absurd (true≢false (sym frame ∙ decided.no_frame)) },
            )

    -- ---- whichever it was

    module _ (answer : Step) (decided : Bool) (reply : Reply) (told : IsTold n core2 what new.value.value before after answer decided p) (is : answer ≡ Done reply) where
      done_told : (b : Bool) → decided ≡ b → Tells k look_hold its_eyes ((0, None) ∷ []) what new.value.value before after core2.kept (Done reply) b p
      done_told b so = tells_of (Done reply) b (subst (λ (z : Step × Bool). IsTold n core2 what new.value.value before after z.0 z.1 p) (λ i. (is i, so i)) told)

      pub settle_done : MaySettle stands p new call reply decided
      settle_done = record { keeps = by decided refl; notes = λ undecided. note_so reply (done_told false undecided) }
        where
          by : (b : Bool) → decided ≡ b → p.0.eyes ≡ Keeps new.counts 0
          by false so = keeps_noted reply (done_told false so)
          by true so = keeps_decided reply (done_told true so)

      -- the seat noted the entry, published behind it, or had it decided and is as it was
      module _ (q : Has) (last : Held WholeCore) (value_is : last.value ≡ new.value) where
        abbrev Settled : Bool → Bool → Type 0
        Settled b c = SettlesBy b c p new.counts call reply q last.counts

        give_by : (b c : Bool) → decided ≡ b → publishes call reply.code ≡ c → Settled b c → MayGive stands q last
        give_by false false so is s = give_noted reply (done_told false so) q last value_is s.1 is s.0
        give_by false true so is s = give_published reply (done_told false so) s.0 q last value_is s.1 s.2
        give_by true c so is s = subst (λ (z : Has). MayGive stands z last) (sym s.0) (give_decided reply (done_told true so) last value_is s.1)

        called_by : (w : Has) (clock : ℤ) (images : List Image) → Given q w → clock ≡ new.value.value.kept.device.clock → pos 0 ≤ℤ clock → (is_next_frame what ≡ true → images ≡ new.value.value.held) → (b c : Bool) → decided ≡ b → publishes call reply.code ≡ c → Settled b c
            → Called m what reply before after w × Reads w.0.know what clock images
        called_by w clock images given clock_is begun images_are false false so is s = called_noted reply (done_told false so) q w clock images s.0 given clock_is begun images_are
        called_by w clock images given clock_is begun images_are false true so is s = called_published reply (done_told false so) s.0 q last value_is s.1 s.2 w clock images given clock_is begun is
        called_by w clock images given clock_is begun images_are true c so is s = called_decided reply (done_told true so) w clock images (subst (λ (z : Has). Given z w) s.0 given) clock_is begun

        module _ (settled : Settles decided p new.counts call reply q last.counts) where
          pub give_done : MayGive stands q last
          give_done = give_by decided (publishes call reply.code) refl refl settled

          pub called_done : (w : Has) (clock : ℤ) (images : List Image) → Given q w → clock ≡ new.value.value.kept.device.clock → pos 0 ≤ℤ clock → (is_next_frame what ≡ true → images ≡ new.value.value.held) → Called m what reply before after w × Reads w.0.know what clock images
          called_done w clock images given clock_is begun images_are = called_by w clock images given clock_is begun images_are decided (publishes call reply.code) refl refl settled
