-- Draws, looks and notes keep the rule, and tell what they tell.
use Rattle.std.proofs.Common.{◌≡◌, ℕ, ◌+◌, ◌%◌, ◌^◌, ◌<◌, ◌≤◌, ◌≢◌, false, List, [], ◌∷◌, map, length, get_or, set, sym, refl, ap, ◌∙◌, subst, ⊎_elim, arith, Option, Some, length-set, get_or-set_same, get_or-set_other, true≢false, append-nil}
use mathlib.Core.Logic.{dite}
use mathlib.Core.Option.{Option as Home, some, none}
use mathlib.Core.List.{IsPrefix}
use native.Mathlib.Decide.{ℕ_discrete}
use lib.ListN.{get_elem?}
use lib.Seq.{set-get_or, map-set}
use Rattle.atomic_table.specs.Table.{State as Table, Me, step, keeps, takes, Allows}
use Rattle.atomic_table.proofs.Lists.{at_set, at_map, set_again, set_here, set_else}
use Rattle.xr_model.specs.machine.History.{after}
use Rattle.xr_model.specs.machine.Calls.{Entry}
use Rattle.xr_model.specs.machine.CellCalls.{CellCall}
use Rattle.xr_model.specs.machine.State.{CoreState, State, with_apps, opening}
use Rattle.xr_model.specs.laws.Moments.{opening_moment, moment_after, IsLegalAt, calls_by}
use Rattle.xr_rule.specs.Sums.{total}
use Rattle.xr_rule.specs.Shows.{front_of, reads_some, is_writing, Shows}
use Rattle.xr_rule.specs.View.{Own, Know, Hold, Turn, View, Eyes, Idle, Waiting, Holding, Out, Keeps, sight, view, hold_from, know_of, turn_of, eyes_of, number_in, calls_in, parts, out, has_ticket, is_holder}
use Rattle.xr_rule.specs.Rule.{Knows, OneHistory, Tickets, Grew, Holds, HoldsIf, SlotStands, image_word, stamp_word, WordsSay, WordsSayIf, ImageWords, MayNote, HoldFits, Fits, published_words, FollowsRule, front_word, word_count}
use Rattle.xr_rule.specs.Plays.{Sees, Draws, Looks, Notes}
use Rattle.xr_rule.proofs.Sums.{at_in, at_one, at_unmap, totals_le, total-map}
use Rattle.xr_rule.proofs.Histories.{none-between}
use Rattle.xr_rule.proofs.Counts.{locked_fit}
use Rattle.xr_rule.proofs.Readers.{app_parts, all_numbers_are, first_is_one}
use Rattle.xr_rule.proofs.Showing.{searched_none, shows_on}
use Rattle.xr_rule.proofs.Turning.{yes_ticket, turns_keep, turns_draw, is_served, one_ticket}

abbrev pub knows : {S : Type 0} → Table (Option S) View → List Know
knows s = map know_of s.views

abbrev pub turns : {S : Type 0} → Table (Option S) View → List Turn
turns s = map turn_of s.views

abbrev pub eyes : {S : Type 0} → Table (Option S) View → List Eyes
eyes s = map eyes_of s.views

-- ---- what a seat is told

pub own_calls : (key : ℕ) (log : List Entry) (os : List Own) → ((i : ℕ) (o : Own) → get_elem? os i ≡ some o → calls_by o.number (opening_moment key) log ≡ o.calls) → 0 < length os → calls_by (number_in os) (opening_moment key) log ≡ calls_in os
own_calls key log [] h l = absurd (omega arith)
own_calls key log (o ∷ os) h l = h 0 o refl

pub apps_of : (key : ℕ) (log : List Entry) (k : Know) → Knows key log k → 0 < length k.own → k.apps ≡ key
apps_of key log k known some_own = ⊎_elim (λ (z : k.own ≡ []). absurd (omega (arith, ap length z))) (λ (z : k.apps ≡ key). z) known.apps_are

pub sees : (key : ℕ) (log : List Entry) (ks : List Know) (id : ℕ) (k : Know) → key ≤ 8 → OneHistory key log ks → get_elem? ks id ≡ some k → 0 < length k.own → Sees k log
sees key log ks id k few t at some_own =
    let known = t.each id k at in
    let apps : k.apps ≡ key = apps_of key log k known some_own in
    let n : ℕ = number_in k.own in
    let now : calls_by n (opening_moment k.apps) log ≡ calls_in k.own = ap (λ a. calls_by n (opening_moment a) log) apps ∙ own_calls key log k.own known.own_all some_own in
    let earlier : calls_by n (opening_moment k.apps) k.seen ≡ calls_in k.own = ap (λ a. calls_by n (opening_moment a) k.seen) apps ∙ own_calls key k.seen k.own known.own_seen some_own in
    record {
      more = known.begins.0;
      is = known.begins.1;
      none_own = none-between n (opening_moment k.apps) k.seen log known.begins (earlier ∙ sym now);
      legal = subst (λ a. IsLegalAt (opening_moment a) log) (sym apps) t.legal;
      by_callers = t.by_callers;
      own = now;
      own_seen = earlier;
      few = subst (λ a. (after (opening (with_apps a)) log).core.locked < 2 ^ 44) (sym apps) (locked_fit key log ks few t);
    }

-- ---- holders

holders_alone : (log : List Entry) (served : ℕ) (u : Turn) → HoldsIf log served u → ¬ (has_ticket served u ≡ 1) → is_holder u ≡ false
holders_alone log served Idle k not = refl
holders_alone log served (Waiting t) k not = refl
holders_alone log served (Holding h) k not = absurd (not (yes_ticket h.ticket served k.is_served))

pub holds_aside : (log : List Entry) (served : ℕ) (u : Turn) → is_holder u ≡ false → HoldsIf log served u
holds_aside log served Idle h = tt
holds_aside log served (Waiting t) h = tt
holds_aside log served (Holding x) h = absurd (true≢false h)

pub says_aside : (st : State) (ws : List ℕ) (u : Turn) → is_holder u ≡ false → WordsSayIf st ws u
says_aside st ws Idle h = tt
says_aside st ws (Waiting t) h = tt
says_aside st ws (Holding x) h = absurd (true≢false h)

-- ---- words of images

-- the two words of tickets are no image's
pub words_else : (st : State) (made : List CellCall) (ws : List ℕ) (n v : ℕ) → n < 2 → WordsSay st made ws → WordsSay st made (set ws n v)
words_else st made ws n v low w = record {
  image = λ i placed. get_or-set_other ws n (image_word i) v 0 (λ e. omega (arith, low, e)) ∙ w.image i placed;
  stamp = λ i placed. get_or-set_other ws n (stamp_word i) v 0 (λ e. omega (arith, low, e)) ∙ w.stamp i placed;
}

says_else : (st : State) (ws : List ℕ) (n v : ℕ) (u : Turn) → n < 2 → WordsSayIf st ws u → WordsSayIf st (set ws n v) u
says_else st ws n v Idle low w = tt
says_else st ws n v (Waiting t) low w = tt
says_else st ws n v (Holding h) low w = words_else st h.made ws n v low w

-- where a seat that holds nothing goes on holding nothing, nobody holds afterwards where nobody did before
pub none_before : (us : List Turn) (id : ℕ) (u w : Turn) → get_elem? us id ≡ some u → is_holder u ≡ false → ((j : ℕ) (x : Turn) → get_elem? (set us id w) j ≡ some x → is_holder x ≡ false) → (j : ℕ) (x : Turn) → get_elem? us j ≡ some x → is_holder x ≡ false
none_before us id u w at was none_holds j x e = dite (ℕ_discrete j id)
    (λ z. ap is_holder (sym (at_one us id u x at (subst (λ (i : ℕ). get_elem? us i ≡ some x) z e))) ∙ was)
    (λ nz. none_holds j x (set_else us id j w nz ∙ e))

-- the images after a step on another word of a seat that neither had nor gets the slot
pub images_aside : (st : State) (ws : List ℕ) (n v : ℕ) (us : List Turn) (id : ℕ) (u w : Turn) → n < 2 → ImageWords st ws us → get_elem? us id ≡ some u → is_holder u ≡ false → is_holder w ≡ false → ImageWords st (set ws n v) (set us id w)
images_aside st ws n v us id u w low i at was now = record {
  held = λ j x e. ⊎_elim (λ (q : (j ≡ id) × (w ≡ x)). subst (WordsSayIf st (set ws n v)) q.1 (says_aside st (set ws n v) w now)) (λ (q : (j ≢ id) × (get_elem? us j ≡ some x)). says_else st ws n v x low (i.held j x q.1)) (at_set us id j w x e);
  free = λ none_holds. words_else st [] ws n v low (i.free (none_before us id u w at was none_holds));
}

module _ (us : List Turn) (id : ℕ) (nobody : (j : ℕ) (x : Turn) → j ≢ id → get_elem? us j ≡ some x → is_holder x ≡ false) where
  -- the images while one seat holds
  pub images_holding : (st : State) (ws : List ℕ) (u : Turn) (h : Hold) → get_elem? us id ≡ some u → WordsSay st h.made ws → ImageWords st ws (set us id (Holding h))
  images_holding st ws u h at w = record {
    held = λ j x e. ⊎_elim (λ (q : (j ≡ id) × (Holding h ≡ x)). subst (WordsSayIf st ws) q.1 w) (λ (q : (j ≢ id) × (get_elem? us j ≡ some x)). says_aside st ws x (nobody j x q.0 q.1)) (at_set us id j (Holding h) x e);
    free = λ none_holds. absurd (true≢false (none_holds id (Holding h) (set_here us id (Holding h) (at_in us id u at))));
  }

  -- and once it has given back
  pub images_given : (st : State) (ws : List ℕ) → WordsSay st [] ws → ImageWords st ws (set us id Idle)
  images_given st ws w = record {
    held = λ j x e. ⊎_elim (λ (q : (j ≡ id) × (Idle ≡ x)). subst (WordsSayIf st ws) q.1 tt) (λ (q : (j ≢ id) × (get_elem? us j ≡ some x)). says_aside st ws x (nobody j x q.0 q.1)) (at_set us id j Idle x e);
    free = λ none_holds. w;
  }

  pub slot_holding : {S : Type 0} (stands : S → CoreState → Type 0) (key : ℕ) (log : List Entry) (served : ℕ) (hs : List (Home (Option S))) (u : Turn) (h : Hold) → get_elem? us id ≡ some u → Holds log served h → SlotStands stands key log served hs (set us id (Holding h))
  slot_holding stands key log served hs u h at holds = record {
    held = λ j x e. ⊎_elim (λ (q : (j ≡ id) × (Holding h ≡ x)). subst (HoldsIf log served) q.1 holds) (λ (q : (j ≢ id) × (get_elem? us j ≡ some x)). holds_aside log served x (nobody j x q.0 q.1)) (at_set us id j (Holding h) x e);
    free = λ none_holds. absurd (true≢false (none_holds id (Holding h) (set_here us id (Holding h) (at_in us id u at))));
  }

module _ {S : Type 0} (stands : List ℕ → S → CoreState → Type 0) where
  -- The rule after a step of the seat id is put together from its parts, each of which speaks of one part of the views.
  pub whole : (key : ℕ) (s : Table (Option S) View) (ws : List ℕ) (hs : List (Home (Option S))) (id : ℕ) (w : View) (log : List Entry) (drawn served : ℕ) (entered : List ℕ)
      → ((j : ℕ) (v : View) → get_elem? s.views j ≡ some v → Fits v) → length ws ≡ word_count → key ≤ 8
      → OneHistory key log (set (knows s) id w.know) → Tickets (get_or ws 0 0) (get_or ws 1 0) drawn served (set (turns s) id w.turn) → SlotStands (stands entered) key log served hs (set (turns s) id w.turn)
      → ImageWords (moment_after (opening_moment key) log).state ws (set (turns s) id w.turn)
      → Shows front_word (published_words key log) entered ws (set (eyes s) id w.eyes) → Fits w
      → FollowsRule stands key record { words = ws; homes = hs; views = set s.views id w }
  whole key s ws hs id w log drawn served entered fit wide few told turned slot images shown own = record {
    log = log;
    drawn = drawn;
    served = served;
    entered = entered;
    wide = wide;
    few = few;
    history = subst (OneHistory key log) (sym (map-set know_of s.views id w)) told;
    tickets = subst (Tickets (get_or ws 0 0) (get_or ws 1 0) drawn served) (sym (map-set turn_of s.views id w)) turned;
    slot = subst (SlotStands (stands entered) key log served hs) (sym (map-set turn_of s.views id w)) slot;
    images = subst (ImageWords (moment_after (opening_moment key) log).state ws) (sym (map-set turn_of s.views id w)) images;
    shows = subst (Shows front_word (published_words key log) entered ws) (sym (map-set eyes_of s.views id w)) shown;
    fits = λ j v at. ⊎_elim (λ (q : (j ≡ id) × (w ≡ v)). subst Fits q.1 own) (λ (q : (j ≢ id) × (get_elem? s.views j ≡ some v)). fit j v q.1) (at_set s.views id j w v at);
  }

  -- a step that leaves what its seat knows leaves the history
  pub same_history : (key : ℕ) (s : Table (Option S) View) (log : List Entry) (id : ℕ) (v : View) → get_elem? s.views id ≡ some v → OneHistory key log (knows s) → OneHistory key log (set (knows s) id v.know)
  same_history key s log id v at t = subst (OneHistory key log) (sym (set_again (knows s) id v.know (at_map know_of s.views id v at))) t

  few_out : (key : ℕ) (s : Table (Option S) View) → FollowsRule stands key s → total out (turns s) ≤ 10
  few_out key s r = let all = r.history.all_parts in let le = totals_le (λ (v : View). out v.turn) (λ (v : View). parts v.know) s.views (λ j v at. (r.fits j v at).numbered) in
      let few = r.few in omega (arith, total-map turn_of out s.views, total-map know_of parts s.views)

  -- the slot after a step of a seat that neither had nor gets it
  slot_aside : (cs : List ℕ) (key : ℕ) (log : List Entry) (served : ℕ) (hs : List (Home (Option S))) (us : List Turn) (id : ℕ) (u w : Turn) → SlotStands (stands cs) key log served hs us → get_elem? us id ≡ some u → is_holder u ≡ false → is_holder w ≡ false
      → HoldsIf log served w → SlotStands (stands cs) key log served hs (set us id w)
  slot_aside cs key log served hs us id u w h at was now kept = record {
    held = λ j x e. ⊎_elim (λ (q : (j ≡ id) × (w ≡ x)). subst (HoldsIf log served) q.1 kept) (λ (q : (j ≢ id) × (get_elem? us j ≡ some x)). h.held j x q.1) (at_set us id j w x e);
    free = λ none_holds. h.free (none_before us id u w at was none_holds);
  }

  -- the words after a step that changes none
  pub unchanged : (key : ℕ) (s : Table (Option S) View) (i : ℕ) (hs : List (Home (Option S))) (vs : List View) → FollowsRule stands key record { words = s.words; homes = hs; views = vs } → FollowsRule stands key record { words = set s.words i (get_or s.words i 0); homes = hs; views = vs }
  unchanged key s i hs vs r = subst (λ (ws : List ℕ). FollowsRule stands key record { words = ws; homes = hs; views = vs }) (sym (set-get_or s.words i 0)) r

  -- nobody but the seat that is served may hold the slot
  pub nobody_else : (key : ℕ) (s : Table (Option S) View) (r : FollowsRule stands key s) (id : ℕ) (v : Turn) → get_elem? (turns s) id ≡ some v → has_ticket r.served v ≡ 1 → (j : ℕ) (u : Turn) → j ≢ id → get_elem? (turns s) j ≡ some u → is_holder u ≡ false
  nobody_else key s r id v at mine j u apart e = holders_alone r.log r.served u (r.slot.held j u e) (one_ticket (get_or s.words 0 0) (get_or s.words 1 0) r.drawn r.served (turns s) id j v u r.served r.tickets apart at e mine)

  -- few seats are in buffers
  pub few_read : (key : ℕ) (s : Table (Option S) View) → FollowsRule stands key s → total reads_some (eyes s) ≤ 8
  few_read key s r =
      let few = r.few in
      let all = r.history.all_parts in
      let device = r.history.owners 0 (omega arith) in
      let compositor = r.history.owners 1 (omega arith) in
      let le = totals_le (λ (v : View). reads_some v.eyes) (λ (v : View). app_parts v.know) s.views (λ j v at. let own = (r.fits j v at).reads_own in omega (arith, first_is_one v.know.own)) in
      omega (arith, all_numbers_are (knows s), total-map eyes_of reads_some s.views, total-map know_of app_parts s.views)

  -- nobody but a holder writes
  pub others_write_none : (key : ℕ) (s : Table (Option S) View) (r : FollowsRule stands key s) (id : ℕ) (v : Turn) → get_elem? (turns s) id ≡ some v → has_ticket r.served v ≡ 1 → (j : ℕ) (e : Eyes) → j ≢ id → get_elem? (eyes s) j ≡ some e → is_writing e ≡ false
  others_write_none key s r id v at mine j e apart there =
      let x = at_unmap eyes_of s.views j e there in
      let w : View = x.0 in
      ap is_writing (sym x.2) ∙ ((r.fits j w x.1).holds_eyes ∙ nobody_else key s r id v at mine j w.turn apart (at_map turn_of s.views j w x.1))

  -- what is published after a step that changes none of its words, and leaves what its seat sees
  pub shows_still : (key : ℕ) (s : Table (Option S) View) (r : FollowsRule stands key s) (ws : List ℕ) (id : ℕ) (v : View) → get_elem? s.views id ≡ some v → ((i : ℕ) → front_word ≤ i → get_or ws i 0 ≡ get_or s.words i 0)
      → Shows front_word (published_words key r.log) r.entered ws (set (eyes s) id v.eyes)
  shows_still key s r ws id v at stay =
      let there : get_elem? (eyes s) id ≡ some v.eyes = at_map eyes_of s.views id v at in
      shows_on front_word (published_words key r.log) r.entered s.words ws (eyes s) id v.eyes v.eyes r.shows stay there (λ b. refl) (λ f k. refl) (r.shows.each id v.eyes there)

  -- ---- draws

  pub draws : (key id : ℕ) (k : Know) (c : List (ℕ × Option S)) → 0 < length k.own
      → Allows (FollowsRule stands key) 1 id (view k Idle, c) 0 (λ n. (n + 1) % 2 ^ 64) (Draws (step 1 0 1 0 none) (view k Idle, c))
  draws key id k c some_own s r slots at small =
      let d : ℕ = r.drawn in
      let w : View = view k (Waiting d) in
      let n : ℕ = (get_or s.words 0 0 + 1) % 2 ^ 64 in
      let wide = r.wide in
      let there : get_elem? (turns s) id ≡ some Idle = at_map turn_of s.views id (view k Idle) at in
      let zero_is : get_or (set s.words 0 n) 0 0 ≡ n = get_or-set_same s.words 0 n 0 (omega arith) in
      let one_is : get_or (set s.words 0 n) 1 0 ≡ get_or s.words 1 0 = get_or-set_other s.words 0 1 n 0 (λ e. omega arith) in (
        w,
        keeps,
        tt,
        whole key s (set s.words 0 n) s.homes id w r.log (d + 1) r.served r.entered r.fits (length-set s.words 0 n ∙ wide) r.few
            (same_history key s r.log id (view k Idle) at r.history)
            (subst (λ (x : ℕ × ℕ). Tickets x.0 x.1 (d + 1) r.served (set (turns s) id (Waiting d))) (λ i. (sym zero_is i, sym one_is i)) (turns_draw (get_or s.words 0 0) (get_or s.words 1 0) d r.served (turns s) id r.tickets there))
            (slot_aside r.entered key r.log r.served s.homes (turns s) id Idle (Waiting d) r.slot there refl refl tt)
            (images_aside (moment_after (opening_moment key) r.log).state s.words 0 n (turns s) id Idle (Waiting d) (omega arith) r.images there refl refl)
            (shows_still key s r (set s.words 0 n) id (view k Idle) at (λ i l. get_or-set_other s.words 0 i n 0 (λ e. omega (arith, e, l))))
            record { numbered = some_own; holds = tt; holds_eyes = refl; reads_own = omega arith },
        (d, refl, r.tickets.ticket_is),
      )

  -- ---- looks

  -- what has been seen is the front of the history
  pub begins_at : (key : ℕ) (log : List Entry) (ks : List Know) (id : ℕ) (k : Know) → OneHistory key log ks → get_elem? ks id ≡ some k → IsPrefix k.seen log
  begins_at key log ks id k t at = (t.each id k at).begins

  pub looks : (key id t : ℕ) (k : Know) → Allows (FollowsRule stands key) 1 id (view k (Waiting t), []) 1 (λ n. n) (Looks stands (step 1 1 0 0 none) (view k (Waiting t), []))
  looks key id t k s r slots at small =
      let v : View = view k (Waiting t) in
      let there : get_elem? (turns s) id ≡ some (Waiting t) = at_map turn_of s.views id v at in
      let known : get_elem? (knows s) id ≡ some k = at_map know_of s.views id v at in
      let found : ℕ = get_or s.words 1 0 in
      let fit = r.fits id v at in
      dite (ℕ_discrete found (t % 2 ^ 64))
      (λ hit.
      let now : t ≡ r.served = is_served (get_or s.words 0 0) found r.drawn r.served (turns s) id t r.tickets there (few_out key s r) hit in
      let mine : has_ticket r.served (Waiting t) ≡ 1 = yes_ticket t r.served now in
      let others : (j : ℕ) (u : Turn) → j ≢ id → get_elem? (turns s) j ≡ some u → is_holder u ≡ false = nobody_else key s r id (Waiting t) there mine in
      let nobody : (j : ℕ) (u : Turn) → get_elem? (turns s) j ≡ some u → is_holder u ≡ false = λ j u e. dite (ℕ_discrete j id)
      (λ z. ap is_holder (sym (at_one (turns s) id (Waiting t) u there (subst (λ (i : ℕ). get_elem? (turns s) i ≡ some u) z e))))
      (λ nz. others j u nz e) in
      let home = r.slot.free nobody in
      let g = sees key r.log (knows s) id k r.few r.history known fit.numbered in
      let apps = apps_of key r.log k (r.history.each id k known) fit.numbered in
      let h : Hold = hold_from t r.log in
      let y : Eyes = Keeps r.entered 0 in
      let w : View = sight k (Holding h) y in
      let outside : get_elem? (eyes s) id ≡ some Out = at_map eyes_of s.views id v at in
      let shown = shows_on front_word (published_words key r.log) r.entered s.words s.words (eyes s) id Out y r.shows (λ i l. refl) outside (λ b. refl) (λ f j. refl) (refl, omega arith, searched_none (front_of front_word s.words) (eyes s) (few_read key s r)) in (
        w,
        takes 0 (Some home.0),
        home.1,
        unchanged key s 1 (set s.homes 0 none) (set s.views id w) (whole key s s.words (set s.homes 0 none) id w r.log r.drawn r.served r.entered r.fits r.wide r.few
            (same_history key s r.log id v at r.history)
            (turns_keep (get_or s.words 0 0) found r.drawn r.served (turns s) id (Waiting t) (Holding h) r.tickets there refl (λ n. refl))
            (slot_holding (turns s) id others (stands r.entered) key r.log r.served (set s.homes 0 none) (Waiting t) h there (record { is_served = now; grew = record { more = []; is = append-nil r.log; free = refl } }))
            (images_holding (turns s) id others (moment_after (opening_moment key) r.log).state s.words (Waiting t) h there (r.images.free nobody))
            shown
            record { numbered = fit.numbered; holds = record { begins = begins_at key r.log (knows s) id k r.history known; notes_own = tt; made_fits = tt }; holds_eyes = refl; reads_own = omega arith }),
        λ t' is. let same : t ≡ t' = cc in (
          (λ _. record {
            look = r.log;
            value = home.0;
            counts = r.entered;
            is = ap (λ (n : ℕ). (sight k (Holding (hold_from n r.log)) y, (0, Some home.0) ∷ [])) same;
            sees = g;
            stands_now = subst (λ a. stands r.entered home.0 (moment_after (opening_moment a) r.log).state.core) (sym apps) home.2;
          }),
          λ miss. absurd (miss (hit ∙ ap (λ n. n % 2 ^ 64) same)),
        ),
      ))
      (λ miss. (
        v,
        keeps,
        tt,
        unchanged key s 1 s.homes (set s.views id v) (subst (λ (vs : List View). FollowsRule stands key record { words = s.words; homes = s.homes; views = vs }) (sym (set_again s.views id v at)) r),
        λ t' is. let same : t ≡ t' = cc in ((λ hit. absurd (miss (hit ∙ ap (λ n. n % 2 ^ 64) (sym same)))), λ _. refl),
      ))

  -- ---- a holder that goes on holding

  -- Its ticket, its look and what it knows stay, and the words say what they say of what it has made by then.
  pub holds_on : (key id : ℕ) (h n : Hold) (k : Know) (y : Eyes) (s : Table (Option S) View) (r : FollowsRule stands key s) (ws : List ℕ) → get_elem? s.views id ≡ some (sight k (Holding h) y) → n.ticket ≡ h.ticket → n.look ≡ h.look
      → length ws ≡ word_count → get_or ws 0 0 ≡ get_or s.words 0 0 → get_or ws 1 0 ≡ get_or s.words 1 0 → ((i : ℕ) → front_word ≤ i → get_or ws i 0 ≡ get_or s.words i 0)
      → WordsSay (moment_after (opening_moment key) r.log).state n.made ws → HoldFits k n
      → FollowsRule stands key record { words = ws; homes = s.homes; views = set s.views id (sight k (Holding n) y) }
  holds_on key id h n k y s r ws at ticket look wide zero_is one_is stay says fits =
      let u : Turn = Holding h in
      let v : View = sight k u y in
      let there : get_elem? (turns s) id ≡ some u = at_map turn_of s.views id v at in
      let fit = r.fits id v at in
      let held = r.slot.held id u there in
      let others : (j : ℕ) (x : Turn) → j ≢ id → get_elem? (turns s) j ≡ some x → is_holder x ≡ false = nobody_else key s r id u there (yes_ticket h.ticket r.served held.is_served) in
      whole key s ws s.homes id (sight k (Holding n) y) r.log r.drawn r.served r.entered r.fits wide r.few
      (same_history key s r.log id v at r.history)
      (subst (λ (x : ℕ × ℕ). Tickets x.0 x.1 r.drawn r.served (set (turns s) id (Holding n))) (λ i. (sym zero_is i, sym one_is i))
      (turns_keep (get_or s.words 0 0) (get_or s.words 1 0) r.drawn r.served (turns s) id u (Holding n) r.tickets there refl (λ m. ap (λ (t : ℕ). has_ticket m (Waiting t)) ticket)))
      (slot_holding (turns s) id others (stands r.entered) key r.log r.served s.homes u n there (record { is_served = ticket ∙ held.is_served; grew = subst (λ (l : List Entry). Grew l r.log) (sym look) held.grew }))
      (images_holding (turns s) id others (moment_after (opening_moment key) r.log).state ws u n there says)
      (shows_still key s r ws id v at stay)
      record { numbered = fit.numbered; holds = fits; holds_eyes = fit.holds_eyes; reads_own = fit.reads_own }

  -- ---- second looks

  pub notes : (key id : ℕ) (h : Hold) (k : Know) (y : Eyes) (e : Entry) (c : List (ℕ × Option S)) → MayNote k h.look h.made e
      → Allows (FollowsRule stands key) 1 id (sight k (Holding h) y, c) 1 (λ n. n) (Notes e (step 1 1 0 0 none) (sight k (Holding h) y, c))
  notes key id h k y e c may s r slots at small =
      let u : Turn = Holding h in
      let v : View = sight k u y in
      let there : get_elem? (turns s) id ≡ some u = at_map turn_of s.views id v at in
      let fit = r.fits id v at in
      let n : Hold = record h { noted = Some e } in
      let w : View = sight k (Holding n) y in (
        w,
        keeps,
        tt,
        unchanged key s 1 s.homes (set s.views id w) (holds_on key id h n k y s r s.words at refl refl r.wide refl refl (λ i l. refl) (r.images.held id u there) record { begins = fit.holds.begins; notes_own = may; made_fits = fit.holds.made_fits }),
        λ h' is. noted_as h h' is,
      )
    where
      noted_view : Hold → Me (Option S) View
      noted_view x = (sight k (Holding (record x { noted = Some e })) y, c)

      noted_as : (h h' : Hold) → Holding h ≡ Holding h' → noted_view h ≡ noted_view h'
      noted_as h h' is = let same : h ≡ h' = cc in ap noted_view same
