-- Seats that are cut in two, kept and joined, and the table at its start and its end.
use Rattle.std.proofs.Common.{◌≡◌, ℕ, zero, suc, ◌+◌, ◌<◌, ◌≤◌, ◌≢◌, false, List, [], ◌∷◌, ◌++◌, map, length, get_or, set, ◌%◌, ◌^◌, sym, refl, ap, ◌∙◌, subst, ⊎_elim, arith, Option, Some, None, IfSome}
use mathlib.Core.Logic.{dite}
use mathlib.Core.Option.{Option as Home, some, some-injective, some-ne-none}
use mathlib.Core.List.{map-append}
use native.Mathlib.Decide.{ℕ_discrete}
use lib.ListN.{get_elem?}
use lib.Seq.{map-set}
use Rattle.atomic_table.specs.Table.{State as Table, opening, Splits, Joins, Seen, Final}
use Rattle.atomic_table.proofs.Lists.{at_set, at_snoc, at_map, at_longer, set_again, set_else}
use Rattle.xr_model.specs.machine.Calls.{Entry}
use Rattle.xr_model.specs.machine.CellCalls.{CellCall}
use Rattle.xr_model.specs.machine.State.{CoreState, State, with_apps}
use Rattle.xr_model.specs.laws.Moments.{opening_moment, moment_after}
use Rattle.xr_model.proofs.WordSteps.{opening_word, opening_stamp}
use Rattle.xr_rule.specs.Shows.{Shows}
use Rattle.xr_rule.specs.View.{Own, Know, Turn, View, Eyes, Idle, Waiting, Holding, Out, sight, view, know, know_of, turn_of, eyes_of, out, has_ticket, is_holder, newcomer, spent_know, spent_view, staying_view, cut_view, keepsake, joined_view}
use Rattle.xr_rule.specs.Rule.{OneHistory, Tickets, HoldsIf, SlotStands, image_word, stamp_word, WordsSay, WordsSayIf, ImageWords, MayNote, Fits, published_words, FollowsRule, HasAll, front_word, word_count}
use Rattle.xr_rule.proofs.Sums.{at_one, at_unmap, total-append}
use Rattle.xr_rule.proofs.Knowing.{history_splits, history_joins, history_keeps, history_opens, others_spent, saw_all, history_ends}
use Rattle.xr_rule.proofs.Opening.{no_counts, shows_first}
use Rattle.xr_rule.proofs.Showing.{shows_come}
use Rattle.xr_rule.proofs.Steps.{knows, turns, eyes}

module _ {S : Type 0} (stands : List ℕ → S → CoreState → Type 0) where
  -- tickets and the slot where a seat with no ticket comes
  turns_come : (a b d z : ℕ) (us : List Turn) → Tickets a b d z us → Tickets a b d z (us ++ Idle ∷ [])
  turns_come a b d z us t = record {
    ticket_is = t.ticket_is;
    serving_is = t.serving_is;
    all_out = omega (arith, total-append out us (Idle ∷ []), t.all_out);
    below = λ n l. omega (arith, total-append (has_ticket n) us (Idle ∷ []), t.below n l);
    above = λ n l. omega (arith, total-append (has_ticket n) us (Idle ∷ []), t.above n l);
    once = λ n. omega (arith, total-append (has_ticket n) us (Idle ∷ []), t.once n);
  }

  slot_come : (cs : List ℕ) (key : ℕ) (log : List Entry) (served : ℕ) (hs : List (Home (Option S))) (us : List Turn) → SlotStands (stands cs) key log served hs us → SlotStands (stands cs) key log served hs (us ++ Idle ∷ [])
  slot_come cs key log served hs us h = record {
    held = λ j u e. ⊎_elim (λ (q : get_elem? us j ≡ some u). h.held j u q) (λ (q : Idle ≡ u). subst (HoldsIf log served) q tt) (at_snoc us Idle u j e);
    free = λ none_holds. h.free (λ j u e. none_holds j u (at_longer us (Idle ∷ []) j u e));
  }

  images_come : (st : State) (ws : List ℕ) (us : List Turn) → ImageWords st ws us → ImageWords st ws (us ++ Idle ∷ [])
  images_come st ws us i = record {
    held = λ j u e. ⊎_elim (λ (q : get_elem? us j ≡ some u). i.held j u q) (λ (q : Idle ≡ u). subst (WordsSayIf st ws) q tt) (at_snoc us Idle u j e);
    free = λ none_holds. i.free (λ j u e. none_holds j u (at_longer us (Idle ∷ []) j u e));
  }

  -- the rule over other views, where all that it says of views holds of them
  over_views : (key : ℕ) (s : Table (Option S) View) (r : FollowsRule stands key s) (vs : List View) → OneHistory key r.log (map know_of vs)
      → Tickets (get_or s.words 0 0) (get_or s.words 1 0) r.drawn r.served (map turn_of vs) → SlotStands (stands r.entered) key r.log r.served s.homes (map turn_of vs)
      → ImageWords (moment_after (opening_moment key) r.log).state s.words (map turn_of vs) → Shows front_word (published_words key r.log) r.entered s.words (map eyes_of vs) → ((j : ℕ) (v : View) → get_elem? vs j ≡ some v → Fits v) → FollowsRule stands key record { words = s.words; homes = s.homes; views = vs }
  over_views key s r vs history tickets slot images shown fits = record { log = r.log; drawn = r.drawn; served = r.served; entered = r.entered; wide = r.wide; few = r.few; history = history; tickets = tickets; slot = slot; images = images; shows = shown; fits = fits }

  pub splits : (key id a : ℕ) (o p : Own) (os : List Own) (z : List Entry) (u : Turn) (y : Eyes) → Splits (FollowsRule stands key) id (sight (know a (o ∷ p ∷ os) z) u y) (staying_view (sight (know a (o ∷ p ∷ os) z) u y)) (cut_view (sight (know a (o ∷ p ∷ os) z) u y))
  splits key id a o p os z u y s r at =
      let k : Know = know a (o ∷ p ∷ os) z in
      let v : View = sight k u y in
      let l : View = sight (know a (o ∷ os) z) u y in
      let n : View = view (know a (p ∷ []) z) Idle in
      let vs : List View = set s.views id l ++ n ∷ [] in
      let there : get_elem? (turns s) id ≡ some u = at_map turn_of s.views id v at in
      let known : get_elem? (knows s) id ≡ some k = at_map know_of s.views id v at in
      let fit = r.fits id v at in
      let kn : map know_of vs ≡ set (knows s) id l.know ++ n.know ∷ [] = map-append know_of (set s.views id l) (n ∷ []) ∙ ap (λ x. x ++ n.know ∷ []) (map-set know_of s.views id l) in
      let tn : map turn_of vs ≡ turns s ++ Idle ∷ [] = map-append turn_of (set s.views id l) (n ∷ []) ∙ ap (λ x. x ++ Idle ∷ []) (map-set turn_of s.views id l ∙ set_again (turns s) id u there) in
      let seen : get_elem? (eyes s) id ≡ some y = at_map eyes_of s.views id v at in
      let en : map eyes_of vs ≡ eyes s ++ Out ∷ [] = map-append eyes_of (set s.views id l) (n ∷ []) ∙ ap (λ x. x ++ Out ∷ []) (map-set eyes_of s.views id l ∙ set_again (eyes s) id y seen) in
      over_views key s r vs
      (subst (OneHistory key r.log) (sym kn) (history_splits key r.log (knows s) id a o p os z r.history known))
      (subst (Tickets (get_or s.words 0 0) (get_or s.words 1 0) r.drawn r.served) (sym tn) (turns_come (get_or s.words 0 0) (get_or s.words 1 0) r.drawn r.served (turns s) r.tickets))
      (subst (SlotStands (stands r.entered) key r.log r.served s.homes) (sym tn) (slot_come r.entered key r.log r.served s.homes (turns s) r.slot))
      (subst (ImageWords (moment_after (opening_moment key) r.log).state s.words) (sym tn) (images_come (moment_after (opening_moment key) r.log).state s.words (turns s) r.images))
      (subst (Shows front_word (published_words key r.log) r.entered s.words) (sym en) (shows_come front_word (published_words key r.log) r.entered s.words (eyes s) r.shows))
      (λ j x e. ⊎_elim
      (λ (h : get_elem? (set s.views id l) j ≡ some x). ⊎_elim (λ (q : (j ≡ id) × (l ≡ x)). subst Fits q.1 (cut u y fit)) (λ (q : (j ≢ id) × (get_elem? s.views j ≡ some x)). r.fits j x q.1) (at_set s.views id j l x h))
      (λ (q : n ≡ x). subst Fits q record { numbered = omega arith; holds = tt; holds_eyes = refl; reads_own = omega arith }) (at_snoc (set s.views id l) n x j e))
    where
      recast : (look : List Entry) (made : List CellCall) (e : Option Entry) → IfSome e (λ y. MayNote (know a (o ∷ p ∷ os) z) look made y) → IfSome e (λ y. MayNote (know a (o ∷ os) z) look made y)
      recast look made None may = tt
      recast look made (Some e) may = let d = may.decides in record {
        decides = record { by_own = d.by_own; caller = d.caller; numbers = d.numbers; comes = d.comes; few = d.few };
        returns_none = may.returns_none;
        claims_none = may.claims_none;
        made_is = may.made_is;
      }

      cut : (u : Turn) (y : Eyes) → Fits (sight (know a (o ∷ p ∷ os) z) u y) → Fits (sight (know a (o ∷ os) z) u y)
      cut Idle y f = record { numbered = omega arith; holds = tt; holds_eyes = f.holds_eyes; reads_own = f.reads_own }
      cut (Waiting t) y f = record { numbered = omega arith; holds = tt; holds_eyes = f.holds_eyes; reads_own = f.reads_own }
      cut (Holding h) y f = record {
        numbered = omega arith;
        holds = record { begins = f.holds.begins; notes_own = recast h.look h.made h.noted f.holds.notes_own; made_fits = f.holds.made_fits };
        holds_eyes = f.holds_eyes;
        reads_own = f.reads_own;
      }

  pub keeps_seen : (key id : ℕ) (v : View) → Splits (FollowsRule stands key) id v v (keepsake v)
  keeps_seen key id v s r at =
      let n : View = keepsake v in
      let same : set s.views id v ≡ s.views = set_again s.views id v at in
      let vs : List View = s.views ++ n ∷ [] in
      let kn : map know_of vs ≡ knows s ++ n.know ∷ [] = map-append know_of s.views (n ∷ []) in
      let tn : map turn_of vs ≡ turns s ++ Idle ∷ [] = map-append turn_of s.views (n ∷ []) in
      let en : map eyes_of vs ≡ eyes s ++ Out ∷ [] = map-append eyes_of s.views (n ∷ []) in
      subst (λ (l : List View). FollowsRule stands key record { words = s.words; homes = s.homes; views = l ++ n ∷ [] }) (sym same) (over_views key s r vs
      (subst (OneHistory key r.log) (sym kn) (history_keeps key r.log (knows s) id v.know r.history (at_map know_of s.views id v at)))
      (subst (Tickets (get_or s.words 0 0) (get_or s.words 1 0) r.drawn r.served) (sym tn) (turns_come (get_or s.words 0 0) (get_or s.words 1 0) r.drawn r.served (turns s) r.tickets))
      (subst (SlotStands (stands r.entered) key r.log r.served s.homes) (sym tn) (slot_come r.entered key r.log r.served s.homes (turns s) r.slot))
      (subst (ImageWords (moment_after (opening_moment key) r.log).state s.words) (sym tn) (images_come (moment_after (opening_moment key) r.log).state s.words (turns s) r.images))
      (subst (Shows front_word (published_words key r.log) r.entered s.words) (sym en) (shows_come front_word (published_words key r.log) r.entered s.words (eyes s) r.shows))
      (λ j x e. ⊎_elim (λ (h : get_elem? s.views j ≡ some x). r.fits j x h) (λ (q : n ≡ x). subst Fits q record { numbered = omega arith; holds = tt; holds_eyes = refl; reads_own = omega arith }) (at_snoc s.views n x j e)))

  pub joins : (key id other : ℕ) (v w : View) → v.turn ≡ Idle → v.eyes ≡ Out → w.turn ≡ Idle → w.eyes ≡ Out → 0 < length w.know.own → Joins (FollowsRule stands key) id v other w (joined_view v w) spent_view
  joins key id other v w rest blind idle unseeing some_own s r at apart them =
      let b : View = joined_view v w in
      let vs : List View = set s.views id b in
      let us : List View = set vs other spent_view in
      let there : get_elem? s.views other ≡ some w = sym (set_else s.views id other b apart) ∙ them in
      let kn : map know_of us ≡ set (set (knows s) id b.know) other (spent_know) = map-set know_of vs other spent_view ∙ ap (λ x. set x other (spent_know)) (map-set know_of s.views id b) in
      let t₁ : map turn_of vs ≡ turns s = map-set turn_of s.views id b ∙ set_again (turns s) id v.turn (at_map turn_of s.views id v at) in
      let t₂ : get_elem? (turns s) other ≡ some Idle = at_map turn_of s.views other w there ∙ ap some idle in
      let tn : map turn_of us ≡ turns s = map-set turn_of vs other spent_view ∙ (ap (λ x. set x other Idle) t₁ ∙ set_again (turns s) other Idle t₂) in
      let e₁ : map eyes_of vs ≡ eyes s = map-set eyes_of s.views id b ∙ set_again (eyes s) id v.eyes (at_map eyes_of s.views id v at) in
      let e₂ : get_elem? (eyes s) other ≡ some Out = at_map eyes_of s.views other w there ∙ ap some unseeing in
      let en : map eyes_of us ≡ eyes s = map-set eyes_of vs other spent_view ∙ (ap (λ x. set x other Out) e₁ ∙ set_again (eyes s) other Out e₂) in
      over_views key s r us
      (subst (OneHistory key r.log) (sym kn) (history_joins key r.log (knows s) id other v.know w.know r.history (at_map know_of s.views id v at) apart (at_map know_of s.views other w there) some_own))
      (subst (Tickets (get_or s.words 0 0) (get_or s.words 1 0) r.drawn r.served) (sym tn) r.tickets)
      (subst (SlotStands (stands r.entered) key r.log r.served s.homes) (sym tn) r.slot)
      (subst (ImageWords (moment_after (opening_moment key) r.log).state s.words) (sym tn) r.images)
      (subst (Shows front_word (published_words key r.log) r.entered s.words) (sym en) r.shows)
      (λ j x e. ⊎_elim
      (λ (q : (j ≡ other) × (spent_view ≡ x)). subst Fits q.1 record { numbered = omega arith; holds = tt; holds_eyes = refl; reads_own = omega arith })
      (λ (q : (j ≢ other) × (get_elem? vs j ≡ some x)). ⊎_elim (λ (y : (j ≡ id) × (b ≡ x)). subst Fits y.1 (resting b rest blind)) (λ (y : (j ≢ id) × (get_elem? s.views j ≡ some x)). r.fits j x y.1) (at_set s.views id j b x q.1))
      (at_set vs other j spent_view x e))
    where
      resting : (v : View) → v.turn ≡ Idle → v.eyes ≡ Out → Fits v
      resting v e y = subst (λ (z : Turn × Eyes). Fits (sight v.know z.0 z.1)) (λ i. (sym e i, sym y i)) record { numbered = omega arith; holds = tt; holds_eyes = refl; reads_own = omega arith }

  pub opens : (key : ℕ) (x : S) (ws : List ℕ) → key ≤ 8 → length ws ≡ word_count → ((n : ℕ) → get_or ws n 0 ≡ 0) → stands no_counts x (opening_moment key).state.core → FollowsRule stands key (opening ws (Some x ∷ []) (newcomer key))
  opens key x ws few wide none_set ok = record {
    log = [];
    drawn = 0;
    served = 0;
    entered = no_counts;
    wide = wide;
    few = few;
    history = history_opens key;
    tickets = record { ticket_is = none_set 0; serving_is = none_set 1; all_out = omega arith; below = λ n l. refl; above = λ n l. refl; once = λ n. omega arith };
    slot = record { held = λ j u e. only_idle j u e; free = λ _. (x, refl, ok) };
    images = record { held = λ j u e. only_says j u e; free = λ _. says };
    shows = shows_first key ws none_set;
    fits = λ j v e. only_new j v e;
  }
    where
      says : WordsSay (opening_moment key).state [] ws
      says = record {
        image = λ i placed. none_set (image_word i) ∙ ap (λ (n : ℕ). n % 2 ^ 64) (sym (opening_word (with_apps key) i));
        stamp = λ i placed. none_set (stamp_word i) ∙ sym (opening_stamp (with_apps key) i);
      }

      only_idle : (j : ℕ) (u : Turn) → get_elem? (Idle ∷ []) j ≡ some u → HoldsIf [] 0 u
      only_idle zero u e = subst (HoldsIf [] 0) (some-injective Idle u e) tt
      only_idle (suc j) u e = absurd (some-ne-none u (sym e))

      only_says : (j : ℕ) (u : Turn) → get_elem? (Idle ∷ []) j ≡ some u → WordsSayIf (opening_moment key).state ws u
      only_says zero u e = subst (WordsSayIf (opening_moment key).state ws) (some-injective Idle u e) tt
      only_says (suc j) u e = absurd (some-ne-none u (sym e))

      only_new : (j : ℕ) (v : View) → get_elem? (newcomer key ∷ []) j ≡ some v → Fits v
      only_new zero v e = subst Fits (some-injective (newcomer key) v e) record { numbered = omega arith; holds = tt; holds_eyes = refl; reads_own = omega arith }
      only_new (suc j) v e = absurd (some-ne-none v (sym e))

  no_turn : (u : Turn) (n : ℕ) → out u ≤ n → n ≡ 0 → is_holder u ≡ false
  no_turn Idle n h z = refl
  no_turn (Waiting t) n h z = refl
  no_turn (Holding x) n h z = absurd (omega arith)

  -- where a seat has all numbers and no ticket, the value at home stands, with some counts, for the state after all that it saw
  pub ends : (key id : ℕ) (v : View) (ws : List ℕ) (xs : List (Option S)) → v.turn ≡ Idle → length v.know.own ≡ key + 2 → Final (Seen (FollowsRule stands key) id v) ws xs
      → HasAll key v.know × ((m : S) × (get_elem? xs 0 ≡ some (Some m)) × ((cs : List ℕ) × stands cs m (moment_after (opening_moment key) v.know.seen).state.core))
  ends key id v ws xs idle all f =
      let s = f.0 in
      let r = f.1.0 in
      let at = f.1.1 in
      let known : get_elem? (knows s) id ≡ some v.know = at_map know_of s.views id v at in
      let there : get_elem? (turns s) id ≡ some v.turn = at_map turn_of s.views id v at in
      let home = r.slot.free (λ j u e. dite (ℕ_discrete j id)
      (λ z. ap is_holder (sym (at_one (turns s) id v.turn u there (subst (λ (i : ℕ). get_elem? (turns s) i ≡ some u) z e)) ∙ idle))
      (λ nz. let x = at_unmap turn_of s.views j u e in let w : View = x.0 in
      let gone = others_spent key r.log (knows s) id j v.know w.know r.history known all nz (at_map know_of s.views j w x.1) in
      subst (λ y. is_holder y ≡ false) x.2 (no_turn w.turn (length w.know.own) (r.fits j w x.1).numbered (ap length gone)))) in (
        history_ends key r.log (knows s) id v.know r.history known all,
        (home.0, f.4 0 (Some home.0) home.1, (r.entered, subst (λ l. stands r.entered home.0 (moment_after (opening_moment key) l).state.core) (sym (saw_all key r.log (knows s) id v.know r.history known all)) home.2)),
      )

  -- the same for a seat as it is after its keepsake was cut off
  pub ends_at : (key id i : ℕ) (v w : View) (ws : List ℕ) (xs : List (Option S)) → i ≡ id → w ≡ v → v.turn ≡ Idle → length v.know.own ≡ key + 2 → Final (Seen (FollowsRule stands key) i w) ws xs
      → HasAll key v.know × ((m : S) × (get_elem? xs 0 ≡ some (Some m)) × ((cs : List ℕ) × stands cs m (moment_after (opening_moment key) v.know.seen).state.core))
  ends_at key id i v w ws xs same is idle all f = ends key id v ws xs idle all (subst (λ (z : ℕ × View). Final (Seen (FollowsRule stands key) z.0 z.1) ws xs) (λ j. (same j, is j)) f)

  -- the value that was taken out of the closed table
  pub taken_is : (xs : List (Option S)) (x : S) (found : Option S) → get_elem? xs 0 ≡ some (Some x) → get_elem? xs 0 ≡ some found → Some x ≡ found
  taken_is xs x found p q = some-injective (Some x) found (sym p ∙ q)

  pub same_value : (x y : S) (found : Option S) → Some x ≡ found → found ≡ Some y → x ≡ y
  same_value x y found p q = cc
