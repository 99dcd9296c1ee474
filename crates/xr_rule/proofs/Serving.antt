-- Serves keep the rule: the slot is given back, and the undecided entry is decided.
use Rattle.std.proofs.Common.{◌≡◌, ℕ, ◌+◌, ◌%◌, ◌^◌, ◌<◌, ◌≢◌, List, [], ◌∷◌, ◌++◌, length, get_or, set, sym, refl, ap, ◌∙◌, subst, ⊎_elim, arith, true, false, Option, Some, None, IfSome, MatchOption, length-set, get_or-set_same, get_or-set_other}
use mathlib.Core.Option.{some, none}
use mathlib.Core.List.{IsPrefix}
use lib.ListN.{get_elem?}
use Rattle.atomic_table.specs.Table.{State as Table, step, gives, Allows}
use Rattle.atomic_table.proofs.Lists.{at_set, at_map, set_here}
use Rattle.xr_types.specs.CallKinds.{publishes}
use Rattle.xr_model.specs.machine.Calls.{Entry, Exchange}
use Rattle.xr_model.specs.machine.CellCalls.{CellCall}
use Rattle.xr_model.specs.machine.Machine.{step as machine_step, reads_of, cell_calls, as_unused}
use Rattle.xr_model.specs.machine.State.{CoreState, State, with_apps}
use Rattle.xr_model.specs.machine.Rule.{Effect}
use Rattle.xr_model.specs.laws.DecidedEntries.{is_image_done}
use Rattle.xr_model.specs.laws.ImageLaws.{did_at}
use Rattle.xr_model.specs.laws.Moments.{opening_moment, moment_after, IsLegalAt, exchange_at, actor_at, calls_by}
use Rattle.xr_model.specs.laws.PublicationLaws.{none_is_by}
use Rattle.xr_model.proofs.Histories.{after_is_in_turn}
use Rattle.xr_model.specs.laws.ImageWords.{word_of, stamp_of, word_after, stamp_after, claimed_by, are_getters}
use Rattle.xr_model.proofs.FreeEntries.{told_as_unused}
use Rattle.xr_model.proofs.CellsTold.{same_by}
use Rattle.xr_model.proofs.WordSteps.{word_steps, stamp_steps, all_stamps}
use Rattle.xr_rule.specs.Shows.{Shows}
use Rattle.xr_rule.specs.View.{Own, Know, Hold, Turn, View, Idle, Waiting, Holding, Out, Keeps, sight, view, know, know_of, turn_of, eyes_of, number_in, calls_in, out, has_ticket, with_call, history_with, know_after}
use Rattle.xr_model.specs.laws.MomentLaws.{are_by_callers}
use Rattle.xr_rule.specs.Rule.{OneHistory, Tickets, HoldsIf, SlotStands, Grew, WordsSay, state_at, MayDecide, MayNote, published_words, FollowsRule, front_word, word_count}
use Rattle.xr_rule.specs.Plays.{Sees, Decides, DecidesBehind, PublishesNone, Serves}
use Rattle.xr_rule.proofs.Sums.{at_in}
use Rattle.xr_rule.proofs.Knowing.{history_decides}
use Rattle.xr_rule.proofs.Turning.{yes_ticket, turns_serve}
use Rattle.xr_rule.proofs.Carrying.{getters_behind, NoteAt, note_at, leaves_at}
use Rattle.xr_rule.proofs.Histories.{calls-between, none-between}
use Rattle.xr_rule.proofs.Published.{next_publishes_none, quiet_as}
use Rattle.xr_rule.proofs.Showing.{shows_on}
use Rattle.xr_rule.proofs.Steps.{knows, turns, eyes, own_calls, apps_of, sees, holds_aside, words_else, images_given, whole, same_history, nobody_else}

-- the seat's own number is the first that its view names
pub decides_own : (key : ℕ) (log look : List Entry) (ks : List Know) (id : ℕ) (k : Know) (e : Entry) → OneHistory key log ks → get_elem? ks id ≡ some k → 0 < length k.own → look ≡ log → MayDecide k look e
    → OneHistory key (log ++ e ∷ []) (set ks id (know_after k look e))
decides_own key log look ks id k e t at some_own same may = go k.apps k.own k.seen at some_own may (apps_of key log k (t.each id k at) some_own)
  where
    go : (a : ℕ) (os : List Own) (s : List Entry) → get_elem? ks id ≡ some (know a os s) → 0 < length os → MayDecide (know a os s) look e → a ≡ key → OneHistory key (log ++ e ∷ []) (set ks id (know_after (know a os s) look e))
    go a [] s at some_own may apps = absurd (omega arith)
    go a (o ∷ os) s at some_own may apps =
        subst (λ (x : ℕ × List Entry). OneHistory key (log ++ e ∷ []) (set ks id (know_after (know x.0 (o ∷ os) s) x.1 e))) (λ i. (sym apps i, sym same i))
        (history_decides key log ks id e o os s t (subst (λ a. get_elem? ks id ≡ some (know a (o ∷ os) s)) apps at) (subst (λ (x : ℕ × List Entry). MayDecide (know x.0 (o ∷ os) s) x.1 e) (λ i. (apps i, same i)) may))

pub call_length : (x : Exchange) (os : List Own) → length (with_call x os) ≡ length os
call_length x [] = refl
call_length x (o ∷ os) = refl

-- ---- what is noted, at the history's end

-- since its look none of a holder's own entries came, so behind the compositor's look getters alone came
alone_behind : (key : ℕ) (log : List Entry) (ks : List Know) (id : ℕ) (k : Know) (look : List Entry) → OneHistory key log ks → get_elem? ks id ≡ some k → 0 < length k.own → IsPrefix k.seen look → (g : Grew look log) → number_in k.own ≡ 1 → are_getters g.more ≡ true
alone_behind key log ks id k look t at some_own begins g is =
    let known = t.each id k at in
    let n : ℕ = number_in k.own in
    let now : calls_by n (opening_moment key) log ≡ calls_in k.own = own_calls key log k.own known.own_all some_own in
    let earlier : calls_by n (opening_moment key) k.seen ≡ calls_in k.own = own_calls key k.seen k.own known.own_seen some_own in
    let p : IsPrefix look log = (g.more, g.is) in
    let then : calls_by n (opening_moment key) look ≡ calls_in k.own = calls-between n (opening_moment key) k.seen look log (calls_in k.own) begins p earlier now in
    let none = none-between n (opening_moment key) look log p (then ∙ sym now) in
    getters_behind look g.more (subst (λ (l : List Entry). are_by_callers l ≡ true) (sym g.is) t.by_callers) g.free (subst (λ (m : ℕ). none_is_by (actor_at m) g.more ≡ true) is none)

pub noted_at : (key : ℕ) (log : List Entry) (ks : List Know) (id : ℕ) (k : Know) (h : Hold) (e : Entry) → OneHistory key log ks → get_elem? ks id ≡ some k → 0 < length k.own → IsPrefix k.seen h.look → Grew h.look log → MayNote k h.look h.made e → NoteAt k h.look log h.made e
noted_at key log ks id k h e t at some_own begins g may = note_at k h.look log h.made e g (alone_behind key log ks id k h.look t at some_own begins g) may

-- ---- words once an entry is decided

-- The calls that were made are the entry's, so once it is decided the words say what the state says.
pub words_decided : (key : ℕ) (log : List Entry) (made : List CellCall) (e : Entry) (ws : List ℕ) → IsLegalAt (opening_moment key) (log ++ e ∷ []) → is_image_done e.call ≡ false
    → made ≡ cell_calls (moment_after (opening_moment key) log).state.core (reads_of (moment_after (opening_moment key) log).state e.call) e
    → claimed_by (moment_after (opening_moment key) log).state.core (reads_of (moment_after (opening_moment key) log).state e.call) e ≡ []
    → WordsSay (moment_after (opening_moment key) log).state made ws → WordsSay (moment_after (opening_moment key) (log ++ e ∷ [])).state [] ws
words_decided key log made e ws legal other made_is unclaims w =
    let s : State = (moment_after (opening_moment key) log).state in
    let after_is : (moment_after (opening_moment key) (log ++ e ∷ [])).state ≡ (machine_step s e).0 = after_is_in_turn (opening_moment key).state log (e ∷ []) in
    let unclaimed : (did_at s e).claimed ≡ [] = ap (λ (x : Effect). x.did.claimed) (same_by s.core (reads_of s e.call) (as_unused (reads_of s e.call)) e (told_as_unused s.core (reads_of s e.call) e unclaims)) ∙ unclaims in
    subst (λ (t : State). WordsSay t [] ws) (sym after_is) record {
      image = λ i placed. w.image i placed ∙ ap (λ (n : ℕ). n % 2 ^ 64) (ap (λ (l : List CellCall). word_after l i (word_of s i)) made_is ∙ sym (word_steps (with_apps key) log e i legal placed other unclaimed));
      stamp = λ i placed. w.stamp i placed ∙ (ap (λ (l : List CellCall). stamp_after l i (stamp_of s i)) made_is ∙ sym (stamp_steps (with_apps key) log e i legal placed (all_stamps (with_apps key) log)));
    }

module _ {S : Type 0} (stands : List ℕ → S → CoreState → Type 0) where
  -- the words after a serve
  served_words : (key : ℕ) (s : Table (Option S) View) (r : FollowsRule stands key s) (id : ℕ) (u : Turn) → get_elem? (turns s) id ≡ some u → out u ≡ 1 → ((n : ℕ) → has_ticket n u ≡ has_ticket n (Waiting r.served))
      → (length (set s.words 1 ((get_or s.words 1 0 + 1) % 2 ^ 64)) ≡ word_count) × Tickets (get_or (set s.words 1 ((get_or s.words 1 0 + 1) % 2 ^ 64)) 0 0) (get_or (set s.words 1 ((get_or s.words 1 0 + 1) % 2 ^ 64)) 1 0) r.drawn (r.served + 1) (set (turns s) id Idle)
  served_words key s r id u at one each =
      let n : ℕ = (get_or s.words 1 0 + 1) % 2 ^ 64 in
      let wide = r.wide in
      let zero_is : get_or (set s.words 1 n) 0 0 ≡ get_or s.words 0 0 = get_or-set_other s.words 1 0 n 0 (λ e. omega arith) in
      let one_is : get_or (set s.words 1 n) 1 0 ≡ n = get_or-set_same s.words 1 n 0 (omega arith) in (
        length-set s.words 1 n ∙ wide,
        subst (λ (x : ℕ × ℕ). Tickets x.0 x.1 r.drawn (r.served + 1) (set (turns s) id Idle)) (λ i. (sym zero_is i, sym one_is i)) (turns_serve (get_or s.words 0 0) (get_or s.words 1 0) r.drawn r.served (turns s) id u r.tickets at one each),
      )

  -- the slot after the holder gave it back
  slot_given : (cs : List ℕ) (key : ℕ) (s : Table (Option S) View) (r : FollowsRule stands key s) (log : List Entry) (id : ℕ) (v : Turn) (x : S) → get_elem? (turns s) id ≡ some v → has_ticket r.served v ≡ 1 → 0 < length s.homes → stands cs x (moment_after (opening_moment key) log).state.core
      → SlotStands (stands cs) key log (r.served + 1) (set s.homes 0 (some (Some x))) (set (turns s) id Idle)
  slot_given cs key s r log id v x at mine some_home ok = record {
    held = λ j u e. ⊎_elim (λ (q : (j ≡ id) × (Idle ≡ u)). subst (HoldsIf log (r.served + 1)) q.1 tt)
        (λ (q : (j ≢ id) × (get_elem? (turns s) j ≡ some u)). holds_aside log (r.served + 1) u (nobody_else stands key s r id v at mine j u q.0 q.1)) (at_set (turns s) id j Idle u e);
    free = λ _. (x, set_here s.homes 0 (some (Some x)) some_home, ok);
  }

  -- the seat knows n afterwards, the history is this, and as much is published
  serves_so : (key id : ℕ) (h : Hold) (k n : Know) (ks : List ℕ) (i : ℕ) (x : S) (log : List Entry) (s : Table (Option S) View) (r : FollowsRule stands key s) → get_elem? s.views id ≡ some (sight k (Holding h) (Keeps ks i)) → length s.homes ≡ 1
      → OneHistory key log (set (knows s) id n) → published_words key log ≡ published_words key r.log → stands ks x (moment_after (opening_moment key) log).state.core → WordsSay (moment_after (opening_moment key) log).state [] s.words
      → FollowsRule stands key record { words = set s.words 1 ((get_or s.words 1 0 + 1) % 2 ^ 64); homes = set s.homes 0 (some (Some x)); views = set s.views id (view n Idle) }
  serves_so key id h k n ks i x log s r at slots told as_much ok says =
      let u : Turn = Holding h in
      let v : View = sight k u (Keeps ks i) in
      let w : ℕ = (get_or s.words 1 0 + 1) % 2 ^ 64 in
      let there : get_elem? (turns s) id ≡ some u = at_map turn_of s.views id v at in
      let seen : get_elem? (eyes s) id ≡ some (Keeps ks i) = at_map eyes_of s.views id v at in
      let well = r.shows.each id (Keeps ks i) seen in
      let shown : Shows front_word (published_words key r.log) r.entered (set s.words 1 w) (set (eyes s) id Out) = shows_on front_word (published_words key r.log) r.entered s.words (set s.words 1 w) (eyes s) id (Keeps ks i) Out r.shows
      (λ j l. get_or-set_other s.words 1 j w 0 (λ e. omega (arith, e, l))) seen (λ b. refl) (λ f k. refl) tt in
      let held = r.slot.held id u there in
      let mine = yes_ticket h.ticket r.served held.is_served in
      let words = served_words key s r id u there refl (λ i. ap (λ t. has_ticket i (Waiting t)) held.is_served) in
      whole stands key s (set s.words 1 ((get_or s.words 1 0 + 1) % 2 ^ 64)) (set s.homes 0 (some (Some x))) id (view n Idle) log r.drawn (r.served + 1) r.entered r.fits words.0 r.few told words.1
      (slot_given r.entered key s r log id u x there mine (omega arith) (subst (λ (cs : List ℕ). stands cs x (moment_after (opening_moment key) log).state.core) well.0 ok))
      (images_given (turns s) id (nobody_else stands key s r id u there mine) (moment_after (opening_moment key) log).state (set s.words 1 ((get_or s.words 1 0 + 1) % 2 ^ 64)) (words_else (moment_after (opening_moment key) log).state [] s.words 1 ((get_or s.words 1 0 + 1) % 2 ^ 64) (omega arith) says))
      (subst (λ (p : List ℕ). Shows front_word p r.entered (set s.words 1 w) (set (eyes s) id Out)) (sym as_much) shown)
      record { numbered = omega arith; holds = tt; holds_eyes = refl; reads_own = omega arith }

  serves_none : (key id : ℕ) (h : Hold) (k : Know) (ks : List ℕ) (j : ℕ) (x : S) → h.noted ≡ None → h.made ≡ [] → stands ks x (state_at k h.look).core
      → Allows (FollowsRule stands key) 1 id (sight k (Holding h) (Keeps ks j), (0, Some x) ∷ []) 1 (λ n. (n + 1) % 2 ^ 64) (Serves (step 1 1 1 0 none) (sight k (Holding h) (Keeps ks j), (0, Some x) ∷ []))
  serves_none key id h k ks j x none_noted none_made ok s r slots at small =
      let v : View = sight k (Holding h) (Keeps ks j) in
      let known : get_elem? (knows s) id ≡ some k = at_map know_of s.views id v at in
      let there : get_elem? (turns s) id ≡ some (Holding h) = at_map turn_of s.views id v at in
      let held = r.slot.held id (Holding h) there in
      let g = held.grew in
      let apps = apps_of key r.log k (r.history.each id k known) (r.fits id v at).numbered in
      let left : (moment_after (opening_moment key) r.log).state.core ≡ (moment_after (opening_moment key) h.look).state.core = subst (λ (l : List Entry). (moment_after (opening_moment key) l).state.core ≡ (moment_after (opening_moment key) h.look).state.core) g.is (leaves_at (opening_moment key) h.look g.more g.free).core in (
        view k Idle,
        gives,
        tt,
        serves_so key id h k k ks j x r.log s r at slots (same_history stands key s r.log id v at r.history) refl
            (subst (λ (c : CoreState). stands ks x c) (sym left) (subst (λ (a : ℕ). stands ks x (moment_after (opening_moment a) h.look).state.core) apps ok))
            (subst (λ (l : List CellCall). WordsSay (moment_after (opening_moment key) r.log).state l s.words) none_made (r.images.held id (Holding h) there)),
        λ h' is. (refl, tells h' is),
      )
    where
      tells : (h' : Hold) → Holding h ≡ Holding h' → MatchOption h'.noted (view k Idle ≡ view k Idle) (λ e. DecidesBehind k h'.look e (view k Idle))
      tells h' is = let same : h ≡ h' = cc in let none_is : h'.noted ≡ None = ap (λ (z : Hold). z.noted) (sym same) ∙ none_noted in
          subst (λ (o : Option Entry). MatchOption o (view k Idle ≡ view k Idle) (λ e. DecidesBehind k h'.look e (view k Idle))) (sym none_is) refl

  serves_some : (key id : ℕ) (h : Hold) (k : Know) (ks : List ℕ) (j : ℕ) (e : Entry) (x : S) → h.noted ≡ Some e → stands ks x (state_at k (h.look ++ e ∷ [])).core
      → publishes e.call (machine_step (state_at k h.look) e).1.reply.code ≡ false
      → Allows (FollowsRule stands key) 1 id (sight k (Holding h) (Keeps ks j), (0, Some x) ∷ []) 1 (λ n. (n + 1) % 2 ^ 64) (Serves (step 1 1 1 0 none) (sight k (Holding h) (Keeps ks j), (0, Some x) ∷ []))
  serves_some key id h k ks j e x noted ok quiet s r slots at small =
      let v : View = sight k (Holding h) (Keeps ks j) in
      let known : get_elem? (knows s) id ≡ some k = at_map know_of s.views id v at in
      let there : get_elem? (turns s) id ≡ some (Holding h) = at_map turn_of s.views id v at in
      let held = r.slot.held id (Holding h) there in
      let g = held.grew in
      let fit = r.fits id v at in
      let some_own = fit.numbered in
      let apps = apps_of key r.log k (r.history.each id k known) some_own in
      let may : MayNote k h.look h.made e = subst (λ (o : Option Entry). IfSome o (λ z. MayNote k h.look h.made z)) noted fit.holds.notes_own in
      let here : NoteAt k h.look r.log h.made e = noted_at key r.log (knows s) id k h e r.history known some_own fit.holds.begins g may in
      let n : Know = know_after k r.log e in
      let log : List Entry = r.log ++ e ∷ [] in
      let told : OneHistory key log (set (knows s) id n) = decides_own key r.log r.log (knows s) id k e r.history known some_own refl here.decides in
      let longer_own : 0 < length n.own = omega (arith, call_length (exchange_at (moment_after (opening_moment k.apps) r.log) e) k.own, some_own) in
      let now : Sees n log = sees key log (set (knows s) id n) id n r.few told (set_here (knows s) id n (at_in (knows s) id k known)) longer_own in
      let before : Sees k r.log = sees key r.log (knows s) id k r.few r.history known some_own in
      let core_is : (state_at k log).core ≡ (state_at k (h.look ++ e ∷ [])).core = ap (λ (t : State). t.core) (after_is_in_turn (opening_moment k.apps).state r.log (e ∷ [])) ∙ (here.core ∙ ap (λ (t : State). t.core) (sym (after_is_in_turn (opening_moment k.apps).state h.look (e ∷ [])))) in
      let as_much : published_words key log ≡ published_words key r.log = next_publishes_none key r.log e r.history.legal (quiet_at key r.log apps here) in
      let says : WordsSay (moment_after (opening_moment key) log).state [] s.words = words_decided key r.log h.made e s.words told.legal may.returns_none
      (subst (λ (a : ℕ). h.made ≡ cell_calls (moment_after (opening_moment a) r.log).state.core (reads_of (moment_after (opening_moment a) r.log).state e.call) e) apps here.made_is)
      (subst (λ (a : ℕ). claimed_by (moment_after (opening_moment a) r.log).state.core (reads_of (moment_after (opening_moment a) r.log).state e.call) e ≡ []) apps here.claims_none)
      (r.images.held id (Holding h) there) in (
        view n Idle,
        gives,
        tt,
        serves_so key id h k n ks j x log s r at slots told as_much (subst (λ (a : ℕ). stands ks x (moment_after (opening_moment a) log).state.core) apps (subst (λ (c : CoreState). stands ks x c) (sym core_is) ok)) says,
        λ h' is. (refl, tells h' is g here before now core_is),
      )
    where
      quiet_at : (key : ℕ) (log : List Entry) → k.apps ≡ key → NoteAt k h.look log h.made e → publishes e.call (machine_step (moment_after (opening_moment key) log).state e).1.reply.code ≡ false
      quiet_at key log apps here = subst (λ (a : ℕ). publishes e.call (machine_step (moment_after (opening_moment a) log).state e).1.reply.code ≡ false) apps (quiet_as (moment_after (opening_moment k.apps) h.look) (moment_after (opening_moment k.apps) log) e here.same quiet)

      behind : (log : List Entry) (g : Grew h.look log) → NoteAt k h.look log h.made e → Sees k log → Sees (know_after k log e) (log ++ e ∷ []) → (state_at k (log ++ e ∷ [])).core ≡ (state_at k (h.look ++ e ∷ [])).core → DecidesBehind k h.look e (view (know_after k log e) Idle)
      behind log g here before now core = record {
        more = g.more;
        free = g.free;
        decides = subst (λ (l : List Entry). Decides k l e (view (know_after k log e) Idle)) (sym g.is) record { is = refl; saw = before; sees = now };
        same = subst (λ (l : List Entry). exchange_at (moment_after (opening_moment k.apps) l) e ≡ exchange_at (moment_after (opening_moment k.apps) h.look) e) (sym g.is) here.same;
        core = subst (λ (l : List Entry). (state_at k (l ++ e ∷ [])).core ≡ (state_at k (h.look ++ e ∷ [])).core) (sym g.is) core;
      }

      tells : {log : List Entry} (h' : Hold) → Holding h ≡ Holding h' → Grew h.look log → NoteAt k h.look log h.made e → Sees k log → Sees (know_after k log e) (log ++ e ∷ []) → (state_at k (log ++ e ∷ [])).core ≡ (state_at k (h.look ++ e ∷ [])).core
          → MatchOption h'.noted (view (know_after k log e) Idle ≡ view k Idle) (λ z. DecidesBehind k h'.look z (view (know_after k log e) Idle))
      tells {log} h' is g here before now core = let same : h ≡ h' = cc in
          subst (λ (z : Hold). MatchOption z.noted (view (know_after k log e) Idle ≡ view k Idle) (λ y. DecidesBehind k z.look y (view (know_after k log e) Idle))) same
          (subst (λ (o : Option Entry). MatchOption o (view (know_after k log e) Idle ≡ view k Idle) (λ y. DecidesBehind k h.look y (view (know_after k log e) Idle))) (sym noted) (behind log g here before now core))

  -- a holder with the slot's value, which stands for what a core keeps after what is decided by then
  pub serves : (key id : ℕ) (h : Hold) (k : Know) (ks : List ℕ) (j : ℕ) (x : S) → (h.noted ≡ None → h.made ≡ []) → stands ks x (state_at k (history_with h.look h.noted)).core → PublishesNone k h
      → Allows (FollowsRule stands key) 1 id (sight k (Holding h) (Keeps ks j), (0, Some x) ∷ []) 1 (λ n. (n + 1) % 2 ^ 64) (Serves (step 1 1 1 0 none) (sight k (Holding h) (Keeps ks j), (0, Some x) ∷ []))
  serves key id h k ks j x unmade ok quiet = by h.noted refl
    where
      by : (o : Option Entry) → h.noted ≡ o → Allows (FollowsRule stands key) 1 id (sight k (Holding h) (Keeps ks j), (0, Some x) ∷ []) 1 (λ n. (n + 1) % 2 ^ 64) (Serves (step 1 1 1 0 none) (sight k (Holding h) (Keeps ks j), (0, Some x) ∷ []))
      by None is = serves_none key id h k ks j x is (unmade is) (subst (λ (o : Option Entry). stands ks x (state_at k (history_with h.look o)).core) is ok)
      by (Some e) is = serves_some key id h k ks j e x is (subst (λ (o : Option Entry). stands ks x (state_at k (history_with h.look o)).core) is ok)
          (subst (λ (o : Option Entry). IfSome o (λ y. publishes y.call (machine_step (state_at k h.look) y).1.reply.code ≡ false)) is quiet)
