-- The holder looks for a buffer without seats, writes it, and makes it the front.
use Rattle.std.proofs.Common.{◌≡◌, ℕ, ◌+◌, ◌*◌, ◌%◌, ◌^◌, ◌<◌, ◌≤◌, ◌≢◌, List, [], ◌∷◌, ◌++◌, length, get_or, set, sym, refl, ap, ap₂, ◌∙◌, subst, arith, Option, Some, IfSome, length-set, length-append, get_or-set_other}
use mathlib.Core.Logic.{dite}
use mathlib.Core.Option.{some, none}
use native.Mathlib.Decide.{ℕ_discrete}
use lib.ListN.{get_elem?}
use lib.Seq.{set-get_or}
use Rattle.atomic_table.specs.Table.{State as Table, step, keeps, Allows}
use Rattle.atomic_table.proofs.Lists.{at_map, set_again}
use Rattle.xr_model.specs.machine.CellCalls.{CellCall}
use Rattle.xr_model.specs.machine.Machine.{reads_of, cell_calls}
use Rattle.xr_model.specs.machine.Publication.{publication_of}
use Rattle.xr_model.specs.machine.PublicationWords.{words}
use Rattle.xr_model.specs.machine.Calls.{Entry}
use Rattle.xr_model.specs.machine.State.{CoreState, State}
use Rattle.xr_model.specs.laws.ImageWords.{claimed_by}
use Rattle.xr_model.specs.laws.Moments.{opening_moment, moment_after, IsLegalAt, exchange_at}
use Rattle.xr_model.proofs.CallWords.{slot_within}
use Rattle.xr_model.proofs.Histories.{after_is_in_turn}
use Rattle.xr_rule.specs.Sums.{total}
use Rattle.xr_rule.specs.Plays.{Sees, published_by, counts_with, Publishes, Searches, Finds, Changes, Swaps}
use Rattle.xr_rule.specs.Rule.{Tickets, SlotStands, Grew, image_word, stamp_word, WordsSay, WordsSayIf, ImageWords, state_at, MayNote, published_words, FollowsRule, front_word}
use Rattle.xr_rule.specs.Shows.{buffers, buffer_words, exit_word, state_word, front_of, no_count, inside, is_writing, reads_some, Shows}
use Rattle.xr_rule.specs.View.{Know, Hold, Turn, View, Eyes, Idle, Waiting, Holding, Keeps, Writes, sight, hold_from, know_of, turn_of, eyes_of, know_after}
use Rattle.xr_rule.proofs.Carrying.{NoteAt}
use Rattle.xr_rule.proofs.Deciding.{decides_so}
use Rattle.xr_rule.proofs.LastWords.{last_is, front_is, fronts_are}
use Rattle.xr_rule.proofs.Published.{words_are}
use Rattle.xr_rule.proofs.Serving.{noted_at, words_decided}
use Rattle.xr_rule.proofs.Showing.{searched_more, inside_few, shows_on, shows_write, shows_swap}
use Rattle.xr_rule.proofs.Steps.{knows, turns, eyes, apps_of, whole, same_history, few_read, others_write_none}
use Rattle.xr_rule.proofs.Turning.{yes_ticket, turns_keep}

-- ---- counts

still_empty : (x c n : ℕ) → c ≡ (x + n) % 2 ^ 60 → x % 2 ^ 60 ≡ c → n ≤ 8 → n ≡ 0
still_empty x c n is hit few = omega arith

full_of : (x c n : ℕ) → c ≡ (x + n) % 2 ^ 60 → x % 2 ^ 60 ≢ c → 0 < n
full_of x c n is miss = dite (ℕ_discrete n 0) (λ z. absurd (miss (omega arith))) (λ nz. omega arith)

no_such : (x : ℕ) → x % 2 ^ 60 ≢ no_count
no_such x e = omega arith

-- ---- words of images

-- no word of what is published is one of an image
words_far : (st : State) (made : List CellCall) (ws : List ℕ) (n v : ℕ) → front_word ≤ n → WordsSay st made ws → WordsSay st made (set ws n v)
words_far st made ws n v far w = record {
  image = λ i placed. let low = slot_within i placed in get_or-set_other ws n (image_word i) v 0 (λ e. omega (arith, low, far, e)) ∙ w.image i placed;
  stamp = λ i placed. let low = slot_within i placed in get_or-set_other ws n (stamp_word i) v 0 (λ e. omega (arith, low, far, e)) ∙ w.stamp i placed;
}

says_far : (st : State) (ws : List ℕ) (n v : ℕ) (u : Turn) → front_word ≤ n → WordsSayIf st ws u → WordsSayIf st (set ws n v) u
says_far st ws n v Idle far w = tt
says_far st ws n v (Waiting t) far w = tt
says_far st ws n v (Holding h) far w = words_far st h.made ws n v far w

pub images_far : (st : State) (ws : List ℕ) (n v : ℕ) (us : List Turn) → front_word ≤ n → ImageWords st ws us → ImageWords st (set ws n v) us
images_far st ws n v us far i = record { held = λ j u e. says_far st ws n v u far (i.held j u e); free = λ none_holds. words_far st [] ws n v far (i.free none_holds) }

-- a look leaves every word
pub same_words : (ws : List ℕ) (n i : ℕ) → get_or (set ws n (get_or ws n 0)) i 0 ≡ get_or ws i 0
same_words ws n i = ap (λ (us : List ℕ). get_or us i 0) (set-get_or ws n 0)

module _ {S : Type 0} (stands : List ℕ → S → CoreState → Type 0) where
  -- a seat sees anew, by a step on a word of what is published
  pub sees_anew : (key id : ℕ) (k : Know) (u : Turn) (y z : Eyes) (n v : ℕ) (s : Table (Option S) View) (r : FollowsRule stands key s) → get_elem? s.views id ≡ some (sight k u y) → front_word ≤ n
      → Shows front_word (published_words key r.log) r.entered (set s.words n v) (set (eyes s) id z) → is_writing z ≡ is_writing y → reads_some z ≤ reads_some y
      → FollowsRule stands key record { words = set s.words n v; homes = s.homes; views = set s.views id (sight k u z) }
  sees_anew key id k u y z n v s r at far shown same less =
      let ws : List ℕ = set s.words n v in
      let was : View = sight k u y in
      let fit = r.fits id was at in
      let there : get_elem? (turns s) id ≡ some u = at_map turn_of s.views id was at in
      let zero_is : get_or ws 0 0 ≡ get_or s.words 0 0 = get_or-set_other s.words n 0 v 0 (λ e. omega (arith, far, e)) in
      let one_is : get_or ws 1 0 ≡ get_or s.words 1 0 = get_or-set_other s.words n 1 v 0 (λ e. omega (arith, far, e)) in
      whole stands key s ws s.homes id (sight k u z) r.log r.drawn r.served r.entered r.fits (length-set s.words n v ∙ r.wide) r.few
      (same_history stands key s r.log id was at r.history)
      (subst (λ (x : ℕ × ℕ). Tickets x.0 x.1 r.drawn r.served (set (turns s) id u)) (λ i. (sym zero_is i, sym one_is i)) (turns_keep (get_or s.words 0 0) (get_or s.words 1 0) r.drawn r.served (turns s) id u u r.tickets there refl (λ _. refl)))
      (subst (λ (us : List Turn). SlotStands (stands r.entered) key r.log r.served s.homes us) (sym (set_again (turns s) id u there)) r.slot)
      (subst (λ (us : List Turn). ImageWords (moment_after (opening_moment key) r.log).state ws us) (sym (set_again (turns s) id u there)) (images_far (moment_after (opening_moment key) r.log).state s.words n v (turns s) far r.images))
      shown
      record { numbered = fit.numbered; holds = fit.holds; holds_eyes = same ∙ fit.holds_eyes; reads_own = omega (arith, less, fit.reads_own) }

  -- ---- the search

  pub searches : (key id : ℕ) (k : Know) (u : Turn) (cs : List ℕ) (j word : ℕ) (c : List (ℕ × Option S)) → word ≡ exit_word front_word j → j < buffers
      → Allows (FollowsRule stands key) 1 id (sight k u (Keeps cs j), c) word (λ n. n) (Searches (step 1 word 0 0 none) (sight k u (Keeps cs j), c))
  searches key id k u cs j word c is near s r slots at small =
      let y : Eyes = Keeps cs j in
      let v : View = sight k u y in
      let es : List Eyes = eyes s in
      let f : ℕ = front_of front_word s.words in
      let seen : get_elem? es id ≡ some y = at_map eyes_of s.views id v at in
      let well = r.shows.each id y seen in
      let x : ℕ = get_or s.words word 0 in
      let there : x ≡ get_or s.words (exit_word front_word j) 0 = ap (λ (i : ℕ). get_or s.words i 0) is in
      let entered : get_or cs j 0 ≡ get_or r.entered j 0 = ap (λ (l : List ℕ). get_or l j 0) well.0 in
      let count : j ≢ f → get_or cs j 0 ≡ (x + total (inside j) es) % 2 ^ 60 = λ ne. entered ∙ (r.shows.counted j near ne ∙ ap (λ (z : ℕ). (z + total (inside j) es) % 2 ^ 60) (sym there)) in
      let far : front_word ≤ word = omega (arith, is) in
      let ws : List ℕ = set s.words word x in
      dite (ℕ_discrete (x % 2 ^ 60) (get_or cs j 0))
      (λ hit.
      let apart : j ≢ f = λ e. no_such x (hit ∙ (entered ∙ (ap (λ (z : ℕ). get_or r.entered z 0) e ∙ r.shows.marked))) in
      let none_in : total (inside j) es ≡ 0 = still_empty x (get_or cs j 0) (total (inside j) es) (count apart) hit (few_in j) in
      let z : Eyes = Writes cs j [] in
      let shown = shows_on front_word (published_words key r.log) r.entered s.words ws es id y z r.shows (λ i l. same_words s.words word i) seen (λ b. refl) (λ f k. refl) (well.0, record { near = near; apart = apart; empty = none_in; short = omega arith; stored = λ i l. absurd (omega arith) }) in (
        sight k u z,
        keeps,
        tt,
        sees_anew key id k u y z word x s r at far shown refl (omega arith),
        λ cs' j' e. let ec : cs ≡ cs' = cc in let ej : j ≡ j' = cc in (
          (λ _. λ i. (sight k u (Writes (ec i) (ej i) []), c)),
          λ miss. absurd (miss (hit ∙ ap₂ (λ (l : List ℕ) (n : ℕ). get_or l n 0) ec ej)),
        ),
      ))
      (λ miss.
      let more = searched_more f j es r.shows.front well.2 (λ ne. full_of x (get_or cs j 0) (total (inside j) es) (count ne) miss) in
      let z : Eyes = Keeps cs (j + 1) in
      let shown = shows_on front_word (published_words key r.log) r.entered s.words ws es id y z r.shows (λ i l. same_words s.words word i) seen (λ b. refl) (λ f k. refl) (well.0, omega arith, more.0) in (
        sight k u z,
        keeps,
        tt,
        sees_anew key id k u y z word x s r at far shown refl (omega arith),
        λ cs' j' e. let ec : cs ≡ cs' = cc in let ej : j ≡ j' = cc in (
          (λ hit. absurd (miss (hit ∙ sym (ap₂ (λ (l : List ℕ) (n : ℕ). get_or l n 0) ec ej)))),
          λ _. ((λ i. (sight k u (Keeps (ec i) (ej i + 1)), c)), subst (λ (n : ℕ). n + 1 < buffers) ej (omega (arith, more.1))),
        ),
      ))
    where
      few_in : (j : ℕ) → total (inside j) (eyes s) ≤ 8
      few_in j = omega (arith, inside_few j (eyes s), few_read stands key s r)

  -- ---- writing

  pub finds : (key id : ℕ) (k : Know) (u : Turn) (cs : List ℕ) (b word : ℕ) (xs : List ℕ) (c : List (ℕ × Option S)) → word ≡ state_word front_word b (length xs) → length xs < buffer_words
      → Allows (FollowsRule stands key) 1 id (sight k u (Writes cs b xs), c) word (λ n. n) (Finds (step 1 word 0 0 none) (sight k u (Writes cs b xs), c))
  finds key id k u cs b word xs c is room s r slots at small =
      let y : Eyes = Writes cs b xs in
      let v : View = sight k u y in
      let es : List Eyes = eyes s in
      let seen : get_elem? es id ≡ some y = at_map eyes_of s.views id v at in
      let well = r.shows.each id y seen in
      let x : ℕ = get_or s.words word 0 in
      let z : Eyes = Writes cs b (xs ++ x ∷ []) in
      let w = well.1 in
      let shown = shows_on front_word (published_words key r.log) r.entered s.words (set s.words word x) es id y z r.shows (λ i l. same_words s.words word i) seen (λ b. refl) (λ f k. refl) (
        well.0,
        record {
          near = w.near;
          apart = w.apart;
          empty = w.empty;
          short = omega (arith, length-append xs (x ∷ []));
          stored = λ i l. dite (ℕ_discrete i (length xs))
              (λ e. ap (λ (n : ℕ). get_or s.words (state_word front_word b n) 0) e ∙ (ap (λ (n : ℕ). get_or s.words n 0) (sym is) ∙ sym (ap (λ (n : ℕ). get_or (xs ++ x ∷ []) n 0) e ∙ last_is xs x)))
              (λ ne. let less : i < length xs = omega (arith, length-append xs (x ∷ [])) in w.stored i less ∙ sym (front_is xs x i less));
        },
      ) in (
        sight k u z,
        keeps,
        tt,
        sees_anew key id k u y z word x s r at (omega (arith, is)) shown refl (omega arith),
        λ cs' b' xs' e. let ec : cs ≡ cs' = cc in let eb : b ≡ b' = cc in let ex : xs ≡ xs' = cc in λ i. (sight k u (Writes (ec i) (eb i) (ex i ++ x ∷ [])), c),
      )

  pub changes : (key id : ℕ) (k : Know) (h : Hold) (cs : List ℕ) (b word x y : ℕ) (xs : List ℕ) (c : List (ℕ × Option S)) → word ≡ state_word front_word b (length xs)
      → Allows (FollowsRule stands key) 1 id (sight k (Holding h) (Writes cs b (xs ++ y ∷ [])), c) word (λ _. x) (λ _. Changes (step 1 word x 0 none) (sight k (Holding h) (Writes cs b (xs ++ y ∷ [])), c) x)
  changes key id k h cs b word x y xs c is s r slots at small =
      let u : Turn = Holding h in
      let old : Eyes = Writes cs b (xs ++ y ∷ []) in
      let new : Eyes = Writes cs b (xs ++ x ∷ []) in
      let v : View = sight k u old in
      let w : View = sight k u new in
      let there : get_elem? (turns s) id ≡ some u = at_map turn_of s.views id v at in
      let seen : get_elem? (eyes s) id ≡ some old = at_map eyes_of s.views id v at in
      let held = r.slot.held id u there in
      let well = r.shows.each id old seen in
      let wide = r.wide in
      let P : List ℕ → ℕ → Type 0 = λ ks n. Shows front_word (published_words key r.log) r.entered (set s.words n x) (set (eyes s) id (Writes ks b (xs ++ x ∷ []))) in
      let shown : P cs word = subst (λ (z : List ℕ × ℕ). P z.0 z.1) (λ i. (sym well.0 i, sym is i))
      (shows_write front_word (published_words key r.log) r.entered s.words (eyes s) id b x y xs r.shows (omega arith) (seen ∙ ap (λ (ks : List ℕ). some (Writes ks b (xs ++ y ∷ []))) well.0)
      (others_write_none stands key s r id u there (yes_ticket h.ticket r.served held.is_served))) in (
        w,
        keeps,
        tt,
        sees_anew key id k u old new word x s r at (omega (arith, is)) shown refl (omega arith),
        λ cs' b' xs' y' e. let ec : cs ≡ cs' = cc in let eb : b ≡ b' = cc in let ex : xs ++ y ∷ [] ≡ xs' ++ y' ∷ [] = cc in let same : xs ≡ xs' = fronts_are xs xs' y y' ex in
            λ i. (sight k u (Writes (ec i) (eb i) (same i ++ x ∷ [])), c),
      )

  -- ---- the swap

  pub swaps : (key id : ℕ) (k : Know) (h : Hold) (e : Entry) (cs : List ℕ) (b x : ℕ) (xs : List ℕ) (c : List (ℕ × Option S)) → h.noted ≡ Some e → xs ≡ words (published_by k (h.look ++ e ∷ [])) → x ≡ b + 16 * get_or cs b 0
      → Allows (FollowsRule stands key) 1 id (sight k (Holding h) (Writes cs b xs), c) front_word (λ _. x) (Swaps (step 1 front_word x 0 none) (sight k (Holding h) (Writes cs b xs), c))
  swaps key id k h e cs b x xs c noted whole_is is s r slots at small =
      let u : Turn = Holding h in
      let old : Eyes = Writes cs b xs in
      let v : View = sight k u old in
      let known : get_elem? (knows s) id ≡ some k = at_map know_of s.views id v at in
      let there : get_elem? (turns s) id ≡ some u = at_map turn_of s.views id v at in
      let seen : get_elem? (eyes s) id ≡ some old = at_map eyes_of s.views id v at in
      let fit = r.fits id v at in
      let some_own = fit.numbered in
      let held = r.slot.held id u there in
      let g = held.grew in
      let well = r.shows.each id old seen in
      let apps = apps_of key r.log k (r.history.each id k known) some_own in
      let may : MayNote k h.look h.made e = subst (λ (o : Option Entry). IfSome o (λ z. MayNote k h.look h.made z)) noted fit.holds.notes_own in
      let here : NoteAt k h.look r.log h.made e = noted_at key r.log (knows s) id k h e r.history known some_own fit.holds.begins g may in
      let log : List Entry = r.log ++ e ∷ [] in
      let core_is : (state_at k log).core ≡ (state_at k (h.look ++ e ∷ [])).core = ap (λ (t : State). t.core) (after_is_in_turn (opening_moment k.apps).state r.log (e ∷ [])) ∙ (here.core ∙ ap (λ (t : State). t.core) (sym (after_is_in_turn (opening_moment k.apps).state h.look (e ∷ [])))) in
      let mine = yes_ticket h.ticket r.served held.is_served in
      let found : ℕ = get_or s.words front_word 0 in
      let ws : List ℕ = set s.words front_word x in
      let wide = r.wide in
      let cs' : List ℕ = counts_with r.entered b found in
      let z : Eyes = Keeps cs' 0 in
      let shown : Shows front_word xs cs' ws (set (eyes s) id z) = shows_swap front_word (published_words key r.log) r.entered s.words (eyes s) id b x xs r.shows (omega (arith, wide)) (seen ∙ ap (λ (l : List ℕ). some (Writes l b xs)) well.0)
      (others_write_none stands key s r id u there mine) (few_read stands key s r) (is ∙ ap (λ (l : List ℕ). b + 16 * get_or l b 0) well.0) in
      let as_much : published_words key log ≡ xs = words_are key k.apps log apps ∙ (ap (λ (q : CoreState). words (publication_of q)) core_is ∙ sym whole_is) in
      let says = λ (grown : IsLegalAt (opening_moment key) log). words_decided key r.log h.made e ws grown may.returns_none
      (subst (λ (a : ℕ). h.made ≡ cell_calls (moment_after (opening_moment a) r.log).state.core (reads_of (moment_after (opening_moment a) r.log).state e.call) e) apps here.made_is)
      (subst (λ (a : ℕ). claimed_by (moment_after (opening_moment a) r.log).state.core (reads_of (moment_after (opening_moment a) r.log).state e.call) e ≡ []) apps here.claims_none)
      (words_far (moment_after (opening_moment key) r.log).state h.made s.words front_word x (omega arith) (r.images.held id u there)) in
      let all = decides_so stands key id h k old z e s r ws cs' at here.decides refl
      (λ _. subst (λ (q : List ℕ). Shows front_word q cs' ws (set (eyes s) id z)) (sym as_much) shown)
      (length-set s.words front_word x ∙ wide) (get_or-set_other s.words front_word 0 x 0 (λ e. omega (arith, e))) (get_or-set_other s.words front_word 1 x 0 (λ e. omega (arith, e))) says in (
        sight (know_after k r.log e) (Holding (hold_from h.ticket log)) z,
        keeps,
        tt,
        all.0,
        λ h' e' ds b' xs' turn is_noted e_is. tells h' e' ds b' found g here core_is turn is_noted e_is well.0 all.1 all.2 r.shows.front,
      )
    where
      -- the entry came behind this history
      behind : (log : List Entry) (entered : List ℕ) (found : ℕ) (g : Grew h.look log) → NoteAt k h.look log h.made e → (state_at k (log ++ e ∷ [])).core ≡ (state_at k (h.look ++ e ∷ [])).core → cs ≡ entered
          → Sees k log → Sees (know_after k log e) (log ++ e ∷ [])
          → Publishes k h e (counts_with cs b found) (sight (know_after k log e) (Holding (hold_from h.ticket (log ++ e ∷ []))) (Keeps (counts_with entered b found) 0))
      behind log entered found g here core kept before now = record {
        more = g.more;
        free = g.free;
        saw = subst (Sees k) (sym g.is) before;
        sees = subst (λ (l : List Entry). Sees (know_after k l e) (l ++ e ∷ [])) (sym g.is) now;
        is = λ i. sight (know_after k (sym g.is i) e) (Holding (hold_from h.ticket (sym g.is i ++ e ∷ []))) (Keeps (counts_with (sym kept i) b found) 0);
        same = subst (λ (l : List Entry). exchange_at (moment_after (opening_moment k.apps) l) e ≡ exchange_at (moment_after (opening_moment k.apps) h.look) e) (sym g.is) here.same;
        core = subst (λ (l : List Entry). (state_at k (l ++ e ∷ [])).core ≡ (state_at k (h.look ++ e ∷ [])).core) (sym g.is) core;
      }

      some_is : (x y : Entry) → Some x ≡ Some y → x ≡ y
      some_is x y q = cc

      tells : {log : List Entry} {entered : List ℕ} {ys : List ℕ} (h' : Hold) (e' : Entry) (ds : List ℕ) (b' found : ℕ) (g : Grew h.look log) → NoteAt k h.look log h.made e → (state_at k (log ++ e ∷ [])).core ≡ (state_at k (h.look ++ e ∷ [])).core
          → Holding h ≡ Holding h' → h'.noted ≡ Some e' → Writes cs b xs ≡ Writes ds b' ys → cs ≡ entered → Sees k log → Sees (know_after k log e) (log ++ e ∷ []) → found % 16 < buffers
          → (c ≡ c) × (found % 16 < buffers) × Publishes k h' e' (counts_with ds b' found) (sight (know_after k log e) (Holding (hold_from h.ticket (log ++ e ∷ []))) (Keeps (counts_with entered b found) 0))
      tells {log} {entered} {ys} h' e' ds b' found g here core turn is_noted e_is kept before now near =
          let same : h ≡ h' = cc in
          let ee : e ≡ e' = some_is e e' (sym noted ∙ (ap (λ (z : Hold). z.noted) same ∙ is_noted)) in
          let ec : cs ≡ ds = cc in
          let eb : b ≡ b' = cc in
          let v : View = sight (know_after k log e) (Holding (hold_from h.ticket (log ++ e ∷ []))) (Keeps (counts_with entered b found) 0) in
          (refl, near, subst (λ (z : Hold). Publishes k z e' (counts_with ds b' found) v) same (subst (λ (z : Entry). Publishes k h z (counts_with ds b' found) v) ee (subst (λ (q : List ℕ × ℕ). Publishes k h e (counts_with q.0 q.1 found) v) (λ i. (ec i, eb i)) (behind log entered found g here core kept before now))))
