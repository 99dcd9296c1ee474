-- A holder's own entry is decided, and it goes on holding behind it.
use Rattle.std.proofs.Common.{Option, ◌≡◌, ℕ, ◌<◌, ◌≤◌, true, List, [], ◌∷◌, ◌++◌, length, get_or, set, sym, refl, subst, arith, append-nil, true≢false}
use mathlib.Core.Option.{some}
use lib.ListN.{get_elem?}
use Rattle.atomic_table.specs.Table.{State as Table}
use Rattle.atomic_table.proofs.Lists.{at_map, set_here}
use Rattle.xr_model.specs.machine.Calls.{Entry}
use Rattle.xr_model.specs.machine.State.{CoreState}
use Rattle.xr_model.specs.laws.Moments.{opening_moment, moment_after, IsLegalAt, exchange_at}
use Rattle.xr_rule.specs.Shows.{is_writing, reads_some, Shows}
use Rattle.xr_rule.specs.View.{Know, Hold, Turn, Eyes, Holding, Out, Inside, Keeps, Writes, View, sight, hold_from, know_of, turn_of, app_in, know_after}
use Rattle.xr_rule.specs.Rule.{OneHistory, Tickets, WordsSay, MayDecide, published_words, FollowsRule, front_word, word_count}
use Rattle.xr_rule.specs.Plays.{Sees}
use Rattle.xr_rule.proofs.Sums.{at_in}
use Rattle.xr_rule.proofs.Prefixes.{prefix_self}
use Rattle.xr_rule.proofs.Serving.{call_length, decides_own}
use Rattle.xr_rule.proofs.Steps.{knows, turns, eyes, sees, nobody_else, slot_holding, images_holding, whole}
use Rattle.xr_rule.proofs.Turning.{yes_ticket, turns_keep}

-- who writes is in no buffer
writes_aside : (y : Eyes) (n : ℕ) → is_writing y ≡ true → reads_some y ≤ n
writes_aside Out n is = omega arith
writes_aside (Inside b p) n is = absurd (true≢false (sym is))
writes_aside (Keeps cs j) n is = omega arith
writes_aside (Writes cs b xs) n is = omega arith

module _ {S : Type 0} (stands : List ℕ → S → CoreState → Type 0) where
  -- the words are then as the state behind the entry says, and so is what is published
  pub decides_so : (key id : ℕ) (h : Hold) (k : Know) (y z : Eyes) (e : Entry) (s : Table (Option S) View) (r : FollowsRule stands key s) (ws cs : List ℕ) → get_elem? s.views id ≡ some (sight k (Holding h) y) → MayDecide k r.log e → is_writing z ≡ true
      → (IsLegalAt (opening_moment key) (r.log ++ e ∷ []) → Shows front_word (published_words key (r.log ++ e ∷ [])) cs ws (set (eyes s) id z))
      → length ws ≡ word_count → get_or ws 0 0 ≡ get_or s.words 0 0 → get_or ws 1 0 ≡ get_or s.words 1 0
      → (IsLegalAt (opening_moment key) (r.log ++ e ∷ []) → WordsSay (moment_after (opening_moment key) (r.log ++ e ∷ [])).state [] ws)
      → FollowsRule stands key record { words = ws; homes = s.homes; views = set s.views id (sight (know_after k r.log e) (Holding (hold_from h.ticket (r.log ++ e ∷ []))) z) }
      × Sees k r.log × Sees (know_after k r.log e) (r.log ++ e ∷ [])
  decides_so key id h k y z e s r ws cs at may writes shown wide zero_is one_is says =
      let u : Turn = Holding h in
      let v : View = sight k u y in
      let n : Know = know_after k r.log e in
      let log : List Entry = r.log ++ e ∷ [] in
      let g : Hold = hold_from h.ticket log in
      let there : get_elem? (turns s) id ≡ some u = at_map turn_of s.views id v at in
      let known : get_elem? (knows s) id ≡ some k = at_map know_of s.views id v at in
      let fit = r.fits id v at in
      let some_own = fit.numbered in
      let held = r.slot.held id u there in
      let others = nobody_else stands key s r id u there (yes_ticket h.ticket r.served held.is_served) in
      let told : OneHistory key log (set (knows s) id n) = decides_own key r.log r.log (knows s) id k e r.history known some_own refl may in
      let longer_own : 0 < length n.own = omega (arith, call_length (exchange_at (moment_after (opening_moment k.apps) r.log) e) k.own, some_own) in (
        whole stands key s ws s.homes id (sight n (Holding g) z) log r.drawn r.served cs r.fits wide r.few told
            (subst (λ (x : ℕ × ℕ). Tickets x.0 x.1 r.drawn r.served (set (turns s) id (Holding g))) (λ q. (sym zero_is q, sym one_is q)) (turns_keep (get_or s.words 0 0) (get_or s.words 1 0) r.drawn r.served (turns s) id u (Holding g) r.tickets there refl (λ m. refl)))
            (slot_holding (turns s) id others (stands cs) key log r.served s.homes u g there (record { is_served = held.is_served; grew = record { more = []; is = append-nil log; free = refl } }))
            (images_holding (turns s) id others (moment_after (opening_moment key) log).state ws u g there (says told.legal))
            (shown told.legal)
            record { numbered = longer_own; holds = record { begins = prefix_self log; notes_own = tt; made_fits = tt }; holds_eyes = writes; reads_own = writes_aside z (app_in n.own) writes },
        sees key r.log (knows s) id k r.few r.history known some_own,
        sees key log (set (knows s) id n) id n r.few told (set_here (knows s) id n (at_in (knows s) id k known)) longer_own,
      )
