-- The compositor gives an image back without the lock, also while another seat holds.
use Rattle.std.proofs.Common.{◌≡◌, ◌≢◌, ℕ, ◌+◌, ◌-◌, ◌%◌, ◌^◌, ◌<◌, ◌==◌, Bool, true, false, List, [], ◌∷◌, ◌++◌, length, get_or, set, sym, refl, ap, ◌∙◌, subst, ⊎_elim, arith, Option, length-set, get_or-set_same, get_or-set_other, true≢false}
use mathlib.Core.Option.{some, none}
use lib.ListN.{get_elem?}
use Rattle.atomic_table.specs.Table.{State as Table, step, keeps, Allows}
use Rattle.atomic_table.proofs.Lists.{at_set, at_map, set_here}
use Rattle.xr_types.specs.declared.frames.Image.{Image}
use Rattle.xr_model.specs.laws.Soundness.{StateIsSound}
use Rattle.xr_model.specs.scenario.InRange.{Each}
use Rattle.xr_model.specs.machine.CellCalls.{CellCall}
use Rattle.xr_model.specs.machine.Frames.{one_if}
use Rattle.xr_model.specs.machine.Images.{slot_of, times_in, stamp_in}
use Rattle.xr_model.specs.machine.Machine.{step as machine_step}
use Rattle.xr_model.specs.machine.Calls.{Entry, Exchange}
use Rattle.xr_model.specs.machine.State.{CoreState, State, with_apps}
use Rattle.xr_model.specs.laws.FewCalls.{how_many, tells_end, MayAdd}
use Rattle.xr_model.specs.laws.ImageLaws.{IsPlaced, is_had}
use Rattle.xr_model.specs.laws.Moments.{Moment, opening_moment, moment_after, IsLegalAt, exchange_at, actor_at}
use Rattle.xr_model.proofs.GivingBack.{giving_back_leaves_the_core}
use Rattle.xr_model.proofs.Histories.{after_is_in_turn}
use Rattle.xr_model.proofs.Rows.{same_key, itself}
use Rattle.xr_model.proofs.SoundImages.{sound_history}
use Rattle.xr_model.specs.laws.ImageWords.{word_of, word_after, stamp_after, FitsCall}
use Rattle.xr_model.proofs.CallWords.{word_more, slot_within}
use Rattle.xr_model.proofs.FreeEntries.{stamps_left}
use Rattle.xr_model.proofs.HeldReturns.{held_placed, held_unowned, done_returns, done_comes}
use Rattle.xr_model.proofs.WordSteps.{word_returns}
use Rattle.xr_rule.specs.Shows.{Shows}
use Rattle.xr_rule.specs.View.{Know, Turn, View, Idle, Waiting, Holding, Out, view, know_of, turn_of, number_in, calls_in, know_after, out}
use Rattle.xr_rule.specs.Rule.{OneHistory, Tickets, HoldsIf, image_word, stamp_word, WordsSay, WordsSayIf, MayDecide, MayReturn, HoldFits, HoldFitsIf, FollowsRule, front_word, word_count, first_image}
use Rattle.xr_rule.specs.Plays.{Sees, done_entry, GivesBack}
use Rattle.xr_rule.proofs.Sums.{at_in, at_unmap}
use Rattle.xr_rule.proofs.Turning.{turns_keep}
use Rattle.xr_rule.proofs.Carrying.{leaves_at, held_seen, holds_more}
use Rattle.xr_rule.proofs.Serving.{call_length, decides_own}
use Rattle.xr_rule.proofs.HolderSteps.{else_word}
use Rattle.xr_rule.proofs.Published.{same_published}
use Rattle.xr_rule.proofs.Steps.{knows, turns, eyes, apps_of, sees, none_before, whole, shows_still}

-- ---- words

module _ (key : ℕ) (log : List Entry) (i : Image) (rest : List Image) (legal : IsLegalAt (opening_moment key) log) (grown : IsLegalAt (opening_moment key) (log ++ done_entry ∷ [])) (held : (moment_after (opening_moment key) log).state.cells.held ≡ i ∷ rest) where
  abbrev s : State
  s = (moment_after (opening_moment key) log).state

  abbrev t : State
  t = (moment_after (opening_moment key) (log ++ done_entry ∷ [])).state

  step_is : t ≡ (machine_step s done_entry).0
  step_is = after_is_in_turn (opening_moment key).state log (done_entry ∷ [])

  pub core_is : t.core ≡ s.core
  core_is = ap (λ (z : State). z.core) step_is ∙ giving_back_leaves_the_core s done_entry refl

  sound : StateIsSound s
  sound = sound_history (with_apps key) log legal

  pub placed : IsPlaced i
  placed = held_placed s i rest sound held

  -- one use less, of this image alone
  words_one : (j : Image) → IsPlaced j → word_of t j + one_if (slot_of i == slot_of j) ≡ word_of s j
  words_one j there =
      ap (λ (z : State). word_of z j + one_if (slot_of i == slot_of j)) step_is
      ∙ (ap (λ (n : ℕ). word_of (machine_step s done_entry).0 j + n) (sym (ap (λ (l : List Image). times_in l (slot_of j)) (done_returns s i rest held) ∙ omega arith))
      ∙ word_returns (with_apps key) log done_entry j grown there refl)

  -- what the calls of any holder make of it follows, since it holds no image of the compositor's to free
  pub given_words : (made : List CellCall) (ws : List ℕ) → length ws ≡ word_count → Each (FitsCall s.core) made → WordsSay s made ws → WordsSay t made (set ws (image_word i) ((get_or ws (image_word i) 0 + (2 ^ 64 - 1)) % 2 ^ 64))
  given_words made ws wide fits w = record {
    image = λ j there. at j there (slot_of i == slot_of j) refl;
    stamp = λ j there. let low = slot_within i placed in get_or-set_other ws (image_word i) (stamp_word j) v 0 (λ e. omega (arith, low, e))
        ∙ (w.stamp j there ∙ ap (λ (l : List ℕ). stamp_after made j (stamp_in l j)) (sym (ap (λ (z : State). z.cells.stamps) step_is ∙ stamps_left s done_entry refl)));
  }
    where
      v : ℕ
      v = (get_or ws (image_word i) 0 + (2 ^ 64 - 1)) % 2 ^ 64

      at : (j : Image) → IsPlaced j → (b : Bool) → (slot_of i == slot_of j) ≡ b → get_or (set ws (image_word i) v) (image_word j) 0 ≡ word_after made j (word_of t j) % 2 ^ 64
      at j there true is =
          let same : slot_of i ≡ slot_of j = same_key (slot_of i) (slot_of j) is in
          let low = slot_within i placed in
          let inside : image_word i < length ws = omega (arith, low, wide) in
          let one : word_of t j + 1 ≡ word_of s j = ap (λ (b : Bool). word_of t j + one_if b) (sym is) ∙ words_one j there in
          let unowned : is_had s.core j ≡ false = held_unowned s i j rest sound held (sym same) in
          let more : word_after made j (word_of t j + 1) ≡ word_after made j (word_of t j) + 1 = word_more s.core made j (word_of t j) there unowned fits in
          let found : get_or ws (image_word i) 0 ≡ (word_after made j (word_of t j) + 1) % 2 ^ 64 = ap (λ (k : ℕ). get_or ws (first_image + k) 0) same ∙ (w.image j there ∙ ap (λ (n : ℕ). n % 2 ^ 64) (ap (word_after made j) (sym one) ∙ more)) in
          ap (λ (k : ℕ). get_or (set ws (image_word i) v) (first_image + k) 0) (sym same) ∙ (get_or-set_same ws (image_word i) v 0 inside ∙ omega (arith, found))
      at j there false apart =
          let equal : word_of t j ≡ word_of s j = let one : word_of t j + 0 ≡ word_of s j = ap (λ (b : Bool). word_of t j + one_if b) (sym apart) ∙ words_one j there in omega (arith, one) in
          get_or-set_other ws (image_word i) (image_word j) v 0 (λ e. other j apart (omega (arith, e))) ∙ (w.image j there ∙ ap (λ (n : ℕ). word_after made j n % 2 ^ 64) (sym equal))
        where
          other : (j : Image) → (slot_of i == slot_of j) ≡ false → slot_of j ≢ slot_of i
          other j apart same = true≢false (sym (subst (λ n. (slot_of i == n) ≡ true) (sym same) (itself (slot_of i))) ∙ apart)

-- ---- the step

module _ {S : Type 0} (stands : List ℕ → S → CoreState → Type 0) where
  pub returns : (key id : ℕ) (k : Know) (i : Image) (c : List (ℕ × Option S)) → 0 < length k.own → MayReturn k i
      → Allows (FollowsRule stands key) 1 id (view k Idle, c) (image_word i) (λ n. (n + (2 ^ 64 - 1)) % 2 ^ 64) (GivesBack (step 1 (image_word i) 1 0 none) (view k Idle, c))
  returns key id k i c some_own may s r slots at small =
      let e : Entry = done_entry in
      let n : Know = know_after k r.log e in
      let log : List Entry = r.log ++ e ∷ [] in
      let v : ℕ = (get_or s.words (image_word i) 0 + (2 ^ 64 - 1)) % 2 ^ 64 in
      let wide = r.wide in
      let known : get_elem? (knows s) id ≡ some k = at_map know_of s.views id (view k Idle) at in
      let there : get_elem? (turns s) id ≡ some Idle = at_map turn_of s.views id (view k Idle) at in
      let apps = apps_of key r.log k (r.history.each id k known) some_own in
      let before : Sees k r.log = sees key r.log (knows s) id k r.few r.history known some_own in
      let held : (moment_after (opening_moment key) r.log).state.cells.held ≡ i ∷ may.rest = subst (λ (a : ℕ). (moment_after (opening_moment a) r.log).state.cells.held ≡ i ∷ may.rest) apps (held_seen k r.log before may.is_own ∙ may.held) in
      let told : OneHistory key log (set (knows s) id n) = decides_own key r.log r.log (knows s) id k e r.history known some_own refl (may_decide k r.log may.is_own may.unended) in
      let longer_own : 0 < length n.own = omega (arith, call_length (exchange_at (moment_after (opening_moment k.apps) r.log) e) k.own, some_own) in
      let now : Sees n log = sees key log (set (knows s) id n) id n r.few told (set_here (knows s) id n (at_in (knows s) id k known)) longer_own in
      let core_same : (moment_after (opening_moment key) log).state.core ≡ (moment_after (opening_moment key) r.log).state.core = core_is key r.log i may.rest r.history.legal told.legal held in
      let here_placed : IsPlaced i = placed key r.log i may.rest r.history.legal told.legal held in
      let zero_is : get_or (set s.words (image_word i) v) 0 0 ≡ get_or s.words 0 0 = get_or-set_other s.words (image_word i) 0 v 0 (λ q. omega (arith, q)) in
      let one_is : get_or (set s.words (image_word i) v) 1 0 ≡ get_or s.words 1 0 = get_or-set_other s.words (image_word i) 1 v 0 (λ q. omega (arith, q)) in (
        view n Idle,
        keeps,
        tt,
        whole stands key s (set s.words (image_word i) v) s.homes id (view n Idle) log r.drawn r.served r.entered r.fits (length-set s.words (image_word i) v ∙ wide) r.few told
            (subst (λ (x : ℕ × ℕ). Tickets x.0 x.1 r.drawn r.served (set (turns s) id Idle)) (λ q. (sym zero_is q, sym one_is q)) (turns_keep (get_or s.words 0 0) (get_or s.words 1 0) r.drawn r.served (turns s) id Idle Idle r.tickets there refl (λ m. refl)))
            record {
              held = λ j u q. ⊎_elim (λ (p : (j ≡ id) × (Idle ≡ u)). subst (HoldsIf log r.served) p.1 tt) (λ (p : (j ≢ id) × (get_elem? (turns s) j ≡ some u)). holds_more r.log r.served done_entry u refl (r.slot.held j u p.1)) (at_set (turns s) id j Idle u q);
              free = λ none_holds. let home = r.slot.free (none_before (turns s) id Idle Idle there refl none_holds) in (home.0, home.1, subst (stands r.entered home.0) (sym core_same) home.2);
            }
            record {
              held = λ j u q. ⊎_elim (λ (p : (j ≡ id) × (Idle ≡ u)). subst (WordsSayIf (moment_after (opening_moment key) log).state (set s.words (image_word i) v)) p.1 tt)
                  (λ (p : (j ≢ id) × (get_elem? (turns s) j ≡ some u)). given_if key s r j u held told.legal p.1 (r.slot.held j u p.1) (r.images.held j u p.1)) (at_set (turns s) id j Idle u q);
              free = λ none_holds. given_words key r.log i may.rest r.history.legal told.legal held [] s.words wide tt (r.images.free (none_before (turns s) id Idle Idle there refl none_holds));
            }
            (subst (λ (p : List ℕ). Shows front_word p r.entered (set s.words (image_word i) v) (set (eyes s) id Out)) (sym (same_published key log r.log core_same)) (shows_still stands key s r (set s.words (image_word i) v) id (view k Idle) at (else_word i here_placed v s.words)))
            record { numbered = omega arith; holds = tt; holds_eyes = refl; reads_own = omega arith },
        (r.log, record { is = refl; saw = before; sees = now }, refl),
      )
    where
      may_add : (m : ℕ) (l : Moment) (calls : List Exchange) → m ≡ 1 → how_many tells_end calls ≡ 0 → MayAdd m l done_entry calls
      may_add m l calls is unended = subst (λ (x : ℕ). MayAdd x l done_entry calls) (sym is) record { in_order = λ asks. absurd (true≢false (sym asks)); unended = unended }

      may_decide : (k : Know) (look : List Entry) → number_in k.own ≡ 1 → how_many tells_end (calls_in k.own) ≡ 0 → MayDecide k look done_entry
      may_decide k look is unended = record {
        by_own = sym (ap actor_at is);
        caller = refl;
        numbers = refl;
        comes = done_comes (moment_after (opening_moment k.apps) look);
        few = may_add (number_in k.own) (moment_after (opening_moment k.apps) look) (calls_in k.own) is unended;
      }

      given_if : (key : ℕ) (s : Table (Option S) View) (r : FollowsRule stands key s) (j : ℕ) (u : Turn) (held : (moment_after (opening_moment key) r.log).state.cells.held ≡ i ∷ may.rest) → IsLegalAt (opening_moment key) (r.log ++ done_entry ∷ [])
          → get_elem? (turns s) j ≡ some u → HoldsIf r.log r.served u → WordsSayIf (moment_after (opening_moment key) r.log).state s.words u
          → WordsSayIf (moment_after (opening_moment key) (r.log ++ done_entry ∷ [])).state (set s.words (image_word i) ((get_or s.words (image_word i) 0 + (2 ^ 64 - 1)) % 2 ^ 64)) u
      given_if key s r j Idle held grown at holds says = tt
      given_if key s r j (Waiting t) held grown at holds says = tt
      given_if key s r j (Holding h) held grown at holds says =
          let x = at_unmap turn_of s.views j (Holding h) at in
          let v : View = x.0 in
          let fit = r.fits j v x.1 in
          let fits : HoldFits v.know h = subst (λ (u : Turn). HoldFitsIf v.know u) x.2 fit.holds in
          let some_own : 0 < length v.know.own = let few = fit.numbered in omega (arith, few, ap out x.2) in
          let apps = apps_of key r.log v.know (r.history.each j v.know (at_map know_of s.views j v x.1)) some_own in
          let g = holds.grew in
          let left : (moment_after (opening_moment key) r.log).state.core ≡ (moment_after (opening_moment key) h.look).state.core = subst (λ (l : List Entry). (moment_after (opening_moment key) l).state.core ≡ (moment_after (opening_moment key) h.look).state.core) g.is (leaves_at (opening_moment key) h.look g.more g.free).core in
          let made : Each (FitsCall (moment_after (opening_moment key) r.log).state.core) h.made = subst (λ (c : CoreState). Each (FitsCall c) h.made) (ap (λ (a : ℕ). (moment_after (opening_moment a) h.look).state.core) apps ∙ sym left) fits.made_fits in
          given_words key r.log i may.rest r.history.legal grown held h.made s.words r.wide made says
