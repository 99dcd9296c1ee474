-- A holder claims an image, which decides its wait: where the image is unused, and where it is used and the time is up.
use Rattle.std.proofs.Common.{◌≡◌, ◌≢◌, ℕ, ℤ, ◌+◌, ◌%◌, ◌^◌, ◌<◌, ◌≤◌, ◌==◌, Bool, true, false, List, [], ◌∷◌, ◌++◌, length, get_or, set, sym, refl, ap, ◌∙◌, subst, arith, Option, None, length-set, get_or-set_same, get_or-set_other, true≢false, eq-eqb, ne_eqb}
use Rattle.std.specs.Prelude.{if◌then◌else◌}
use mathlib.Core.Logic.{dite}
use mathlib.Core.Option.{some, none}
use native.Mathlib.Decide.{ℕ_discrete}
use prog.Atomic.{either}
use lib.ListN.{get_elem?}
use Rattle.atomic_table.specs.Table.{State as Table, Me, Act, step, keeps, carried_after, Valid, stepped, Allows}
use Rattle.atomic_table.proofs.Lists.{at_map, set_again}
use Rattle.xr_types.specs.declared.frames.Image.{Image}
use Rattle.xr_model.specs.machine.CellCalls.{CellCall}
use Rattle.xr_model.specs.machine.Images.{Stamped, slot_of, stamp_in, with_stamps}
use Rattle.xr_model.specs.machine.Machine.{step as machine_step, reads_of, core_ready, IsPresent}
use Rattle.xr_model.specs.machine.History.{StartsAt, clock_of}
use Rattle.xr_types.specs.CallKinds.{publishes}
use Rattle.xr_types.specs.declared.calls.Call.{Call}
use Rattle.xr_model.specs.machine.Calls.{Entry}
use Rattle.xr_model.specs.machine.Rule.{Did, nothing_done}
use Rattle.xr_model.specs.machine.Rules.Swapchains.{is_up}
use Rattle.xr_model.specs.machine.State.{CoreState, State, with_apps}
use Rattle.xr_model.specs.laws.ImageLaws.{IsPlaced, is_had, did_at, count_now}
use Rattle.xr_model.specs.laws.Moments.{Moment, opening_moment, moment_after, IsLegalAt}
use Rattle.xr_model.proofs.Histories.{after_is_in_turn}
use Rattle.xr_model.proofs.ImageOwners.{counts_are_few}
use Rattle.xr_model.proofs.Rows.{same_key}
use Rattle.xr_rule.proofs.HolderSteps.{apart_of, else_word}
use Rattle.xr_model.proofs.SoundImages.{sound_history}
use Rattle.xr_model.specs.laws.ImageWords.{word_of, stamp_of, are_free, Claims, late_of}
use Rattle.xr_model.proofs.CallWords.{slot_within}
use Rattle.xr_model.proofs.FittingCalls.{claimed_fits}
use Rattle.xr_model.specs.laws.ImageWordLaws.{Leaves, Gets}
use Rattle.xr_model.proofs.ImageWaits.{gets, expires, wait_allowed, unused_is, claims_at}
use Rattle.xr_model.proofs.WordSteps.{word_claims, word_stays}
use Rattle.xr_rule.specs.Shows.{is_writing, Shows}
use Rattle.xr_rule.specs.View.{Know, Hold, View, Eyes, Holding, sight, hold_from, know_of, turn_of, number_in, calls_in, know_after}
use Rattle.xr_rule.specs.Rule.{Grew, image_word, stamp_word, WordsSay, state_at, MayDecide, MayClaim, published_words, FollowsRule, front_word, word_count, first_image}
use Rattle.xr_rule.specs.Plays.{Sees, DecidesHolding, Claimed, Claims as ClaimsPlay}
use Rattle.xr_rule.proofs.Deciding.{decides_so}
use Rattle.xr_rule.proofs.Carrying.{leaves_at, others_add}
use Rattle.xr_rule.proofs.Published.{next_publishes_none}
use Rattle.xr_rule.proofs.Steps.{knows, turns, eyes, apps_of, unchanged, shows_still}

-- ---- the entry

-- It may be decided at a later history with the same core and clocks, where it is ready.
claim_decides : (k : Know) (look log : List Entry) (e : Entry) (i : Image) (late : Bool) → Leaves (moment_after (opening_moment k.apps) look) (moment_after (opening_moment k.apps) log) → MayClaim k look e i late
    → core_ready (state_at k log).core (reads_of (state_at k log) e.call) e ≡ true → MayDecide k log e
claim_decides k look log e i late left may is_ready =
    let m : Moment = moment_after (opening_moment k.apps) look in
    let n : Moment = moment_after (opening_moment k.apps) log in
    record {
      by_own = may.is_own;
      caller = may.caller;
      numbers = may.numbers;
      comes = record {
        allowed = wait_allowed n.state.core (reads_of n.state e.call) e i (claims_at m.state.core n.state.core e i left.core may.claims) may.given may.short (subst (λ (c : CoreState). IsPresent c e.actor) (sym left.core) may.present);
        starts = subst (λ (l : List ℤ). StartsAt (clock_of l e.actor) e.call) (sym left.clocks) may.starts;
        is_ready = is_ready;
      };
      few = others_add (number_in k.own) m n e (calls_in k.own) may.others may.few;
    }

-- ---- words

module _ (key : ℕ) (log : List Entry) (e : Entry) (i : Image) (ws : List ℕ) (legal : IsLegalAt (opening_moment key) log) (claims : Claims (moment_after (opening_moment key) log).state.core e i) (w : WordsSay (moment_after (opening_moment key) log).state [] ws) where
  abbrev s : State
  s = (moment_after (opening_moment key) log).state

  pub fits : IsPlaced i × (is_had s.core i ≡ false)
  fits = subst (λ (j : Image). IsPlaced j × (is_had s.core j ≡ false)) (sym claims.image) (claimed_fits s claims.chain (sound_history (with_apps key) log legal) claims.may)

  word_is : get_or ws (image_word i) 0 ≡ count_now s i
  word_is =
      let few = counts_are_few (with_apps key) log i legal fits.0 in
      let found : get_or ws (image_word i) 0 ≡ count_now s i % 2 ^ 64 = w.image i fits.0 ∙ ap (λ (b : Bool). (if b then 2 ^ 32 else count_now s i) % 2 ^ 64) fits.1 in
      omega (arith, few, found)

  -- the word is 0 exactly where the image is unused
  pub found_unused : get_or ws (image_word i) 0 ≡ 0 → (reads_of s e.call).unused ≡ true
  found_unused gone = unused_is s e i claims ∙ eq-eqb (count_now s i) 0 (sym word_is ∙ gone)

  pub found_used : get_or ws (image_word i) 0 ≢ 0 → (reads_of s e.call).unused ≡ false
  found_used left = unused_is s e i claims ∙ ne_eqb (count_now s i) 0 (λ z. left (word_is ∙ z))

  module _ (grown : IsLegalAt (opening_moment key) (log ++ e ∷ [])) where
    abbrev t : State
    t = (moment_after (opening_moment key) (log ++ e ∷ [])).state

    step_is : t ≡ (machine_step s e).0
    step_is = after_is_in_turn (opening_moment key).state log (e ∷ [])

    stamps_same : (did_at s e).stamped ≡ [] → (j : Image) → stamp_of t j ≡ stamp_of s j
    stamps_same unset j = ap (λ (z : State). stamp_of z j) step_is ∙ ap (λ (l : List Stamped). stamp_in (with_stamps l s.cells.stamps) j) unset

    -- the application has the image
    pub got_words : length ws ≡ word_count → (reads_of s e.call).unused ≡ true → WordsSay t [] (set ws (image_word i) (2 ^ 32))
    got_words wide unused =
        let g = gets s.core (reads_of s e.call) e i claims unused in record {
          image = λ j there. at g j there (slot_of i == slot_of j) refl;
          stamp = λ j there. let low = slot_within i fits.0 in get_or-set_other ws (image_word i) (stamp_word j) (2 ^ 32) 0 (λ q. omega (arith, low, q)) ∙ (w.stamp j there ∙ sym (stamps_same g.stamped j));
        }
      where
        at : Gets s.core (reads_of s e.call) e i → (j : Image) → IsPlaced j → (b : Bool) → (slot_of i == slot_of j) ≡ b → get_or (set ws (image_word i) (2 ^ 32)) (image_word j) 0 ≡ word_of t j % 2 ^ 64
        at g j there b is =
            let after : word_of t j ≡ (if b then 2 ^ 32 else word_of s j) = ap (λ (z : State). word_of z j) step_is ∙ (word_claims (with_apps key) log e j grown there i fits.0 g.claimed g.used g.freed g.returned ∙ ap (λ (c : Bool). if c then 2 ^ 32 else word_of s j) is) in
            by b is after
          where
            by : (b : Bool) → (slot_of i == slot_of j) ≡ b → word_of t j ≡ (if b then 2 ^ 32 else word_of s j) → get_or (set ws (image_word i) (2 ^ 32)) (image_word j) 0 ≡ word_of t j % 2 ^ 64
            by true is after =
                let low = slot_within i fits.0 in
                let inside : image_word i < length ws = omega (arith, low, wide) in
                ap (λ (n : ℕ). get_or (set ws (image_word i) (2 ^ 32)) (first_image + n) 0) (sym (same_key (slot_of i) (slot_of j) is)) ∙ (get_or-set_same ws (image_word i) (2 ^ 32) 0 inside ∙ omega (arith, after))
            by false is after =
                get_or-set_other ws (image_word i) (image_word j) (2 ^ 32) 0 (λ q. let other = apart_of j i is in other (omega (arith, q))) ∙ (w.image j there ∙ ap (λ (n : ℕ). n % 2 ^ 64) (sym after))

    -- nothing is done
    pub kept_words : (did_at s e) ≡ nothing_done → WordsSay t [] ws
    kept_words nothing = record {
      image = λ j there. w.image j there ∙ ap (λ (n : ℕ). n % 2 ^ 64) (sym (ap (λ (z : State). word_of z j) step_is
          ∙ word_stays (with_apps key) log e j grown there (ap (λ (d : Did). d.claimed) nothing) (ap (λ (d : Did). d.used) nothing) (ap (λ (d : Did). d.freed) nothing) (ap (λ (d : Did). d.returned) nothing)));
      stamp = λ j there. w.stamp j there ∙ sym (stamps_same (ap (λ (d : Did). d.stamped) nothing) j);
    }

-- ---- the step

module _ {S : Type 0} (stands : List ℕ → S → CoreState → Type 0) where
  -- what it tells, where the history was the holder's look and images given back since
  abbrev TellsAt : Hold → Know → Eyes → List (ℕ × Option S) → Entry → Bool → List Entry → Type 0
  TellsAt h k y c e b l = (reads_of (state_at k l) e.call).unused ≡ b → Sees k l → Sees (know_after k l e) (l ++ e ∷ [])
      → DecidesHolding k h e b (sight k (Holding h) y, c) (sight (know_after k l e) (Holding (hold_from h.ticket (l ++ e ∷ []))) y, c)

  tells_at : (h : Hold) (k : Know) (y : Eyes) (c : List (ℕ × Option S)) (e : Entry) (b : Bool) (more : List Entry) → are_free more ≡ true → TellsAt h k y c e b (h.look ++ more)
  tells_at h k y c e b more free found saw now = record { more = more; free = free; found = found; saw = saw; is = refl; sees = now }

  tells_so : (h : Hold) (k : Know) (y : Eyes) (c : List (ℕ × Option S)) (log : List Entry) (e : Entry) (b : Bool) → Grew h.look log → TellsAt h k y c e b log
  tells_so h k y c log e b g = subst (TellsAt h k y c e b) g.is (tells_at h k y c e b g.more g.free)

  claims_as : (h h' : Hold) (e : Entry) (late : Bool) (m n : Me (Option S) View) (r : ℕ) → Holding h ≡ Holding h' → Claimed e late m r n h → Claimed e late m r n h'
  claims_as h h' e late m n r is c = let same : h ≡ h' = cc in subst (Claimed e late m r n) same c

  module _ (key id : ℕ) (h : Hold) (k : Know) (y : Eyes) (e : Entry) (i : Image) (late : Bool) (c : List (ℕ × Option S)) (may : MayClaim k h.look e i late) (s : Table (Option S) View) (r : FollowsRule stands key s) (at : get_elem? s.views id ≡ some (sight k (Holding h) y))
      (apps : k.apps ≡ key) (g : Grew h.look r.log) (w : WordsSay (moment_after (opening_moment key) r.log).state [] s.words) where
    abbrev found : ℕ
    found = get_or s.words (image_word i) 0

    abbrev Answer : Type 0
    Answer = (n : View) × (a : Act (Option S)) × Valid s.homes c a × FollowsRule stands key (stepped s (image_word i) (either (found == 0) (2 ^ 32) found) id c n a) × ClaimsPlay e late (step 1 (image_word i) 0 (2 ^ 32) none) (sight k (Holding h) y, c) found (n, carried_after c a)

    left : Leaves (moment_after (opening_moment k.apps) h.look) (moment_after (opening_moment k.apps) r.log)
    left = subst (λ (l : List Entry). Leaves (moment_after (opening_moment k.apps) h.look) (moment_after (opening_moment k.apps) l)) g.is (leaves_at (opening_moment k.apps) h.look g.more g.free)

    now : Claims (state_at k r.log).core e i
    now = claims_at (state_at k h.look).core (state_at k r.log).core e i left.core may.claims

    here : Claims (moment_after (opening_moment key) r.log).state.core e i
    here = subst (λ (a : ℕ). Claims (moment_after (opening_moment a) r.log).state.core e i) apps now

    abbrev decided : View
    decided = sight (know_after k r.log e) (Holding (hold_from h.ticket (r.log ++ e ∷ []))) y

    writes : (z : Eyes) → z ≡ y → is_writing z ≡ true
    writes z is = ap is_writing is ∙ (r.fits id (sight k (Holding h) y) at).holds_eyes

    here_placed : IsPlaced i
    here_placed = (fits key r.log e i s.words r.history.legal here w).0

    -- a wait publishes nothing
    quiet : publishes e.call (machine_step (moment_after (opening_moment key) r.log).state e).1.reply.code ≡ false
    quiet = subst (λ (x : Call). publishes x (machine_step (moment_after (opening_moment key) r.log).state e).1.reply.code ≡ false) (sym here.is) refl

    shown : (ws : List ℕ) → ((j : ℕ) → front_word ≤ j → get_or ws j 0 ≡ get_or s.words j 0) → IsLegalAt (opening_moment key) (r.log ++ e ∷ []) → Shows front_word (published_words key (r.log ++ e ∷ [])) r.entered ws (set (eyes s) id y)
    shown ws stay grown = subst (λ (p : List ℕ). Shows front_word p r.entered ws (set (eyes s) id y)) (sym (next_publishes_none key r.log e r.history.legal quiet)) (shows_still stands key s r ws id (sight k (Holding h) y) at stay)

    hits : found ≡ 0 → Answer
    hits hit =
        let unused_key : (reads_of (moment_after (opening_moment key) r.log).state e.call).unused ≡ true = found_unused key r.log e i s.words r.history.legal here w hit in
        let unused : (reads_of (state_at k r.log) e.call).unused ≡ true = subst (λ (a : ℕ). (reads_of (moment_after (opening_moment a) r.log).state e.call).unused ≡ true) (sym apps) unused_key in
        let decides : MayDecide k r.log e = claim_decides k h.look r.log e i late left may (gets (state_at k r.log).core (reads_of (state_at k r.log) e.call) e i now unused).is_ready in
        let ws : List ℕ = set s.words (image_word i) (2 ^ 32) in
        let all = decides_so stands key id h k y y e s r ws r.entered at decides (writes y refl) (shown ws (else_word i here_placed (2 ^ 32) s.words)) (length-set s.words (image_word i) (2 ^ 32) ∙ r.wide) (get_or-set_other s.words (image_word i) 0 (2 ^ 32) 0 (λ q. omega (arith, q))) (get_or-set_other s.words (image_word i) 1 (2 ^ 32) 0 (λ q. omega (arith, q)))
        (λ grown. got_words key r.log e i s.words r.history.legal here w grown r.wide unused_key) in (
          decided,
          keeps,
          tt,
          subst (λ (b : Bool). FollowsRule stands key record { words = set s.words (image_word i) (either b (2 ^ 32) found); homes = s.homes; views = set s.views id decided }) (sym (eq-eqb found 0 hit)) all.0,
          λ h' is. claims_as h h' e late (sight k (Holding h) y, c) (decided, c) found is record {
            hit = λ _. tells_so h k y c r.log e true g unused all.1 all.2;
            late_miss = λ left_over. absurd (left_over hit);
            miss = λ left_over. absurd (left_over hit);
          },
        )

    -- a failing claim leaves the word
    same_word : (n : View) → found ≢ 0 → FollowsRule stands key record { words = s.words; homes = s.homes; views = set s.views id n } → FollowsRule stands key record { words = set s.words (image_word i) (either (found == 0) (2 ^ 32) found); homes = s.homes; views = set s.views id n }
    same_word n left_over q = subst (λ (b : Bool). FollowsRule stands key record { words = set s.words (image_word i) (either b (2 ^ 32) found); homes = s.homes; views = set s.views id n }) (sym (ne_eqb found 0 left_over)) (unchanged stands key s (image_word i) s.homes (set s.views id n) q)

    misses : found ≢ 0 → (b : Bool) → late ≡ b → Answer
    misses left_over true is_late =
        let used_key : (reads_of (moment_after (opening_moment key) r.log).state e.call).unused ≡ false = found_used key r.log e i s.words r.history.legal here w left_over in
        let used : (reads_of (state_at k r.log) e.call).unused ≡ false = subst (λ (a : ℕ). (reads_of (moment_after (opening_moment a) r.log).state e.call).unused ≡ false) (sym apps) used_key in
        let up : is_up (state_at k r.log).core.device.clock now.timeout now.start ≡ true = sym (ap (late_of (state_at k r.log).core.device.clock) now.is) ∙ (ap (λ (x : CoreState). late_of x.device.clock e.call) left.core ∙ (sym may.late_is ∙ is_late)) in
        let nothing_is = expires (state_at k r.log).core (reads_of (state_at k r.log) e.call) e i now used up in
        let decides : MayDecide k r.log e = claim_decides k h.look r.log e i late left may nothing_is.is_ready in
        let nothing : did_at (moment_after (opening_moment key) r.log).state e ≡ nothing_done = subst (λ (a : ℕ). did_at (moment_after (opening_moment a) r.log).state e ≡ nothing_done) apps nothing_is.nothing in
        let all = decides_so stands key id h k y y e s r s.words r.entered at decides (writes y refl) (shown s.words (λ i l. refl)) r.wide refl refl (λ grown. kept_words key r.log e i s.words r.history.legal here w grown nothing) in (
          decided,
          keeps,
          tt,
          same_word decided left_over all.0,
          λ h' is. claims_as h h' e late (sight k (Holding h) y, c) (decided, c) found is record {
            hit = λ none_found. absurd (left_over none_found);
            late_miss = λ _ _. tells_so h k y c r.log e false g used all.1 all.2;
            miss = λ _ early. absurd (true≢false (sym is_late ∙ early));
          },
        )
    misses left_over false early = (
      sight k (Holding h) y,
      keeps,
      tt,
      same_word (sight k (Holding h) y) left_over (subst (λ (vs : List View). FollowsRule stands key record { words = s.words; homes = s.homes; views = vs }) (sym (set_again s.views id (sight k (Holding h) y) at)) r),
      λ h' is. claims_as h h' e late (sight k (Holding h) y, c) (sight k (Holding h) y, c) found is record {
        hit = λ none_found. absurd (left_over none_found);
        late_miss = λ _ is_late. absurd (true≢false (sym is_late ∙ early));
        miss = λ _ _. refl;
      },
    )

  pub claims : (key id : ℕ) (h : Hold) (k : Know) (y : Eyes) (e : Entry) (i : Image) (late : Bool) (c : List (ℕ × Option S)) → h.noted ≡ None → h.made ≡ [] → MayClaim k h.look e i late
      → Allows (FollowsRule stands key) 1 id (sight k (Holding h) y, c) (image_word i) (λ n. either (n == 0) (2 ^ 32) n) (ClaimsPlay e late (step 1 (image_word i) 0 (2 ^ 32) none) (sight k (Holding h) y, c))
  claims key id h k y e i late c unnoted unmade may s r slots at small =
      let there : get_elem? (turns s) id ≡ some (Holding h) = at_map turn_of s.views id (sight k (Holding h) y) at in
      let known : get_elem? (knows s) id ≡ some k = at_map know_of s.views id (sight k (Holding h) y) at in
      let fit = r.fits id (sight k (Holding h) y) at in
      let apps = apps_of key r.log k (r.history.each id k known) fit.numbered in
      let g = (r.slot.held id (Holding h) there).grew in
      let w : WordsSay (moment_after (opening_moment key) r.log).state [] s.words = subst (λ (l : List CellCall). WordsSay (moment_after (opening_moment key) r.log).state l s.words) unmade (r.images.held id (Holding h) there) in
      dite (ℕ_discrete (get_or s.words (image_word i) 0) 0) (hits key id h k y e i late c may s r at apps g w) (λ left_over. misses key id h k y e i late c may s r at apps g w left_over late refl)
