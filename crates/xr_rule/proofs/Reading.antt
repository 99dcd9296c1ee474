-- Seats enter the front, read, and leave.
use Rattle.std.proofs.Common.{◌≡◌, ℕ, nat_le, ◌+◌, ◌%◌, ◌^◌, ◌<◌, ◌≤◌, true, List, [], ◌∷◌, ◌++◌, length, get_or, set, sym, refl, ap, ap₂, ◌∙◌, subst, arith, Option, length-set, get_or-set_other, le-leb}
use mathlib.Core.Option.{Option as Home, some, none}
use lib.ListN.{get_elem?}
use Rattle.atomic_table.specs.Table.{step, keeps, Allows}
use Rattle.atomic_table.proofs.Lists.{at_map, set_again, set_here}
use Rattle.xr_types.specs.CallKinds.{is_getter}
use Rattle.xr_model.specs.machine.Calls.{Entry, Exchange}
use Rattle.xr_model.specs.machine.Publication.{publication_of}
use Rattle.xr_model.specs.machine.PublicationWords.{words}
use Rattle.xr_model.specs.machine.State.{CoreState}
use Rattle.xr_model.specs.laws.Moments.{Moment, opening_moment, moment_after, exchange_at}
use Rattle.xr_model.specs.laws.WordLaws.{PublicationFits}
use Rattle.xr_rule.specs.Plays.{Sees, published_by, EntersFor, Reads, Leaves}
use Rattle.xr_rule.specs.Rule.{OneHistory, Tickets, SlotStands, ImageWords, MayDecide, MayRead, published_words, FollowsRule, front_word}
use Rattle.xr_rule.specs.Shows.{buffer_words, exit_word, state_word, front_of, IsInside, Shows}
use Rattle.xr_rule.specs.View.{Own, Know, Turn, View, Eyes, Idle, Out, Inside, sight, view, know_of, turn_of, eyes_of, number_in, app_in, with_call, know_after}
use Rattle.xr_rule.proofs.Sums.{at_in}
use Rattle.xr_rule.proofs.Carrying.{moments_stay, holds_more}
use Rattle.xr_rule.proofs.Getters.{reads_freely, may_read, published_fits}
use Rattle.xr_rule.proofs.Published.{same_published, words_are}
use Rattle.xr_rule.proofs.Publishing.{images_far, same_words, sees_anew}
use Rattle.xr_rule.proofs.Serving.{decides_own, call_length}
use Rattle.xr_rule.proofs.Showing.{shows_enter, shows_leave}
use Rattle.xr_rule.proofs.Steps.{knows, turns, eyes, apps_of, sees, whole, shows_still}
use Rattle.xr_rule.proofs.Turning.{turns_keep}

-- an application's number stays so
app_stays : (x : Exchange) (os : List Own) → app_in (with_call x os) ≡ app_in os
app_stays x [] = refl
app_stays x (o ∷ os) = refl

app_is : (os : List Own) → 2 ≤ number_in os → 1 ≤ app_in os
app_is [] two = absurd (omega arith)
app_is (o ∷ os) two = let is : nat_le 2 o.number ≡ true = le-leb 2 o.number two in rw is (omega arith)

app_owns : (os : List Own) → 2 ≤ number_in os → 0 < length os
app_owns [] two = absurd (omega arith)
app_owns (o ∷ os) two = omega arith

-- the slot beside a getter
slot_reads : {S : Type 0} (standing : S → CoreState → Type 0) (key : ℕ) (log : List Entry) (served : ℕ) (hs : List (Home (Option S))) (us : List Turn) (e : Entry) → is_getter e.call ≡ true → SlotStands standing key log served hs us → SlotStands standing key (log ++ e ∷ []) served hs us
slot_reads standing key log served hs us e reads h = record {
  held = λ j u at. holds_more log served e u (reads_freely e reads) (h.held j u at);
  free = λ none_holds. let home = h.free none_holds in (home.0, home.1, subst (λ (q : Moment). standing home.0 q.state.core) (sym (moments_stay (opening_moment key) log (e ∷ []) (rw reads refl))) home.2);
}

module _ {S : Type 0} (stands : List ℕ → S → CoreState → Type 0) where
  pub enters : (key id : ℕ) (k : Know) (e : Entry) (c : List (ℕ × Option S)) → MayRead k e
      → Allows (FollowsRule stands key) 1 id (view k Idle, c) front_word (λ n. (n + 16) % 2 ^ 64) (EntersFor e (step 1 front_word 16 0 none) (view k Idle, c))
  enters key id k e c may s r slots at small =
      let v : View = view k Idle in
      let known : get_elem? (knows s) id ≡ some k = at_map know_of s.views id v at in
      let there : get_elem? (turns s) id ≡ some Idle = at_map turn_of s.views id v at in
      let outside : get_elem? (eyes s) id ≡ some Out = at_map eyes_of s.views id v at in
      let some_own : 0 < length k.own = app_owns k.own may.is_app in
      let apps = apps_of key r.log k (r.history.each id k known) some_own in
      let before : Sees k r.log = sees key r.log (knows s) id k r.few r.history known some_own in
      let note : MayDecide k r.log e = may_read k r.log e before may in
      let n : Know = know_after k r.log e in
      let log : List Entry = r.log ++ e ∷ [] in
      let told : OneHistory key log (set (knows s) id n) = decides_own key r.log r.log (knows s) id k e r.history known some_own refl note in
      let x : Exchange = exchange_at (moment_after (opening_moment k.apps) r.log) e in
      let longer_own : 0 < length n.own = omega (arith, call_length x k.own, some_own) in
      let now : Sees n log = sees key log (set (knows s) id n) id n r.few told (set_here (knows s) id n (at_in (knows s) id k known)) longer_own in
      let f : ℕ = front_of front_word s.words in
      let p : List ℕ = published_words key r.log in
      let inside_now : Eyes = Inside f p in
      let w : View = sight n Idle inside_now in
      let m : ℕ = (get_or s.words front_word 0 + 16) % 2 ^ 64 in
      let ws : List ℕ = set s.words front_word m in
      let wide = r.wide in
      let zero_is : get_or ws 0 0 ≡ get_or s.words 0 0 = get_or-set_other s.words front_word 0 m 0 (λ e. omega (arith, e)) in
      let one_is : get_or ws 1 0 ≡ get_or s.words 1 0 = get_or-set_other s.words front_word 1 m 0 (λ e. omega (arith, e)) in
      let as_much : published_words key log ≡ p = same_published key log r.log (ap (λ (q : Moment). q.state.core) (moments_stay (opening_moment key) r.log (e ∷ []) (rw may.getter refl))) in
      let shown : Shows front_word p r.entered ws (set (eyes s) id inside_now) = shows_enter front_word p r.entered s.words (eyes s) id r.shows (omega (arith, wide)) outside in
      let same : p ≡ words (published_by k r.log) = words_are key k.apps r.log apps in
      let short = r.shows.shown.short in (
        w,
        keeps,
        tt,
        whole stands key s ws s.homes id w log r.drawn r.served r.entered r.fits (length-set s.words front_word m ∙ wide) r.few
            told
            (subst (λ (x : ℕ × ℕ). Tickets x.0 x.1 r.drawn r.served (set (turns s) id Idle)) (λ i. (sym zero_is i, sym one_is i)) (turns_keep (get_or s.words 0 0) (get_or s.words 1 0) r.drawn r.served (turns s) id Idle Idle r.tickets there refl (λ _. refl)))
            (subst (λ (us : List Turn). SlotStands (stands r.entered) key log r.served s.homes us) (sym (set_again (turns s) id Idle there)) (slot_reads (stands r.entered) key r.log r.served s.homes (turns s) e may.getter r.slot))
            (subst (λ (us : List Turn). ImageWords (moment_after (opening_moment key) log).state ws us) (sym (set_again (turns s) id Idle there))
            (subst (λ (q : Moment). ImageWords q.state ws (turns s)) (sym (moments_stay (opening_moment key) r.log (e ∷ []) (rw may.getter refl)))
            (images_far (moment_after (opening_moment key) r.log).state s.words front_word m (turns s) (omega arith) r.images)))
            (subst (λ (q : List ℕ). Shows front_word q r.entered ws (set (eyes s) id inside_now)) (sym as_much) shown)
            record { numbered = omega arith; holds = tt; holds_eyes = refl; reads_own = omega (arith, app_stays x k.own, app_is k.own may.is_app) },
        (
          refl,
          record {
            look = r.log;
            saw = before;
            sees = now;
            is = ap (λ (q : List ℕ). sight n Idle (Inside f q)) same;
            near = r.shows.front;
            short = subst (λ (q : List ℕ). length q ≤ buffer_words) same short;
            fits = subst (λ (a : ℕ). PublicationFits (publication_of (moment_after (opening_moment a) r.log).state.core)) (sym apps) (published_fits key r.log r.history.legal r.history.good);
          },
        ),
      )

  pub reads : (key id : ℕ) (k : Know) (u : Turn) (b i word : ℕ) (p : List ℕ) (c : List (ℕ × Option S)) → word ≡ state_word front_word b i → i < length p
      → Allows (FollowsRule stands key) 1 id (sight k u (Inside b p), c) word (λ n. n) (Reads (step 1 word 0 0 none) (sight k u (Inside b p), c))
  reads key id k u b i word p c is inside s r slots at small =
      let v : View = sight k u (Inside b p) in
      let well : IsInside front_word s.words b p = r.shows.each id (Inside b p) (at_map eyes_of s.views id v at) in (
        v,
        keeps,
        tt,
        sees_anew stands key id k u (Inside b p) (Inside b p) word (get_or s.words word 0) s r at (omega (arith, is)) (shows_still stands key s r (set s.words word (get_or s.words word 0)) id v at (λ j l. same_words s.words word j)) refl (omega arith),
        (
          refl,
          λ b' p' i' e at' l'.
              let eb : b ≡ b' = cc in let ep : p ≡ p' = cc in
              let ei : i ≡ i' = omega arith in
              ap (λ (x : ℕ). get_or s.words x 0) is ∙ (well.stored i inside ∙ ap₂ (λ (q : List ℕ) (j : ℕ). get_or q j 0) ep ei),
        ),
      )

  pub leaves : (key id : ℕ) (k : Know) (u : Turn) (b word : ℕ) (p : List ℕ) (c : List (ℕ × Option S)) → word ≡ exit_word front_word b
      → Allows (FollowsRule stands key) 1 id (sight k u (Inside b p), c) word (λ n. (n + 1) % 2 ^ 64) (Leaves (step 1 word 1 0 none) (sight k u (Inside b p), c))
  leaves key id k u b word p c is s r slots at small =
      let v : View = sight k u (Inside b p) in
      let w : View = view k u in
      let seen : get_elem? (eyes s) id ≡ some (Inside b p) = at_map eyes_of s.views id v at in
      let m : ℕ = (get_or s.words word 0 + 1) % 2 ^ 64 in
      let ws : List ℕ = set s.words word m in
      let wide = r.wide in
      let shown : Shows front_word (published_words key r.log) r.entered ws (set (eyes s) id Out) = subst (λ (x : ℕ). Shows front_word (published_words key r.log) r.entered (set s.words x ((get_or s.words x 0 + 1) % 2 ^ 64)) (set (eyes s) id Out)) (sym is)
      (shows_leave front_word (published_words key r.log) r.entered s.words (eyes s) id b p r.shows (omega (arith, wide)) seen) in (
        w,
        keeps,
        tt,
        sees_anew stands key id k u (Inside b p) Out word m s r at (omega (arith, is)) shown refl (omega arith),
        refl,
      )
