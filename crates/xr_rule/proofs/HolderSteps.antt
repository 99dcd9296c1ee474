-- A holder pins, frees, stamps and looks at images.
use Rattle.std.proofs.Common.{◌≡◌, ◌≢◌, ℕ, ◌+◌, ◌%◌, ◌^◌, ◌<◌, ◌≤◌, ◌==◌, Bool, true, false, List, [], ◌∷◌, ◌++◌, length, get_or, set, sym, refl, ap, ◌∙◌, subst, arith, Option, None, IfSome, length-set, get_or-set_same, get_or-set_other}
use Rattle.std.specs.Prelude.{if◌then◌else◌}
use Rattle.std.proofs.lemmas.Bool.Decides.{nat_tests}
use mathlib.Core.Option.{some, none}
use lib.ListN.{get_elem?}
use Rattle.atomic_table.specs.Table.{State as Table, Me, step, keeps, Allows}
use Rattle.atomic_table.proofs.Lists.{at_map}
use Rattle.xr_types.specs.declared.frames.Image.{Image}
use Rattle.xr_model.specs.machine.CellCalls.{CellCall, pin, free, stamp, peek}
use Rattle.xr_model.specs.machine.Images.{slot_of, stamp_in}
use Rattle.xr_model.specs.machine.Calls.{Entry}
use Rattle.xr_model.specs.machine.State.{CoreState, State}
use Rattle.xr_model.specs.laws.ImageLaws.{IsPlaced}
use Rattle.xr_model.specs.laws.Moments.{opening_moment, moment_after}
use Rattle.xr_model.proofs.Rows.{same_key}
use Rattle.xr_model.specs.laws.ImageWords.{word_of, stamp_of, word_by, word_after, stamp_by, stamp_after, FitsCall}
use Rattle.xr_model.proofs.CallWords.{word_append, stamp_append, slot_within}
use Rattle.xr_model.proofs.FittingCalls.{each_append}
use Rattle.xr_rule.specs.View.{Know, Hold, View, Eyes, Holding, sight, know_of, turn_of}
use Rattle.xr_rule.specs.Rule.{image_word, stamp_word, WordsSay, state_at, MayNote, FollowsRule, front_word, word_count, first_stamp, first_image}
use Rattle.xr_rule.specs.Plays.{made_more, Makes, Peeks}
use Rattle.xr_rule.proofs.Carrying.{leaves_at}
use Rattle.xr_rule.proofs.Steps.{knows, apps_of, holds_on, unchanged}

-- ---- words

pub apart_of : (i j : Image) → (slot_of j == slot_of i) ≡ false → slot_of i ≢ slot_of j
apart_of i j apart same = grind (arith, nat_tests, apart, same)

-- one image's word is set: what the calls make of it is set there, and of every other is as it was
set_image : (st : State) (made : List CellCall) (x : CellCall) (ws : List ℕ) (j : Image) (v : ℕ) → length ws ≡ word_count → IsPlaced j
    → ((i : Image) (w : ℕ) → stamp_by x i w ≡ w) → ((i : Image) (w : ℕ) → (slot_of j == slot_of i) ≡ false → word_by x i w ≡ w)
    → ((i : Image) → IsPlaced i → (slot_of j == slot_of i) ≡ true → v ≡ word_by x i (word_after made i (word_of st i)) % 2 ^ 64)
    → WordsSay st made ws → WordsSay st (made ++ x ∷ []) (set ws (image_word j) v)
set_image st made x ws j v wide there stamps others here w = record {
  image = λ i placed. at i placed (slot_of j == slot_of i) refl;
  stamp = λ i placed. let low = slot_within j there in get_or-set_other ws (image_word j) (stamp_word i) v 0 (λ e. omega (arith, low, e)) ∙ (w.stamp i placed ∙ sym (stamp_append made (x ∷ []) i (stamp_of st i) ∙ stamps i (stamp_after made i (stamp_of st i))));
}
  where
    at : (i : Image) → IsPlaced i → (b : Bool) → (slot_of j == slot_of i) ≡ b → get_or (set ws (image_word j) v) (image_word i) 0 ≡ word_after (made ++ x ∷ []) i (word_of st i) % 2 ^ 64
    at i placed true is =
        let same : slot_of j ≡ slot_of i = same_key (slot_of j) (slot_of i) is in
        let low = slot_within j there in
        let inside : image_word j < length ws = omega (arith, low, wide) in
        ap (λ (n : ℕ). get_or (set ws (image_word j) v) (first_image + n) 0) (sym same) ∙ (get_or-set_same ws (image_word j) v 0 inside ∙ (here i placed is ∙ ap (λ (n : ℕ). n % 2 ^ 64) (sym (word_append made (x ∷ []) i (word_of st i)))))
    at i placed false apart =
        get_or-set_other ws (image_word j) (image_word i) v 0 (λ e. let other = apart_of i j apart in other (omega (arith, e)))
        ∙ (w.image i placed ∙ ap (λ (n : ℕ). n % 2 ^ 64) (sym (word_append made (x ∷ []) i (word_of st i) ∙ others i (word_after made i (word_of st i)) apart)))

same_by_pin : (j i : Image) (w : ℕ) (b : Bool) → (slot_of j == slot_of i) ≡ b → word_by (pin j) i w ≡ (if b then w + 1 else w)
same_by_pin j i w b is = ap (λ (c : Bool). if c then w + 1 else w) is

pub pinned : (st : State) (made : List CellCall) (ws : List ℕ) (j : Image) → length ws ≡ word_count → IsPlaced j → WordsSay st made ws → WordsSay st (made ++ pin j ∷ []) (set ws (image_word j) ((get_or ws (image_word j) 0 + 1) % 2 ^ 64))
pinned st made ws j wide there w = set_image st made (pin j) ws j ((get_or ws (image_word j) 0 + 1) % 2 ^ 64) wide there (λ i w. refl) (λ i n apart. ap (λ (c : Bool). if c then n + 1 else n) apart)
    (λ i placed is.
    let same : slot_of j ≡ slot_of i = same_key (slot_of j) (slot_of i) is in
    let n : ℕ = word_after made i (word_of st i) in
    let found : get_or ws (image_word j) 0 ≡ n % 2 ^ 64 = ap (λ (k : ℕ). get_or ws (first_image + k) 0) same ∙ w.image i placed in
    let more : word_by (pin j) i n ≡ n + 1 = ap (λ (c : Bool). if c then n + 1 else n) is in
    omega (arith, found, more)) w

pub freed : (st : State) (made : List CellCall) (ws : List ℕ) (j : Image) → length ws ≡ word_count → IsPlaced j → WordsSay st made ws → WordsSay st (made ++ free j ∷ []) (set ws (image_word j) 0)
freed st made ws j wide there w = set_image st made (free j) ws j 0 wide there (λ i w. refl) (λ i n apart. ap (λ (c : Bool). if c then 0 else n) apart)
    (λ i placed is.
    let n : ℕ = word_after made i (word_of st i) in
    let none : word_by (free j) i n ≡ 0 = ap (λ (c : Bool). if c then 0 else n) is in
    omega (arith, none)) w

pub stamped : (st : State) (made : List CellCall) (ws : List ℕ) (j : Image) (v : ℕ) → length ws ≡ word_count → IsPlaced j → WordsSay st made ws → WordsSay st (made ++ stamp j v ∷ []) (set ws (stamp_word j) v)
stamped st made ws j v wide there w = record {
  image = λ i placed. let low = slot_within i placed in get_or-set_other ws (stamp_word j) (image_word i) v 0 (λ e. omega (arith, low, e)) ∙ (w.image i placed ∙ ap (λ (n : ℕ). n % 2 ^ 64) (sym (word_append made (stamp j v ∷ []) i (word_of st i))));
  stamp = λ i placed. at i placed (slot_of j == slot_of i) refl;
}
  where
    at : (i : Image) → IsPlaced i → (b : Bool) → (slot_of j == slot_of i) ≡ b → get_or (set ws (stamp_word j) v) (stamp_word i) 0 ≡ stamp_after (made ++ stamp j v ∷ []) i (stamp_of st i)
    at i placed true is =
        let same : slot_of j ≡ slot_of i = same_key (slot_of j) (slot_of i) is in
        let low = slot_within j there in
        let inside : stamp_word j < length ws = omega (arith, low, wide) in
        let n : ℕ = stamp_after made i (stamp_of st i) in
        ap (λ (k : ℕ). get_or (set ws (stamp_word j) v) (first_stamp + k) 0) (sym same) ∙ (get_or-set_same ws (stamp_word j) v 0 inside ∙ sym (stamp_append made (stamp j v ∷ []) i (stamp_of st i) ∙ ap (λ (c : Bool). if c then v else n) is))
    at i placed false apart =
        let n : ℕ = stamp_after made i (stamp_of st i) in
        get_or-set_other ws (stamp_word j) (stamp_word i) v 0 (λ e. let other = apart_of i j apart in other (omega (arith, e)))
        ∙ (w.stamp i placed ∙ sym (stamp_append made (stamp j v ∷ []) i (stamp_of st i) ∙ ap (λ (c : Bool). if c then v else n) apart))

pub peeked : (st : State) (made : List CellCall) (ws : List ℕ) (j : Image) (v : ℕ) → WordsSay st made ws → WordsSay st (made ++ peek j v ∷ []) ws
peeked st made ws j v w = record {
  image = λ i placed. w.image i placed ∙ ap (λ (n : ℕ). n % 2 ^ 64) (sym (word_append made (peek j v ∷ []) i (word_of st i)));
  stamp = λ i placed. w.stamp i placed ∙ sym (stamp_append made (peek j v ∷ []) i (stamp_of st i));
}

-- no word of an image, and no stamp, is one of what is published
pub else_word : (j : Image) → IsPlaced j → (v : ℕ) (ws : List ℕ) (i : ℕ) → front_word ≤ i → get_or (set ws (image_word j) v) i 0 ≡ get_or ws i 0
else_word j there v ws i l = let low = slot_within j there in get_or-set_other ws (image_word j) i v 0 (λ e. omega (arith, low, l, e))

else_stamp : (j : Image) → IsPlaced j → (v : ℕ) (ws : List ℕ) (i : ℕ) → front_word ≤ i → get_or (set ws (stamp_word j) v) i 0 ≡ get_or ws i 0
else_stamp j there v ws i l = let low = slot_within j there in get_or-set_other ws (stamp_word j) i v 0 (λ e. omega (arith, low, l, e))

-- ---- steps

module _ {S : Type 0} (stands : List ℕ → S → CoreState → Type 0) where
  -- a holder that has noted nothing makes one call more
  makes_so : (key id : ℕ) (h : Hold) (k : Know) (y : Eyes) (x : CellCall) (s : Table (Option S) View) (r : FollowsRule stands key s) (ws : List ℕ) → h.noted ≡ None → get_elem? s.views id ≡ some (sight k (Holding h) y)
      → length ws ≡ word_count → get_or ws 0 0 ≡ get_or s.words 0 0 → get_or ws 1 0 ≡ get_or s.words 1 0 → ((i : ℕ) → front_word ≤ i → get_or ws i 0 ≡ get_or s.words i 0) → FitsCall (state_at k h.look).core x
      → WordsSay (moment_after (opening_moment key) r.log).state (h.made ++ x ∷ []) ws
      → FollowsRule stands key record { words = ws; homes = s.homes; views = set s.views id (made_more k h y x) }
  makes_so key id h k y x s r ws unnoted at wide zero_is one_is stay fits says =
      let fit = r.fits id (sight k (Holding h) y) at in
      holds_on stands key id h (record h { made = h.made ++ x ∷ [] }) k y s r ws at refl refl wide zero_is one_is stay says record {
        begins = fit.holds.begins;
        notes_own = none_noted h.noted unnoted;
        made_fits = each_append (FitsCall (state_at k h.look).core) h.made (x ∷ []) fit.holds.made_fits (fits, tt);
      }
    where
      none_noted : (o : Option Entry) → o ≡ None → IfSome o (λ e. MayNote k h.look (h.made ++ x ∷ []) e)
      none_noted o is = subst (λ (p : Option Entry). IfSome p (λ e. MayNote k h.look (h.made ++ x ∷ []) e)) (sym is) tt

  more_as : (k : Know) (y : Eyes) (c : List (ℕ × Option S)) (x : CellCall) (h h' : Hold) → Holding h ≡ Holding h' → ◌≡◌ {A = Me (Option S) View} (made_more k h y x, c) (made_more k h' y x, c)
  more_as k y c x h h' is = let same : h ≡ h' = cc in ap (λ (z : Hold). let m : Me (Option S) View = (made_more k z y x, c) in m) same

  says_of : (key id : ℕ) (h : Hold) (k : Know) (y : Eyes) (s : Table (Option S) View) (r : FollowsRule stands key s) → get_elem? s.views id ≡ some (sight k (Holding h) y) → WordsSay (moment_after (opening_moment key) r.log).state h.made s.words
  says_of key id h k y s r at = r.images.held id (Holding h) (at_map turn_of s.views id (sight k (Holding h) y) at)

  pub pins : (key id : ℕ) (h : Hold) (k : Know) (y : Eyes) (j : Image) (c : List (ℕ × Option S)) → h.noted ≡ None → FitsCall (state_at k h.look).core (pin j)
      → Allows (FollowsRule stands key) 1 id (sight k (Holding h) y, c) (image_word j) (λ n. (n + 1) % 2 ^ 64) (Makes (pin j) (step 1 (image_word j) 1 0 none) (sight k (Holding h) y, c))
  pins key id h k y j c unnoted fits s r slots at small =
      let v : ℕ = (get_or s.words (image_word j) 0 + 1) % 2 ^ 64 in
      let wide = r.wide in (
        made_more k h y (pin j),
        keeps,
        tt,
        makes_so key id h k y (pin j) s r (set s.words (image_word j) v) unnoted at (length-set s.words (image_word j) v ∙ wide) (get_or-set_other s.words (image_word j) 0 v 0 (λ e. omega (arith, e))) (get_or-set_other s.words (image_word j) 1 v 0 (λ e. omega (arith, e))) (else_word j fits v s.words) fits
            (pinned (moment_after (opening_moment key) r.log).state h.made s.words j wide fits (says_of key id h k y s r at)),
        λ h' is. more_as k y c (pin j) h h' is,
      )

  pub frees : (key id : ℕ) (h : Hold) (k : Know) (y : Eyes) (j : Image) (c : List (ℕ × Option S)) → h.noted ≡ None → FitsCall (state_at k h.look).core (free j)
      → Allows (FollowsRule stands key) 1 id (sight k (Holding h) y, c) (image_word j) (λ _. 0) (λ _. Makes (free j) (step 1 (image_word j) 0 0 none) (sight k (Holding h) y, c) 0)
  frees key id h k y j c unnoted fits s r slots at small =
      let wide = r.wide in (
        made_more k h y (free j),
        keeps,
        tt,
        makes_so key id h k y (free j) s r (set s.words (image_word j) 0) unnoted at (length-set s.words (image_word j) 0 ∙ wide) (get_or-set_other s.words (image_word j) 0 0 0 (λ e. omega (arith, e))) (get_or-set_other s.words (image_word j) 1 0 0 (λ e. omega (arith, e))) (else_word j fits.0 0 s.words) fits
            (freed (moment_after (opening_moment key) r.log).state h.made s.words j wide fits.0 (says_of key id h k y s r at)),
        λ h' is. more_as k y c (free j) h h' is,
      )

  pub stamps : (key id : ℕ) (h : Hold) (k : Know) (y : Eyes) (j : Image) (v : ℕ) (c : List (ℕ × Option S)) → h.noted ≡ None → FitsCall (state_at k h.look).core (stamp j v)
      → Allows (FollowsRule stands key) 1 id (sight k (Holding h) y, c) (stamp_word j) (λ _. v) (λ _. Makes (stamp j v) (step 1 (stamp_word j) v 0 none) (sight k (Holding h) y, c) v)
  stamps key id h k y j v c unnoted fits s r slots at small =
      let wide = r.wide in (
        made_more k h y (stamp j v),
        keeps,
        tt,
        makes_so key id h k y (stamp j v) s r (set s.words (stamp_word j) v) unnoted at (length-set s.words (stamp_word j) v ∙ wide) (get_or-set_other s.words (stamp_word j) 0 v 0 (λ e. omega (arith, e))) (get_or-set_other s.words (stamp_word j) 1 v 0 (λ e. omega (arith, e))) (else_stamp j fits v s.words) fits
            (stamped (moment_after (opening_moment key) r.log).state h.made s.words j v wide fits (says_of key id h k y s r at)),
        λ h' is. more_as k y c (stamp j v) h h' is,
      )

  pub peeks : (key id : ℕ) (h : Hold) (k : Know) (y : Eyes) (j : Image) (c : List (ℕ × Option S)) → h.noted ≡ None → ((n : ℕ) → FitsCall (state_at k h.look).core (peek j n))
      → Allows (FollowsRule stands key) 1 id (sight k (Holding h) y, c) (stamp_word j) (λ n. n) (Peeks j (step 1 (stamp_word j) 0 0 none) (sight k (Holding h) y, c))
  peeks key id h k y j c unnoted fits s r slots at small =
      let n : ℕ = get_or s.words (stamp_word j) 0 in
      let w : View = made_more k h y (peek j n) in
      let says = says_of key id h k y s r at in
      let known : get_elem? (knows s) id ≡ some k = at_map know_of s.views id (sight k (Holding h) y) at in
      let fit = r.fits id (sight k (Holding h) y) at in
      let apps = apps_of key r.log k (r.history.each id k known) fit.numbered in
      let held = r.slot.held id (Holding h) (at_map turn_of s.views id (sight k (Holding h) y) at) in
      let g = held.grew in
      let now : (moment_after (opening_moment k.apps) r.log).state.cells.stamps ≡ (state_at k h.look).cells.stamps = subst (λ (l : List Entry). (moment_after (opening_moment k.apps) l).state.cells.stamps ≡ (state_at k h.look).cells.stamps) g.is (leaves_at (opening_moment k.apps) h.look g.more g.free).stamps in
      let found : n ≡ stamp_after h.made j (stamp_of (state_at k h.look) j) = says.stamp j (fits 0)
      ∙ (ap (λ (a : ℕ). stamp_after h.made j (stamp_of (moment_after (opening_moment a) r.log).state j)) (sym apps) ∙ ap (λ (l : List ℕ). stamp_after h.made j (stamp_in l j)) now) in (
        w,
        keeps,
        tt,
        unchanged stands key s (stamp_word j) s.homes (set s.views id w) (makes_so key id h k y (peek j n) s r s.words unnoted at r.wide refl refl (λ i l. refl) (fits n) (peeked (moment_after (opening_moment key) r.log).state h.made s.words j n says)),
        λ h' is. found_as n h h' is found,
      )
    where
      found_as : (n : ℕ) (h h' : Hold) → Holding h ≡ Holding h' → n ≡ stamp_after h.made j (stamp_of (state_at k h.look) j) → (n ≡ stamp_after h'.made j (stamp_of (state_at k h'.look) j)) × (◌≡◌ {A = Me (Option S) View} (made_more k h y (peek j n), c) (made_more k h' y (peek j n), c))
      found_as n h h' is found = let same : h ≡ h' = cc in (subst (λ (z : Hold). n ≡ stamp_after z.made j (stamp_of (state_at k z.look) j)) same found, more_as k y c (peek j n) h h' is)
