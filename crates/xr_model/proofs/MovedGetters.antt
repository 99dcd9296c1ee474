-- A getter may stand at each place from a publication to the next.
use Rattle.std.proofs.Common.{◌≡◌, ◌++◌, ℤ, not, IsTrue, Bool, true, false, List, [], ◌∷◌, Some, refl, sym, ap, subst, ◌∙◌, true≢false}
use Rattle.std.specs.Prelude.{if◌then◌else◌}
use Rattle.xr_types.specs.declared.calls.Actor.{Actor}
use Rattle.xr_types.specs.declared.calls.Actor.TheVariants.{App, Compositor, Device}
use Rattle.xr_model.specs.machine.Publication.{Publication, publication_of}
use Rattle.xr_model.specs.machine.Reads.{reads}
use Rattle.xr_types.specs.CallKinds.{is_getter, is_locked, is_leave}
use Rattle.xr_model.specs.machine.Calls.{Entry, Outcome, Exchange, is_actor}
use Rattle.xr_types.specs.declared.calls.Call.{Call}
use Rattle.xr_types.specs.declared.calls.Call.TheVariants as ask
use Rattle.xr_model.specs.machine.State.{State, opening}
use Rattle.xr_model.specs.machine.Machine.{IsAllowed, IsPresent, ready, step}
use Rattle.xr_model.specs.machine.History.{after, calls_from, clock_of, with_clock, clocks_after, opening_clocks, StartsAt, IsLegalFrom}
use Rattle.xr_model.specs.laws.PublicationLaws.{NonePublishes, none_is_by, GettersMove}
use Rattle.xr_model.proofs.DestroyedForGood.{clocks_behind, legal_behind}
use Rattle.xr_model.proofs.GetterSteps.{getters_change_nothing, getters_are_ready, getters_read}
use Rattle.xr_model.proofs.Histories.{fronts_are_legal}
use Rattle.xr_model.proofs.OthersEntries.{and_false, left_stays, stays}
use Rattle.xr_model.proofs.PublishedLast.{IsSound, sound_step, sound_opening, sound_after, stays_published}
use Rattle.xr_model.proofs.Rows.{both_of, not_true}
use Rattle.xr_model.proofs.Turns.{same_actor}

-- ---- who has left

-- an actor is present before another's entry where it is behind it, and the other way round
present_before : (s : State) (f : Entry) (who : Actor) → IsAllowed s f → is_actor who f.actor ≡ false → IsPresent (step s f).0.core who → IsPresent s.core who
present_before s f (App k) allowed other there = (there.0, there.1, sym (left_stays s f k there.0 allowed.present (and_false (is_actor (App k) f.actor) (is_leave f.call) other)) ∙ there.2)
present_before s f Compositor allowed other there = there
present_before s f Device allowed other there = there

present_behind : (s : State) (f : Entry) (who : Actor) → IsAllowed s f → is_actor who f.actor ≡ false → IsPresent s.core who → IsPresent (step s f).0.core who
present_behind s f who allowed other there = stays s f who allowed.present (and_false (is_actor who f.actor) (is_leave f.call) other) there

-- ---- lists of exchanges

abbrev added : Bool → Exchange → List Exchange → List Exchange
added b x xs = if b then x ∷ xs else xs

-- two entries of which one actor makes one at most
swapped : (a b : Bool) (x y : Exchange) (rest : List Exchange) → (a ≡ true → b ≡ true → ⊥) → added a x (added b y rest) ≡ added b y (added a x rest)
swapped true true x y rest apart = absurd (apart refl refl)
swapped true false x y rest apart = refl
swapped false b x y rest apart = refl

-- ---- a getter in a history

module _ (e : Entry) (is : is_getter e.call ≡ true) where
  -- it is allowed wherever its actor is present
  allowed_at : (s t : State) → IsAllowed s e → IsPresent t.core e.actor → IsAllowed t e
  allowed_at s t allowed there = by e.call is allowed
    where
      by : (r : Call) → is_getter r ≡ true → IsAllowed s (record e { call = r }) → IsAllowed t (record e { call = r })
      by (ask.GetBoolean session action sub) is a = record { handle = a.handle; memory = λ short. absurd (true≢false (sym (a.memory short).0)); present = there }
      by (ask.GetFloat session action sub) is a = record { handle = a.handle; memory = λ short. absurd (true≢false (sym (a.memory short).0)); present = there }
      by (ask.GetVector session action sub) is a = record { handle = a.handle; memory = λ short. absurd (true≢false (sym (a.memory short).0)); present = there }
      by (ask.GetPoseActive session action sub) is a = record { handle = a.handle; memory = λ short. absurd (true≢false (sym (a.memory short).0)); present = there }
      by _ is a = absurd (true≢false (sym is))

  starts : (clock : ℤ) → StartsAt clock e.call
  starts clock = by e.call is
    where
      by : (r : Call) → is_getter r ≡ true → StartsAt clock r
      by (ask.GetBoolean session action sub) is = tt
      by (ask.GetFloat session action sub) is = tt
      by (ask.GetVector session action sub) is = tt
      by (ask.GetPoseActive session action sub) is = tt
      by _ is = absurd (true≢false (sym is))

  unlocked : is_locked e.call ≡ false
  unlocked = by e.call is
    where
      by : (r : Call) → is_getter r ≡ true → is_locked r ≡ false
      by (ask.GetBoolean session action sub) is = refl
      by (ask.GetFloat session action sub) is = refl
      by (ask.GetVector session action sub) is = refl
      by (ask.GetPoseActive session action sub) is = refl
      by _ is = absurd (true≢false (sym is))

  ready_at : (s : State) → IsTrue (ready s e)
  ready_at s = getters_are_ready s e is

  same_clocks : (s : State) (clocks : List ℤ) → clocks_after clocks e s ≡ clocks
  same_clocks s clocks = ap (λ b. if b then with_clock clocks e.actor s.core.device.clock else clocks) unlocked

  -- what is legal behind it is legal without it, and the other way round
  legal_without : (s : State) (clocks : List ℤ) (xs : List Entry) → IsLegalFrom (step s e).0 (clocks_after clocks e (step s e).0) xs → IsLegalFrom s clocks xs
  legal_without s clocks xs legal =
      subst (λ (t : State). IsLegalFrom t clocks xs) (getters_change_nothing s e is) (subst (λ (cs : List ℤ). IsLegalFrom (step s e).0 cs xs) (same_clocks (step s e).0 clocks) legal)

  legal_with : (s : State) (clocks : List ℤ) (xs : List Entry) → IsLegalFrom s clocks xs → IsLegalFrom (step s e).0 (clocks_after clocks e (step s e).0) xs
  legal_with s clocks xs legal =
      subst (λ (cs : List ℤ). IsLegalFrom (step s e).0 cs xs) (sym (same_clocks (step s e).0 clocks)) (subst (λ (t : State). IsLegalFrom t clocks xs) (sym (getters_change_nothing s e is)) legal)

  -- it is answered alike where the same is published
  same_outcome : (s t : State) → publication_of t.core ≡ publication_of s.core → (step t e).1 ≡ (step s e).1
  same_outcome s t same = some (sym (getters_read t e is) ∙ ap (λ (p : Publication). reads p e.call) same ∙ getters_read s e is)
    where
      some : {x y : Outcome} → Some x ≡ Some y → x ≡ y
      some two = cc

  -- ---- it moves to the front of others

  earlier_from : (s : State) (clocks : List ℤ) (fs gs : List Entry) → none_is_by e.actor fs ≡ true → IsLegalFrom s clocks (fs ++ e ∷ gs) → IsLegalFrom s clocks (e ∷ (fs ++ gs))
  earlier_from s clocks [] gs none legal = legal
  earlier_from s clocks (f ∷ fs) gs none legal =
      let two = both_of (not (is_actor e.actor f.actor)) (none_is_by e.actor fs) none in
      let t = (step s f).0 in
      let rest = earlier_from t (clocks_after clocks f t) fs gs two.1 legal.3 in
      let there = present_before s f e.actor legal.0 (not_true (is_actor e.actor f.actor) two.0) rest.0.present in
      (allowed_at t s rest.0 there, starts (clock_of clocks e.actor), ready_at s, legal_with s clocks (f ∷ (fs ++ gs)) (legal.0, legal.1, legal.2, legal_without t (clocks_after clocks f t) (fs ++ gs) rest.3))

  later_from : (s : State) (clocks : List ℤ) (fs gs : List Entry) → none_is_by e.actor fs ≡ true → IsLegalFrom s clocks (e ∷ (fs ++ gs)) → IsLegalFrom s clocks (fs ++ e ∷ gs)
  later_from s clocks [] gs none legal = legal
  later_from s clocks (f ∷ fs) gs none legal =
      let two = both_of (not (is_actor e.actor f.actor)) (none_is_by e.actor fs) none in
      let t = (step s f).0 in
      let first = legal_without s clocks (f ∷ (fs ++ gs)) legal.3 in
      let there = present_behind s f e.actor first.0 (not_true (is_actor e.actor f.actor) two.0) legal.0.present in
      (first.0, first.1, first.2, later_from t (clocks_after clocks f t) fs gs two.1 (allowed_at s t legal.0 there, starts (clock_of (clocks_after clocks f t) e.actor), ready_at t, legal_with t (clocks_after clocks f t) (fs ++ gs) first.3))

  -- what it and each other entry come to
  abbrev exchange : State → Exchange
  exchange s = record { call = e.call; outcome = (step s e).1 }

  calls_behind : (s : State) (who : Actor) (xs : List Entry) → calls_from s who (e ∷ xs) ≡ added (is_actor who e.actor) (exchange s) (calls_from s who xs)
  calls_behind s who xs = ap (λ (t : State). added (is_actor who e.actor) (exchange s) (calls_from t who xs)) (getters_change_nothing s e is)

  same_from : (s : State) (clocks : List ℤ) (fs gs : List Entry) (who : Actor) → IsLegalFrom s clocks fs → IsSound s.core → NonePublishes s fs → none_is_by e.actor fs ≡ true
      → calls_from s who (e ∷ (fs ++ gs)) ≡ calls_from s who (fs ++ e ∷ gs)
  same_from s clocks [] gs who legal sound quiet none = refl
  same_from s clocks (f ∷ fs) gs who legal sound quiet none =
      let two = both_of (not (is_actor e.actor f.actor)) (none_is_by e.actor fs) none in
      let t = (step s f).0 in
      let x : Exchange = record { call = f.call; outcome = (step s f).1 } in
      let rest = same_from t (clocks_after clocks f t) fs gs who legal.3 (sound_step s f legal.0 sound) quiet.1 two.1 in
      let one : exchange t ≡ exchange s = ap (λ (o : Outcome). record { call = e.call; outcome = o }) (same_outcome s t (stays_published s f sound quiet.0)) in
      calls_behind s who (f ∷ (fs ++ gs))
      ∙ swapped (is_actor who e.actor) (is_actor who f.actor) (exchange s) x (calls_from t who (fs ++ gs)) (λ a b. true≢false (sym (subst (λ (w : Actor). is_actor w f.actor ≡ true) (same_actor who e.actor a) b) ∙ not_true (is_actor e.actor f.actor) two.0))
      ∙ ap (λ (xs : List Exchange). added (is_actor who f.actor) x xs) (ap (λ (y : Exchange). added (is_actor who e.actor) y (calls_from t who (fs ++ gs))) (sym one) ∙ sym (calls_behind t who (fs ++ gs)) ∙ rest)

-- ---- behind a history

-- what holds of the ends of two histories with one front holds of the whole
legal_front : (s : State) (clocks : List ℤ) (es xs ys : List Entry) → (IsLegalFrom (after s es) (clocks_behind s clocks es) xs → IsLegalFrom (after s es) (clocks_behind s clocks es) ys) → IsLegalFrom s clocks (es ++ xs) → IsLegalFrom s clocks (es ++ ys)
legal_front s clocks [] xs ys leads legal = leads legal
legal_front s clocks (e ∷ es) xs ys leads legal = (legal.0, legal.1, legal.2, legal_front (step s e).0 (clocks_after clocks e (step s e).0) es xs ys leads legal.3)

calls_front : (s : State) (es xs ys : List Entry) (who : Actor) → calls_from (after s es) who xs ≡ calls_from (after s es) who ys → calls_from s who (es ++ xs) ≡ calls_from s who (es ++ ys)
calls_front s [] xs ys who same = same
calls_front s (e ∷ es) xs ys who same = ap (λ (l : List Exchange). added (is_actor who e.actor) (record { call = e.call; outcome = (step s e).1 }) l) (calls_front (step s e).0 es xs ys who same)

pub getters_move : GettersMove
getters_move settings es fs gs e legal quiet is none =
    let s = opening settings in
    let clocks = clocks_behind s (opening_clocks settings) es in
    let front = fronts_are_legal s (opening_clocks settings) es fs legal in
    record {
      earlier = legal_front s (opening_clocks settings) es (fs ++ e ∷ gs) (e ∷ (fs ++ gs)) (earlier_from e is (after s es) clocks fs gs none);
      later = legal_front s (opening_clocks settings) es (e ∷ (fs ++ gs)) (fs ++ e ∷ gs) (later_from e is (after s es) clocks fs gs none);
      same = λ who. calls_front s es (e ∷ (fs ++ gs)) (fs ++ e ∷ gs) who (same_from e is (after s es) clocks fs gs who (legal_behind s (opening_clocks settings) es fs legal) (sound_after s (opening_clocks settings) es front (sound_opening settings)) quiet none);
    }
