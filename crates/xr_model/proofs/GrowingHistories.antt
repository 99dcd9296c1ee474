-- What one more entry makes of a history, and which actors there are in it.
use Rattle.std.proofs.Common.{◌≡◌, ◌≢◌, ◌+◌, ◌≤◌, ◌==◌, ℕ, zero, suc, ℤ, Bool, true, false, List, [], ◌∷◌, ◌++◌, length, Some, refl, sym, ap, subst, ◌∙◌, arith, true≢false, append-nil, length-append}
use Rattle.std.specs.Prelude.{slice_get, if◌then◌else◌}
use Rattle.xr_types.specs.declared.calls.Actor.{Actor}
use Rattle.xr_types.specs.declared.calls.Actor.TheVariants.{App, Compositor, Device}
use Rattle.xr_model.specs.machine.Calls.{Entry, Exchange, is_actor}
use Rattle.xr_model.specs.machine.State.{State, opening, with_apps}
use Rattle.xr_model.specs.machine.Machine.{IsPresent, step}
use Rattle.xr_model.specs.machine.History.{after, calls_from, clocks_after, opening_clocks, IsLegalFrom}
use Rattle.xr_model.specs.laws.Moments.{moment_after, exchange_at, actor_at, calls_by}
use Rattle.xr_model.specs.laws.MomentLaws.{LegalGrows, CallsGrow, NoneLiesBetween, NumbersAreApart, HasNumber, EntriesAreByActors}
use Rattle.xr_model.specs.laws.PublicationLaws.{none_is_by}
use Rattle.xr_model.proofs.Rows.{itself, is_false, same_key}
use Rattle.xr_model.proofs.Turns.{actor_itself}

pub legal_grows : LegalGrows
legal_grows m [] e legal may = (may.allowed, may.starts, may.is_ready, tt)
legal_grows m (x ∷ es) e legal may =
    (legal.0, legal.1, legal.2, legal_grows (record { state = (step m.state x).0; clocks = clocks_after m.clocks x (step m.state x).0 }) es e legal.3 may)

-- ---- calls

abbrev added : Bool → Exchange → List Exchange → List Exchange
added b x xs = if b then x ∷ xs else xs

added_behind : (b : Bool) (x : Exchange) (xs ys : List Exchange) → added b x (xs ++ ys) ≡ added b x xs ++ ys
added_behind true x xs ys = refl
added_behind false x xs ys = refl

pub calls_in_turn : (s : State) (who : Actor) (es fs : List Entry) → calls_from s who (es ++ fs) ≡ calls_from s who es ++ calls_from (after s es) who fs
calls_in_turn s who [] fs = refl
calls_in_turn s who (e ∷ es) fs =
    let t = (step s e).0 in
    let x : Exchange = record { call = e.call; outcome = (step s e).1 } in
    ap (added (is_actor who e.actor) x) (calls_in_turn t who es fs)
    ∙ added_behind (is_actor who e.actor) x (calls_from t who es) (calls_from (after t es) who fs)

pub calls_grow : CallsGrow
unfolding exchange_at
calls_grow m es e n = record { own = λ is. adds true (yes is); others = λ other. adds false other ∙ append-nil (calls_by n m es) }
  where
    yes : e.actor ≡ actor_at n → is_actor (actor_at n) e.actor ≡ true
    yes is = subst (λ (a : Actor). is_actor (actor_at n) a ≡ true) (sym is) (actor_itself (actor_at n))

    adds : (b : Bool) → is_actor (actor_at n) e.actor ≡ b → calls_by n m (es ++ e ∷ []) ≡ calls_by n m es ++ added b (exchange_at (moment_after m es) e) []
    adds b is = calls_in_turn m.state (actor_at n) es (e ∷ []) ∙ ap (λ (c : Bool). calls_by n m es ++ added c (exchange_at (moment_after m es) e) []) is

nothing_more : (xs ys : List Exchange) → xs ++ ys ≡ xs → ys ≡ []
nothing_more xs [] e = refl
nothing_more xs (y ∷ ys) e = absurd (omega (arith, ap length e, length-append xs (y ∷ ys)))

not_added : (b : Bool) (x : Exchange) (rest : List Exchange) → added b x rest ≡ [] → (b ≡ false) × (rest ≡ [])
not_added true x rest e = absurd (omega (arith, ap length e))
not_added false x rest e = (refl, e)

none_made : (s : State) (who : Actor) (fs gs : List Entry) → calls_from s who (fs ++ gs) ≡ [] → (none_is_by who fs ≡ true) × (calls_from s who fs ≡ [])
none_made s who [] gs e = (refl, refl)
none_made s who (f ∷ fs) gs e =
    let t = (step s f).0 in
    let z = not_added (is_actor who f.actor) (record { call = f.call; outcome = (step s f).1 }) (calls_from t who (fs ++ gs)) e in
    let more = none_made t who fs gs z.1 in
    (rw (z.0, more.0) refl, rw z.0 more.1)

pub none_lies_between : NoneLiesBetween
none_lies_between m es fs gs n same =
    let who = actor_at n in
    let rest : calls_from (after m.state es) who (fs ++ gs) ≡ [] = nothing_more (calls_by n m es) (calls_from (after m.state es) who (fs ++ gs)) (sym (calls_in_turn m.state who es (fs ++ gs)) ∙ same) in
    let none = none_made (after m.state es) who fs gs rest in
    record {
      none = none.0;
      same = calls_in_turn m.state who es fs ∙ (ap (λ (l : List Exchange). calls_by n m es ++ l) none.1 ∙ append-nil (calls_by n m es));
    }

-- ---- actors

equal_keys : (a b : ℕ) (c : Bool) → (a == b) ≡ c → (suc a == suc b) ≡ c
equal_keys a b true e = let same : a ≡ b = same_key a b e in grind (arith, same)
equal_keys a b false e = is_false (suc a == suc b) (λ h. let same : suc a ≡ suc b = same_key (suc a) (suc b) h in true≢false (sym (subst (λ (k : ℕ). (a == k) ≡ true) (omega (arith, same)) (itself a)) ∙ e))

unequal : (a b : ℕ) → a ≢ b → (a == b) ≡ false
unequal a b apart = is_false (a == b) (λ h. apart (same_key a b h))

pub numbers_are_apart : NumbersAreApart
numbers_are_apart zero zero = sym (itself 0)
numbers_are_apart zero (suc zero) = sym (unequal 0 1 (λ h. omega arith))
numbers_are_apart zero (suc (suc k)) = sym (unequal 0 (suc (suc k)) (λ h. omega arith))
numbers_are_apart (suc zero) zero = sym (unequal 1 0 (λ h. omega arith))
numbers_are_apart (suc zero) (suc zero) = sym (itself 1)
numbers_are_apart (suc zero) (suc (suc k)) = sym (unequal 1 (suc (suc k)) (λ h. omega arith))
numbers_are_apart (suc (suc j)) zero = sym (unequal (suc (suc j)) 0 (λ h. omega arith))
numbers_are_apart (suc (suc j)) (suc zero) = sym (unequal (suc (suc j)) 1 (λ h. omega arith))
numbers_are_apart (suc (suc j)) (suc (suc k)) = sym (equal_keys (suc j) (suc k) (suc j == suc k) refl)

pub number_of : (apps : ℕ) (s : State) (who : Actor) → s.core.apps ≡ apps → IsPresent s.core who → HasNumber apps who
number_of apps s Device same there = record { number = 0; is_below = omega arith; is = refl }
number_of apps s Compositor same there = record { number = 1; is_below = omega arith; is = refl }
number_of apps s (App zero) same there = absurd (omega (arith, there.0))
number_of apps s (App (suc k)) same there = record { number = suc (suc k); is_below = omega (arith, there.1, same); is = refl }

each_by_actors : (apps : ℕ) (s : State) (clocks : List ℤ) (es : List Entry) → s.core.apps ≡ apps → IsLegalFrom s clocks es → (k : ℕ) (e : Entry) → slice_get es k ≡ Some e → HasNumber apps e.actor
each_by_actors apps s clocks [] same legal k e there = absurd (cc there)
each_by_actors apps s clocks (x ∷ es) same legal zero e there = let is : x ≡ e = cc there in subst (λ (y : Entry). HasNumber apps y.actor) is (number_of apps s x.actor same legal.0.present)
each_by_actors apps s clocks (x ∷ es) same legal (suc k) e there = each_by_actors apps (step s x).0 (clocks_after clocks x (step s x).0) es same legal.3 k e there

none_by_others : (apps : ℕ) (s : State) (clocks : List ℤ) (es : List Entry) (n : ℕ) → s.core.apps ≡ apps → IsLegalFrom s clocks es → apps + 2 ≤ n → calls_from s (actor_at n) es ≡ []
none_by_others apps s clocks [] n same legal beyond = refl
none_by_others apps s clocks (x ∷ es) n same legal beyond =
    let is = number_of apps s x.actor same legal.0.present in
    let below = is.is_below in
    let other : is_actor (actor_at n) x.actor ≡ false = ap (is_actor (actor_at n)) is.is ∙ (numbers_are_apart n is.number ∙ unequal n is.number (λ h. omega arith)) in
    rw other (none_by_others apps (step s x).0 (clocks_after clocks x (step s x).0) es n same legal.3 beyond)

pub entries_are_by_actors : EntriesAreByActors
entries_are_by_actors apps es legal = record {
  each = each_by_actors apps (opening (with_apps apps)) (opening_clocks (with_apps apps)) es refl legal;
  others = λ n beyond. none_by_others apps (opening (with_apps apps)) (opening_clocks (with_apps apps)) es n refl legal beyond;
}
