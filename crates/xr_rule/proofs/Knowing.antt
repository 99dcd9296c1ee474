-- One history: what the seats know of it, when one decides an entry, is cut in two, or takes another in.
use Rattle.std.proofs.Common.{◌≡◌, ℕ, zero, suc, ◌+◌, ◌<◌, ◌≤◌, ◌≢◌, true, List, [], ◌∷◌, ◌++◌, length, set, sym, refl, ap, ◌∙◌, subst, inl, inr, ⊎_elim, arith, eq-eqb, ne_eqb, length-append}
use mathlib.Core.Logic.{dite}
use mathlib.Core.Option.{some, some-injective, some-ne-none}
use mathlib.Core.List.{IsPrefix}
use native.Mathlib.Decide.{ℕ_discrete, dec_le}
use lib.ListN.{get_elem?}
use Rattle.atomic_table.proofs.Lists.{at_set, at_snoc, at_longer, set_here, set_else}
use Rattle.xr_types.specs.declared.calls.Actor.{Actor}
use Rattle.xr_types.specs.declared.calls.Call.{Call}
use Rattle.xr_types.specs.declared.calls.Call.TheVariants as ask
use Rattle.xr_model.specs.machine.CoreCalls.{asked}
use Rattle.xr_model.specs.laws.WordLaws.{has_good_numbers}
use Rattle.xr_model.specs.machine.Calls.{Entry, Exchange}
use Rattle.xr_model.specs.machine.Rule.{is_by}
use Rattle.xr_model.specs.laws.FewCalls.{HasFew}
use Rattle.xr_model.specs.laws.Moments.{opening_moment, exchange_at, moment_after, IsLegalAt, calls_by}
use Rattle.xr_model.proofs.FewCalls.{few_more as few_grow}
use Rattle.xr_model.proofs.GrowingHistories.{legal_grows, entries_are_by_actors}
use Rattle.xr_model.proofs.Rows.{both_of}
use Rattle.xr_rule.specs.Sums.{total}
use Rattle.xr_rule.specs.View.{Own, Know, know, own_of, with_call, with_seen, is_of, owns, parts, numbers_from, all_numbers, spent_know, longer, know_after}
use Rattle.xr_model.specs.laws.MomentLaws.{are_by_callers}
use Rattle.xr_rule.specs.Rule.{have_good_numbers, Knows, OneHistory, MayDecide, HasAll}
use Rattle.xr_rule.proofs.Histories.{IsBy, calls-mine, calls-other, calls-between}
use Rattle.xr_rule.proofs.Prefixes.{prefix_self, prefix_more, prefix_trans, prefix_whole, prefix_length, longer_is}
use Rattle.xr_rule.proofs.Sums.{at_in, at_one, at_append, empty_list, total-append, total-set, term_le, terms_le}

yes_of : (n : ℕ) (o : Own) → o.number ≡ n → is_of n o ≡ 1
yes_of n o is = rw (eq-eqb o.number n is) refl

no_of : (n : ℕ) (o : Own) → o.number ≢ n → is_of n o ≡ 0
no_of n o apart = rw (ne_eqb o.number n apart) refl

not_owned : (n : ℕ) (os : List Own) (i : ℕ) (o : Own) → get_elem? os i ≡ some o → total (is_of n) os ≡ 0 → n ≢ o.number
not_owned n os i o at none same = let one : is_of n o ≡ 1 = yes_of n o (sym same) in omega (arith, one, term_le (is_of n) os i o at)

-- one more entry, of another's number
others_know : (key : ℕ) (log : List Entry) (n : ℕ) (e : Entry) (k : Know) → IsBy n e → owns n k ≡ 0 → Knows key log k → Knows key (log ++ e ∷ []) k
others_know key log n e k by none h = record {
  apps_are = h.apps_are;
  begins = prefix_more k.seen log (e ∷ []) h.begins;
  own_seen = h.own_seen;
  own_all = λ i o at. calls-other o.number n (opening_moment key) log e by (not_owned n k.own i o at none) ∙ h.own_all i o at;
  saw = h.saw;
  few = h.few;
}

saw_more : (log s : List Entry) (e : Entry) (d : Exchange) (o : Own) (os : List Own) → IsPrefix s log → ((i : ℕ) (p : Own) → get_elem? (o ∷ os) i ≡ some p → IsPrefix p.saw s) → (i : ℕ) (p : Own) → get_elem? (with_call d (o ∷ os)) i ≡ some p → IsPrefix p.saw (log ++ e ∷ [])
saw_more log s e d o os before all zero p at = subst (λ (q : Own). IsPrefix q.saw (log ++ e ∷ [])) (some-injective (own_of o.number (o.calls ++ d ∷ []) o.saw) p at) (prefix_more o.saw log (e ∷ []) (prefix_trans o.saw s log (all 0 o refl) before))
saw_more log s e d o os before all (suc i) p at = prefix_more p.saw log (e ∷ []) (prefix_trans p.saw s log (all (suc i) p at) before)

mine_more : (key : ℕ) (log : List Entry) (e : Entry) (o : Own) (os : List Own) → ((i : ℕ) (p : Own) → get_elem? (o ∷ os) i ≡ some p → calls_by p.number (opening_moment key) log ≡ p.calls) → IsBy o.number e → total (is_of o.number) os ≡ 0
    → (i : ℕ) (p : Own) → get_elem? (with_call (exchange_at (moment_after (opening_moment key) log) e) (o ∷ os)) i ≡ some p → calls_by p.number (opening_moment key) (log ++ e ∷ []) ≡ p.calls
mine_more key log e o os all is none zero p at =
    let d : Exchange = exchange_at (moment_after (opening_moment key) log) e in
    let P : Own → Type 0 = λ q. calls_by q.number (opening_moment key) (log ++ e ∷ []) ≡ q.calls in
    subst P (some-injective (own_of o.number (o.calls ++ d ∷ []) o.saw) p at) (calls-mine o.number (opening_moment key) log e is ∙ ap (λ l. l ++ d ∷ []) (all 0 o refl))
mine_more key log e o os all is none (suc i) p at = calls-other p.number o.number (opening_moment key) log e is (not_owned o.number os i p at none) ∙ all (suc i) p at

few_more : (key : ℕ) (log : List Entry) (e : Entry) (o : Own) (os : List Own) (s : List Entry) → ((i : ℕ) (p : Own) → get_elem? (o ∷ os) i ≡ some p → HasFew p.number p.calls) → MayDecide (know key (o ∷ os) s) log e
    → (i : ℕ) (p : Own) → get_elem? (with_call (exchange_at (moment_after (opening_moment key) log) e) (o ∷ os)) i ≡ some p → HasFew p.number p.calls
few_more key log e o os s all may zero p at =
    let x : Exchange = exchange_at (moment_after (opening_moment key) log) e in
    subst (λ (q : Own). HasFew q.number q.calls) (some-injective (own_of o.number (o.calls ++ x ∷ []) o.saw) p at) (few_grow o.number (moment_after (opening_moment key) log) e o.calls may.by_own may.caller (all 0 o refl) may.few)
few_more key log e o os s all may (suc i) p at = all (suc i) p at

callers_more : (log : List Entry) (e : Entry) → are_by_callers log ≡ true → is_by (asked e.actor e.call).caller e.actor ≡ true → are_by_callers (log ++ e ∷ []) ≡ true
callers_more [] e all one = rw one refl
callers_more (x ∷ xs) e all one =
    let two = both_of (is_by (asked x.actor x.call).caller x.actor) (are_by_callers xs) all in
    rw two.0 (callers_more xs e two.1 one)

numbers_are_good : (who : Actor) (what : Call) → (asked who what).in_range ≡ true → has_good_numbers what ≡ true
numbers_are_good who (ask.Device what) is = is
numbers_are_good who what is = refl

good_more : (log : List Entry) (e : Entry) → have_good_numbers log ≡ true → has_good_numbers e.call ≡ true → have_good_numbers (log ++ e ∷ []) ≡ true
good_more [] e all one = rw one refl
good_more (x ∷ xs) e all one =
    let two = both_of (has_good_numbers x.call) (have_good_numbers xs) all in
    rw two.0 (good_more xs e two.1 one)

pub history_decides : (key : ℕ) (log : List Entry) (ks : List Know) (id : ℕ) (e : Entry) (o : Own) (os : List Own) (s : List Entry) → OneHistory key log ks → get_elem? ks id ≡ some (know key (o ∷ os) s)
    → MayDecide (know key (o ∷ os) s) log e → OneHistory key (log ++ e ∷ []) (set ks id (know_after (know key (o ∷ os) s) log e))
history_decides key log ks id e o os s t at may =
    let is = may.by_own in
    let k : Know = know key (o ∷ os) s in
    let w : Know = know_after k log e in
    let one : is_of o.number o ≡ 1 = yes_of o.number o refl in
    let mine = term_le (owns o.number) ks id k at in
    let inside : o.number < key + 2 = dite (dec_le (key + 2) o.number) (λ h. absurd (omega (arith, t.nobody o.number h))) (λ h. omega arith) in
    let all = t.owners o.number inside in
    let rest : total (is_of o.number) os ≡ 0 = omega arith in
    let known = t.each id k at in
    record {
      legal = legal_grows (opening_moment key) log e t.legal may.comes;
      by_callers = callers_more log e t.by_callers may.caller;
      good = good_more log e t.good (numbers_are_good e.actor e.call may.numbers);
      each = λ j u h. ⊎_elim
          (λ (q : (j ≡ id) × (w ≡ u)). subst (λ (x : Know). Knows key (log ++ e ∷ []) x) q.1 record {
            apps_are = inr refl;
            begins = prefix_self (log ++ e ∷ []);
            own_seen = mine_more key log e o os known.own_all is rest;
            own_all = mine_more key log e o os known.own_all is rest;
            saw = saw_more log s e (exchange_at (moment_after (opening_moment key) log) e) o os known.begins known.saw;
            few = few_more key log e o os s known.few may;
          })
          (λ (q : (j ≢ id) × (get_elem? ks j ≡ some u)). let two = terms_le (owns o.number) ks id j k u q.0 at q.1 in others_know key log o.number e u is (omega arith) (t.each j u q.1))
          (at_set ks id j w u h);
      owners = λ n l. omega (arith, total-set (owns n) ks id k w at, t.owners n l);
      nobody = λ n l. omega (arith, total-set (owns n) ks id k w at, t.nobody n l);
      all_parts = omega (arith, total-set parts ks id k w at, t.all_parts);
      newest = (id, w, set_here ks id w (at_in ks id k at), omega arith, refl);
    }

pub history_splits : (key : ℕ) (log : List Entry) (ks : List Know) (id : ℕ) (a : ℕ) (o p : Own) (os : List Own) (s : List Entry) → OneHistory key log ks → get_elem? ks id ≡ some (know a (o ∷ p ∷ os) s)
    → OneHistory key log (set ks id (know a (o ∷ os) s) ++ know a (p ∷ []) s ∷ [])
history_splits key log ks id a o p os s t at =
    let k : Know = know a (o ∷ p ∷ os) s in
    let l : Know = know a (o ∷ os) s in
    let r : Know = know a (p ∷ []) s in
    let known = t.each id k at in
    let apps : a ≡ key = ⊎_elim (λ (z : o ∷ p ∷ os ≡ []). absurd (omega (arith, ap length z))) (λ (z : a ≡ key). z) known.apps_are in
    let left : Knows key log l = record {
      apps_are = inr apps;
      begins = known.begins;
      own_seen = λ i q h. left_at (λ x. calls_by x.number (opening_moment key) s ≡ x.calls) o p os known.own_seen i q h;
      own_all = λ i q h. left_at (λ x. calls_by x.number (opening_moment key) log ≡ x.calls) o p os known.own_all i q h;
      saw = λ i q h. left_at (λ x. IsPrefix x.saw s) o p os known.saw i q h;
      few = λ i q h. left_at (λ x. HasFew x.number x.calls) o p os known.few i q h;
    } in
    let right : Knows key log r = record {
      apps_are = inr apps;
      begins = known.begins;
      own_seen = λ i q h. right_at (λ x. calls_by x.number (opening_moment key) s ≡ x.calls) o p os known.own_seen i q h;
      own_all = λ i q h. right_at (λ x. calls_by x.number (opening_moment key) log ≡ x.calls) o p os known.own_all i q h;
      saw = λ i q h. right_at (λ x. IsPrefix x.saw s) o p os known.saw i q h;
      few = λ i q h. right_at (λ x. HasFew x.number x.calls) o p os known.few i q h;
    } in
    let new = t.newest in
    record {
      legal = t.legal;
      by_callers = t.by_callers;
      good = t.good;
      each = λ j u h. ⊎_elim
          (λ (h₁ : get_elem? (set ks id l) j ≡ some u). ⊎_elim (λ (q : (j ≡ id) × (l ≡ u)). subst (λ (x : Know). Knows key log x) q.1 left) (λ (q : (j ≢ id) × (get_elem? ks j ≡ some u)). t.each j u q.1) (at_set ks id j l u h₁))
          (λ (q : r ≡ u). subst (λ (x : Know). Knows key log x) q right) (at_snoc (set ks id l) r u j h);
      owners = λ n h. omega (arith, total-append (owns n) (set ks id l) (r ∷ []), total-set (owns n) ks id k l at, t.owners n h);
      nobody = λ n h. omega (arith, total-append (owns n) (set ks id l) (r ∷ []), total-set (owns n) ks id k l at, t.nobody n h);
      all_parts = omega (arith, total-append parts (set ks id l) (r ∷ []), total-set parts ks id k l at, t.all_parts);
      newest = dite (ℕ_discrete new.0 id)
          (λ z. (
            id,
            l,
            at_longer (set ks id l) (r ∷ []) id l (set_here ks id l (at_in ks id k at)),
            omega arith,
            ap (λ (x : Know). x.seen) (at_one ks id k new.1 at (subst (λ (x : ℕ). get_elem? ks x ≡ some new.1) z new.2)) ∙ new.4,
          ))
          (λ nz. (new.0, new.1, at_longer (set ks id l) (r ∷ []) new.0 new.1 (set_else ks id new.0 l nz ∙ new.2), new.3, new.4));
    }
  where
    left_at : (P : Own → Type 0) (o p : Own) (os : List Own) → ((i : ℕ) (x : Own) → get_elem? (o ∷ p ∷ os) i ≡ some x → P x) → (i : ℕ) (x : Own) → get_elem? (o ∷ os) i ≡ some x → P x
    left_at P o p os h zero x at = h 0 x at
    left_at P o p os h (suc i) x at = h (suc (suc i)) x at

    right_at : (P : Own → Type 0) (o p : Own) (os : List Own) → ((i : ℕ) (x : Own) → get_elem? (o ∷ p ∷ os) i ≡ some x → P x) → (i : ℕ) (x : Own) → get_elem? (p ∷ []) i ≡ some x → P x
    right_at P o p os h zero x at = h 1 x at
    right_at P o p os h (suc i) x at = absurd (some-ne-none x (sym at))

spent_knows : (key : ℕ) (log : List Entry) → Knows key log (spent_know)
spent_knows key log = record {
  apps_are = inl refl;
  begins = (log, refl);
  own_seen = λ i o at. absurd (some-ne-none o (sym at));
  own_all = λ i o at. absurd (some-ne-none o (sym at));
  saw = λ i o at. absurd (some-ne-none o (sym at));
  few = λ i o at. absurd (some-ne-none o (sym at));
}

taken_at : (P : Own → Type 0) (s : List Entry) (os : List Own) → ((o : Own) → P o → P (own_of o.number o.calls s)) → ((i : ℕ) (o : Own) → get_elem? os i ≡ some o → P o) → (i : ℕ) (o : Own) → get_elem? (with_seen s os) i ≡ some o → P o
taken_at P s [] f h i o at = absurd (some-ne-none o (sym at))
taken_at P s (x ∷ xs) f h zero o at = subst P (some-injective (own_of x.number x.calls s) o at) (f x (h 0 x refl))
taken_at P s (x ∷ xs) f h (suc i) o at = h (suc i) o at

taken_total : (n : ℕ) (s : List Entry) (os : List Own) → total (is_of n) (with_seen s os) ≡ total (is_of n) os
taken_total n s [] = refl
taken_total n s (o ∷ os) = refl

taken_length : (s : List Entry) (os : List Own) → length (with_seen s os) ≡ length os
taken_length s [] = refl
taken_length s (o ∷ os) = refl

taken_saw : (s : List Entry) (os : List Own) → ((i : ℕ) (o : Own) → get_elem? os i ≡ some o → IsPrefix o.saw s) → (i : ℕ) (o : Own) → get_elem? (with_seen s os) i ≡ some o → IsPrefix o.saw s
taken_saw s [] h i o at = absurd (some-ne-none o (sym at))
taken_saw s (x ∷ xs) h zero o at = subst (λ (q : Own). IsPrefix q.saw s) (some-injective (own_of x.number x.calls s) o at) (prefix_self s)
taken_saw s (x ∷ xs) h (suc i) o at = h (suc i) o at

pub history_joins : (key : ℕ) (log : List Entry) (ks : List Know) (id other : ℕ) (k u : Know) → OneHistory key log ks → get_elem? ks id ≡ some k → other ≢ id → get_elem? ks other ≡ some u → 0 < length u.own
    → OneHistory key log (set (set ks id (know u.apps (k.own ++ with_seen u.seen u.own) (longer k.seen u.seen))) other (spent_know))
history_joins key log ks id other k u t at apart there some_own =
    let l : List Entry = longer k.seen u.seen in
    let taken : List Own = with_seen u.seen u.own in
    let w : Know = know u.apps (k.own ++ taken) l in
    let vs : List Know = set ks id w in
    let known = t.each id k at in
    let theirs = t.each other u there in
    let apps : u.apps ≡ key = ⊎_elim (λ (z : u.own ≡ []). absurd (omega (arith, ap length z))) (λ (z : u.apps ≡ key). z) theirs.apps_are in
    let long = longer_is k.seen u.seen log known.begins theirs.begins in
    let here : get_elem? vs other ≡ some u = set_else ks id other w apart ∙ there in
    let mine : get_elem? (set vs other (spent_know)) id ≡ some w = set_else vs other id (spent_know) (λ z. apart (sym z)) ∙ set_here ks id w (at_in ks id k at) in
    let some_w : 0 < length w.own = omega (arith, length-append k.own taken, taken_length u.seen u.own) in
    let both : (g : Know → ℕ) → total g (set vs other (spent_know)) + g u + g k ≡ total g ks + g w + g (spent_know) = λ g. omega (arith, total-set g ks id k w at, total-set g vs other u (spent_know) here) in
    let joins : Knows key log w = record {
      apps_are = inr apps;
      begins = long.whole;
      own_seen = λ i o h. ⊎_elim
          (λ (x : (j : ℕ) × (get_elem? k.own j ≡ some o)). calls-between o.number (opening_moment key) k.seen l log o.calls long.first long.whole (known.own_seen x.0 o x.1) (known.own_all x.0 o x.1))
          (λ (x : (j : ℕ) × (get_elem? taken j ≡ some o)). calls-between o.number (opening_moment key) u.seen l log o.calls long.second long.whole
          (taken_at (λ q. calls_by q.number (opening_moment key) u.seen ≡ q.calls) u.seen u.own (λ q z. z) theirs.own_seen x.0 o x.1)
          (taken_at (λ q. calls_by q.number (opening_moment key) log ≡ q.calls) u.seen u.own (λ q z. z) theirs.own_all x.0 o x.1))
          (at_append k.own taken i o h);
      own_all = λ i o h. ⊎_elim (λ (x : (j : ℕ) × (get_elem? k.own j ≡ some o)). known.own_all x.0 o x.1)
          (λ (x : (j : ℕ) × (get_elem? taken j ≡ some o)). taken_at (λ q. calls_by q.number (opening_moment key) log ≡ q.calls) u.seen u.own (λ q z. z) theirs.own_all x.0 o x.1) (at_append k.own taken i o h);
      saw = λ i o h. ⊎_elim (λ (x : (j : ℕ) × (get_elem? k.own j ≡ some o)). prefix_trans o.saw k.seen l (known.saw x.0 o x.1) long.first)
          (λ (x : (j : ℕ) × (get_elem? taken j ≡ some o)). prefix_trans o.saw u.seen l (taken_saw u.seen u.own theirs.saw x.0 o x.1) long.second) (at_append k.own taken i o h);
      few = λ i o h. ⊎_elim (λ (x : (j : ℕ) × (get_elem? k.own j ≡ some o)). known.few x.0 o x.1)
          (λ (x : (j : ℕ) × (get_elem? taken j ≡ some o)). taken_at (λ q. HasFew q.number q.calls) u.seen u.own (λ q z. z) theirs.few x.0 o x.1) (at_append k.own taken i o h);
    } in
    let new = t.newest in
    record {
      legal = t.legal;
      by_callers = t.by_callers;
      good = t.good;
      each = λ j x h. ⊎_elim (λ (q : (j ≡ other) × (spent_know ≡ x)). subst (λ (z : Know). Knows key log z) q.1 (spent_knows key log))
          (λ (q : (j ≢ other) × (get_elem? vs j ≡ some x)). ⊎_elim (λ (y : (j ≡ id) × (w ≡ x)). subst (λ (z : Know). Knows key log z) y.1 joins) (λ (y : (j ≢ id) × (get_elem? ks j ≡ some x)). t.each j x y.1) (at_set ks id j w x q.1))
          (at_set vs other j (spent_know) x h);
      owners = λ n h. omega (arith, both (owns n), total-append (is_of n) k.own taken, taken_total n u.seen u.own, t.owners n h);
      nobody = λ n h. omega (arith, both (owns n), total-append (is_of n) k.own taken, taken_total n u.seen u.own, t.nobody n h);
      all_parts = omega (arith, both parts, length-append k.own taken, taken_length u.seen u.own, t.all_parts);
      newest = dite (ℕ_discrete new.0 id)
          (λ z. let same : k ≡ new.1 = at_one ks id k new.1 at (subst (λ (x : ℕ). get_elem? ks x ≡ some new.1) z new.2) in
          let is : k.seen ≡ log = ap (λ (x : Know). x.seen) same ∙ new.4 in
          (id, w, mine, some_w, prefix_whole l log long.whole (omega (arith, prefix_length k.seen l long.first, ap length is))))
          (λ nz. dite (ℕ_discrete new.0 other)
          (λ z. let same : u ≡ new.1 = at_one ks other u new.1 there (subst (λ (x : ℕ). get_elem? ks x ≡ some new.1) z new.2) in
          let is : u.seen ≡ log = ap (λ (x : Know). x.seen) same ∙ new.4 in
          (id, w, mine, some_w, prefix_whole l log long.whole (omega (arith, prefix_length u.seen l long.second, ap length is))))
          (λ nz₂. (new.0, new.1, set_else vs other new.0 (spent_know) nz₂ ∙ (set_else ks id new.0 w nz ∙ new.2), new.3, new.4)));
    }

-- a seat with no number comes, which keeps what another saw
pub history_keeps : (key : ℕ) (log : List Entry) (ks : List Know) (id : ℕ) (k : Know) → OneHistory key log ks → get_elem? ks id ≡ some k → OneHistory key log (ks ++ know k.apps [] k.seen ∷ [])
history_keeps key log ks id k t at =
    let r : Know = know k.apps [] k.seen in
    let known = t.each id k at in
    let new = t.newest in
    let right : Knows key log r = record {
      apps_are = inl refl;
      begins = known.begins;
      own_seen = λ i o h. absurd (some-ne-none o (sym h));
      own_all = λ i o h. absurd (some-ne-none o (sym h));
      saw = λ i o h. absurd (some-ne-none o (sym h));
      few = λ i o h. absurd (some-ne-none o (sym h));
    } in
    record {
      legal = t.legal;
      by_callers = t.by_callers;
      good = t.good;
      each = λ j u h. ⊎_elim (λ (q : get_elem? ks j ≡ some u). t.each j u q) (λ (q : r ≡ u). subst (λ (x : Know). Knows key log x) q right) (at_snoc ks r u j h);
      owners = λ n h. omega (arith, total-append (owns n) ks (r ∷ []), t.owners n h);
      nobody = λ n h. omega (arith, total-append (owns n) ks (r ∷ []), t.nobody n h);
      all_parts = omega (arith, total-append parts ks (r ∷ []), t.all_parts);
      newest = (new.0, new.1, at_longer ks (r ∷ []) new.0 new.1 new.2, new.3, new.4);
    }

-- where one seat has all numbers, the others have none, and it saw the whole history
pub others_spent : (key : ℕ) (log : List Entry) (ks : List Know) (id j : ℕ) (k u : Know) → OneHistory key log ks → get_elem? ks id ≡ some k → length k.own ≡ key + 2 → j ≢ id → get_elem? ks j ≡ some u → u.own ≡ []
others_spent key log ks id j k u t at all apart there = let two = terms_le parts ks id j k u apart at there in let whole = t.all_parts in empty_list u.own (omega arith)

pub saw_all : (key : ℕ) (log : List Entry) (ks : List Know) (id : ℕ) (k : Know) → OneHistory key log ks → get_elem? ks id ≡ some k → length k.own ≡ key + 2 → k.seen ≡ log
saw_all key log ks id k t at all = let new = t.newest in dite (ℕ_discrete new.0 id)
    (λ z. ap (λ (x : Know). x.seen) (at_one ks id k new.1 at (subst (λ (x : ℕ). get_elem? ks x ≡ some new.1) z new.2)) ∙ new.4)
    (λ nz. let gone = others_spent key log ks id new.0 k new.1 t at all nz new.2 in let some_own = new.3 in absurd (omega (arith, ap length gone)))

-- ---- the first seat's numbers

abbrev blank : ℕ → Own
blank n = own_of n [] []

from_length : (n k : ℕ) → length (numbers_from n k) ≡ k + 1
from_length n zero = omega arith
from_length n (suc k) = omega (arith, from_length (n + 1) k)

-- none of them has a call
from_at : (P : Own → Type 0) → ((m : ℕ) → P (blank m)) → (n k i : ℕ) (o : Own) → get_elem? (numbers_from n k) i ≡ some o → P o
from_at P all n zero zero o e = subst P (some-injective (blank 1) o e) (all 1)
from_at P all n zero (suc i) o e = absurd (some-ne-none o (sym e))
from_at P all n (suc k) zero o e = subst P (some-injective (blank n) o e) (all n)
from_at P all n (suc k) (suc i) o e = from_at P all (n + 1) k i o e

all_at : (P : Own → Type 0) → ((m : ℕ) → P (blank m)) → (apps i : ℕ) (o : Own) → get_elem? (all_numbers apps) i ≡ some o → P o
all_at P all apps zero o e = subst P (some-injective (blank 0) o e) (all 0)
all_at P all apps (suc i) o e = from_at P all 2 apps i o e

-- the compositor's number comes once, each application's once, and no other
from_first : (n k : ℕ) → 2 ≤ n → total (is_of 1) (numbers_from n k) ≡ 1
from_first n zero h = omega (arith, yes_of 1 (blank 1) refl)
from_first n (suc k) h = omega (arith, no_of 1 (blank n) (λ e. omega arith), from_first (n + 1) k (omega arith))

from_below : (n k m : ℕ) → m ≢ 1 → m < n → total (is_of m) (numbers_from n k) ≡ 0
from_below n zero m h l = omega (arith, no_of m (blank 1) (λ e. h (sym e)))
from_below n (suc k) m h l = omega (arith, no_of m (blank n) (λ e. omega arith), from_below (n + 1) k m h (omega arith))

from_above : (n k m : ℕ) → 2 ≤ n → n + k ≤ m → total (is_of m) (numbers_from n k) ≡ 0
from_above n zero m h l = omega (arith, no_of m (blank 1) (λ e. omega arith))
from_above n (suc k) m h l = omega (arith, no_of m (blank n) (λ e. omega arith), from_above (n + 1) k m (omega arith) (omega arith))

from_inside : (n k m : ℕ) → 2 ≤ n → n ≤ m → m < n + k → total (is_of m) (numbers_from n k) ≡ 1
from_inside n zero m h l u = absurd (omega arith)
from_inside n (suc k) m h l u = dite (ℕ_discrete n m)
    (λ e. omega (arith, yes_of m (blank n) e, from_below (n + 1) k m (λ z. omega arith) (omega arith)))
    (λ ne. omega (arith, no_of m (blank n) ne, from_inside (n + 1) k m (omega arith) (omega arith) (omega arith)))

all_once : (apps m : ℕ) → m < apps + 2 → total (is_of m) (all_numbers apps) ≡ 1
all_once apps m l = dite (ℕ_discrete m 0)
    (λ e. omega (arith, yes_of m (blank 0) (sym e), from_below 2 apps m (λ z. omega arith) (omega arith)))
    (λ ne. dite (ℕ_discrete m 1)
    (λ e. let first : total (is_of m) (numbers_from 2 apps) ≡ 1 = subst (λ (i : ℕ). total (is_of i) (numbers_from 2 apps) ≡ 1) (sym e) (from_first 2 apps (omega arith)) in omega (arith, no_of m (blank 0) (λ z. omega arith), first))
    (λ ne₂. omega (arith, no_of m (blank 0) (λ z. omega arith), from_inside 2 apps m (omega arith) (omega arith) (omega arith))))

all_none : (apps m : ℕ) → apps + 2 ≤ m → total (is_of m) (all_numbers apps) ≡ 0
all_none apps m l = omega (arith, no_of m (blank 0) (λ e. omega arith), from_above 2 apps m (omega arith) (omega arith))

few_of_none : (m : ℕ) → HasFew m []
few_of_none zero = omega arith
few_of_none (suc zero) = record { its_own = refl; shown = omega arith; ended = omega arith }
few_of_none (suc (suc k)) = omega arith

pub history_opens : (key : ℕ) → OneHistory key [] (know key (all_numbers key) [] ∷ [])
history_opens key = let k : Know = know key (all_numbers key) [] in record {
  legal = tt;
  by_callers = refl;
  good = refl;
  each = λ j u h. first_only j u h;
  owners = λ n l. omega (arith, all_once key n l);
  nobody = λ n l. omega (arith, all_none key n l);
  all_parts = omega (arith, from_length 2 key);
  newest = (0, k, refl, omega (arith, from_length 2 key), refl);
}
  where
    first_knows : Knows key [] (know key (all_numbers key) [])
    first_knows = record {
      apps_are = inr refl;
      begins = ([], refl);
      own_seen = λ i o at. all_at (λ x. calls_by x.number (opening_moment key) [] ≡ x.calls) (λ m. refl) key i o at;
      own_all = λ i o at. all_at (λ x. calls_by x.number (opening_moment key) [] ≡ x.calls) (λ m. refl) key i o at;
      saw = λ i o at. all_at (λ x. IsPrefix x.saw []) (λ m. ([], refl)) key i o at;
      few = λ i o at. all_at (λ x. HasFew x.number x.calls) few_of_none key i o at;
    }

    first_only : (j : ℕ) (u : Know) → get_elem? (know key (all_numbers key) [] ∷ []) j ≡ some u → Knows key [] u
    first_only zero u h = subst (λ (x : Know). Knows key [] x) (some-injective (know key (all_numbers key) []) u h) first_knows
    first_only (suc j) u h = absurd (some-ne-none u (sym h))

pub history_ends : (key : ℕ) (log : List Entry) (ks : List Know) (id : ℕ) (k : Know) → OneHistory key log ks → get_elem? ks id ≡ some k → length k.own ≡ key + 2 → HasAll key k
history_ends key log ks id k t at all =
    let is : k.seen ≡ log = saw_all key log ks id k t at all in
    let known = t.each id k at in
    record {
      apps_are = ⊎_elim (λ (z : k.own ≡ []). absurd (omega (arith, ap length z))) (λ (z : k.apps ≡ key). z) known.apps_are;
      legal = subst (IsLegalAt (opening_moment key)) (sym is) t.legal;
      by_callers = subst (λ (es : List Entry). are_by_callers es ≡ true) (sym is) t.by_callers;
      own_all = known.own_seen;
      saw = known.saw;
      owners = λ n l. alone (owns n) ks id k at (λ j u apart there. let z = others_spent key log ks id j k u t at all apart there in ap (λ (os : List Own). total (is_of n) os) z) ∙ t.owners n l;
      by_actors = entries_are_by_actors key k.seen (subst (IsLegalAt (opening_moment key)) (sym is) t.legal);
    }
  where
    zero_sum : (g : Know → ℕ) (l : List Know) → ((j : ℕ) (u : Know) → get_elem? l j ≡ some u → g u ≡ 0) → total g l ≡ 0
    zero_sum g [] h = refl
    zero_sum g (x ∷ xs) h = let a : g x ≡ 0 = h 0 x refl in omega (arith, zero_sum g xs (λ j u e. h (suc j) u e))

    alone : (g : Know → ℕ) (l : List Know) (id : ℕ) (k : Know) → get_elem? l id ≡ some k → ((j : ℕ) (u : Know) → j ≢ id → get_elem? l j ≡ some u → g u ≡ 0) → g k ≡ total g l
    alone g [] id k at h = absurd (some-ne-none k (sym at))
    alone g (x ∷ xs) zero k at h = let a : x ≡ k = some-injective x k at in omega (arith, ap g a, zero_sum g xs (λ j u e. h (suc j) u (λ z. omega arith) e))
    alone g (x ∷ xs) (suc id) k at h = let a : g x ≡ 0 = h 0 x (λ z. omega arith) refl in omega (arith, alone g xs id k at (λ j u ne e. h (suc j) u (λ z. ne (omega arith)) e))
