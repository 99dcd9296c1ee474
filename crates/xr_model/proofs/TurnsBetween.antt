-- Between two turns of one actor each other one has exactly one turn.
use Rattle.std.proofs.Common.{arith, ◌≡◌, ◌+◌, ◌==◌, ◌⊎◌, inl, inr, nat_lt, ℕ, zero, suc, Bool, true, false, List, [], ◌∷◌, ◌++◌, refl, sym, ap, subst, ◌∙◌, true≢false}
use Rattle.std.proofs.lemmas.List.{append_assoc}
use Rattle.xr_types.specs.declared.calls.Actor.{Actor}
use Rattle.xr_types.specs.declared.calls.Actor.TheVariants.{App, Compositor, Device}
use Rattle.xr_model.specs.machine.Calls.{is_actor}
use Rattle.xr_model.specs.laws.RunLaws.{count_of, comes_before, TakeTurns, OneTurnBetween}
use Rattle.xr_model.proofs.Turns.{bit, count_more, actor_itself, same_actor}
use Rattle.xr_model.proofs.Unfinished.{each_has_its_turn}

other_way : (a b : Actor) → is_actor a b ≡ false → is_actor b a ≡ false
other_way a b other = by (is_actor b a) refl
  where
    by : (c : Bool) → is_actor b a ≡ c → c ≡ false
    by true is = absurd (true≢false (sym (subst (λ x. is_actor a x ≡ true) (sym (same_actor b a is)) (actor_itself a)) ∙ other))
    by false is = refl

lower : (j k : ℕ) → (j == k) ≡ false → (nat_lt j k ≡ true) ⊎ (nat_lt k j ≡ true)
lower zero zero other = absurd (true≢false other)
lower zero (suc k) other = inl (grind arith)
lower (suc j) zero other = inr (grind arith)
lower (suc j) (suc k) other = by (lower j k (grind (arith, other)))
  where
    by : (nat_lt j k ≡ true) ⊎ (nat_lt k j ≡ true) → (nat_lt (suc j) (suc k) ≡ true) ⊎ (nat_lt (suc k) (suc j) ≡ true)
    by (inl e) = inl (grind (arith, e))
    by (inr e) = inr (grind (arith, e))

-- of two actors one comes before the other
one_is_first : (a b : Actor) → is_actor a b ≡ false → (comes_before a b ≡ true) ⊎ (comes_before b a ≡ true)
one_is_first (App j) (App k) other = lower j k other
one_is_first (App j) Compositor other = inl refl
one_is_first (App j) Device other = inl refl
one_is_first Compositor (App k) other = inr refl
one_is_first Compositor Compositor other = absurd (true≢false other)
one_is_first Compositor Device other = inr refl
one_is_first Device (App k) other = inr refl
one_is_first Device Compositor other = inl refl
one_is_first Device Device other = absurd (true≢false other)

-- how two take turns up to each of two turns of an actor, without it and with it
abbrev AtBoth : Actor → List Actor → List Actor → Actor → Actor → Type 0
AtBoth a before mid x y =
    TakeTurns x y before × TakeTurns x y (before ++ a ∷ []) × TakeTurns x y (before ++ a ∷ mid) × TakeTurns x y (before ++ (a ∷ mid) ++ a ∷ [])

module _ (a b : Actor) (other : is_actor a b ≡ false) (before mid : List Actor) (none : count_of a mid ≡ 0) where
  once_between : AtBoth a before mid a b ⊎ AtBoth a before mid b a → count_of b mid ≡ 1
  once_between turns =
      let own = ap bit (actor_itself a) in
      let differ = ap bit (other_way a b other) in
      let a1 = count_more a before (a ∷ []) in
      let b1 = count_more b before (a ∷ []) in
      let a2 = count_more a before (a ∷ mid) in
      let b2 = count_more b before (a ∷ mid) in
      let a3 = count_more a (before ++ (a ∷ mid)) (a ∷ []) in
      let b3 = count_more b (before ++ (a ∷ mid)) (a ∷ []) in
      by own differ a1 b1 a2 b2 a3 b3 turns
    where
      by : bit (is_actor a a) ≡ 1 → bit (is_actor b a) ≡ 0
          → count_of a (before ++ a ∷ []) ≡ count_of a before + (bit (is_actor a a) + 0)
          → count_of b (before ++ a ∷ []) ≡ count_of b before + (bit (is_actor b a) + 0)
          → count_of a (before ++ a ∷ mid) ≡ count_of a before + (bit (is_actor a a) + count_of a mid)
          → count_of b (before ++ a ∷ mid) ≡ count_of b before + (bit (is_actor b a) + count_of b mid)
          → count_of a (before ++ (a ∷ mid) ++ a ∷ []) ≡ count_of a (before ++ (a ∷ mid)) + (bit (is_actor a a) + 0)
          → count_of b (before ++ (a ∷ mid) ++ a ∷ []) ≡ count_of b (before ++ (a ∷ mid)) + (bit (is_actor b a) + 0)
          → AtBoth a before mid a b ⊎ AtBoth a before mid b a → count_of b mid ≡ 1
      by own differ a1 b1 a2 b2 a3 b3 (inl t) =
          let l0 = t.0.least in
          let m1 = t.1.most in
          let l2 = t.2.least in
          let m3 = t.3.most in
          omega (arith, none, own, differ, a1, b1, a2, b2, a3, b3, l0, m1, l2, m3)
      by own differ a1 b1 a2 b2 a3 b3 (inr t) =
          let m0 = t.0.most in
          let l1 = t.1.least in
          let m2 = t.2.most in
          let l3 = t.3.least in
          omega (arith, none, own, differ, a1, b1, a2, b2, a3, b3, m0, l1, m2, l3)

pub one_turn_between : OneTurnBetween
one_turn_between settings scenario calls es fs robin a b other first second before mid later are none =
    let rest = a ∷ (mid ++ (a ∷ later)) in
    let two = are ∙ sym (append_assoc before (a ∷ []) (mid ++ (a ∷ later))) in
    let three = are ∙ sym (append_assoc before (a ∷ mid) (a ∷ later)) in
    let four = three ∙ sym (append_assoc (before ++ (a ∷ mid)) (a ∷ []) later) in
    let turn = each_has_its_turn settings scenario calls es fs robin in
    once_between a b other before mid none (elim (one_is_first a b other) [
      | inl ahead ↦ inl (
        turn before rest are a b ahead first second,
        turn (before ++ a ∷ []) (mid ++ (a ∷ later)) two a b ahead first second,
        turn (before ++ a ∷ mid) (a ∷ later) three a b ahead first second,
        turn (before ++ (a ∷ mid) ++ a ∷ []) later four a b ahead first second,
      )
      | inr ahead ↦ inr (
        turn before rest are b a ahead second first,
        turn (before ++ a ∷ []) (mid ++ (a ∷ later)) two b a ahead second first,
        turn (before ++ a ∷ mid) (a ∷ later) three b a ahead second first,
        turn (before ++ (a ∷ mid) ++ a ∷ []) later four b a ahead second first,
      )
    ])
