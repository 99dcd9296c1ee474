-- The turns to come go round, and between two turns of one actor no other has two.
use Rattle.std.proofs.Common.{arith, ◌≡◌, ◌≤◌, ◌⊎◌, inl, inr, true, List, [], ◌∷◌, ◌++◌, map, refl, sym, ap, subst, ◌∙◌}
use Rattle.std.specs.List.{list_all}
use Rattle.std.proofs.lemmas.List.{append_assoc, append-nil}
use Rattle.xr_types.specs.declared.calls.Actor.{Actor}
use Rattle.xr_model.specs.machine.Calls.{is_actor}
use Rattle.xr_model.specs.machine.State.{opening}
use Rattle.xr_model.specs.runs.Robin.{actor_of, first_agendas, agendas_left}
use Rattle.xr_model.specs.laws.RunLaws.{count_of, comes_before}
use Rattle.xr_model.specs.laws.RobinLaws.{is_in_order, StandInRound, TurnsGoRound, NobodyHasTwoTurns}
use Rattle.xr_model.proofs.Rows.{both_of}
use Rattle.xr_model.proofs.Turns.{Turned, bit, count_more, falls, front, actor_itself}
use Rattle.xr_model.proofs.RobinTurns.{front_calls, all_turned, once_in_order, first_ordered}
use Rattle.xr_model.proofs.Unfinished.{counted, unfinished_have_turns}

-- ---- the order of a round

all_without : (z x : Actor) (xs ys : List Actor) → list_all (comes_before z) (xs ++ x ∷ ys) ≡ true → list_all (comes_before z) (xs ++ ys) ≡ true
all_without z x [] ys all = (both_of (comes_before z x) (list_all (comes_before z) ys) all).1
all_without z x (y ∷ xs) ys all =
    let both = both_of (comes_before z y) (list_all (comes_before z) (xs ++ x ∷ ys)) all in
    rw both.0 (all_without z x xs ys both.1)

-- who leaves leaves the others in order
order_without : (x : Actor) (xs ys : List Actor) → is_in_order (xs ++ x ∷ ys) ≡ true → is_in_order (xs ++ ys) ≡ true
order_without x [] ys order = (both_of (list_all (comes_before x) ys) (is_in_order ys) order).1
order_without x (z ∷ xs) ys order =
    let both = both_of (list_all (comes_before z) (xs ++ x ∷ ys)) (is_in_order (xs ++ x ∷ ys)) order in
    rw (all_without z x xs ys both.0) (order_without x xs ys both.1)

same_head : (a b : Actor) (xs ys : List Actor) → a ∷ xs ≡ b ∷ ys → a ≡ b
same_head a b xs ys e = cc

same_rest : (a b : Actor) (xs ys : List Actor) → a ∷ xs ≡ b ∷ ys → xs ≡ ys
same_rest a b xs ys e = cc

-- the first one goes to the end
to_the_end : (y : Actor) (queue : List Actor) → StandInRound (y ∷ queue) → StandInRound (queue ++ y ∷ [])
to_the_end y queue round = by round.front round.back round.stand round.order
  where
    by : (first back : List Actor) → y ∷ queue ≡ first ++ back → is_in_order (back ++ first) ≡ true → StandInRound (queue ++ y ∷ [])
    by [] back stand order = record {
      front = queue;
      back = y ∷ [];
      stand = refl;
      order = subst (λ l. is_in_order l ≡ true) (append-nil back ∙ sym stand) order;
    }
    by (f ∷ first) back stand order =
        let same = same_head y f queue (first ++ back) stand in
        record {
          front = first;
          back = back ++ y ∷ [];
          stand = ap (λ l. l ++ y ∷ []) (same_rest y f queue (first ++ back) stand) ∙ append_assoc first back (y ∷ []);
          order = subst (λ l. is_in_order l ≡ true) (sym (append_assoc back (y ∷ []) first ∙ ap (λ x. back ++ x ∷ first) same)) order;
        }

-- the first one leaves
away : (y : Actor) (queue : List Actor) → StandInRound (y ∷ queue) → StandInRound queue
away y queue round = by round.front round.back round.stand round.order
  where
    by : (first back : List Actor) → y ∷ queue ≡ first ++ back → is_in_order (back ++ first) ≡ true → StandInRound queue
    by [] back stand order =
        let whole = subst (λ l. is_in_order l ≡ true) (append-nil back ∙ sym stand) order in
        record {
          front = [];
          back = queue;
          stand = refl;
          order = subst (λ l. is_in_order l ≡ true) (sym (append-nil queue)) (order_without y [] queue whole);
        }
    by (f ∷ first) back stand order = record {
      front = first;
      back = back;
      stand = same_rest y f queue (first ++ back) stand;
      order = order_without f back first order;
    }

go_round : (queue turns left : List Actor) → Turned queue turns left → StandInRound queue → StandInRound left
go_round queue [] left goes round = subst StandInRound goes round
go_round [] (x ∷ turns) left goes round = absurd goes
go_round (y ∷ queue) (x ∷ turns) left (is, inl goes) round = go_round (queue ++ y ∷ []) turns left goes (to_the_end y queue round)
go_round (y ∷ queue) (x ∷ turns) left (is, inr goes) round = go_round queue turns left goes (away y queue round)

pub turns_go_round : TurnsGoRound
turns_go_round settings scenario calls es fs robin =
    let start = first_agendas scenario calls in
    go_round (map actor_of start) _ (map actor_of (agendas_left (opening settings) start es))
    (all_turned (opening settings) start es (front_calls (opening settings) start es fs robin)) (record {
      front = [];
      back = map actor_of start;
      stand = refl;
      order = subst (λ l. is_in_order l ≡ true) (sym (append-nil (map actor_of start))) (first_ordered calls scenario);
    })

-- ---- one turn each

-- where an actor has no turn until it is in front, the turns are those of the actors ahead of it
ahead_are : (a : Actor) (queue behind mid later left : List Actor) → Turned (queue ++ a ∷ behind) (mid ++ a ∷ later) left → count_of a mid ≡ 0
    → count_of a queue ≡ 0 → mid ≡ queue
ahead_are a [] behind [] later left goes none away = refl
ahead_are a [] behind (m ∷ mid) later left (is, goes) none away =
    let own = ap bit (actor_itself a) in
    let same = ap (λ x. bit (is_actor a x)) is in
    absurd (omega (arith, none, own, same))
ahead_are a (y ∷ queue) behind [] later left (is, goes) none away =
    let own = ap bit (actor_itself a) in
    let same = ap (λ x. bit (is_actor a x)) is in
    absurd (omega (arith, away, own, same))
ahead_are a (y ∷ queue) behind (m ∷ mid) later left (is, inl goes) none away =
    let on = subst (λ l. Turned l (mid ++ a ∷ later) left) (append_assoc queue (a ∷ behind) (y ∷ [])) goes in
    let more = ahead_are a queue (behind ++ y ∷ []) mid later left on (omega (arith, none)) (omega (arith, away)) in
    ap (λ x. x ∷ mid) is ∙ ap (λ l. y ∷ l) more
ahead_are a (y ∷ queue) behind (m ∷ mid) later left (is, inr goes) none away =
    let more = ahead_are a queue behind mid later left goes (omega (arith, none)) (omega (arith, away)) in
    ap (λ x. x ∷ mid) is ∙ ap (λ l. y ∷ l) more

-- who isn't there has no turn
no_turn : (a : Actor) (queue turns left : List Actor) → Turned queue turns left → count_of a queue ≡ 0 → count_of a turns ≡ 0
no_turn a queue [] left goes none = refl
no_turn a [] (x ∷ turns) left goes none = absurd goes
no_turn a (y ∷ queue) (x ∷ turns) left (is, inl goes) none =
    let same = ap (λ z. bit (is_actor a z)) is in
    let sum = count_more a queue (y ∷ []) in
    let more = no_turn a (queue ++ y ∷ []) turns left goes (omega (arith, none, sum)) in
    omega (arith, more, none, same)
no_turn a (y ∷ queue) (x ∷ turns) left (is, inr goes) none =
    let same = ap (λ z. bit (is_actor a z)) is in
    let more = no_turn a queue turns left goes (omega (arith, none)) in
    omega (arith, more, none, same)

-- who has a turn and comes to another one was ahead of just those that had theirs between
between : (a : Actor) (queue mid later left : List Actor) → Turned queue (a ∷ (mid ++ a ∷ later)) left → count_of a queue ≤ 1 → count_of a mid ≡ 0
    → queue ≡ a ∷ mid
between a [] mid later left goes once none = absurd goes
between a (y ∷ queue) mid later left (is, goes) once none = by goes
  where
    away : count_of a queue ≡ 0
    away =
        let own = ap bit (actor_itself a) in
        let same = ap (λ z. bit (is_actor a z)) is in
        omega (arith, once, own, same)

    by : Turned (queue ++ y ∷ []) (mid ++ a ∷ later) left ⊎ Turned queue (mid ++ a ∷ later) left → y ∷ queue ≡ a ∷ mid
    by (inl on) =
        let others = ahead_are a queue [] mid later left (subst (λ z. Turned (queue ++ z ∷ []) (mid ++ a ∷ later) left) (sym is) on) none away in
        ap (λ z. z ∷ queue) (sym is) ∙ ap (λ l. a ∷ l) (sym others)
    by (inr on) =
        let own = ap bit (actor_itself a) in
        let sum = count_more a mid (a ∷ later) in
        let no = no_turn a queue (mid ++ a ∷ later) left on away in
        absurd (omega (arith, own, sum, no))

pub nobody_has_two_turns : NobodyHasTwoTurns
nobody_has_two_turns settings scenario calls es fs robin a before mid later are none b other =
    let start = first_agendas scenario calls in
    let queue = map actor_of start in
    let rest = agendas_left (opening settings) start es in
    let left = map actor_of rest in
    let goes = subst (λ l. Turned queue l left) are (all_turned (opening settings) start es (front_calls (opening settings) start es fs robin)) in
    let parts = front queue before (a ∷ (mid ++ a ∷ later)) left goes in
    let order = first_ordered calls scenario in
    let a_once = once_in_order a queue order in
    let a_falls = falls a queue before parts.0 parts.1 in
    let standing = between a parts.0 mid later left parts.2 (omega (arith, a_once, a_falls)) none in
    let b_once = once_in_order b queue order in
    let b_falls = falls b queue before parts.0 parts.1 in
    let b_stays = falls b parts.0 (a ∷ (mid ++ a ∷ later)) left parts.2 in
    let apart = ap bit other in
    let same = ap (count_of b) standing in
    record {
      most = omega (arith, b_once, b_falls, same);
      least = λ unfinished.
          let there = counted b rest (unfinished_have_turns settings scenario calls es fs robin b ∙ unfinished) in
          omega (arith, b_once, b_falls, b_stays, apart, same, there);
    }
