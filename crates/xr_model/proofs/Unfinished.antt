-- Just the unfinished actors of a run have further turns, and each has its turn.
use Rattle.std.proofs.Common.{arith, ◌≡◌, ◌≤◌, ◌<◌, ◌+◌, ◌||◌, ◌==◌, nat_lt, ℕ, zero, suc, not, Bool, true, false, List, [], ◌∷◌, ◌++◌, map, length, Some, refl, sym, ap, subst, ◌∙◌, true≢false}
use Rattle.std.specs.Prelude.{is_some, slice_get, if◌then◌else◌}
use Rattle.xr_types.specs.declared.calls.Actor.{Actor}
use Rattle.xr_types.specs.declared.calls.Actor.TheVariants.{App, Compositor, Device}
use Rattle.xr_types.specs.declared.device.DeviceEvent.{DeviceEvent}
use Rattle.xr_types.specs.declared.scenario.Op.{Op}
use Rattle.xr_types.specs.declared.scenario.Scenario.{Scenario}
use Rattle.xr_model.specs.machine.Calls.{Entry, Exchange, is_actor}
use Rattle.xr_model.specs.machine.State.{Settings, State, opening}
use Rattle.xr_model.specs.machine.Machine.{step}
use Rattle.xr_model.specs.machine.History.{calls_from}
use Rattle.xr_model.specs.runs.Robin.{Agenda, script, events, compositor, actor_of, is_ended, agenda_after, next_move, agendas_behind, script_agendas, device_agendas, first_agendas, agendas_left}
use Rattle.xr_model.specs.runs.Lists.{end_of}
use Rattle.xr_model.specs.laws.RunLaws.{calls_of_script, script_of, is_unfinished, has_turns, UnfinishedHaveTurns, count_of, comes_before, EachHasItsTurn}
use Rattle.xr_model.proofs.Turns.{Turned, bit, falls, alike, front, same_actor}
use Rattle.xr_model.proofs.RobinTurns.{AreCalls, moved, front_calls, all_turned, once_in_order, leads_in_order, first_ordered, not_before_itself}

-- ---- what is still to be done

-- how many calls an actor has still to make; of the compositor only the one that is told the end counts
abbrev pub todo : Agenda → ℕ
todo (script app place ops values clock) = suc (length ops)
todo (events e es) = suc (length es)
todo (compositor held) = 1

abbrev pub due : Actor → List Agenda → ℕ
due who [] = 0
due who (x ∷ xs) = (if is_actor who (actor_of x) then todo x else 0) + due who xs

-- how much of that a call does
abbrev pub weight : Actor → Exchange → ℕ
weight (App k) t = 1
weight Device t = 1
weight Compositor t = bit (is_ended t.outcome.reply.gives)

abbrev pub did : Actor → List Exchange → ℕ
did who [] = 0
did who (t ∷ ts) = weight who t + did who ts

pub due_more : (who : Actor) (xs ys : List Agenda) → due who (xs ++ ys) ≡ due who xs + due who ys
due_more who [] ys = omega arith
due_more who (x ∷ xs) ys = let more = due_more who xs ys in omega (arith, more)

of_two : (b : Bool) (m n : ℕ) → (if b then suc m else 0) ≡ (if b then 1 else 0) + ((if b then m else 0) + 0)
of_two true m n = omega arith
of_two false m n = omega arith

-- an actor's call does one thing of what it has to do
one_done : (who : Actor) (x : Agenda) (s : State) (t : Exchange) → (if is_actor who (actor_of x) then todo x else 0)
    ≡ (if is_actor who (actor_of x) then weight who t else 0) + due who (agenda_after x s t.outcome)
one_done (App k) (script app place [] values clock) s t = omega arith
one_done (App k) (script app place (o ∷ os) values clock) s t = of_two (k == app) (suc (length os)) 0
one_done (App k) (events e []) s t = omega arith
one_done (App k) (events e (f ∷ fs)) s t = omega arith
one_done (App k) (compositor held) s t = by (is_ended t.outcome.reply.gives)
  where
    by : (b : Bool) → 0 ≡ 0 + due (App k) (if b then [] else compositor (length s.cells.held) ∷ [])
    by true = omega arith
    by false = omega arith
one_done Device (script app place [] values clock) s t = omega arith
one_done Device (script app place (o ∷ os) values clock) s t = omega arith
one_done Device (events e []) s t = omega arith
one_done Device (events e (f ∷ fs)) s t = omega arith
one_done Device (compositor held) s t = by (is_ended t.outcome.reply.gives)
  where
    by : (b : Bool) → 0 ≡ 0 + due Device (if b then [] else compositor (length s.cells.held) ∷ [])
    by true = omega arith
    by false = omega arith
one_done Compositor (script app place [] values clock) s t = omega arith
one_done Compositor (script app place (o ∷ os) values clock) s t = omega arith
one_done Compositor (events e []) s t = omega arith
one_done Compositor (events e (f ∷ fs)) s t = omega arith
one_done Compositor (compositor held) s t = by (is_ended t.outcome.reply.gives)
  where
    by : (b : Bool) → 1 ≡ bit b + due Compositor (if b then [] else compositor (length s.cells.held) ∷ [])
    by true = omega arith
    by false = omega arith

did_more : (who : Actor) (b : Bool) (t : Exchange) (ts : List Exchange) → did who (if b then t ∷ ts else ts)
    ≡ (if b then weight who t else 0) + did who ts
did_more who true t ts = refl
did_more who false t ts = omega arith

-- what was done and what is left are together what there was to do
pub all_done : (who : Actor) (s : State) (agendas : List Agenda) (es : List Entry) → AreCalls s agendas es
    → did who (calls_from s who es) + due who (agendas_left s agendas es) ≡ due who agendas
all_done who s agendas [] calls = omega arith
all_done who s agendas (e ∷ es) calls =
    let m = moved s agendas e calls.0 in
    let t : Exchange = record { call = e.call; outcome = (step s e).1 } in
    let next = agendas_behind (next_move s [] agendas) (step s e).0 (step s e).1 in
    let more = all_done who (step s e).0 next es calls.1 in
    let first = did_more who (is_actor who e.actor) t (calls_from (step s e).0 who es) in
    let named = ap (λ a. if is_actor who a then weight who t else 0) m.actor in
    let before = ap (due who) m.stand ∙ due_more who m.move.passed (m.move.agenda ∷ m.move.behind) in
    let one = one_done who m.move.agenda (step s e).0 t in
    let behind = ap (λ o. due who (agendas_behind o (step s e).0 (step s e).1)) m.is in
    let joined = due_more who (m.move.behind ++ m.move.passed) (agenda_after m.move.agenda (step s e).0 (step s e).1) in
    let parts = due_more who m.move.behind m.move.passed in
    omega (arith, more, first, named, before, one, behind, joined, parts)

-- ---- who has turns

some_todo : (x : Agenda) → 1 ≤ todo x
some_todo (script app place ops values clock) = omega arith
some_todo (events e es) = omega arith
some_todo (compositor held) = omega arith

pub turns_due : (who : Actor) (agendas : List Agenda) → has_turns agendas who ≡ nat_lt 0 (due who agendas)
turns_due who [] = refl
turns_due who (x ∷ xs) = by (is_actor who (actor_of x)) (turns_due who xs)
  where
    some : (m n : ℕ) → 1 ≤ m → true ≡ nat_lt 0 (m + n)
    some m n least = grind (arith, least)

    by : (b : Bool) → has_turns xs who ≡ nat_lt 0 (due who xs) → b || has_turns xs who ≡ nat_lt 0 ((if b then todo x else 0) + due who xs)
    by true more = some (todo x) (due who xs) (some_todo x)
    by false more = more ∙ ap (nat_lt 0) (omega arith)

-- ---- what there is to do at the start

lower_isnt : (k n : ℕ) → k < n → (k == n) ≡ false
lower_isnt k n less = grind (arith, less)

pub none_below : (k app : ℕ) (scripts : List (List Op)) → k < app → due (App k) (script_agendas app scripts) ≡ 0
none_below k app [] less = refl
none_below k app (ops ∷ scripts) less = rw (lower_isnt k app less) (let more = none_below k (app + 1) scripts (omega arith) in omega (arith, more))

pub same_number : (k app : ℕ) → k ≡ app → (k == app) ≡ true
same_number k app e = grind (arith, e)

script_due : (k app j : ℕ) (scripts : List (List Op)) → k ≡ app + j → due (App k) (script_agendas app scripts) ≡ calls_of_script (slice_get scripts j)
script_due k app j [] is = refl
script_due k app zero (ops ∷ scripts) is =
    rw (same_number k app (omega arith)) (let none = none_below k (app + 1) scripts (omega arith) in omega (arith, none))
script_due k app (suc j) (ops ∷ scripts) is =
    rw (lower_other k app j is) (let more = script_due k (app + 1) j scripts (omega arith) in omega (arith, more))
  where
    lower_other : (k app j : ℕ) → k ≡ app + suc j → (k == app) ≡ false
    lower_other k app j is = grind (arith, is)

device_due : (who : Actor) (calls : List DeviceEvent) → due who (device_agendas calls) ≡ (if is_actor who Device then length calls else 0)
device_due (App k) [] = refl
device_due (App k) (e ∷ es) = omega arith
device_due Device [] = refl
device_due Device (e ∷ es) = omega arith
device_due Compositor [] = refl
device_due Compositor (e ∷ es) = omega arith

pub no_script : (who : Actor) (app : ℕ) (scripts : List (List Op)) → ((k : ℕ) → is_actor who (App k) ≡ false) → due who (script_agendas app scripts)
    ≡ 0
no_script who app [] other = refl
no_script who app (ops ∷ scripts) other = rw (other app) (let more = no_script who (app + 1) scripts other in omega (arith, more))

abbrev pub all_of : Scenario → List DeviceEvent → Actor → ℕ
all_of scenario calls (App k) = calls_of_script (script_of scenario.scripts k)
all_of scenario calls Device = length calls
all_of scenario calls Compositor = 1

pub first_due : (scenario : Scenario) (calls : List DeviceEvent) (who : Actor) → due who (first_agendas scenario calls) ≡ all_of scenario calls who
first_due scenario calls who =
    let more = due_more who (script_agendas 1 scenario.scripts ++ device_agendas calls) (compositor 0 ∷ []) in
    let parts = due_more who (script_agendas 1 scenario.scripts) (device_agendas calls) in
    more ∙ (ap (λ n. n + due who (compositor 0 ∷ [])) parts ∙ by who (device_due who calls))
  where
    by : (who : Actor) → due who (device_agendas calls) ≡ (if is_actor who Device then length calls else 0)
        → due who (script_agendas 1 scenario.scripts) + due who (device_agendas calls) + due who (compositor 0 ∷ []) ≡ all_of scenario calls who
    by (App zero) device = let none = none_below 0 1 scenario.scripts (omega arith) in omega (arith, none, device)
    by (App (suc k)) device = let own = script_due (suc k) 1 k scenario.scripts (omega arith) in omega (arith, own, device)
    by Device device = let none = no_script Device 1 scenario.scripts (λ k. refl) in omega (arith, none, device)
    by Compositor device = let none = no_script Compositor 1 scenario.scripts (λ k. refl) in omega (arith, none, device)

-- ---- the unfinished

pub each_counts : (k : ℕ) (ts : List Exchange) → did (App k) ts ≡ length ts
each_counts k [] = refl
each_counts k (t ∷ ts) = let more = each_counts k ts in omega (arith, more)

pub device_counts : (ts : List Exchange) → did Device ts ≡ length ts
device_counts [] = refl
device_counts (t ∷ ts) = let more = device_counts ts in omega (arith, more)

end_counts : (ts : List Exchange) → is_some (end_of ts) ≡ nat_lt 0 (did Compositor ts)
end_counts [] = refl
end_counts (t ∷ ts) = by (is_ended t.outcome.reply.gives) (end_counts ts)
  where
    some : (n : ℕ) → true ≡ nat_lt 0 (1 + n)
    some n = grind arith

    by : (b : Bool) → is_some (end_of ts) ≡ nat_lt 0 (did Compositor ts) → is_some (if b then Some t.outcome.reply else end_of ts)
        ≡ nat_lt 0 (bit b + did Compositor ts)
    by true more = some (did Compositor ts)
    by false more = more ∙ ap (nat_lt 0) (omega arith)

still : (u d t : ℕ) → u + d ≡ t → nat_lt 0 d ≡ nat_lt u t
still u d t e = grind (arith, e)

still_one : (u d : ℕ) → u + d ≡ 1 → nat_lt 0 d ≡ not (nat_lt 0 u)
still_one zero d e = grind (arith, e)
still_one (suc u) d e = grind (arith, e)

pub left_are_unfinished : (settings : Settings) (scenario : Scenario) (calls : List DeviceEvent) (es : List Entry)
    → AreCalls (opening settings) (first_agendas scenario calls) es
    → (who : Actor) → has_turns (agendas_left (opening settings) (first_agendas scenario calls) es) who ≡ is_unfinished settings scenario calls es who
left_are_unfinished settings scenario calls es goes who =
    turns_due who (agendas_left (opening settings) (first_agendas scenario calls) es)
    ∙ by who (all_done who (opening settings) (first_agendas scenario calls) es goes ∙ first_due scenario calls who)
  where
    by : (who : Actor) → did who (calls_from (opening settings) who es) + due who
        (agendas_left (opening settings) (first_agendas scenario calls) es) ≡ all_of scenario calls who
        → nat_lt 0 (due who (agendas_left (opening settings) (first_agendas scenario calls) es)) ≡ is_unfinished settings scenario calls es who
    by (App k) sum =
        still (did (App k) (calls_from (opening settings) (App k) es)) _ (all_of scenario calls (App k)) sum
        ∙ ap (λ n. nat_lt n (all_of scenario calls (App k))) (each_counts k (calls_from (opening settings) (App k) es))
    by Device sum =
        still (did Device (calls_from (opening settings) Device es)) _ (length calls) sum
        ∙ ap (λ n. nat_lt n (length calls)) (device_counts (calls_from (opening settings) Device es))
    by Compositor sum =
        still_one (did Compositor (calls_from (opening settings) Compositor es)) _ sum
        ∙ ap not (sym (end_counts (calls_from (opening settings) Compositor es)))

pub unfinished_have_turns : UnfinishedHaveTurns
unfinished_have_turns settings scenario calls es fs robin =
    left_are_unfinished settings scenario calls es (front_calls (opening settings) (first_agendas scenario calls) es fs robin)

-- ---- each has its turn

-- who has turns to come is there
pub counted : (who : Actor) (agendas : List Agenda) → has_turns agendas who ≡ true → 1 ≤ count_of who (map actor_of agendas)
counted who [] has = absurd (true≢false (sym has))
counted who (x ∷ xs) has = by (is_actor who (actor_of x)) has (counted who xs)
  where
    by : (b : Bool) → b || has_turns xs who ≡ true → (has_turns xs who ≡ true → 1 ≤ count_of who (map actor_of xs))
        → 1 ≤ bit b + count_of who (map actor_of xs)
    by true has more = omega arith
    by false has more = let some = more has in omega (arith, some)

apart : (a b : Actor) (c : Bool) → is_actor a b ≡ c → (a ≡ b → ⊥) → c ≡ false
apart a b true is differ = absurd (differ (same_actor a b is))
apart a b false is differ = refl

pub each_has_its_turn : EachHasItsTurn
each_has_its_turn settings scenario calls es fs robin turns later are a b ahead first second =
    let start = first_agendas scenario calls in
    let queue = map actor_of start in
    let left = agendas_left (opening settings) start es in
    let goes = subst (λ l. Turned queue l (map actor_of left)) are
    (all_turned (opening settings) start es (front_calls (opening settings) start es fs robin)) in
    let mid = front queue turns later (map actor_of left) goes in
    let order = first_ordered calls scenario in
    let a_left = counted a left (unfinished_have_turns settings scenario calls es fs robin a ∙ first) in
    let b_left = counted b left (unfinished_have_turns settings scenario calls es fs robin b ∙ second) in
    let a_falls = falls a mid.0 later (map actor_of left) mid.2 in
    let b_falls = falls b mid.0 later (map actor_of left) mid.2 in
    let a_mid : 1 ≤ count_of a mid.0 = omega (arith, a_left, a_falls) in
    let b_mid : 1 ≤ count_of b mid.0 = omega (arith, b_left, b_falls) in
    let a_fell = falls a queue turns mid.0 mid.1 in
    let b_fell = falls b queue turns mid.0 mid.1 in
    let a_most = once_in_order a queue order in
    let b_most = once_in_order b queue order in
    let a_once : count_of a queue ≡ 1 = omega (arith, a_mid, a_fell, a_most) in
    let b_once : count_of b queue ≡ 1 = omega (arith, b_mid, b_fell, b_most) in
    let a_there : 1 ≤ count_of a queue = omega (arith, a_once) in
    let differ = apart a b (is_actor a b) refl (λ e. not_before_itself a (subst (λ x. comes_before a x ≡ true) (sym e) ahead)) in
    let both = alike a b differ queue turns mid.0 mid.1 a_once b_once a_mid b_mid (leads_in_order a b queue order ahead a_there) in
    record { least = both.0; most = both.1 }
