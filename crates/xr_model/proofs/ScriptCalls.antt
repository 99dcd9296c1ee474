-- The calls of an application follow its script, and those of the device are its events.
use Rattle.std.proofs.Common.{arith, ◌≡◌, ◌≤◌, ◌<◌, ◌+◌, ◌==◌, ℕ, ℤ, pos, zero, suc, Bool, true, false, List, [], ◌∷◌, ◌++◌, map, length, Some, refl, sym, ap, subst, ◌∙◌}
use Rattle.std.specs.Prelude.{slice_get, if◌then◌else◌}
use Rattle.std.proofs.lemmas.List.{append-nil, map-append}
use Rattle.xr_types.specs.declared.calls.Actor.{Actor}
use Rattle.xr_types.specs.declared.calls.Actor.TheVariants.{App, Compositor, Device}
use Rattle.xr_types.specs.declared.device.DeviceEvent.{DeviceEvent}
use Rattle.xr_types.specs.declared.scenario.Op.{Op}
use Rattle.xr_types.specs.declared.scenario.Op.TheVariants as op
use Rattle.xr_types.specs.declared.scenario.Scenario.{Scenario}
use Rattle.xr_model.specs.machine.Calls.{Entry, Outcome, Exchange, is_actor}
use Rattle.xr_model.specs.machine.State.{State, opening}
use Rattle.xr_model.specs.machine.Machine.{step}
use Rattle.xr_model.specs.machine.History.{calls_from}
use Rattle.xr_model.specs.runs.NameValues.{no_values}
use Rattle.xr_model.specs.runs.Scripts.{request_for, unstarted, FollowsFrom}
use Rattle.xr_model.specs.runs.Robin.{Agenda, script, events, compositor, actor_of, next_call, is_ended, agenda_after, NextMove, next_move, IsCallOf, agendas_after, agendas_behind, script_agendas, device_agendas, first_agendas, agendas_of}
use Rattle.xr_types.specs.CallKinds.{with_start}
use Rattle.xr_model.specs.runs.Lists.{events_in}
use Rattle.xr_model.specs.laws.RunLaws.{script_of, count_of, CallsFollowScripts}
use Rattle.xr_model.proofs.Turns.{bit, count_more, falls, same_actor, actor_itself}
use Rattle.xr_model.proofs.RobinTurns.{AreCalls, moved, front_calls, one_call, once_in_order, first_ordered}
use Rattle.xr_model.proofs.Unfinished.{todo, due, none_below, same_number, no_script}
use Rattle.xr_model.proofs.StuckRuns.{none_of}

-- ---- those of one actor

of_more : (who : Actor) (xs ys : List Agenda) → agendas_of who (xs ++ ys) ≡ agendas_of who xs ++ agendas_of who ys
of_more who [] ys = refl
of_more who (x ∷ xs) ys = by (is_actor who (actor_of x)) (of_more who xs ys)
  where
    by : (b : Bool) → agendas_of who (xs ++ ys) ≡ agendas_of who xs ++ agendas_of who ys
        → (if b then x ∷ agendas_of who (xs ++ ys) else agendas_of who (xs ++ ys))
        ≡ (if b then x ∷ agendas_of who xs else agendas_of who xs) ++ agendas_of who ys
    by true more = ap (λ (l : List Agenda). x ∷ l) more
    by false more = more

undue : (who : Actor) (xs : List Agenda) → due who xs ≡ 0 → agendas_of who xs ≡ []
undue who [] none = refl
undue who (x ∷ xs) none = by (is_actor who (actor_of x)) x none (undue who xs)
  where
    by : (b : Bool) (x : Agenda) → (if b then todo x else 0) + due who xs ≡ 0 → (due who xs ≡ 0 → agendas_of who xs ≡ [])
        → (if b then x ∷ agendas_of who xs else agendas_of who xs) ≡ []
    by true (script app place ops values clock) none more = absurd (omega arith)
    by true (events e es) none more = absurd (omega arith)
    by true (compositor held) none more = absurd (omega arith)
    by false x none more = more (omega arith)

-- ---- following

-- these calls are what an actor has still to do, as far as they go
abbrev Does : Agenda → List Exchange → Type 0
Does (script app place ops values clock) ts = FollowsFrom false place values ops ts
Does (events e es) ts = (rest : List DeviceEvent) × (e ∷ es ≡ events_in ts ++ rest)
Does (compositor held) ts = Unit {0}

abbrev DoAll : List Agenda → List Exchange → Type 0
DoAll [] ts = ts ≡ []
DoAll (x ∷ []) ts = Does x ts
DoAll (x ∷ y ∷ xs) ts = Unit {0}

none_made : (agendas : List Agenda) → DoAll agendas []
none_made [] = refl
none_made (script app place ops values clock ∷ []) = refl
none_made (events e es ∷ []) = (e ∷ es, refl)
none_made (compositor held ∷ []) = tt
none_made (x ∷ y ∷ xs) = tt

not_started : (o : Op) (values : List ℕ) (clock : ℤ) → unstarted (with_start clock (request_for values o)) ≡ request_for values o
not_started (op.CreateInstance major minor) values clock = refl
not_started _ values clock = refl

-- a call, and then what is left to do
one_more : (x : Agenda) (s : State) (t : Exchange) (ts : List Exchange) → t.call ≡ next_call x → DoAll (agenda_after x s t.outcome) ts
    → Does x (t ∷ ts)
one_more (script app place [] values clock) s t ts is more = subst (λ l. FollowsFrom false place values [] (t ∷ l)) (sym more) is
one_more (script app place (o ∷ os) values clock) s t ts is more = (ap unstarted is ∙ not_started o values clock, more)
one_more (events e []) s t ts is more = ([], subst (λ l. e ∷ [] ≡ events_in (t ∷ l) ++ []) (sym more) (rw is refl))
one_more (events e (f ∷ fs)) s t ts is more = (more.0, rw is (ap (λ (l : List DeviceEvent). e ∷ l) more.1))
one_more (compositor held) s t ts is more = tt

-- what another did changes nothing
other_after : (who : Actor) (x : Agenda) (s : State) (o : Outcome) → is_actor who (actor_of x) ≡ false → agendas_of who (agenda_after x s o) ≡ []
other_after who (script app place [] values clock) s o other = refl
other_after who (script app place (p ∷ ps) values clock) s o other = rw other refl
other_after who (events e []) s o other = refl
other_after who (events e (f ∷ fs)) s o other = rw other refl
other_after who (compositor held) s o other = by (is_ended o.reply.gives)
  where
    by : (b : Bool) → agendas_of who (if b then [] else compositor (length s.cells.held) ∷ []) ≡ []
    by true = refl
    by false = rw other refl

own_after : (x : Agenda) (s : State) (o : Outcome) → agendas_of (actor_of x) (agenda_after x s o) ≡ agenda_after x s o
own_after (script app place [] values clock) s o = refl
own_after (script app place (p ∷ ps) values clock) s o = rw (actor_itself (App app)) refl
own_after (events e []) s o = refl
own_after (events e (f ∷ fs)) s o = refl
own_after (compositor held) s o = by (is_ended o.reply.gives)
  where
    by : (b : Bool) → agendas_of Compositor (if b then [] else compositor (length s.cells.held) ∷ []) ≡ (if b then [] else compositor (length s.cells.held) ∷ [])
    by true = refl
    by false = refl

-- where an actor stands once, those passed over may as well stand behind
either_way : (who : Actor) (xs ys : List Agenda) → count_of who (map actor_of xs) + count_of who (map actor_of ys) ≤ 1
    → agendas_of who xs ++ agendas_of who ys ≡ agendas_of who ys ++ agendas_of who xs
either_way who xs ys once = by (count_of who (map actor_of xs)) refl once
  where
    by : (n : ℕ) → count_of who (map actor_of xs) ≡ n → n + count_of who (map actor_of ys) ≤ 1 → agendas_of who xs ++ agendas_of who ys
        ≡ agendas_of who ys ++ agendas_of who xs
    by zero none once = rw (none_of who xs none).0 (sym (append-nil (agendas_of who ys)))
    by (suc n) some once = rw (none_of who ys (omega arith)).0 (append-nil (agendas_of who xs))

module _ (who : Actor) (s t : State) (o : Outcome) (m : NextMove) (once : count_of who (map actor_of (m.passed ++ m.agenda ∷ m.behind)) ≤ 1) where
  counts : count_of who (map actor_of m.passed) + (bit (is_actor who (actor_of m.agenda)) + count_of who (map actor_of m.behind)) ≤ 1
  counts =
      let e = ap (count_of who) (map-append actor_of m.passed (m.agenda ∷ m.behind))
      ∙ count_more who (map actor_of m.passed) (map actor_of (m.agenda ∷ m.behind)) in
      omega (arith, e)

  after_parts : agendas_of who (agendas_after m t o)
      ≡ agendas_of who m.behind ++ agendas_of who m.passed ++ agendas_of who (agenda_after m.agenda t o)
  after_parts =
      of_more who (m.behind ++ m.passed) (agenda_after m.agenda t o)
      ∙ ap (λ l. l ++ agendas_of who (agenda_after m.agenda t o)) (of_more who m.behind m.passed)

  by_other : is_actor who (actor_of m.agenda) ≡ false → agendas_of who (m.passed ++ m.agenda ∷ m.behind) ≡ agendas_of who (agendas_after m t o)
  by_other other =
      let few = counts in
      let e = ap bit other in
      of_more who m.passed (m.agenda ∷ m.behind) ∙ (rw (other, after_parts, other_after who m.agenda t o other)
      (either_way who m.passed m.behind (omega (arith, few, e)) ∙ sym (append-nil (agendas_of who m.behind ++ agendas_of who m.passed))))

  no_others : is_actor who (actor_of m.agenda) ≡ true → (agendas_of who m.passed ≡ []) × (agendas_of who m.behind ≡ [])
  no_others own =
      let few = counts in
      let e = ap bit own in
      ((none_of who m.passed (omega (arith, few, e))).0, (none_of who m.behind (omega (arith, few, e))).0)

  by_it : is_actor who (actor_of m.agenda) ≡ true → agendas_of who (m.passed ++ m.agenda ∷ m.behind) ≡ m.agenda ∷ []
  by_it own = let none = no_others own in of_more who m.passed (m.agenda ∷ m.behind) ∙ rw (none.0, own, none.1) refl

  after_it : is_actor who (actor_of m.agenda) ≡ true → agendas_of who (agendas_after m t o) ≡ agenda_after m.agenda t o
  after_it own =
      let none = no_others own in
      after_parts ∙ (rw (none.0, none.1)
      (subst (λ a. agendas_of a (agenda_after m.agenda t o) ≡ agenda_after m.agenda t o) (sym (same_actor who (actor_of m.agenda) own))
      (own_after m.agenda t o)))

called : (s : State) (agendas : List Agenda) (e : Entry) (m : NextMove) → next_move s [] agendas ≡ Some m → IsCallOf (next_move s [] agendas) e
    → e.call ≡ next_call m.agenda
called s agendas e m is calls = (subst (λ n. IsCallOf n e) is calls).1

-- one call, told of those after it
one_follows : (who : Actor) (t : State) (e : Entry) (o : Outcome) (m : NextMove) (rest : List Exchange)
    → count_of who (map actor_of (m.passed ++ m.agenda ∷ m.behind)) ≤ 1
    → e.call ≡ next_call m.agenda → DoAll (agendas_of who (agendas_after m t o)) rest
    → DoAll (agendas_of who (m.passed ++ m.agenda ∷ m.behind))
    (if is_actor who (actor_of m.agenda) then record { call = e.call; outcome = o } ∷ rest else rest)
one_follows who t e o m rest once is more = by (is_actor who (actor_of m.agenda)) refl
  where
    by : (b : Bool) → is_actor who (actor_of m.agenda) ≡ b
        → DoAll (agendas_of who (m.passed ++ m.agenda ∷ m.behind)) (if b then record { call = e.call; outcome = o } ∷ rest else rest)
    by true own =
        subst (λ l. DoAll l (record { call = e.call; outcome = o } ∷ rest)) (sym (by_it who t t o m once own))
        (one_more m.agenda t (record { call = e.call; outcome = o }) rest is (subst (λ l. DoAll l rest) (after_it who t t o m once own) more))
    by false other = subst (λ l. DoAll l rest) (sym (by_other who t t o m once other)) more

follow : (who : Actor) (s : State) (agendas : List Agenda) (es : List Entry) → AreCalls s agendas es → count_of who (map actor_of agendas) ≤ 1
    → DoAll (agendas_of who agendas) (calls_from s who es)
follow who s agendas [] goes once = none_made (agendas_of who agendas)
follow who s agendas (e ∷ es) goes once =
    let m = moved s agendas e goes.0 in
    let t = (step s e).0 in
    let o = (step s e).1 in
    let next = agendas_behind (next_move s [] agendas) t o in
    let fell = falls who (map actor_of agendas) _ (map actor_of next) (one_call s t agendas e o goes.0) in
    let more = follow who t next es goes.1 (omega (arith, fell, once)) in
    let rest = calls_from t who es in
    subst (λ l. DoAll (agendas_of who l) (calls_from s who (e ∷ es))) (sym m.stand)
    (subst (λ a. DoAll (agendas_of who (m.move.passed ++ m.move.agenda ∷ m.move.behind))
    (if is_actor who a then record { call = e.call; outcome = o } ∷ rest else rest)) (sym m.actor)
    (one_follows who t e o m.move rest (subst (λ l. count_of who (map actor_of l) ≤ 1) m.stand once) (called s agendas e m.move m.is goes.0)
    (subst (λ n. DoAll (agendas_of who (agendas_behind n t o)) rest) m.is more)))

-- ---- at the start

below_none : (k app : ℕ) (scripts : List (List Op)) → k < app → agendas_of (App k) (script_agendas app scripts) ≡ []
below_none k app scripts less = undue (App k) (script_agendas app scripts) (none_below k app scripts less)

lower_other : (k app j : ℕ) → k ≡ app + suc j → (k == app) ≡ false
lower_other k app j is = grind (arith, is)

own_script : (k app j : ℕ) (scripts : List (List Op)) (ops : List Op) → k ≡ app + j → slice_get scripts j ≡ Some ops
    → agendas_of (App k) (script_agendas app scripts) ≡ script k 1 ops (no_values (length ops)) (pos 0) ∷ []
own_script k app j [] ops is found = cc
own_script k app zero (own ∷ scripts) ops is found =
    let same : own ≡ ops = cc in
    let named : app ≡ k = omega arith in
    let none = below_none k (app + 1) scripts (omega arith) in
    rw (same_number k app (sym named), none)
    (ap (λ n. script n 1 own (no_values (length own)) (pos 0) ∷ []) named ∙ ap
    (λ (l : List Op). script k 1 l (no_values (length l)) (pos 0) ∷ []) same)
own_script k app (suc j) (other ∷ scripts) ops is found = rw (lower_other k app j is) (own_script k (app + 1) j scripts ops (omega arith) found)

no_device : (k : ℕ) (calls : List DeviceEvent) → agendas_of (App k) (device_agendas calls) ≡ []
no_device k [] = refl
no_device k (e ∷ es) = refl

own_device : (calls : List DeviceEvent) → agendas_of Device (device_agendas calls) ≡ device_agendas calls
own_device [] = refl
own_device (e ∷ es) = refl

first_parts : (who : Actor) (scenario : Scenario) (calls : List DeviceEvent)
    → agendas_of who (first_agendas scenario calls)
    ≡ agendas_of who (script_agendas 1 scenario.scripts) ++ agendas_of who (device_agendas calls) ++ agendas_of who (compositor 0 ∷ [])
first_parts who scenario calls =
    of_more who (script_agendas 1 scenario.scripts ++ device_agendas calls) (compositor 0 ∷ [])
    ∙ ap (λ l. l ++ agendas_of who (compositor 0 ∷ [])) (of_more who (script_agendas 1 scenario.scripts) (device_agendas calls))

first_script : (scenario : Scenario) (calls : List DeviceEvent) (k : ℕ) (ops : List Op) → script_of scenario.scripts k ≡ Some ops
    → agendas_of (App k) (first_agendas scenario calls) ≡ script k 1 ops (no_values (length ops)) (pos 0) ∷ []
first_script scenario calls zero ops found = cc
first_script scenario calls (suc k) ops found =
    first_parts (App (suc k)) scenario calls ∙ (rw (own_script (suc k) 1 k scenario.scripts ops (omega arith) found, no_device (suc k) calls) refl)

first_device : (scenario : Scenario) (calls : List DeviceEvent) → agendas_of Device (first_agendas scenario calls) ≡ device_agendas calls
first_device scenario calls =
    first_parts Device scenario calls
    ∙ (rw (undue Device (script_agendas 1 scenario.scripts) (no_script Device 1 scenario.scripts (λ k. refl)), own_device calls)
    (append-nil (device_agendas calls)))

device_does : (calls : List DeviceEvent) (ts : List Exchange) → DoAll (device_agendas calls) ts → (rest : List DeviceEvent)
    × (calls ≡ events_in ts ++ rest)
device_does [] ts does = ([], subst (λ l. [] ≡ events_in l ++ []) (sym does) refl)
device_does (e ∷ es) ts does = does

pub calls_follow_scripts : CallsFollowScripts
calls_follow_scripts settings scenario calls es fs robin =
    let start = first_agendas scenario calls in
    let goes = front_calls (opening settings) start es fs robin in
    let each = λ (who : Actor). follow who (opening settings) start es goes (once_in_order who (map actor_of start) (first_ordered calls scenario)) in
    record {
      scripts = λ k ops is. subst (λ l. DoAll l (calls_from (opening settings) (App k) es)) (first_script scenario calls k ops is) (each (App k));
      device =
          device_does calls (calls_from (opening settings) Device es)
          (subst (λ l. DoAll l (calls_from (opening settings) Device es)) (first_device scenario calls) (each Device));
    }
