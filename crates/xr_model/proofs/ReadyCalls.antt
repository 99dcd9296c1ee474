-- The calls of a run are ready, and its waits for images begin at the clocks of their applications.
use Rattle.std.proofs.Common.{arith, ◌≡◌, ◌≤◌, ◌+◌, ◌-◌, ℕ, ℤ, pos, zero, suc, Bool, true, false, List, [], ◌∷◌, ◌++◌, map, length, refl, sym, ap, subst, ◌∙◌, true≢false}
use Rattle.std.specs.Prelude.{replicate, slice_get, slice_set, unwrap_or, if◌then◌else◌}
use Rattle.std.proofs.lemmas.List.{map-append, length-set, length-replicate}
use Rattle.xr_types.specs.declared.calls.Actor.{Actor}
use Rattle.xr_types.specs.declared.calls.Actor.TheVariants.{App, Compositor, Device}
use Rattle.xr_types.specs.declared.device.DeviceEvent.{DeviceEvent}
use Rattle.xr_types.specs.declared.scenario.Op.{Op}
use Rattle.xr_types.specs.CallKinds.{is_locked, with_start}
use Rattle.xr_model.specs.machine.Calls.{Entry, Outcome, is_actor}
use Rattle.xr_types.specs.declared.calls.Call.{Call}
use Rattle.xr_types.specs.declared.calls.Call.TheVariants as ask
use Rattle.xr_model.specs.machine.State.{State, opening}
use Rattle.xr_model.specs.machine.Machine.{step, ready}
use Rattle.xr_model.specs.machine.History.{opening_clocks, clock_of, with_clock, clocks_after, StartsAt}
use Rattle.xr_model.specs.runs.Scripts.{request_for}
use Rattle.xr_model.specs.runs.Robin.{Agenda, script, events, compositor, actor_of, next_call, is_ended, agenda_after, NextMove, next_move, IsCallOf, agendas_after, agendas_behind, script_agendas, device_agendas, first_agendas}
use Rattle.xr_model.specs.laws.RunLaws.{count_of, AreReadyFrom, CallsAreReady}
use Rattle.xr_model.proofs.MarkValues.{set_there, set_other, places_differ}
use Rattle.xr_model.proofs.Turns.{bit, count_more, falls, actor_itself}
use Rattle.xr_model.proofs.RobinTurns.{AreCalls, moved, all_calls, one_call, once_in_order, first_ordered, turns_make_ready_calls}

-- ---- of each actor in a list

abbrev Each : (Agenda → Type 0) → List Agenda → Type 0
Each P [] = Unit {0}
Each P (x ∷ xs) = P x × Each P xs

each_parts : (P : Agenda → Type 0) (xs ys : List Agenda) → Each P (xs ++ ys) → Each P xs × Each P ys
each_parts P [] ys each = (tt, each)
each_parts P (x ∷ xs) ys each = let more = each_parts P xs ys each.1 in ((each.0, more.0), more.1)

each_joined : (P : Agenda → Type 0) (xs ys : List Agenda) → Each P xs → Each P ys → Each P (xs ++ ys)
each_joined P [] ys first second = second
each_joined P (x ∷ xs) ys first second = (first.0, each_joined P xs ys first.1 second)

-- ---- the clocks

-- an application knows the clock after its last locked call
abbrev Knows : List ℤ → Agenda → Type 0
Knows clocks (script app place ops values clock) = (1 ≤ app) × (app ≤ length clocks) × (clock_of clocks (App app) ≡ clock)
Knows clocks (events e es) = Unit {0}
Knows clocks (compositor held) = Unit {0}

-- the numbers of applications begin at 1
abbrev IsNumbered : Actor → Type 0
IsNumbered (App k) = 1 ≤ k
IsNumbered Compositor = Unit {0}
IsNumbered Device = Unit {0}

numbered : (clocks : List ℤ) (x : Agenda) → Knows clocks x → IsNumbered (actor_of x)
numbered clocks (script app place ops values clock) knows = knows.0
numbered clocks (events e es) knows = tt
numbered clocks (compositor held) knows = tt

-- another's call leaves the clock
another : (clocks : List ℤ) (who : Actor) (time : ℤ) (b : Bool) (y : Agenda) → IsNumbered who → is_actor who (actor_of y) ≡ false → Knows clocks y
    → Knows (if b then with_clock clocks who time else clocks) y
another clocks who time false y is other knows = knows
another clocks (App k) time true (script app place ops values clock) is other knows =
    let same = length-set clocks (k - 1) time in
    let least = knows.1 in (
      knows.0,
      omega (arith, same, least),
      ap (λ o. unwrap_or o (pos 0)) (set_other clocks (k - 1) (app - 1) time (places_differ k app is knows.0 other))
          ∙ knows.2,
    )
another clocks Compositor time true y is other knows = knows
another clocks Device time true y is other knows = knows
another clocks (App k) time true (events e es) is other knows = tt
another clocks (App k) time true (compositor held) is other knows = tt

others : (clocks : List ℤ) (who : Actor) (time : ℤ) (b : Bool) (xs : List Agenda) → IsNumbered who → count_of who (map actor_of xs) ≡ 0
    → Each (Knows clocks) xs → Each (Knows (if b then with_clock clocks who time else clocks)) xs
others clocks who time b [] is none each = tt
others clocks who time b (x ∷ xs) is none each = by (is_actor who (actor_of x)) refl none (λ rest. others clocks who time b xs is rest each.1)
  where
    by : (c : Bool) → is_actor who (actor_of x) ≡ c → bit c + count_of who (map actor_of xs) ≡ 0
        → (count_of who (map actor_of xs) ≡ 0 → Each (Knows (if b then with_clock clocks who time else clocks)) xs)
        → Each (Knows (if b then with_clock clocks who time else clocks)) (x ∷ xs)
    by true own none more = absurd (omega arith)
    by false other none more = (another clocks who time b x is other each.0, more (omega arith))

as_locked : (r : Call) (clock : ℤ) → is_locked (with_start clock r) ≡ is_locked r
as_locked (ask.CreateInstance major minor) clock = refl
as_locked _ clock = refl

-- the compositor has no clock
turns_on : (clocks : List ℤ) (t : State) (b : Bool) → Each (Knows clocks) (if b then [] else compositor (length t.cells.held) ∷ [])
turns_on clocks t true = tt
turns_on clocks t false = (tt, tt)

-- its own call tells it the clock
own : (clocks : List ℤ) (x : Agenda) (t : State) (o : Outcome) → Knows clocks x
    → Each (Knows (if is_locked (next_call x) then with_clock clocks (actor_of x) t.core.device.clock else clocks)) (agenda_after x t o)
own clocks (script app place [] values clock) t o knows = tt
own clocks (script app place (p ∷ ps) values clock) t o knows =
    (by (is_locked (with_start clock (request_for values p))) (is_locked (request_for values p)) (as_locked (request_for values p) clock), tt)
  where
    by : (b c : Bool) → b ≡ c → (1 ≤ app) × (app ≤ length (if b then slice_set clocks (app - 1) t.core.device.clock else clocks))
        × (unwrap_or (slice_get (if b then slice_set clocks (app - 1) t.core.device.clock else clocks) (app - 1)) (pos 0) ≡
        (if c then t.core.device.clock else clock))
    by true true e =
        let same = length-set clocks (app - 1) t.core.device.clock in
        let least = knows.0 in
        let most = knows.1 in (
          knows.0,
          omega (arith, same, most),
          ap (λ o. unwrap_or o (pos 0))
              (set_there clocks (app - 1) t.core.device.clock (omega (arith, least, most))),
        )
    by false false e = knows
    by true false e = absurd (true≢false e)
    by false true e = absurd (true≢false (sym e))
own clocks (events e []) t o knows = tt
own clocks (events e (f ∷ fs)) t o knows = (tt, tt)
own clocks (compositor zero) t o knows = turns_on clocks t (is_ended o.reply.gives)
own clocks (compositor (suc held)) t o knows = turns_on clocks t (is_ended o.reply.gives)

-- ---- one call

starts : (c clock : ℤ) (r : Call) → c ≡ clock → StartsAt c (with_start clock r)
starts c clock (ask.WaitImage chain timeout start) e = sym e
starts c clock _ e = tt

starts_at : (clocks : List ℤ) (x : Agenda) → Knows clocks x → StartsAt (clock_of clocks (actor_of x)) (next_call x)
starts_at clocks (script app place [] values clock) knows = tt
starts_at clocks (script app place (o ∷ os) values clock) knows = starts (clock_of clocks (App app)) clock (request_for values o) knows.2
starts_at clocks (events e es) knows = tt
starts_at clocks (compositor zero) knows = tt
starts_at clocks (compositor (suc held)) knows = tt

-- neither a handle nor want of memory decides whether a call is ready
ready_alike : (s : State) (r : Call) (who : Actor) (given : ℕ) (short : Bool)
    → ready s (record { actor = who; call = r; given = given; short = short })
    ≡ ready s (record { actor = who; call = r; given = 0; short = false })
ready_alike s (ask.CreateInstance major minor) who given short = refl
ready_alike s _ who given short = refl

knows_after : (clocks : List ℤ) (m : NextMove) (t : State) (o : Outcome)
    → count_of (actor_of m.agenda) (map actor_of (m.passed ++ m.agenda ∷ m.behind)) ≤ 1 → Each (Knows clocks) (m.passed ++ m.agenda ∷ m.behind)
    → Each (Knows (if is_locked (next_call m.agenda) then with_clock clocks (actor_of m.agenda) t.core.device.clock else clocks))
    (agendas_after m t o)
knows_after clocks m t o once each =
    let who = actor_of m.agenda in
    let time = t.core.device.clock in
    let b = is_locked (next_call m.agenda) in
    let parts = each_parts (Knows clocks) m.passed (m.agenda ∷ m.behind) each in
    let e = ap (count_of who) (map-append actor_of m.passed (m.agenda ∷ m.behind))
    ∙ count_more who (map actor_of m.passed) (map actor_of (m.agenda ∷ m.behind)) in
    let f = ap bit (actor_itself who) in
    let is = numbered clocks m.agenda parts.1.0 in
    let P = Knows (if b then with_clock clocks who time else clocks) in
    let passed = others clocks who time b m.passed is (omega (arith, e, f, once)) parts.0 in
    let behind = others clocks who time b m.behind is (omega (arith, e, f, once)) parts.1.1 in
    each_joined P (m.behind ++ m.passed) (agenda_after m.agenda t o) (each_joined P m.behind m.passed behind passed)
    (own clocks m.agenda t o parts.1.0)

-- ---- all calls

are_ready : (s : State) (clocks : List ℤ) (agendas : List Agenda) (es : List Entry) → AreCalls s agendas es
    → ((who : Actor) → count_of who (map actor_of agendas) ≤ 1) → Each (Knows clocks) agendas → AreReadyFrom s clocks es
are_ready s clocks agendas [] goes once each = tt
are_ready s clocks agendas (e ∷ es) goes once each =
    let m = moved s agendas e goes.0 in
    let x = m.move.agenda in
    let t = (step s e).0 in
    let o = (step s e).1 in
    let next = agendas_behind (next_move s [] agendas) t o in
    let call : e.call ≡ next_call x = (subst (λ n. IsCallOf n e) m.is goes.0).1 in
    let all = subst (Each (Knows clocks)) m.stand each in
    let knows = (each_parts (Knows clocks) m.move.passed (x ∷ m.move.behind) all).1.0 in
    let after = knows_after clocks m.move t o (subst (λ l. count_of (actor_of x) (map actor_of l) ≤ 1) m.stand (once (actor_of x))) all in
    let told = subst (λ a. Each (Knows (if is_locked e.call then with_clock clocks a t.core.device.clock else clocks))
    (agendas_after m.move t o)) (sym m.actor)
    (subst (λ r. Each (Knows (if is_locked r then with_clock clocks (actor_of x) t.core.device.clock else clocks)) (agendas_after m.move t o))
    (sym call) after) in
    let later = subst (λ n. Each (Knows (clocks_after clocks e t)) (agendas_behind n t o)) (sym m.is) told in
    let still = λ (who : Actor). at_most (falls who (map actor_of agendas) _ (map actor_of next) (one_call s t agendas e o goes.0)) (once who) in (
      subst (λ a. StartsAt (clock_of clocks a) e.call) (sym m.actor)
          (subst (λ r. StartsAt (clock_of clocks (actor_of x)) r) (sym call) (starts_at clocks x knows)),
      ready_alike s e.call e.actor e.given e.short
          ∙ (subst (λ a. ready s (record { actor = a; call = e.call; given = 0; short = false }) ≡ true) (sym m.actor)
          (subst (λ r. ready s (record { actor = actor_of x; call = r; given = 0; short = false }) ≡ true) (sym call)
          (turns_make_ready_calls s agendas m.move m.is).called)),
      are_ready t (clocks_after clocks e t) next es goes.1 still later,
    )
  where
    at_most : {a b : ℕ} → a ≤ b → b ≤ 1 → a ≤ 1
    at_most e f = omega arith

-- ---- at the start

nowhere_else : (n k : ℕ) → unwrap_or (slice_get (replicate n (pos 0)) k) (pos 0) ≡ pos 0
nowhere_else zero k = refl
nowhere_else (suc n) zero = refl
nowhere_else (suc n) (suc k) = nowhere_else n k

scripts_know : (n app : ℕ) (scripts : List (List Op)) → 1 ≤ app → app + length scripts ≤ n + 1
    → Each (Knows (replicate n (pos 0))) (script_agendas app scripts)
scripts_know n app [] least most = tt
scripts_know n app (ops ∷ scripts) least most =
    let e = length-replicate {A = ℤ} n (pos 0) in
    ((least, omega (arith, e, most), nowhere_else n (app - 1)), scripts_know n (app + 1) scripts (omega arith) (omega (arith, most)))

device_knows : (clocks : List ℤ) (calls : List DeviceEvent) → Each (Knows clocks) (device_agendas calls)
device_knows clocks [] = tt
device_knows clocks (e ∷ es) = (tt, tt)

pub calls_are_ready : CallsAreReady
calls_are_ready settings scenario calls history apps robin =
    let start = first_agendas scenario calls in
    let clocks = opening_clocks settings in
    let know = Knows clocks in
    let scripts = scripts_know settings.apps 1 scenario.scripts (omega arith) (omega (arith, apps)) in
    are_ready (opening settings) clocks start history (all_calls (opening settings) start history robin)
    (λ who. once_in_order who (map actor_of start) (first_ordered calls scenario))
    (each_joined know (script_agendas 1 scenario.scripts ++ device_agendas calls) (compositor 0 ∷ [])
    (each_joined know (script_agendas 1 scenario.scripts) (device_agendas calls) scripts (device_knows clocks calls)) (tt, tt))
