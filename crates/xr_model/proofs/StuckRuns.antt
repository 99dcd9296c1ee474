-- What a stuck run tells: the next calls of its unfinished actors.
use Rattle.std.proofs.Common.{arith, ◌≡◌, ◌≤◌, ◌+◌, ◌||◌, ℕ, ℤ, zero, suc, Bool, true, false, List, [], ◌∷◌, ◌++◌, map, length, Some, refl, sym, ap, subst, ◌∙◌}
use Rattle.std.specs.Prelude.{slice_get, if◌then◌else◌}
use Rattle.std.specs.List.{filter}
use Rattle.std.proofs.lemmas.List.{append_assoc, map-append, length-append}
use Rattle.std.proofs.lemmas.List.Elements.{filter-append}
use Rattle.xr_types.specs.Op.{call_name}
use Rattle.xr_types.specs.declared.calls.Actor.{Actor}
use Rattle.xr_types.specs.declared.calls.Actor.TheVariants.{App, Compositor, Device}
use Rattle.xr_types.specs.declared.device.DeviceEvent.{DeviceEvent}
use Rattle.xr_types.specs.declared.device.DeviceEvent.TheVariants as event
use Rattle.xr_types.specs.declared.made.Waiting.{Waiting}
use Rattle.xr_types.specs.declared.names.CallName.{CallName}
use Rattle.xr_types.specs.declared.names.CallName.TheVariants as call
use Rattle.xr_types.specs.declared.scenario.Op.{Op}
use Rattle.xr_types.specs.declared.scenario.Op.TheVariants as op
use Rattle.xr_types.specs.declared.scenario.Scenario.{Scenario}
use Rattle.xr_model.specs.machine.Calls.{Entry, Outcome, is_actor}
use Rattle.xr_model.specs.machine.State.{Settings, State, opening}
use Rattle.xr_model.specs.machine.Machine.{step}
use Rattle.xr_model.specs.machine.History.{calls_of}
use Rattle.xr_model.specs.runs.Scripts.{request_for}
use Rattle.xr_model.specs.runs.Robin.{Agenda, script, events, compositor, actor_of, is_ended, agenda_after, next_move, agendas_behind, script_agendas, device_agendas, first_agendas, agendas_left, agendas_of, scripts_to, in_round}
use Rattle.xr_model.specs.runs.Lists.{mark_awaited, waiting_of}
use Rattle.xr_types.specs.CallKinds.{listed_name, with_start}
use Rattle.xr_model.specs.laws.RunLaws.{script_of, name_of_op, mark_behind, is_unfinished, has_turns, count_of, apps_to, next_of, StuckNamesTheUnfinished}
use Rattle.xr_model.proofs.Turns.{bit, falls, same_actor}
use Rattle.xr_model.proofs.RobinTurns.{AreCalls, moved, all_calls, all_turned, once_in_order, first_ordered}
use Rattle.xr_model.proofs.Unfinished.{due, did, todo, all_of, all_done, first_due, each_counts, device_counts, left_are_unfinished}

-- ---- what an actor has still to do is the end of what it had to do at first

abbrev IsRest : List (List Op) → List DeviceEvent → Agenda → Type 0
IsRest scripts calls (script app place ops values clock) =
    (begun : List Op) × (script_of scripts app ≡ Some (begun ++ ops)) × (place ≡ length begun + 1)
IsRest scripts calls (events e es) = (begun : List DeviceEvent) × (calls ≡ begun ++ e ∷ es)
IsRest scripts calls (compositor held) = Unit {0}

abbrev AreRest : List (List Op) → List DeviceEvent → List Agenda → Type 0
AreRest scripts calls [] = Unit {0}
AreRest scripts calls (x ∷ xs) = IsRest scripts calls x × AreRest scripts calls xs

module _ (scripts : List (List Op)) (calls : List DeviceEvent) where
  rest_parts : (xs ys : List Agenda) → AreRest scripts calls (xs ++ ys) → AreRest scripts calls xs × AreRest scripts calls ys
  rest_parts [] ys rest = (tt, rest)
  rest_parts (x ∷ xs) ys rest = let more = rest_parts xs ys rest.1 in ((rest.0, more.0), more.1)

  rest_joined : (xs ys : List Agenda) → AreRest scripts calls xs → AreRest scripts calls ys → AreRest scripts calls (xs ++ ys)
  rest_joined [] ys first second = second
  rest_joined (x ∷ xs) ys first second = (first.0, rest_joined xs ys first.1 second)

  rest_after : (x : Agenda) (s : State) (o : Outcome) → IsRest scripts calls x → AreRest scripts calls (agenda_after x s o)
  rest_after (script app place [] values clock) s o rest = tt
  rest_after (script app place (p ∷ ps) values clock) s o rest =
      let e = length-append rest.0 (p ∷ []) in
      let f = rest.2 in
      ((rest.0 ++ p ∷ [], rest.1 ∙ ap Some (sym (append_assoc rest.0 (p ∷ []) ps)), omega (arith, e, f)), tt)
  rest_after (events e []) s o rest = tt
  rest_after (events e (f ∷ fs)) s o rest = ((rest.0 ++ e ∷ [], rest.1 ∙ sym (append_assoc rest.0 (e ∷ []) (f ∷ fs))), tt)
  rest_after (compositor held) s o rest = by (is_ended o.reply.gives)
    where
      by : (b : Bool) → AreRest scripts calls (if b then [] else compositor (length s.cells.held) ∷ [])
      by true = tt
      by false = (tt, tt)

  rest_left : (s : State) (agendas : List Agenda) (es : List Entry) → AreCalls s agendas es → AreRest scripts calls agendas
      → AreRest scripts calls (agendas_left s agendas es)
  rest_left s agendas [] goes rest = rest
  rest_left s agendas (e ∷ es) goes rest =
      let m = moved s agendas e goes.0 in
      let parts = rest_parts m.move.passed (m.move.agenda ∷ m.move.behind) (subst (AreRest scripts calls) m.stand rest) in
      let t = (step s e).0 in
      let o = (step s e).1 in
      let next = rest_joined (m.move.behind ++ m.move.passed) (agenda_after m.move.agenda t o)
      (rest_joined m.move.behind m.move.passed parts.1.1 parts.0) (rest_after m.move.agenda t o parts.1.0) in
      rest_left t (agendas_behind (next_move s [] agendas) t o) es goes.1 (subst (λ n. AreRest scripts calls (agendas_behind n t o)) (sym m.is) next)

  rest_scripts : (app : ℕ) (some : List (List Op)) → ((j : ℕ) → script_of scripts (app + j) ≡ slice_get some j)
      → AreRest scripts calls (script_agendas app some)
  rest_scripts app [] numbered = tt
  rest_scripts app (ops ∷ some) numbered = (
    ([], ap (script_of scripts) (omega arith) ∙ numbered 0, omega arith),
    rest_scripts (app + 1) some
        (λ j. ap (script_of scripts) (omega arith) ∙ numbered (suc j)),
  )

  rest_first : (cs : List DeviceEvent) → calls ≡ cs → AreRest scripts calls (device_agendas cs ++ compositor 0 ∷ [])
  rest_first [] is = (tt, tt)
  rest_first (e ∷ es) is = (([], is), (tt, tt))

-- ---- the next call

name_is : (o : Op) (values : List ℕ) (clock : ℤ) → listed_name (with_start clock (request_for values o)) ≡ call_name o
name_is (op.CreateInstance major minor) values clock = refl
name_is _ values clock = refl

behind_front : {T : Type 0} (xs ys : List T) → slice_get (xs ++ ys) (length xs) ≡ slice_get ys 0
behind_front [] ys = refl
behind_front (x ∷ xs) ys = behind_front xs ys

abbrev next_at : Actor → ℕ → CallName → Waiting
next_at who place name = record { actor = who; op = place; name = name }

same_next : (who : Actor) (m n : ℕ) (x y : CallName) → m ≡ n → x ≡ y → next_at who m x ≡ next_at who n y
same_next who m n x y e f = ap (λ k. next_at who k x) e ∙ ap (next_at who n) f

same_mark : (e : DeviceEvent) → mark_awaited e ≡ mark_behind (Some e)
same_mark (event.Await number) = refl
same_mark _ = refl

pub none_of : (who : Actor) (xs : List Agenda) → count_of who (map actor_of xs) ≡ 0 → (agendas_of who xs ≡ []) × (due who xs ≡ 0)
none_of who [] none = (refl, refl)
none_of who (x ∷ xs) none = by (is_actor who (actor_of x)) none (none_of who xs)
  where
    by : (b : Bool) → bit b + count_of who (map actor_of xs) ≡ 0 → (count_of who (map actor_of xs) ≡ 0 → (agendas_of who xs ≡ []) × (due who xs ≡ 0))
        → ((if b then x ∷ agendas_of who xs else agendas_of who xs) ≡ []) × ((if b then todo x else 0) + due who xs ≡ 0)
    by true none more = absurd (omega arith)
    by false none more = let two = more (omega arith) in let e = two.1 in (two.0, omega (arith, e))

-- the next calls of those that are unfinished among some
abbrev next_among : Settings → Scenario → List DeviceEvent → List Entry → List Actor → List Waiting
next_among settings scenario calls history xs =
    map (next_of settings scenario calls history) (filter (is_unfinished settings scenario calls history) xs)

module _ (settings : Settings) (scenario : Scenario) (calls : List DeviceEvent) (history : List Entry) where
  next_call_is : (app : ℕ) (begun ops : List Op) (place : ℕ) (values : List ℕ) (clock : ℤ) → script_of scenario.scripts app ≡ Some (begun ++ ops)
      → place ≡ length begun + 1
      → length (calls_of settings (App app) history) ≡ length begun → waiting_of (script app place ops values clock)
      ≡ next_of settings scenario calls history (App app)
  next_call_is app begun [] place values clock is at made =
      rw (made, is) (same_next (App app) place (length begun + 1) call.Leave (name_of_op (slice_get (begun ++ []) (length begun))) at
      (sym (ap name_of_op (behind_front begun []))))
  next_call_is app begun (o ∷ os) place values clock is at made =
      rw (made, is) (same_next (App app) place (length begun + 1) _ (name_of_op (slice_get (begun ++ o ∷ os) (length begun))) at
      (name_is o values clock ∙ sym (ap name_of_op (behind_front begun (o ∷ os)))))

  waiting_is : (x : Agenda) → IsRest scenario.scripts calls x → did (actor_of x) (calls_of settings (actor_of x) history) + todo x
      ≡ all_of scenario calls (actor_of x)
      → waiting_of x ≡ next_of settings scenario calls history (actor_of x)
  waiting_is (script app place ops values clock) rest sum =
      let counts = each_counts app (calls_of settings (App app) history) in
      let whole = rw rest.1 at sum in
      let parts = length-append rest.0 ops in
      next_call_is app rest.0 ops place values clock rest.1 rest.2 (omega (arith, counts, whole, parts))
  waiting_is (events e es) rest sum =
      let counts = device_counts (calls_of settings Device history) in
      let whole = sum ∙ ap length rest.1 in
      let parts = length-append rest.0 (e ∷ es) in
      let made : length (calls_of settings Device history) ≡ length rest.0 = omega (arith, counts, whole, parts) in
      same_next Device (mark_awaited e) (mark_behind (slice_get calls (length (calls_of settings Device history)))) call.Await call.Await
      (same_mark e ∙ ap mark_behind
      (sym (behind_front rest.0 (e ∷ es)) ∙ ap (λ l. slice_get l (length rest.0)) (sym rest.1) ∙ ap (slice_get calls) (sym made))) refl
  waiting_is (compositor held) rest sum = refl

  one_next : (who : Actor) (xs : List Agenda) → AreRest scenario.scripts calls xs → count_of who (map actor_of xs) ≤ 1
      → did who (calls_of settings who history) + due who xs ≡ all_of scenario calls who
      → map waiting_of (agendas_of who xs) ≡ (if has_turns xs who then next_of settings scenario calls history who ∷ [] else [])
  one_next who [] rest once sum = refl
  one_next who (x ∷ xs) rest once sum = by (is_actor who (actor_of x)) refl once sum (one_next who xs rest.1)
    where
      by : (b : Bool) → is_actor who (actor_of x) ≡ b → bit b + count_of who (map actor_of xs) ≤ 1
          → did who (calls_of settings who history) + ((if b then todo x else 0) + due who xs) ≡ all_of scenario calls who
          → (count_of who (map actor_of xs) ≤ 1 → did who (calls_of settings who history) + due who xs ≡ all_of scenario calls who
          → map waiting_of (agendas_of who xs) ≡ (if has_turns xs who then next_of settings scenario calls history who ∷ [] else []))
          → map waiting_of (if b then x ∷ agendas_of who xs else agendas_of who xs)
          ≡ (if b || has_turns xs who then next_of settings scenario calls history who ∷ [] else [])
      by true is once sum more =
          let none = none_of who xs (omega arith) in
          let gone = none.1 in
          let own : did who (calls_of settings who history) + todo x ≡ all_of scenario calls who = omega (arith, sum, gone) in
          let e = same_actor who (actor_of x) is in
          rw none.0 (ap (λ w. w ∷ [])
          (subst (λ a. waiting_of x ≡ next_of settings scenario calls history a) (sym e)
          (waiting_is x rest.0 (subst (λ a. did a (calls_of settings a history) + todo x ≡ all_of scenario calls a) e own))))
      by false is once sum more = more (omega arith) (omega (arith, sum))

  module _ (left : List Agenda)
      (own : (who : Actor) → map waiting_of (agendas_of who left) ≡ next_among settings scenario calls history (who ∷ [])) where
    more_next : (xs ys : List Actor) → next_among settings scenario calls history (xs ++ ys)
        ≡ next_among settings scenario calls history xs ++ next_among settings scenario calls history ys
    more_next xs ys =
        let next = next_of settings scenario calls history in
        let is_left = is_unfinished settings scenario calls history in
        ap (map next) (filter-append is_left xs ys) ∙ map-append next (filter is_left xs) (filter is_left ys)

    apps_next : (n : ℕ) → map waiting_of (scripts_to n left) ≡ next_among settings scenario calls history (apps_to n)
    apps_next zero = refl
    apps_next (suc n) =
        map-append waiting_of (scripts_to n left) (agendas_of (App (suc n)) left)
        ∙ (rw (apps_next n, own (App (suc n))) (sym (more_next (apps_to n) (App (suc n) ∷ []))))

    round_next : (n : ℕ) → map waiting_of (in_round n left) ≡ next_among settings scenario calls history (apps_to n ++ Device ∷ Compositor ∷ [])
    round_next n =
        let scripts = map waiting_of (scripts_to n left) in
        let device = map waiting_of (agendas_of Device left) in
        let last = map waiting_of (agendas_of Compositor left) in
        let parts = map-append waiting_of (scripts_to n left ++ agendas_of Device left) (agendas_of Compositor left) in
        let front = map-append waiting_of (scripts_to n left) (agendas_of Device left) in
        let both = more_next (Device ∷ []) (Compositor ∷ []) in
        let all = more_next (apps_to n) (Device ∷ Compositor ∷ []) ∙ ap (λ l. next_among settings scenario calls history (apps_to n) ++ l) both in
        parts ∙ ap (λ l. l ++ last) front ∙ append_assoc scripts device last ∙ (rw (apps_next n, own Device, own Compositor) (sym all))

pub stuck_names_the_unfinished : StuckNamesTheUnfinished
stuck_names_the_unfinished settings scenario calls history apps robin =
    let start = first_agendas scenario calls in
    let left = agendas_left (opening settings) start history in
    let goes = all_calls (opening settings) start history robin in
    ap (λ n. map waiting_of (in_round n left)) apps ∙ round_next settings scenario calls history left (own goes) (length scenario.scripts)
  where
    none_told : (cs : List DeviceEvent) → AreRest scenario.scripts cs (script_agendas 1 scenario.scripts)
    none_told cs = rest_scripts scenario.scripts cs 1 scenario.scripts (λ j. let e : 1 + j ≡ suc j = omega arith in ap (script_of scenario.scripts) e)

    first_rest : AreRest scenario.scripts calls (first_agendas scenario calls)
    first_rest =
        subst (AreRest scenario.scripts calls) (sym (append_assoc (script_agendas 1 scenario.scripts) (device_agendas calls) (compositor 0 ∷ [])))
        (rest_joined scenario.scripts calls (script_agendas 1 scenario.scripts) (device_agendas calls ++ compositor 0 ∷ []) (none_told calls)
        (rest_first scenario.scripts calls calls refl))

    as_filtered : (who : Actor) (b : Bool) → (if b then next_of settings scenario calls history who ∷ [] else [])
        ≡ map (next_of settings scenario calls history) (if b then who ∷ [] else [])
    as_filtered who true = refl
    as_filtered who false = refl

    own : AreCalls (opening settings) (first_agendas scenario calls) history → (who : Actor)
        → map waiting_of (agendas_of who (agendas_left (opening settings) (first_agendas scenario calls) history))
        ≡ next_among settings scenario calls history (who ∷ [])
    own goes who =
        let start = first_agendas scenario calls in
        let left = agendas_left (opening settings) start history in
        let fell = falls who (map actor_of start) _ (map actor_of left) (all_turned (opening settings) start history goes) in
        let most = once_in_order who (map actor_of start) (first_ordered calls scenario) in
        one_next settings scenario calls history who left (rest_left scenario.scripts calls (opening settings) start history goes first_rest)
        (omega (arith, fell, most))
        (all_done who (opening settings) start history goes ∙ first_due scenario calls who)
        ∙ ap (λ b. if b then next_of settings scenario calls history who ∷ [] else []) (left_are_unfinished settings scenario calls history goes who)
        ∙ as_filtered who (is_unfinished settings scenario calls history who)
