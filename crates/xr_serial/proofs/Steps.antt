-- A run goes on: a call is made, a turn is passed, the device tells more.
use Rattle.std.proofs.Common.{◌≡◌, ◌+◌, ◌<◌, ℕ, suc, Bool, true, false, List, [], ◌∷◌, ◌++◌, length, get_or, set, refl, sym, ap, subst, ◌∙◌, append_assoc, append-nil, true≢false, arith}
use Rattle.std.specs.Prelude.{if◌then◌else◌}
use Rattle.xr_types.specs.declared.calls.Actor.{Actor}
use Rattle.xr_types.specs.Code.{is_out_of_memory}
use Rattle.xr_types.specs.declared.device.DeviceEvent.{DeviceEvent}
use Rattle.xr_types.specs.declared.scenario.Scenario.{Scenario}
use Rattle.xr_model.specs.machine.Calls.{Entry, Outcome, Exchange, is_actor}
use Rattle.xr_types.specs.declared.calls.Call.{Call}
use Rattle.xr_model.specs.machine.CoreCalls.{entry_of, given_by}
use Rattle.xr_model.specs.machine.State.{State}
use Rattle.xr_model.specs.machine.History.{clock_of, clocks_after, StartsAt, IsLegalFrom, calls_from}
use Rattle.xr_model.specs.runs.Robin.{Agenda, actor_of, next_call, agenda_after, is_next_ready, IsRobinFrom, agendas_left}
use Rattle.xr_serial.specs.inside.Made.{IsAnswered, calls_with}
use Rattle.xr_serial.specs.inside.Turns.{turn_behind, others_of, from_turn, joined, AreHeldBack, IsTurnOrder}
use Rattle.xr_model.specs.runs.Lists.{done_at, done_from}
use Rattle.xr_serial.specs.inside.PastOfRun.{Trace, IsRest, Past, Standing}
use Rattle.xr_serial.proofs.Lending.{ready_any}
use Rattle.xr_serial.proofs.TurnOrder.{Takes, takes_turn, passed_over, from_turn_is, from_turn_next, count_from, joined-snoc}
use Rattle.std.proofs.lemmas.List.{set-get_or}
use Rattle.xr_runs.specs.Sides.{exchange_of}

-- ---- one call more in front of a history

calls_more : (s after : State) (calls : Actor → List Exchange) (who by : Actor) (what : Call) (outcome : Outcome) (more : List Entry) → IsAnswered s after by what outcome
    → calls who ++ calls_from s who (entry_of by what outcome.reply ∷ more) ≡ calls_with calls by (exchange_of what outcome) who ++ calls_from after who more
calls_more s after calls who by what outcome more made = each (is_actor who by) refl
  where
    t : Exchange
    t = exchange_of what outcome

    each : (b : Bool) → is_actor who by ≡ b → calls who ++ calls_from s who (entry_of by what outcome.reply ∷ more) ≡ (if b then calls who ++ t ∷ [] else calls who) ++ calls_from after who more
    each true e = rw (e, made.comes, ← made.leads) (sym (append_assoc (calls who) (t ∷ []) (calls_from after who more)))
    each false e = rw (e, ← made.leads) refl

done_more : (s after : State) (done : List ℕ) (by : Actor) (what : Call) (outcome : Outcome) (more : List Entry) → IsAnswered s after by what outcome
    → done ++ done_from s (entry_of by what outcome.reply ∷ more) ≡ (done ++ done_at s what) ++ done_from after more
done_more s after done by what outcome more made = rw (← made.leads) (sym (append_assoc done (done_at s what) (done_from after more)))

-- what was made, once this call was answered
abbrev pub trace_behind : State → State → Trace → Actor → Call → Outcome → Trace
trace_behind s after trace who what outcome = record {
  calls = calls_with trace.calls who (exchange_of what outcome);
  clocks = clocks_after trace.clocks (entry_of who what outcome.reply) after;
  done = trace.done ++ done_at s what;
}

-- the next call of an agenda
pub record IsAgendaOf (who : Actor) (what : Call) (x : Agenda) : Type 0 where
  pub actor : actor_of x ≡ who
  pub call : next_call x ≡ what

is_ready : (s after : State) (who : Actor) (what : Call) (outcome : Outcome) (x : Agenda) → IsAgendaOf who what x → IsAnswered s after who what outcome → is_next_ready s x ≡ true
is_ready s after who what outcome x of made = rw (of.actor, of.call) (ready_any s who what 0 (given_by outcome.reply.gives) false (is_out_of_memory outcome.reply.code) ∙ made.is_ready)

robin_more : (s after : State) (who : Actor) (what : Call) (outcome : Outcome) (x : Agenda) (others agendas : List Agenda) (more : List Entry) → IsAgendaOf who what x → IsAnswered s after who what outcome → Takes s x others agendas
    → IsRobinFrom after (others ++ agenda_after x after outcome) more → IsRobinFrom s agendas (entry_of who what outcome.reply ∷ more)
robin_more s after who what outcome x others agendas more of made t goes =
    rw (t.found, made.comes, t.others_are, t.agenda) ((sym of.actor, sym of.call), subst (λ (n : State). IsRobinFrom n (others ++ agenda_after x n outcome) more) made.leads goes)

left_more : (s after : State) (who : Actor) (what : Call) (outcome : Outcome) (x : Agenda) (others agendas : List Agenda) (more : List Entry) → IsAnswered s after who what outcome → Takes s x others agendas
    → agendas_left s agendas (entry_of who what outcome.reply ∷ more) ≡ agendas_left after (others ++ agenda_after x after outcome) more
left_more s after who what outcome x others agendas more made t =
    rw (t.found, made.comes, t.others_are, t.agenda) (ap (λ (n : State). agendas_left n (others ++ agenda_after x n outcome) more) (sym made.leads))

-- ---- a run goes on

-- the actor whose turn it is makes its call
pub record Goes (turn : ℕ) (parts : List DeviceEvent → List (List Agenda)) (s after : State) (trace : Trace) (who : Actor) (what : Call) (outcome : Outcome) : Type 0 where
  pub agenda : List DeviceEvent → Agenda
  pub alone : (rest : List DeviceEvent) → get_or (parts rest) turn [] ≡ agenda rest ∷ []
  pub of : (rest : List DeviceEvent) → IsAgendaOf who what (agenda rest)
  pub starts : StartsAt (clock_of trace.clocks who) what
  pub made : IsAnswered s after who what outcome

-- so many actors, and this turn's is one of them
pub record AreSo (actors turn idle : ℕ) (parts : List DeviceEvent → List (List Agenda)) : Type 0 where
  pub count : (rest : List DeviceEvent) → length (parts rest) ≡ actors
  pub within : turn < actors
  pub few : idle < actors

turn_in : (actors turn idle : ℕ) (parts : List DeviceEvent → List (List Agenda)) (rest : List DeviceEvent) → AreSo actors turn idle parts → turn < length (parts rest)
turn_in actors turn idle parts rest are = let count = are.count rest in let within = are.within in omega (arith, count, within)

idle_in : (actors turn idle : ℕ) (parts : List DeviceEvent → List (List Agenda)) (rest : List DeviceEvent) → AreSo actors turn idle parts → idle < suc (length (others_of turn (parts rest)))
idle_in actors turn idle parts rest are =
    let size : length (parts rest) ≡ suc (length (others_of turn (parts rest))) = count_from turn (parts rest) (turn_in actors turn idle parts rest are) in
    let count = are.count rest in
    let few = are.few in
    omega (arith, size, count, few)

module _ (scenario : Scenario) (turn idle : ℕ) (s after : State) (over : Bool) (begun : List DeviceEvent) (parts : List DeviceEvent → List (List Agenda)) where
  -- the parts are those, whatever may come
  pub same_parts : (trace : Trace) (others : List DeviceEvent → List (List Agenda)) → ((rest : List DeviceEvent) → IsRest over rest → parts rest ≡ others rest) → Standing scenario turn idle s over begun parts trace
      → Standing scenario turn idle s over begun others trace
  same_parts trace others same g = record {
    so_far = g.so_far;
    order = λ rest ok. subst (λ (p : List (List Agenda)). IsTurnOrder s idle (from_turn turn p) (g.so_far.agendas rest)) (same rest ok) (g.order rest ok);
  }

  pub made_turn : (actors : ℕ) (trace : Trace) (who : Actor) (what : Call) (outcome : Outcome) → AreSo actors turn idle parts → (goes : Goes turn parts s after trace who what outcome) → Standing scenario turn idle s over begun parts trace
      → Standing scenario (turn_behind turn actors) 0 after over begun (λ rest. set (parts rest) turn (agenda_after (goes.agenda rest) after outcome)) (trace_behind s after trace who what outcome)
  made_turn actors trace who what outcome are goes g = record {
    so_far = record {
      past = p.past ++ e ∷ [];
      agendas = λ rest. joined (others_of turn (parts rest)) ++ later rest;
      legal = λ more h. rw (append_assoc p.past (e ∷ []) more) (p.legal (e ∷ more) (goes.made.allowed, goes.starts, goes.made.is_ready, subst (λ (n : State). IsLegalFrom n (clocks_after trace.clocks e n) more) goes.made.leads h));
      robin = λ rest ok more h. rw (append_assoc p.past (e ∷ []) more) (p.robin rest ok (e ∷ more) (robin_more s after who what outcome (goes.agenda rest) (joined (others_of turn (parts rest))) (p.agendas rest) more (goes.of rest) goes.made (takes rest ok) h));
      left = λ rest ok more. rw (append_assoc p.past (e ∷ []) more) (p.left rest ok (e ∷ more) ∙ left_more s after who what outcome (goes.agenda rest) (joined (others_of turn (parts rest))) (p.agendas rest) more goes.made (takes rest ok));
      made = λ other more. rw (append_assoc p.past (e ∷ []) more) (p.made other (e ∷ more) ∙ calls_more s after trace.calls other who what outcome more goes.made);
      done = λ more. rw (append_assoc p.past (e ∷ []) more) (p.done (e ∷ more) ∙ done_more s after trace.done who what outcome more goes.made);
    };
    order = λ rest ok. record {
      coming = others_of turn (parts rest) ++ later rest ∷ [];
      passed = [];
      order_is = subst (λ (n : ℕ). from_turn (turn_behind turn n) (set (parts rest) turn (later rest)) ≡ others_of turn (parts rest) ++ later rest ∷ []) (are.count rest) (from_turn_next turn (parts rest) (later rest) (turn_in actors turn idle parts rest are)) ∙ sym (append-nil (others_of turn (parts rest) ++ later rest ∷ []));
      count = refl;
      held = tt;
      agendas_are = sym (joined-snoc (others_of turn (parts rest)) (later rest));
    };
  }
    where
      p : Past scenario s over begun trace
      p = g.so_far

      e : Entry
      e = entry_of who what outcome.reply

      later : List DeviceEvent → List Agenda
      later rest = agenda_after (goes.agenda rest) after outcome

      takes : (rest : List DeviceEvent) → IsRest over rest → Takes s (goes.agenda rest) (joined (others_of turn (parts rest))) (p.agendas rest)
      takes rest ok =
          let here : from_turn turn (parts rest) ≡ (goes.agenda rest ∷ []) ∷ others_of turn (parts rest) = from_turn_is turn (parts rest) (turn_in actors turn idle parts rest are) ∙ ap (λ (x : List Agenda). x ∷ others_of turn (parts rest)) (goes.alone rest) in
          takes_turn s idle (goes.agenda rest) (others_of turn (parts rest)) (p.agendas rest) (idle_in actors turn idle parts rest are)
          (subst (λ (order : List (List Agenda)). IsTurnOrder s idle order (p.agendas rest)) here (g.order rest ok))
          (is_ready s after who what outcome (goes.agenda rest) (goes.of rest) goes.made)

  -- it has nothing left, or can't make its call
  pub passed_turn : (actors : ℕ) (trace : Trace) → AreSo actors turn idle parts → ((rest : List DeviceEvent) → IsRest over rest → AreHeldBack s (get_or (parts rest) turn [])) → Standing scenario turn idle s over begun parts trace
      → Standing scenario (turn_behind turn actors) (idle + 1) s over begun parts trace
  passed_turn actors trace are held g = record {
    so_far = g.so_far;
    order = λ rest ok.
        let here : from_turn turn (parts rest) ≡ get_or (parts rest) turn [] ∷ others_of turn (parts rest) = from_turn_is turn (parts rest) (turn_in actors turn idle parts rest are) in
        let next : from_turn (turn_behind turn actors) (parts rest) ≡ others_of turn (parts rest) ++ get_or (parts rest) turn [] ∷ [] =
        subst (λ (n : ℕ). from_turn (turn_behind turn n) (parts rest) ≡ others_of turn (parts rest) ++ get_or (parts rest) turn [] ∷ []) (are.count rest)
        (ap (λ (l : List (List Agenda)). from_turn (turn_behind turn (length (parts rest))) l) (sym (set-get_or (parts rest) turn [])) ∙ from_turn_next turn (parts rest) (get_or (parts rest) turn []) (turn_in actors turn idle parts rest are)) in
        subst (λ (order : List (List Agenda)). IsTurnOrder s (idle + 1) order (g.so_far.agendas rest)) (sym next)
        (passed_over s idle (get_or (parts rest) turn []) (others_of turn (parts rest)) (g.so_far.agendas rest) (idle_in actors turn idle parts rest are)
        (subst (λ (order : List (List Agenda)). IsTurnOrder s idle order (g.so_far.agendas rest)) here (g.order rest ok)) (held rest ok));
  }

not_over : (rest : List DeviceEvent) → IsRest false rest
not_over rest e = absurd (true≢false (sym e))

-- the device tells its next event, or how it ends, and nothing more may come then
pub device_tells : (scenario : Scenario) (turn idle : ℕ) (s : State) (parts : List DeviceEvent → List (List Agenda)) (over : Bool) (begun : List DeviceEvent) (trace : Trace) (event : DeviceEvent) → Standing scenario turn idle s false begun parts trace
    → Standing scenario turn idle s over (begun ++ event ∷ []) (λ rest. parts (event ∷ rest)) trace
device_tells scenario turn idle s parts over begun trace event g = record {
  so_far = record {
    past = p.past;
    agendas = λ rest. p.agendas (event ∷ rest);
    legal = p.legal;
    robin = λ rest ok more h. rw (append_assoc begun (event ∷ []) rest) (p.robin (event ∷ rest) (not_over (event ∷ rest)) more h);
    left = λ rest ok more. rw (append_assoc begun (event ∷ []) rest) (p.left (event ∷ rest) (not_over (event ∷ rest)) more);
    made = p.made;
    done = p.done;
  };
  order = λ rest ok. g.order (event ∷ rest) (not_over (event ∷ rest));
}
  where
    p : Past scenario s false begun trace
    p = g.so_far

pub device_ends : (scenario : Scenario) (turn idle : ℕ) (s : State) (parts : List DeviceEvent → List (List Agenda)) (begun : List DeviceEvent) (trace : Trace) → Standing scenario turn idle s false begun parts trace → Standing scenario turn idle s true begun parts trace
device_ends scenario turn idle s parts begun trace g = record {
  so_far = record {
    past = p.past;
    agendas = p.agendas;
    legal = p.legal;
    robin = λ rest ok. p.robin rest (not_over rest);
    left = λ rest ok. p.left rest (not_over rest);
    made = p.made;
    done = p.done;
  };
  order = λ rest ok. g.order rest (not_over rest);
}
  where
    p : Past scenario s false begun trace
    p = g.so_far
