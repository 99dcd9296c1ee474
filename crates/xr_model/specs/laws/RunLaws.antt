-- What holds of runs: who is unfinished, whose turn it is, what a stuck run tells, and how a run ends.
use Rattle.std.specs.Prelude.{◌≡◌, ◌↔◌, ◌≤◌, ◌+◌, ◌==◌, nat_lt, zero, suc, ℕ, ℤ, IsTrue, Bool, true, false, not, List, [], ◌∷◌, ◌++◌, map, length, slice_get, Option, Some, None, is_some, if◌then◌else◌}
use Rattle.std.specs.List.{list_any, filter}
use Rattle.xr_types.specs.declared.calls.Actor.{Actor}
use Rattle.xr_types.specs.declared.calls.Actor.TheVariants.{App, Compositor, Device}
use Rattle.xr_types.specs.declared.calls.Reply.{Reply}
use Rattle.xr_types.specs.declared.device.DeviceEvent.{DeviceEvent}
use Rattle.xr_types.specs.declared.device.DeviceEvent.TheVariants.{Await, Fault, Garbled}
use Rattle.xr_types.specs.declared.made.Lists.{Lists}
use Rattle.xr_types.specs.declared.made.Waiting.{Waiting}
use Rattle.xr_types.specs.Op.{call_name}
use Rattle.xr_types.specs.declared.names.CallName.{CallName}
use Rattle.xr_types.specs.declared.names.CallName.TheVariants as call
use Rattle.xr_types.specs.declared.scenario.Op.{Op}
use Rattle.xr_types.specs.declared.scenario.Scenario.{Scenario}
use Rattle.xr_types.specs.declared.status.Status.TheVariants.{Done}
use Rattle.xr_model.specs.machine.Calls.{Entry, is_actor}
use Rattle.xr_model.specs.machine.State.{Settings, State, opening}
use Rattle.xr_model.specs.machine.Machine.{step, ready}
use Rattle.xr_model.specs.machine.History.{opening_clocks, clock_of, clocks_after, StartsAt, calls_of}
use Rattle.xr_model.specs.runs.Robin.{Agenda, NextMove, actor_of, is_next_ready, next_move, agendas_behind, first_agendas, IsRobin, agendas_left}
use Rattle.xr_model.specs.runs.NameValues.{value_given, with_name_value, value_at}
use Rattle.xr_model.specs.runs.Scripts.{FollowsSoFar}
use Rattle.xr_model.specs.runs.Lists.{end_of, events_in, lists_of}
use Rattle.xr_model.specs.report.RunEnding.{ending_of, exit_of}

-- ---- who is unfinished

-- an application makes a call for each op of its script, and then leaves
abbrev pub calls_of_script : Option (List Op) → ℕ
calls_of_script None = 0
calls_of_script (Some ops) = length ops + 1

-- the script of an application, by its number from 1
abbrev pub script_of : List (List Op) → ℕ → Option (List Op)
script_of scripts zero = None
script_of scripts (suc k) = slice_get scripts k

-- An application and the device are unfinished until they made all their calls, and the compositor until it was told the end.
abbrev pub is_unfinished : Settings → Scenario → List DeviceEvent → List Entry → Actor → Bool
is_unfinished settings scenario calls history (App k) =
    nat_lt (length (calls_of settings (App k) history)) (calls_of_script (script_of scenario.scripts k))
is_unfinished settings scenario calls history Device = nat_lt (length (calls_of settings Device history)) (length calls)
is_unfinished settings scenario calls history Compositor = not (is_some (end_of (calls_of settings Compositor history)))

-- just the unfinished actors have further turns
abbrev pub has_turns : List Agenda → Actor → Bool
has_turns agendas who = list_any (λ x. is_actor who (actor_of x)) agendas

abbrev pub UnfinishedHaveTurns : Type 0
UnfinishedHaveTurns =
    (settings : Settings) (scenario : Scenario) (calls : List DeviceEvent) (es fs : List Entry) → IsRobin settings scenario calls (es ++ fs)
    → (who : Actor) → has_turns (agendas_left (opening settings) (first_agendas scenario calls) es) who ≡ is_unfinished settings scenario calls es who

-- ---- turns

-- the turns up to a call: of those that were passed over, and of the one that made it
abbrev pub turns_in : Option NextMove → List Actor
turns_in None = []
turns_in (Some m) = map actor_of m.passed ++ actor_of m.agenda ∷ []

abbrev pub turns_from : State → List Agenda → List Entry → List Actor
turns_from s agendas [] = []
turns_from s agendas (e ∷ es) =
    turns_in (next_move s [] agendas) ++ turns_from (step s e).0 (agendas_behind (next_move s [] agendas) (step s e).0 (step s e).1) es

-- the turns of a run up to the last of these calls
abbrev pub turns_of : Settings → Scenario → List DeviceEvent → List Entry → List Actor
turns_of settings scenario calls es = turns_from (opening settings) (first_agendas scenario calls) es

-- how many of these turns are an actor's
abbrev pub count_of : Actor → List Actor → ℕ
count_of who [] = 0
count_of who (x ∷ xs) = (if is_actor who x then 1 else 0) + count_of who xs

-- in a round the scripts come in their order, then the device, then the compositor
abbrev pub comes_before : Actor → Actor → Bool
comes_before (App j) (App k) = nat_lt j k
comes_before (App j) Device = true
comes_before (App j) Compositor = true
comes_before Device Compositor = true
comes_before _ _ = false

-- the first of two actors has had as many turns as the second, or one more
pub record TakeTurns (first second : Actor) (turns : List Actor) : Type 0 where
  pub least : count_of second turns ≤ count_of first turns
  pub most : count_of first turns ≤ count_of second turns + 1

-- Of two unfinished actors, the one that comes first in a round has had as many turns as the other, or one more.
abbrev pub EachHasItsTurn : Type 0
EachHasItsTurn =
    (settings : Settings) (scenario : Scenario) (calls : List DeviceEvent) (es fs : List Entry) → IsRobin settings scenario calls (es ++ fs)
    → (turns later : List Actor) → turns_of settings scenario calls es ≡ turns ++ later
    → (a b : Actor) → comes_before a b ≡ true → is_unfinished settings scenario calls es a ≡ true → is_unfinished settings scenario calls es b ≡ true
    → TakeTurns a b turns

-- Between two turns of one unfinished actor each other one has exactly one turn.
abbrev pub OneTurnBetween : Type 0
OneTurnBetween =
    (settings : Settings) (scenario : Scenario) (calls : List DeviceEvent) (es fs : List Entry) → IsRobin settings scenario calls (es ++ fs)
    → (a b : Actor) → is_actor a b ≡ false → is_unfinished settings scenario calls es a ≡ true → is_unfinished settings scenario calls es b ≡ true
    → (before mid later : List Actor) → turns_of settings scenario calls es ≡ before ++ (a ∷ (mid ++ (a ∷ later))) → count_of a mid ≡ 0
    → count_of b mid ≡ 1

-- A call is made by the first actor whose next call is ready: those ahead of it are passed over.
pub record MakesReadyCall (s : State) (agendas : List Agenda) (m : NextMove) : Type 0 where
  pub stand : agendas ≡ m.passed ++ m.agenda ∷ m.behind
  pub passed : list_any (is_next_ready s) m.passed ≡ false
  pub called : is_next_ready s m.agenda ≡ true

abbrev pub TurnsMakeReadyCalls : Type 0
TurnsMakeReadyCalls = (s : State) (agendas : List Agenda) (m : NextMove) → next_move s [] agendas ≡ Some m → MakesReadyCall s agendas m

-- a run that can't go on has nobody whose next call is ready
abbrev pub StuckWhereNobodyIsReady : Type 0
StuckWhereNobodyIsReady = (s : State) (agendas : List Agenda) → (next_move s [] agendas ≡ None) ↔ (list_any (is_next_ready s) agendas ≡ false)

-- ---- whose calls they are

-- An application's calls follow its script as far as they go, and the device does its events in their order.
pub record FollowTheirScripts (settings : Settings) (scenario : Scenario) (calls : List DeviceEvent) (es : List Entry) : Type 0 where
  pub scripts : (k : ℕ) (ops : List Op) → script_of scenario.scripts k ≡ Some ops → FollowsSoFar ops (calls_of settings (App k) es)
  pub device : (rest : List DeviceEvent) × (calls ≡ events_in (calls_of settings Device es) ++ rest)

abbrev pub CallsFollowScripts : Type 0
CallsFollowScripts =
    (settings : Settings) (scenario : Scenario) (calls : List DeviceEvent) (es fs : List Entry) → IsRobin settings scenario calls (es ++ fs)
    → FollowTheirScripts settings scenario calls es

-- a name stands for what the reply to its op gave, and for all other ops the names stay as they were
pub record StandsFor (values : List ℕ) (place : ℕ) (o : Op) (answer : Reply) : Type 0 where
  pub own : value_at (with_name_value values place o answer) place ≡ value_given o answer.gives
  pub others : (other : ℕ) → 1 ≤ other → (place == other) ≡ false → value_at (with_name_value values place o answer) other ≡ value_at values other

abbrev pub NamesStandForValues : Type 0
NamesStandForValues = (values : List ℕ) (place : ℕ) (o : Op) (answer : Reply) → 1 ≤ place → place ≤ length values → StandsFor values place o answer

-- Each call is ready when it is made, and a wait for an image begins at the clock after its application's last locked call.
abbrev pub AreReadyFrom : State → List ℤ → List Entry → Type 0
AreReadyFrom s clocks [] = Unit {0}
AreReadyFrom s clocks (e ∷ es) =
    StartsAt (clock_of clocks e.actor) e.call × IsTrue (ready s e) × AreReadyFrom (step s e).0 (clocks_after clocks e (step s e).0) es

-- so a run is a legal history where its entries are allowed
abbrev pub CallsAreReady : Type 0
CallsAreReady =
    (settings : Settings) (scenario : Scenario) (calls : List DeviceEvent) (history : List Entry) → settings.apps ≡ length scenario.scripts
    → IsRobin settings scenario calls history → AreReadyFrom (opening settings) (opening_clocks settings) history

-- ---- what a stuck run tells

abbrev pub apps_to : ℕ → List Actor
apps_to zero = []
apps_to (suc n) = apps_to n ++ App (suc n) ∷ []

-- all actors in the order of a round
abbrev pub all_actors : Scenario → List Actor
all_actors scenario = apps_to (length scenario.scripts) ++ Device ∷ Compositor ∷ []

-- a script's call behind so many others is that of its next op, or its leaving
abbrev pub name_of_op : Option Op → CallName
name_of_op None = call.Leave
name_of_op (Some o) = call_name o

abbrev pub name_behind : Option (List Op) → ℕ → CallName
name_behind None made = call.Leave
name_behind (Some ops) made = name_of_op (slice_get ops made)

-- the mark that the device's next event awaits, else 0
abbrev pub mark_behind : Option DeviceEvent → ℕ
mark_behind (Some (Await number)) = number
mark_behind _ = 0

-- An actor's next call, by the calls that it made: an application's stands at the next place of its script, the device's tells
-- the mark that it awaits, and the compositor waits for a frame.
abbrev pub next_of : Settings → Scenario → List DeviceEvent → List Entry → Actor → Waiting
next_of settings scenario calls history (App k) =
    record {
      actor = App k;
      op = length (calls_of settings (App k) history) + 1;
      name = name_behind (script_of scenario.scripts k) (length (calls_of settings (App k) history));
    }
next_of settings scenario calls history Device =
    record { actor = Device; op = mark_behind (slice_get calls (length (calls_of settings Device history))); name = call.Await }
next_of settings scenario calls history Compositor = record { actor = Compositor; op = 0; name = call.NextFrame }

-- The next calls that a stuck run tells are those of its unfinished actors, each once, in the order of a round.
abbrev pub StuckNamesTheUnfinished : Type 0
StuckNamesTheUnfinished =
    (settings : Settings) (scenario : Scenario) (calls : List DeviceEvent) (history : List Entry) → settings.apps ≡ length scenario.scripts
    → IsRobin settings scenario calls history
    → (lists_of settings history (agendas_left (opening settings) (first_agendas scenario calls) history)).next
    ≡ map (next_of settings scenario calls history) (filter (is_unfinished settings scenario calls history) (all_actors scenario))

-- ---- how a run ends

-- the device couldn't be read on, or a line of its text is malformed
abbrev pub ends_early : DeviceEvent → Bool
ends_early Fault = true
ends_early (Garbled line) = true
ends_early _ = false

-- A run is done exactly where nobody waits and the device didn't end early, and a run that is done, and no other, ends with 0.
pub record EndsWell (lists : Lists) : Type 0 where
  pub done : (ending_of lists ≡ Done) ↔ ((lists.next ≡ []) × (list_any ends_early lists.events ≡ false))
  pub exit : (exit_of (ending_of lists) ≡ 0) ↔ (ending_of lists ≡ Done)

abbrev pub DoneExactlyWhereAllIsDone : Type 0
DoneExactlyWhereAllIsDone = (lists : Lists) → EndsWell lists
