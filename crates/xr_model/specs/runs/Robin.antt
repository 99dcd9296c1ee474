-- The round robin: a turn to each unfinished actor, the scripts in order, the device and then the compositor,
-- round after round. A turn makes the actor's next call where it is ready, else none.
use Rattle.std.specs.Prelude.{◌≡◌, ◌+◌, zero, suc, ℕ, ℤ, pos, Bool, true, false, List, [], ◌∷◌, ◌++◌, length, Option, Some, None, if◌then◌else◌}
use Rattle.xr_types.specs.declared.calls.Actor.{Actor}
use Rattle.xr_types.specs.declared.calls.Actor.TheVariants.{App, Compositor, Device}
use Rattle.xr_types.specs.declared.device.DeviceEvent.{DeviceEvent}
use Rattle.xr_types.specs.declared.device.DeviceEvent.TheVariants as event
use Rattle.xr_types.specs.declared.calls.Gives.{Gives}
use Rattle.xr_types.specs.declared.calls.Gives.TheVariants.{Ended}
use Rattle.xr_types.specs.declared.scenario.Op.{Op}
use Rattle.xr_types.specs.declared.scenario.Scenario.{Scenario}
use Rattle.xr_model.specs.device_text.DeviceText.{Ending, ends, garbled_at}
use Rattle.xr_types.specs.CallKinds.{is_locked, with_start}
use Rattle.xr_model.specs.machine.Calls.{Entry, Outcome, is_actor}
use Rattle.xr_types.specs.declared.calls.Call.{Call}
use Rattle.xr_types.specs.declared.calls.Call.TheVariants as ask
use Rattle.xr_model.specs.machine.State.{Settings, State, opening}
use Rattle.xr_model.specs.machine.Machine.{step, ready}
use Rattle.xr_model.specs.runs.NameValues.{no_values, with_name_value}
use Rattle.xr_model.specs.runs.Scripts.{request_for}

-- An unfinished actor and what it has still to do: an application its ops from a place of its script on
-- and then `leave`, knowing the values that its calls gave and the clock after its last locked call; the device its
-- next event and those behind it; the compositor the images that it has still to give back, and then the next
-- frame, until it is told the end.
pub data Agenda : Type 0 where
  script : ℕ → ℕ → List Op → List ℕ → ℤ → Agenda  -- app, place, ops, values, clock
  events : DeviceEvent → List DeviceEvent → Agenda  -- next, later
  compositor : ℕ → Agenda  -- images to give back

abbrev pub actor_of : Agenda → Actor
actor_of (script app place ops values clock) = App app
actor_of (events e es) = Device
actor_of (compositor held) = Compositor

-- the call that an actor makes next
abbrev pub next_call : Agenda → Call
next_call (script app place [] values clock) = ask.Leave
next_call (script app place (o ∷ os) values clock) = with_start clock (request_for values o)
next_call (events e es) = ask.Device e
next_call (compositor zero) = ask.NextFrame
next_call (compositor (suc held)) = ask.ImageDone

abbrev pub is_ended : Gives → Bool
is_ended Ended = true
is_ended _ = false

-- the device with these events, and nobody where there are none
abbrev pub device_agendas : List DeviceEvent → List Agenda
device_agendas [] = []
device_agendas (e ∷ es) = events e es ∷ []

-- the clock after an application's last locked call, once it made this call, which led to this state
abbrev pub clock_behind : ℤ → Call → State → ℤ
clock_behind clock what s = if is_locked what then s.core.device.clock else clock

-- the actor after its call, which led to this state, and nobody where it is finished
abbrev pub agenda_after : Agenda → State → Outcome → List Agenda
agenda_after (script app place [] values clock) s outcome = []
agenda_after (script app place (o ∷ os) values clock) s outcome =
    script app (place + 1) os (with_name_value values place o outcome.reply) (clock_behind clock (request_for values o) s) ∷ []
agenda_after (events e es) s outcome = device_agendas es
agenda_after (compositor held) s outcome = if is_ended outcome.reply.gives then [] else compositor (length s.cells.held) ∷ []

-- whether an actor's next call is ready; neither a handle nor want of memory decides that
abbrev pub is_next_ready : State → Agenda → Bool
is_next_ready s agenda = ready s (record { actor = actor_of agenda; call = next_call agenda; given = 0; short = false })

-- the actor whose turn makes a call, with those that were passed over before it and those behind it
pub record NextMove : Type 0 where
  pub passed : List Agenda
  pub agenda : Agenda
  pub behind : List Agenda

-- the first turn that makes a call, where the actors stand in the order of their turns
abbrev pub next_move : State → List Agenda → List Agenda → Option NextMove
next_move s before [] = None
next_move s before (x ∷ xs) = if is_next_ready s x then Some (record { passed = before; agenda = x; behind = xs }) else next_move s (before ++ x ∷ []) xs

-- the actors in the order of their turns, once this turn's call was made
abbrev pub agendas_after : NextMove → State → Outcome → List Agenda
agendas_after m s outcome = m.behind ++ m.passed ++ agenda_after m.agenda s outcome

-- The entry is the call of this turn.
abbrev pub IsCallOf : Option NextMove → Entry → Type 0
IsCallOf None e = ⊥
IsCallOf (Some m) e = (e.actor ≡ actor_of m.agenda) × (e.call ≡ next_call m.agenda)

abbrev pub agendas_behind : Option NextMove → State → Outcome → List Agenda
agendas_behind None s outcome = []
agendas_behind (Some m) s outcome = agendas_after m s outcome

-- Turn by turn these are the calls, until no unfinished actor's next call is ready: all have
-- finished, or the run is stuck.
abbrev pub IsRobinFrom : State → List Agenda → List Entry → Type 0
IsRobinFrom s agendas [] = next_move s [] agendas ≡ None
IsRobinFrom s agendas (e ∷ es) = IsCallOf (next_move s [] agendas) e × IsRobinFrom (step s e).0 (agendas_behind (next_move s [] agendas) (step s e).0 (step s e).1) es

-- the applications of a scenario, each with its script
abbrev pub script_agendas : ℕ → List (List Op) → List Agenda
script_agendas app [] = []
script_agendas app (ops ∷ scripts) = script app 1 ops (no_values (length ops)) (pos 0) ∷ script_agendas (app + 1) scripts

-- What a device that ends early does last: a fault where it couldn't be read on, which has no ending, or its line
-- that is none.
abbrev pub last_event : Option Ending → List DeviceEvent
last_event None = event.Fault ∷ []
last_event (Some ends) = []
last_event (Some (garbled_at line)) = event.Garbled line ∷ []

-- all that a device does by these events and this ending
abbrev pub device_calls : List DeviceEvent → Option Ending → List DeviceEvent
device_calls told ending = told ++ last_event ending

-- the actors in the order of their turns, at the start
abbrev pub first_agendas : Scenario → List DeviceEvent → List Agenda
first_agendas scenario calls = script_agendas 1 scenario.scripts ++ device_agendas calls ++ compositor 0 ∷ []

-- the history is the round robin's of this scenario and these events of the device, with the handles and wants of
-- memory that it has
abbrev pub IsRobin : Settings → Scenario → List DeviceEvent → List Entry → Type 0
IsRobin settings scenario calls history = IsRobinFrom (opening settings) (first_agendas scenario calls) history

-- ---- where a run can't go on

-- the unfinished actors once these calls were made
abbrev pub agendas_left : State → List Agenda → List Entry → List Agenda
agendas_left s agendas [] = agendas
agendas_left s agendas (e ∷ es) = agendas_left (step s e).0 (agendas_behind (next_move s [] agendas) (step s e).0 (step s e).1) es

-- those of one actor
abbrev pub agendas_of : Actor → List Agenda → List Agenda
agendas_of who [] = []
agendas_of who (x ∷ xs) = if is_actor who (actor_of x) then x ∷ agendas_of who xs else agendas_of who xs

abbrev pub scripts_to : ℕ → List Agenda → List Agenda
scripts_to zero agendas = []
scripts_to (suc n) agendas = scripts_to n agendas ++ agendas_of (App (suc n)) agendas

-- in the order of a round: the scripts, the device, the compositor
abbrev pub in_round : ℕ → List Agenda → List Agenda
in_round apps agendas = scripts_to apps agendas ++ agendas_of Device agendas ++ agendas_of Compositor agendas
