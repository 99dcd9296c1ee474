-- What holds of the queue of events. What was told, what was lost and what waits adds up to what was pushed, in its order.
use Rattle.std.specs.Prelude.{◌≡◌, ◌≤◌, ◌+◌, ◌==◌, ◌&&◌, ◌||◌, ℕ, not, Bool, true, false, List, [], ◌∷◌, ◌++◌, length, map, Option, Some, None, is_some, if◌then◌else◌}
use Rattle.std.specs.List.{filter, list_any, list_all}
use Rattle.xr_types.specs.Code.{is_success}
use Rattle.xr_types.specs.declared.calls.Gives.{Gives}
use Rattle.xr_types.specs.declared.calls.Gives.TheVariants as gives
use Rattle.xr_types.specs.declared.session.Event.{Event}
use Rattle.xr_types.specs.declared.session.Event.TheVariants as event
use Rattle.xr_types.specs.declared.session.SessionState.{SessionState}
use Rattle.xr_model.specs.machine.Calls.{Entry}
use Rattle.xr_types.specs.declared.calls.Call.{Call}
use Rattle.xr_types.specs.declared.calls.Call.TheVariants as ask
use Rattle.xr_types.specs.declared.limits.TheConstants.{EVENTS}
use Rattle.xr_model.specs.machine.Events.{Queue, no_events, pushed, polled, behind_poll, most_lost}
use Rattle.xr_model.specs.machine.LiveSessions.{Session}
use Rattle.xr_model.specs.machine.State.{Settings, State, opening}
use Rattle.xr_model.specs.machine.Machine.{step}
use Rattle.xr_model.specs.machine.History.{after, IsLegal}
use Rattle.xr_model.specs.laws.ListLaws.{is_instance_end}

-- ---- the queue alone

-- what is done with a queue
pub data QueueStep : Type 0 where
  push : Event → QueueStep
  poll : QueueStep

-- the events that come, in their order
abbrev pub pushes_of : List QueueStep → List Event
pushes_of [] = []
pushes_of (push event ∷ steps) = event ∷ pushes_of steps
pushes_of (poll ∷ steps) = pushes_of steps

-- an event that tells how many were lost, and is none that comes
abbrev pub is_count : Event → Bool
is_count (event.Lost n) = true
is_count _ = false

-- the event that a poll tells, and how many it tells to be lost
abbrev pub event_told : Option Event → List Event
event_told None = []
event_told (Some (event.Lost n)) = []
event_told (Some event) = event ∷ []

abbrev pub losses_told : Option Event → ℕ
losses_told (Some (event.Lost n)) = n
losses_told _ = 0

-- a queue, the events that polls have told, in their order, and how many they have told to be lost
pub record Trace : Type 0 where
  pub queue : Queue
  pub told : List Event
  pub losses : ℕ

-- an event comes
abbrev pub with_push : Trace → Event → Trace
with_push t event = record t { queue = pushed t.queue event }

-- a poll
abbrev pub with_poll : Trace → Trace
with_poll t = record { queue = behind_poll t.queue; told = t.told ++ event_told (polled t.queue); losses = t.losses + losses_told (polled t.queue) }

abbrev pub traced : Trace → List QueueStep → Trace
traced t [] = t
traced t (push event ∷ steps) = traced (with_push t event) steps
traced t (poll ∷ steps) = traced (with_poll t) steps

abbrev pub no_trace : Trace
no_trace = record { queue = no_events; told = []; losses = 0 }

-- an event that no longer waits, and whether it was told; else it was lost
pub record Gone : Type 0 where
  pub event : Event
  pub was_told : Bool

-- The events that came are those that are gone and behind them those that wait, so the oldest are gone. What was told is
-- the gone ones that weren't lost, in their order, and each lost one is told as lost or is to be. No more wait than the
-- queue holds, and it is full while there are losses to tell.
pub record AddsUp (came : List Event) (t : Trace) : Type 0 where
  pub gone : List Gone
  pub order : came ≡ map (λ g. g.event) gone ++ t.queue.waiting
  pub told : t.told ≡ map (λ g. g.event) (filter (λ g. g.was_told) gone)
  pub lost : length (filter (λ g. not g.was_told) gone) ≡ t.losses + t.queue.lost
  pub sum : length came ≡ length t.told + (t.losses + t.queue.lost) + length t.queue.waiting
  pub few : length t.queue.waiting ≤ EVENTS
  pub full : (t.queue.lost == 0) ≡ false → length t.queue.waiting ≡ EVENTS

-- so it is of any pushes and polls, as long as the count of losses isn't at its end
abbrev pub EventsAddUp : Type 0
EventsAddUp =
    (steps : List QueueStep) → list_any is_count (pushes_of steps) ≡ false → length (pushes_of steps) ≤ most_lost
    → AddsUp (pushes_of steps) (traced no_trace steps)

-- ---- what is told of sessions

-- the queue once these events came
abbrev pub pushed_all : Queue → List Event → Queue
pushed_all q [] = q
pushed_all q (event ∷ events) = pushed_all (pushed q event) events

-- the state of the listed session with this handle
abbrev pub state_at : List Session → ℕ → Option SessionState
state_at [] session = None
state_at (x ∷ xs) session = if x.handle == session then Some x.life.state else state_at xs session

-- it has this ordinal
abbrev pub has_ordinal : List Session → ℕ → ℕ → Bool
has_ordinal [] session ordinal = false
has_ordinal (x ∷ xs) session ordinal = if x.handle == session then x.ordinal == ordinal else has_ordinal xs session ordinal

-- the event tells a state of a listed session, by its handle and its ordinal
abbrev pub is_of_session : List Session → Event → Bool
is_of_session xs (event.State ordinal session state) = has_ordinal xs session ordinal
is_of_session xs (event.Lost n) = false

-- the state of a session that these events tell last, or what it was before them
abbrev pub last_told : ℕ → Option SessionState → List Event → Option SessionState
last_told session before [] = before
last_told session before (event.State ordinal other state ∷ events) = last_told session (if other == session then Some state else before) events
last_told session before (event.Lost n ∷ events) = last_told session before events

-- These events came to a queue. They tell of the listed sessions alone, and of each one last the state in which it is now. A
-- session of which they don't tell is in the state in which it was.
pub record AreTold (events : List Event) (q new : Queue) (xs ys : List Session) : Type 0 where
  pub queue : new ≡ pushed_all q events
  pub own : list_all (is_of_session ys) events ≡ true
  pub last : (session : ℕ) → is_some (state_at ys session) ≡ true → last_told session (state_at xs session) events ≡ state_at ys session

-- they came to that of a state, and are all that was done with it up to a new state
abbrev pub Tell : List Event → State → State → Type 0
Tell events s new = AreTold events s.core.events new.core.events s.core.sessions new.core.sessions

abbrev pub is_poll : Call → Bool
is_poll (ask.PollEvent instance) = true
is_poll _ = false

-- the entry is a poll that tells something
abbrev pub polls : State → Entry → Bool
polls s e = is_poll e.call && is_success (step s e).1.reply.code

-- the entry is the end of an instance
abbrev pub ends : State → Entry → Bool
ends s e = is_instance_end e.call && is_success (step s e).1.reply.code

-- so it is by each entry of a legal history but for polls that tell something and for the end of the instance
abbrev pub StatesAreTold : Type 0
StatesAreTold =
    (settings : Settings) (es : List Entry) (e : Entry) → IsLegal settings (es ++ e ∷ [])
    → polls (after (opening settings) es) e ≡ false → ends (after (opening settings) es) e ≡ false
    → (events : List Event) × Tell events (after (opening settings) es) (step (after (opening settings) es) e).0

-- no event and no count of losses is left behind the end of the instance
abbrev pub EventsGo : Type 0
EventsGo = (s : State) (e : Entry) → ends s e ≡ true → (step s e).0.core.events ≡ no_events

-- ---- histories

-- the event that an answer gives, and that a poll tells
abbrev pub event_given : Gives → Option Event
event_given (gives.Event event) = Some event
event_given _ = None

abbrev pub told_by : State → Entry → Option Event
told_by s e = if polls s e then event_given (step s e).1.reply.gives else None

-- the queue after a history, with what its polls have told
abbrev pub trace_by : Trace → State → Entry → Trace
trace_by t s e = record { queue = (step s e).0.core.events; told = t.told ++ event_told (told_by s e); losses = t.losses + losses_told (told_by s e) }

abbrev pub trace_from : Trace → State → List Entry → Trace
trace_from t s [] = t
trace_from t s (e ∷ es) = trace_from (trace_by t s e) (step s e).0 es

-- The events that come by an entry, told whether it is such a poll: by that none, and else those that tell of sessions.
abbrev pub ComeBy : Bool → State → Entry → List Event → Type 0
ComeBy true s e events = events ≡ []
ComeBy false s e events = Tell events s (step s e).0

-- the events that come by a history, entry by entry
abbrev pub CameBy : State → List Entry → List Event → Type 0
CameBy s [] came = came ≡ []
CameBy s (e ∷ es) came = (here rest : List Event) × (came ≡ here ++ rest) × ComeBy (polls s e) s e here × CameBy (step s e).0 es rest

-- some entry of a history is the end of the instance
abbrev pub end_in : State → List Entry → Bool
end_in s [] = false
end_in s (e ∷ es) = ends s e || end_in (step s e).0 es

-- From where nothing waits and nothing was lost, and as long as the instance isn't ended, the states of sessions that came add
-- up: to what polls told, to what was lost and to what waits.
abbrev pub HistoriesAddUp : Type 0
HistoriesAddUp =
    (settings : Settings) (es fs : List Entry) → IsLegal settings (es ++ fs)
    → (after (opening settings) es).core.events ≡ no_events → end_in (after (opening settings) es) fs ≡ false
    → (came : List Event) × CameBy (after (opening settings) es) fs came
    × (length came ≤ most_lost → AddsUp came (trace_from no_trace (after (opening settings) es) fs))
