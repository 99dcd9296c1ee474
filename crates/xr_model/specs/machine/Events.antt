-- The queue of events, and what a poll tells of it (OpenXR 1.0 chapter 2, xrPollEvent). How many it holds, that a full queue drops its
-- oldest event, and that the lost ones are told first is this project's own.
use Rattle.std.specs.Prelude.{ℕ, ◌+◌, ◌-◌, ◌^◌, ◌==◌, nat_lt, min, List, [], ◌∷◌, ◌++◌, length, drop, Option, Some, None, if◌then◌else◌}
use Rattle.xr_types.specs.declared.limits.TheConstants.{EVENTS}
use Rattle.xr_types.specs.declared.session.Event.{Event}
use Rattle.xr_types.specs.declared.session.Event.TheVariants.{Lost}

-- the count of lost events stands still here
abbrev pub most_lost : ℕ
most_lost = 2 ^ 64 - 1

-- the events that wait, the oldest first, and how many were lost since that was last told
pub record Queue : Type 0 where
  pub waiting : List Event
  pub lost : ℕ

abbrev pub no_events : Queue
no_events = record { waiting = []; lost = 0 }

-- an event comes; a full queue drops the oldest one and counts it
abbrev pub pushed : Queue → Event → Queue
pushed q event =
    if nat_lt (length q.waiting) EVENTS then record q { waiting = q.waiting ++ event ∷ [] }
    else record { waiting = drop 1 q.waiting ++ event ∷ []; lost = min (q.lost + 1) most_lost }

abbrev pub oldest : List Event → Option Event
oldest [] = None
oldest (event ∷ events) = Some event

-- what a poll tells: the count of lost events where there are any, else the oldest event
abbrev pub polled : Queue → Option Event
polled q = if q.lost == 0 then oldest q.waiting else Some (Lost q.lost)

-- the queue without what a poll tells
abbrev pub behind_poll : Queue → Queue
behind_poll q = if q.lost == 0 then record q { waiting = drop 1 q.waiting } else record q { lost = 0 }
