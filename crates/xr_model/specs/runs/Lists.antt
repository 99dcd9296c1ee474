-- What a history made: each application's calls with their replies, the frames that were shown, and how the compositor ended.
use Rattle.std.specs.Prelude.{zero, suc, ℕ, ◌+◌, List, [], ◌∷◌, ◌++◌, map, Option, Some, None, if◌then◌else◌}
use Rattle.xr_types.specs.declared.calls.Actor.TheVariants.{App, Compositor, Device}
use Rattle.xr_types.specs.declared.calls.Reply.{Reply}
use Rattle.xr_types.specs.declared.made.Lists.{Lists}
use Rattle.xr_types.specs.declared.made.Made.{Made}
use Rattle.xr_types.specs.declared.made.Waiting.{Waiting}
use Rattle.xr_types.specs.declared.device.DeviceEvent.{DeviceEvent}
use Rattle.xr_types.specs.declared.device.DeviceEvent.TheVariants as event
use Rattle.xr_types.specs.declared.names.CallName.TheVariants as call
use Rattle.xr_model.specs.machine.Calls.{Entry, Exchange}
use Rattle.xr_types.specs.CallKinds.{listed_as, listed_name}
use Rattle.xr_types.specs.declared.calls.Call.{Call}
use Rattle.xr_types.specs.declared.calls.Call.TheVariants as ask
use Rattle.xr_types.specs.declared.frames.Shown.{Shown}
use Rattle.xr_model.specs.machine.State.{Settings, State, opening}
use Rattle.xr_model.specs.machine.Machine.{step}
use Rattle.xr_model.specs.machine.History.{shown_if, calls_of}
use Rattle.xr_model.specs.runs.Robin.{Agenda, script, events, compositor, next_call, in_round, is_ended}

-- a call at its place in the script
abbrev pub made_at : ℕ → Exchange → Made
made_at place t = listed_as t.call place t.outcome.reply t.outcome.text

-- calls, from a place on
abbrev pub made_from : ℕ → List Exchange → List Made
made_from place [] = []
made_from place (t ∷ ts) = made_at place t ∷ made_from (place + 1) ts

-- the calls of the applications from 1 to n
abbrev pub lists_to : Settings → ℕ → List Entry → List (List Made)
lists_to settings zero history = []
lists_to settings (suc n) history = lists_to settings n history ++ made_from 1 (calls_of settings (App (suc n)) history) ∷ []

-- the reply that told the end
abbrev pub end_of : List Exchange → Option Reply
end_of [] = None
end_of (t ∷ ts) = if is_ended t.outcome.reply.gives then Some t.outcome.reply else end_of ts

-- the frames that the compositor's calls show, and the replies of these calls
abbrev pub frames_in : List Exchange → List Shown
frames_in [] = []
frames_in (t ∷ ts) = shown_if t.outcome.shown ++ frames_in ts

abbrev pub reply_if_shown : Option Shown → Reply → List Reply
reply_if_shown None reply = []
reply_if_shown (Some frame) reply = reply ∷ []

abbrev pub replies_in : List Exchange → List Reply
replies_in [] = []
replies_in (t ∷ ts) = reply_if_shown t.outcome.shown t.outcome.reply ++ replies_in ts

-- the events of the device's calls
abbrev pub event_in : Call → List DeviceEvent
event_in (ask.Device what) = what ∷ []
event_in _ = []

abbrev pub events_in : List Exchange → List DeviceEvent
events_in [] = []
events_in (t ∷ ts) = event_in t.call ++ events_in ts

-- for each image that was given back, how many locked calls were made before
abbrev pub done_at : State → Call → List ℕ
done_at s ask.ImageDone = s.core.locked ∷ []
done_at s _ = []

abbrev pub done_from : State → List Entry → List ℕ
done_from s [] = []
done_from s (e ∷ es) = done_at s e.call ++ done_from (step s e).0 es

-- the next call of an actor of a run that can't go on; the compositor waits for a frame, since it may always give back an image
abbrev pub mark_awaited : DeviceEvent → ℕ
mark_awaited (event.Await number) = number
mark_awaited _ = 0

abbrev pub waiting_of : Agenda → Waiting
waiting_of (script app place ops values clock) = record { actor = App app; op = place; name = listed_name (next_call (script app place ops values clock)) }
waiting_of (events e es) = record { actor = Device; op = mark_awaited e; name = call.Await }
waiting_of (compositor held) = record { actor = Compositor; op = 0; name = call.NextFrame }

-- The lists of a history behind which these actors can't go on.
abbrev pub lists_of : Settings → List Entry → List Agenda → Lists
lists_of settings history left = record {
  apps = lists_to settings settings.apps history;
  device = made_from 1 (calls_of settings Device history);
  compositor = frames_in (calls_of settings Compositor history);
  ended = end_of (calls_of settings Compositor history);
  shown = replies_in (calls_of settings Compositor history);
  done = done_from (opening settings) history;
  events = events_in (calls_of settings Device history);
  next = map waiting_of (in_round settings.apps left);
}
