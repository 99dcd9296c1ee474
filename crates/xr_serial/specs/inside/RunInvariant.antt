-- What the loop of a run keeps from turn to turn.
use Rattle.std.specs.Prelude.{◌≡◌, ◌≤◌, ◌<◌, ℕ, ◌+◌, ◌*◌, ◌-◌, Bool, true, false, List, [], ◌∷◌, ◌++◌, length, drop, map, Option, Some, None, is_some, slice_index_or, if◌then◌else◌}
use Rattle.std.specs.List.{sum_by}
use Rattle.xr_types.specs.declared.calls.Actor.{Actor}
use Rattle.xr_types.specs.declared.calls.Actor.TheVariants.{App, Compositor, Device}
use Rattle.xr_types.specs.declared.calls.Gives.TheVariants.{Ended}
use Rattle.xr_types.specs.declared.calls.Reply.{Reply}
use Rattle.xr_types.specs.declared.device.DeviceEvent.{DeviceEvent}
use Rattle.xr_types.specs.declared.made.Made.{Made}
use Rattle.xr_types.specs.declared.names.CallName.{CallName}
use Rattle.xr_types.specs.declared.names.CallName.TheVariants as call
use Rattle.xr_types.specs.declared.scenario.Op.{Op}
use Rattle.xr_types.specs.declared.scenario.Scenario.{Scenario}
use Rattle.xr_types.specs.Frames.{PendingFrame}
use Rattle.xr_model.specs.machine.Calls.{Outcome, Exchange}
use Rattle.xr_types.specs.declared.calls.Call.TheVariants as ask
use Rattle.xr_model.specs.machine.State.{State}
use Rattle.xr_model.specs.runs.Scripts.{FollowsFrom, FollowsBy}
use Rattle.xr_model.specs.runs.Lists.{made_from, frames_in, replies_in, events_in}
use Rattle.xr_serial.specs.inside.RunState.{AppState, CompositorState, RunState}
use Rattle.xr_device.specs.Prospect.{Prospect}
use Rattle.xr_serial.specs.inside.Turns.{parts_of}
use Rattle.xr_serial.specs.inside.PastOfRun.{Trace, Standing}
use Rattle.xr_runs.specs.Sides.{exchange_of, SideState, pending_list, DeviceKept, AllGoOn}

-- ---- an application

-- so many ops of its script were made, by these calls, and gave these values
pub record AppKept (ops : List Op) (app : AppState) (calls : List Exchange) : Type 0 where
  pub within : app.made ≤ length ops
  pub named : length app.names ≡ length ops
  pub list_is : app.calls ≡ made_from 1 calls
  pub count : length calls ≡ app.made + (if app.has_left then 1 else 0)
  pub follows : (all : Bool) (more : List Exchange) → app.has_left ≡ false → FollowsFrom all (app.made + 1) app.names (drop app.made ops) more → FollowsBy all ops (calls ++ more)
  pub whole : (all : Bool) → app.has_left ≡ true → FollowsBy all ops calls

-- each of them, and the state knows who has left
pub record AppsKept (scripts : List (List Op)) (s : State) (apps : List AppState) (calls : Actor → List Exchange) : Type 0 where
  pub count : length apps ≡ length scripts
  pub known : s.core.apps ≡ length scripts
  pub left : s.core.left ≡ map (λ app. app.has_left) apps
  pub each : (place : ℕ) (none : AppState) → place < length scripts → AppKept (slice_index_or scripts place []) (slice_index_or apps place none) (calls (App (place + 1)))

-- ---- the device

-- ---- the compositor

-- none of its calls was told the end, or the last was
abbrev pub EndKept : Option Reply → List Exchange → Type 0
EndKept None calls = AllGoOn calls
EndKept (Some reply) calls =
    (front : List Exchange) × (last : Outcome) × (calls ≡ front ++ exchange_of ask.NextFrame last ∷ []) × AllGoOn front × (last.reply ≡ reply) × (reply.gives ≡ Ended)

-- its frames and their replies are those of its calls
pub record CompositorKept (c : CompositorState) (calls : List Exchange) : Type 0 where
  pub frames_are : c.frames ≡ frames_in calls
  pub replies_are : c.replies ≡ replies_in calls
  pub end : EndKept c.ended calls

-- ---- all

-- How many calls an application still brings at most, `leave` among them: each op its own call, and the compositor's by which it
-- takes the frame that the op may end, of 32 layers at most, and gives back its images, two of a layer at most.
abbrev pub app_work : List Op → AppState → ℕ
app_work ops app = 66 * (length ops - app.made) + (if app.has_left then 0 else 1)

abbrev pub apps_work : List (List Op) → List AppState → ℕ
apps_work (ops ∷ scripts) (app ∷ apps) = app_work ops app + apps_work scripts apps
apps_work _ _ = 0

-- how many of the device at most
abbrev pub side_work : SideState → ℕ → ℕ
side_work side bound = (if is_some side.pending then 1 else 0) + (if side.over then 0 else bound + 1)

abbrev pub end_work : Option Reply → ℕ
end_work ended = if is_some ended then 0 else 1

-- how many of the compositor by these frames: it takes each, and gives back its images
abbrev pub frames_work : List PendingFrame → ℕ
frames_work [] = 0
frames_work (f ∷ fs) = 1 + length f.images + frames_work fs

-- how many calls a run has at most
abbrev pub most_calls : List (List Op) → ℕ
most_calls scripts = 66 * sum_by length scripts + length scripts + 16777218

-- how many of these calls are getters, and of all applications' calls
abbrev pub is_getter_name : CallName → Bool
is_getter_name call.GetBoolean = true
is_getter_name call.GetFloat = true
is_getter_name call.GetVector = true
is_getter_name call.GetPoseActive = true
is_getter_name _ = false

abbrev pub getters_in : List Made → ℕ
getters_in [] = 0
getters_in (m ∷ ms) = (if is_getter_name m.name then 1 else 0) + getters_in ms

abbrev pub getters_of : List AppState → ℕ
getters_of [] = 0
getters_of (app ∷ apps) = getters_in app.calls + getters_of apps

-- how many calls were made: the locked ones, the getters, and the images given back
abbrev pub calls_made : State → RunState → ℕ
calls_made s run = s.core.locked + getters_of run.apps + length run.compositor.done

-- what the frames that are pending and the images that are held still bring
abbrev pub shown_work : State → ℕ
shown_work s = frames_work s.core.frames.pending + length s.cells.held

-- What a turn that makes no call keeps whole: what each actor has made, and how many calls are still to come at most.
pub record RunKept (scenario : Scenario) (s : State) (run : RunState) (calls : Actor → List Exchange) (start now : Prospect) : Type 0 where
  pub apps : AppsKept scenario.scripts s run.apps calls
  pub device : DeviceKept run.side (calls Device) start now
  pub compositor : CompositorKept run.compositor (calls Compositor)
  pub counted : length run.side.calls ≤ s.core.locked
  pub work : calls_made s run + (apps_work scenario.scripts run.apps + side_work run.side now.bound + end_work run.compositor.ended + shown_work s) ≤ most_calls scenario.scripts

-- the events of the calls that the device has made, and what it has told beside them
abbrev pub events_told : SideState → List Exchange → List DeviceEvent
events_told side calls = events_in calls ++ pending_list side.pending

-- what a run with these calls has made
abbrev pub trace_of : RunState → (Actor → List Exchange) → Trace
trace_of run calls = record { calls = calls; clocks = map (λ app. app.clock) run.apps; done = run.compositor.done }

pub record RunInvariant (scenario : Scenario) (turn idle : ℕ) (s : State) (run : RunState) (start now : Prospect) : Type 0 where
  pub calls : Actor → List Exchange
  pub standing : Standing scenario turn idle s run.side.over (events_told run.side (calls Device)) (parts_of scenario s run) (trace_of run calls)
  pub kept : RunKept scenario s run calls start now
