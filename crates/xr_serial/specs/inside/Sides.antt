-- What a turn of an application, the device or the compositor does.
use Rattle.std.specs.Prelude.{◌≡◌, ℕ, ℤ, pos, ◌+◌, Bool, true, false, List, [], ◌∷◌, ◌++◌, length, drop, map, Option, Some, None}
use Rattle.xr_types.specs.declared.calls.Actor.TheVariants.{App, Compositor, Device}
use Rattle.xr_types.specs.declared.device.DeviceEvent.{DeviceEvent}
use Rattle.xr_types.specs.declared.calls.Reply.{Reply}
use Rattle.xr_types.specs.declared.frames.Shown.{Shown}
use Rattle.xr_types.specs.declared.scenario.Op.{Op}
use Rattle.xr_types.specs.declared.scenario.Scenario.{Scenario}
use Rattle.xr_model.specs.machine.Calls.{Outcome, Exchange}
use Rattle.xr_types.specs.declared.calls.Call.{Call}
use Rattle.xr_types.specs.declared.calls.Call.TheVariants as ask
use Rattle.xr_model.specs.machine.State.{State}
use Rattle.xr_model.specs.machine.Frames.{is_empty}
use Rattle.xr_model.specs.scenario.ScriptForm.{IsInRange}
use Rattle.xr_model.specs.runs.Robin.{clock_behind}
use Rattle.xr_types.specs.CallKinds.{with_start}
use Rattle.xr_model.specs.machine.Machine.{ready}
use Rattle.xr_model.specs.runs.NameValues.{with_name_value, no_values}
use Rattle.xr_model.specs.runs.Scripts.{request_for}
use Rattle.xr_model.specs.runs.Lists.{made_at}
use Rattle.xr_serial.specs.inside.Made.{IsAnswered, asked}
use Rattle.xr_serial.specs.inside.RunState.{AppState, CompositorState, RunState}
use Rattle.xr_runs.specs.Sides.{exchange_of, SideState, side_with}

-- ---- an application

-- an application before its first call
abbrev pub new_app : List Op → AppState
new_app ops = record { made = 0; names = no_values (length ops); calls = []; clock = pos 0; has_left = false }

-- a run before its first call
abbrev pub first_run : Scenario → RunState
first_run scenario = record { apps = map new_app scenario.scripts; side = record { pending = None; over = false; events = []; calls = [] }; compositor = record { frames = []; replies = []; done = []; ended = None } }

-- once the call of its next op was made, which leaves this clock
abbrev pub app_with : AppState → Op → Exchange → ℤ → AppState
app_with app op t clock = record {
  made = app.made + 1;
  names = with_name_value app.names (app.made + 1) op t.outcome.reply;
  calls = app.calls ++ made_at (app.made + 1) t ∷ [];
  clock = clock;
  has_left = app.has_left;
}

-- once it has left
abbrev pub app_left : AppState → Exchange → ℤ → AppState
app_left app t clock = record app { calls = app.calls ++ made_at (app.made + 1) t ∷ []; clock = clock; has_left = true }

-- what the call of an op asks, where a wait begins at this clock
abbrev pub op_request : AppState → Op → Call
op_request app op = with_start app.clock (request_for app.names op)

-- The call of its next op was made.
pub record OpMade (number : ℕ) (ops : List Op) (old new : AppState) (s after : State) : Type 0 where
  pub op : Op
  pub outcome : Outcome
  pub here : drop old.made ops ≡ op ∷ drop (old.made + 1) ops
  pub ranged : IsInRange op
  pub call : IsAnswered s after (App number) (op_request old op) outcome
  pub app : new ≡ app_with old op (exchange_of (op_request old op) outcome) (clock_behind old.clock (request_for old.names op) after)

-- It has to wait, and all is as it was.
pub record OpWaits (number : ℕ) (ops : List Op) (old new : AppState) (s after : State) : Type 0 where
  pub op : Op
  pub here : drop old.made ops ≡ op ∷ drop (old.made + 1) ops
  pub waits : ready s (asked (App number) (op_request old op)) ≡ false
  pub same : after ≡ s
  pub app : new ≡ old

abbrev pub OpTurn : ℕ → List Op → AppState → AppState → State → State → Bool → Type 0
OpTurn number ops old new s after true = OpMade number ops old new s after
OpTurn number ops old new s after false = OpWaits number ops old new s after

-- It has left.
pub record Leaves (number : ℕ) (old new : AppState) (s after : State) : Type 0 where
  pub outcome : Outcome
  pub call : IsAnswered s after (App number) ask.Leave outcome
  pub app : new ≡ app_left old (exchange_of ask.Leave outcome) after.core.device.clock

-- ---- the device

-- the event's call was made
pub record EventMade (event : DeviceEvent) (old new : SideState) (s after : State) : Type 0 where
  pub outcome : Outcome
  pub call : IsAnswered s after Device (ask.Device event) outcome
  pub side : new ≡ side_with old event (exchange_of (ask.Device event) outcome)

-- it has to wait, and all is as it was
pub record EventWaits (event : DeviceEvent) (old new : SideState) (s after : State) : Type 0 where
  pub waits : ready s (asked Device (ask.Device event)) ≡ false
  pub same : after ≡ s
  pub side : new ≡ old

abbrev pub EventTurn : DeviceEvent → SideState → SideState → State → State → Bool → Type 0
EventTurn event old new s after true = EventMade event old new s after
EventTurn event old new s after false = EventWaits event old new s after

-- ---- the compositor

-- once its call was answered so: it was shown a frame, or told the end
abbrev pub compositor_with : CompositorState → Reply → Option Shown → CompositorState
compositor_with c reply None = record c { ended = Some reply }
compositor_with c reply (Some frame) = record c { frames = c.frames ++ frame ∷ []; replies = c.replies ++ reply ∷ [] }

-- its call for a frame was made, and it holds no image
pub record FrameMade (old new : CompositorState) (s after : State) : Type 0 where
  pub outcome : Outcome
  pub unheld : s.cells.held ≡ []
  pub call : IsAnswered s after Compositor ask.NextFrame outcome
  pub compositor : new ≡ compositor_with old outcome.reply outcome.shown

-- it has to wait for a frame, holds no image, and all is as it was
pub record FrameWaits (old new : CompositorState) (s after : State) : Type 0 where
  pub unheld : s.cells.held ≡ []
  pub waits : ready s (asked Compositor ask.NextFrame) ≡ false
  pub same : after ≡ s
  pub compositor : new ≡ old

abbrev pub FrameTurn : CompositorState → CompositorState → State → State → Bool → Type 0
FrameTurn old new s after true = FrameMade old new s after
FrameTurn old new s after false = FrameWaits old new s after

-- it gave back one of the images that it holds
pub record ImageReturned (old new : CompositorState) (s after : State) : Type 0 where
  pub outcome : Outcome
  pub holds : is_empty s.cells.held ≡ false
  pub call : IsAnswered s after Compositor ask.ImageDone outcome
  pub compositor : new ≡ record old { done = old.done ++ s.core.locked ∷ [] }
