-- The device's worker on its way.
use Rattle.std.specs.Prelude.{◌≡◌, ◌≤◌, ◌+◌, Bool, true, false, List, [], ◌∷◌, length, None}
use Rattle.atomic_table.specs.Seated.{TableId}
use Rattle.xr_types.specs.declared.calls.Reply.{Reply}
use Rattle.xr_types.specs.declared.device.DeviceEvent.{DeviceEvent}
use Rattle.xr_types.specs.declared.limits.TheConstants.{MOST_DEVICE}
use Rattle.xr_types.specs.declared.made.Made.{Made}
use Rattle.xr_device.specs.Prospect.{Prospect}
use Rattle.xr_device.specs.Answers.{ReadsOn}
use Rattle.xr_model.specs.machine.Calls.{Outcome, Exchange}
use Rattle.xr_types.specs.declared.calls.Call.TheVariants as ask
use Rattle.xr_runtime.specs.declared.passes.DevicePass.{DevicePass}
use Rattle.xr_runtime.specs.Passes.{IsDevice}
use Rattle.xr_workers.specs.Workers.{Adds}
use Rattle.xr_runs.specs.Sides.{exchange_of, DeviceKept, SideState}

-- The event's call is one more of the pass's own, it writes nothing, and the pass keeps its promise.
pub record MadeEvent (table : TableId) (old : DevicePass) (event : DeviceEvent) (reply : Reply) (new : DevicePass) : Type 0 where
  pub is : IsDevice table new
  pub outcome : Outcome
  pub adds : Adds old.seat.me.0.know new.seat.me.0.know (exchange_of (ask.Device event) outcome ∷ [])
  pub replies : outcome.reply ≡ reply
  pub writes : outcome.text ≡ []

-- the device's side between two answers, or once nothing more comes
abbrev pub side_of : List DeviceEvent → List Made → Bool → SideState
side_of events list over = record { pending = None; over = over; events = events; calls = list }

-- These events were told and their calls made and listed; and where more may come, how many are still to come at most; where nothing more
-- comes the device says so.
pub record MadeEvents (table : TableId) (start now : Prospect) (old new : DevicePass) (events : List DeviceEvent) (list : List Made) (over : Bool) : Type 0 where
  pub is : IsDevice table new
  pub calls : List Exchange
  pub adds : Adds old.seat.me.0.know new.seat.me.0.know calls
  pub kept : DeviceKept (side_of events list over) calls start now
  pub few : over ≡ false → length calls + now.bound ≤ MOST_DEVICE
  pub ends : over ≡ true → now.over ≡ true
  pub reads : ReadsOn start now
