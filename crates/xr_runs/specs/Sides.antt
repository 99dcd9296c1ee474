-- What a run keeps of a device and of a compositor: what the device has told, and the calls that were made.
use Rattle.std.specs.Prelude.{ℕ, Bool, List, Option, ◌≡◌, ◌≤◌, ◌+◌, true, false, [], ◌∷◌, ◌++◌, length, Some, None, IfSome}
use Rattle.xr_types.specs.declared.device.DeviceEvent.{DeviceEvent}
use Rattle.xr_types.specs.declared.made.Made.{Made}
use Rattle.std.specs.List.{list_any}
use Rattle.xr_io.specs.Outside.{Rose}
use Rattle.xr_model.specs.machine.Calls.{Outcome, Exchange}
use Rattle.xr_model.specs.device_text.DeviceText.{DeviceStream, Ending}
use Rattle.xr_model.specs.runs.Robin.{last_event}
use Rattle.xr_model.specs.report.RunEnding.{is_fault}
use Rattle.xr_model.specs.runs.Lists.{made_from, events_in, made_at}
use Rattle.xr_device.specs.Prospect.{Prospect}
use Rattle.xr_device.specs.Answers.{GaveItsLines}
use Rattle.xr_device.specs.Told.{IsChecked}
use Rattle.xr_types.specs.declared.calls.Call.{Call}
use Rattle.xr_runs.specs.Runs.{AreLineEvents, GoesOn, Gave}

-- a call and what it came to
abbrev pub exchange_of : Call → Outcome → Exchange
exchange_of what outcome = record { call = what; outcome = outcome }

-- The device: its next event, where that is known, whether nothing more will come behind it, and the events whose calls
-- were made, with these.
pub record SideState : Type 0 where
  pub pending : Option DeviceEvent
  pub over : Bool
  pub events : List DeviceEvent
  pub calls : List Made

abbrev pub pending_list : Option DeviceEvent → List DeviceEvent
pending_list None = []
pending_list (Some e) = e ∷ []

-- the device's side once it was asked
abbrev pub side_asked : SideState → Option DeviceEvent → Bool → SideState
side_asked side pending over = record side { pending = pending; over = over }

-- once the event's call was made
abbrev pub side_with : SideState → DeviceEvent → Exchange → SideState
side_with side event t = record side { pending = None; events = side.events ++ event ∷ []; calls = side.calls ++ made_at (length side.calls + 1) t ∷ [] }

-- The device has given these events so far, and more may come, as it told at the start.
abbrev pub GivesMore : Option DeviceStream → Option DeviceStream → List DeviceEvent → Type 0
GivesMore None now given = Unit {0}
GivesMore (Some t) None given = ⊥
GivesMore (Some t) (Some rest) given = t ≡ record { events = given ++ rest.events; ending = rest.ending }

-- Nothing more comes behind these events, but what it does last by its ending.
pub record GaveAll (told : Option DeviceStream) (given closing : List DeviceEvent) (before now : ℕ) : Type 0 where
  pub ending : Option Ending
  pub gave : Gave told (length given) given ending
  pub last : closing ≡ last_event ending
  pub fault : list_any is_fault closing ≡ true → Rose before now

abbrev pub Came : Prospect → Prospect → List DeviceEvent → List DeviceEvent → Bool → Type 0
Came start now given closing true = GaveAll start.remaining given closing start.faults now.faults
Came start now given closing false = GivesMore start.remaining now.remaining given × (closing ≡ [])

-- its calls, and what it has told of which the call isn't made yet
pub record DeviceKept (side : SideState) (calls : List Exchange) (start now : Prospect) : Type 0 where
  pub given : List DeviceEvent
  pub closing : List DeviceEvent
  pub begun : given ++ closing ≡ events_in calls ++ pending_list side.pending
  pub came : Came start now given closing side.over
  pub counted : now.given ≡ start.given + length given
  pub faultless : list_any is_fault given ≡ false
  pub sound : AreLineEvents given
  pub done : IfSome side.pending IsChecked
  pub list_is : side.calls ≡ made_from 1 calls
  pub events_are : side.events ≡ events_in calls
  pub later : start.faults ≤ now.faults
  pub unfailed : list_any is_fault closing ≡ false → now.faults ≡ start.faults
  pub lines : list_any is_fault closing ≡ true → GaveItsLines now

-- behind each of these calls it goes on
abbrev pub AllGoOn : List Exchange → Type 0
AllGoOn [] = Unit {0}
AllGoOn (t ∷ ts) = GoesOn t × AllGoOn ts
