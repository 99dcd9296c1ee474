-- What a run of a scenario beside a device is, in turn on one thread or on threads.
use Rattle.std.specs.Prelude.{◌≡◌, ◌<◌, ◌≤◌, ◌+◌, ◌^◌, ℕ, true, false, List, [], ◌∷◌, ◌++◌, length, slice_index_or, Option, Some, None, IfSome}
use Rattle.std.specs.List.{sum_by}
use Rattle.xr_types.specs.declared.calls.Actor.TheVariants.{App, Compositor, Device}
use Rattle.xr_types.specs.declared.calls.Gives.TheVariants.{Ended, Nothing, Shown}
use Rattle.xr_types.specs.declared.code.Code.TheVariants.{Success}
use Rattle.xr_types.specs.declared.device.DeviceEvent.{DeviceEvent}
use Rattle.xr_types.specs.declared.device.DeviceEvent.TheVariants.{Fault}
use Rattle.xr_types.specs.declared.limits.TheConstants.{MOST_SCRIPTS}
use Rattle.xr_types.specs.declared.scenario.Op.{Op}
use Rattle.xr_types.specs.declared.scenario.Scenario.{Scenario}
use Rattle.xr_model.specs.scenario.ScriptForm.{AllInForm}
use Rattle.xr_model.specs.machine.Calls.{Entry, Exchange}
use Rattle.xr_types.specs.declared.calls.Call.TheVariants as ask
use Rattle.xr_types.specs.Device.{checks}
use Rattle.xr_model.specs.machine.State.{Settings, with_apps}
use Rattle.xr_model.specs.machine.History.{calls_of}
use Rattle.xr_model.specs.runs.Scripts.{Follows}
use Rattle.xr_model.specs.device_text.DeviceText.{DeviceStream, Ending}
use Rattle.xr_model.specs.runs.Robin.{device_calls, last_event}
use Rattle.xr_model.specs.runs.Lists.{events_in}
use Rattle.xr_model.specs.report.RunEnding.{is_fault, is_garbled}
use Rattle.xr_device.specs.Prospect.{Prospect}
use Rattle.xr_device.specs.Answers.{GaveItsLines}

-- A scenario that can be run: it has one to eight scripts, each in form, and fewer than 2^22 ops in all.
pub record CanBeRun (scenario : Scenario) : Type 0 where
  pub some : 1 ≤ length scenario.scripts
  pub most : length scenario.scripts ≤ MOST_SCRIPTS
  pub few : sum_by length scenario.scripts < 2 ^ 22
  pub formed : AllInForm scenario.scripts

-- a machine of as many applications as the scenario has scripts
abbrev pub settings_of : Scenario → Settings
settings_of scenario = with_apps (length scenario.scripts)

-- These are the events of a device that gave so many, and its ending, none where it couldn't be read on. Where it told what
-- it has to give and could be read, they are all of that. Else they are just those that it gave, which it had told if it told
-- any.
abbrev pub Gave : Option DeviceStream → ℕ → List DeviceEvent → Option Ending → Type 0
Gave None count events ending = length events ≡ count
Gave (Some t) count events None = (rest : List DeviceEvent) × (t.events ≡ events ++ rest) × (length events ≡ count)
Gave (Some t) count events (Some ending) = (t.events ≡ events) × (t.ending ≡ ending) × (count ≤ length events)

-- A device that couldn't be read on: what it did are these events, as many as it has given, and then its fault. They are the first of
-- what it had told, if it told any, and just those of the whole lines that were taken of its text, where that is told.
pub record FailsBehind (start now : Prospect) (events : List DeviceEvent) : Type 0 where
  pub given : List DeviceEvent
  pub events_are : events ≡ given ++ Fault ∷ []
  pub count : now.given ≡ start.given + length given
  pub told : IfSome start.remaining (λ t. (rest : List DeviceEvent) × (t.events ≡ given ++ rest))
  pub lines : GaveItsLines now

-- an event that a line of the device's text tells: its numbers are in range, and it is neither a fault nor a malformed line
pub record IsLineEvent (e : DeviceEvent) : Type 0 where
  pub checked : checks e ≡ true
  pub faultless : is_fault e ≡ false
  pub formed : is_garbled e ≡ false

abbrev pub AreLineEvents : List DeviceEvent → Type 0
AreLineEvents [] = Unit {0}
AreLineEvents (e ∷ es) = IsLineEvent e × AreLineEvents es

-- all of these are such events, but that a fault or a malformed line may be the last
pub record AreSound (events : List DeviceEvent) : Type 0 where
  pub told : List DeviceEvent
  pub ending : Option Ending
  pub events_are : events ≡ told ++ last_event ending
  pub each : AreLineEvents told

-- the calls of each application have this to do with its script
abbrev pub OfEachScript : Scenario → List Entry → (List Op → List Exchange → Type 0) → Type 0
OfEachScript scenario history P =
    (place : ℕ) → place < length scenario.scripts → P (slice_index_or scenario.scripts place []) (calls_of (settings_of scenario) (App (place + 1)) history)

-- A call of the compositor behind which it goes on: it was shown a frame, or gave back an image.
pub data GoesOn (t : Exchange) : Type 0 where
  a_frame : t.call ≡ ask.NextFrame → t.outcome.reply.gives ≡ Shown → GoesOn t
  an_image : t.call ≡ ask.ImageDone → t.outcome.reply.code ≡ Success → t.outcome.reply.gives ≡ Nothing → GoesOn t

-- it went on so, and then was told the end
abbrev pub IsEnd : List Exchange → Type 0
IsEnd [] = ⊥
IsEnd (t ∷ []) = (t.call ≡ ask.NextFrame) × (t.outcome.reply.gives ≡ Ended)
IsEnd (t ∷ u ∷ ts) = GoesOn t × IsEnd (u ∷ ts)

-- All has come to its end: each application's calls are all of its script's ops and then `leave`, the compositor was told
-- the end, and the device did all that it had to do.
pub record IsWhole (scenario : Scenario) (events : List DeviceEvent) (ending : Option Ending) (history : List Entry) : Type 0 where
  pub follow : OfEachScript scenario history Follows
  pub ends : IsEnd (calls_of (settings_of scenario) Compositor history)
  pub device : events_in (calls_of (settings_of scenario) Device history) ≡ device_calls events ending
