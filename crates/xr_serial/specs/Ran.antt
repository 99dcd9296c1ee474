-- A run of a scenario beside a device: the one history that its lists are of.
use Rattle.std.specs.Prelude.{◌≡◌, ℕ, List, [], ◌++◌, Option}
use Rattle.xr_types.specs.declared.calls.Actor.TheVariants.{Device}
use Rattle.xr_types.specs.declared.device.DeviceEvent.{DeviceEvent}
use Rattle.xr_types.specs.declared.made.Lists.{Lists}
use Rattle.xr_types.specs.declared.scenario.Scenario.{Scenario}
use Rattle.xr_model.specs.machine.Calls.{Entry}
use Rattle.xr_model.specs.machine.State.{opening}
use Rattle.xr_model.specs.machine.History.{IsLegal, calls_of}
use Rattle.xr_model.specs.runs.Scripts.{FollowsSoFar}
use Rattle.xr_model.specs.device_text.DeviceText.{DeviceStream, Ending}
use Rattle.xr_model.specs.runs.Robin.{device_calls, first_agendas, IsRobin, agendas_left}
use Rattle.xr_model.specs.runs.Lists.{lists_of, events_in}
use Rattle.xr_model.specs.laws.FrameLaws.{shown_from, submitted_from}
use Rattle.xr_runs.specs.Runs.{IsWhole, AreSound, settings_of, OfEachScript, Gave}

-- A run of a scenario: a legal history of the machine of one thread, the round robin's beside this device, in which each
-- application's calls follow its script. The device gave so many events, of what it has told if it told anything. The lists
-- are those of this history, so each reply is the machine's at its call's place, and the frames are those that the history
-- shows; they tell next calls exactly where the run can't go on. Where it came to its end these frames are all that were submitted.
pub record Ran (scenario : Scenario) (told : Option DeviceStream) (count : ℕ) (lists : Lists) : Type 0 where
  pub history : List Entry
  pub events : List DeviceEvent
  pub ending : Option Ending
  pub gave : Gave told count events ending
  pub sound : AreSound lists.events
  pub legal : IsLegal (settings_of scenario) history
  pub robin : IsRobin (settings_of scenario) scenario (device_calls events ending) history
  pub follow : OfEachScript scenario history FollowsSoFar
  pub device : (rest : List DeviceEvent) × (device_calls events ending ≡ events_in (calls_of (settings_of scenario) Device history) ++ rest)
  pub whole : lists.next ≡ [] → IsWhole scenario events ending history
  pub shown : lists.compositor ≡ shown_from (opening (settings_of scenario)) history
  pub submitted : lists.next ≡ [] → lists.compositor ≡ submitted_from (opening (settings_of scenario)) history
  pub made : lists ≡ lists_of (settings_of scenario) history (agendas_left (opening (settings_of scenario)) (first_agendas scenario (device_calls events ending)) history)
