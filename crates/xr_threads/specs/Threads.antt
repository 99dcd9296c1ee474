-- A run of a scenario on threads: the one history that its lists are of.
use Rattle.std.specs.Prelude.{◌≡◌, ◌+◌, ◌≤◌, ◌<◌, ℕ, true, List, [], length, Option}
use Rattle.xr_types.specs.declared.calls.Actor.{Actor}
use Rattle.xr_types.specs.declared.calls.Actor.TheVariants.{App, Compositor, Device}
use Rattle.xr_types.specs.declared.device.DeviceEvent.{DeviceEvent}
use Rattle.xr_types.specs.declared.made.Lists.{Lists}
use Rattle.xr_types.specs.declared.scenario.Scenario.{Scenario}
use Rattle.xr_device.specs.Prospect.{Prospect}
use Rattle.xr_model.specs.device_text.DeviceText.{DeviceStream, Ending}
use Rattle.xr_model.specs.laws.FrameLaws.{shown_from, submitted_from}
use Rattle.xr_model.specs.laws.Laws.{count_locked}
use Rattle.xr_model.specs.laws.Moments.{opening_moment, calls_by}
use Rattle.xr_model.specs.machine.History.{calls_of, IsLegal}
use Rattle.xr_model.specs.machine.Calls.{Entry}
use Rattle.xr_model.specs.machine.State.{Settings, opening}
use Rattle.xr_model.specs.runs.Lists.{lists_of}
use Rattle.xr_model.specs.laws.MomentLaws.{are_by_callers}
use Rattle.xr_runtime.specs.declared.close.Closed.{Closed}
use Rattle.xr_runtime.specs.Closing.{history_of}
use Rattle.xr_workers.specs.Workers.{IsGated, TurnsGated, FollowsFront, TellsSoFar}
use Rattle.xr_runs.specs.Runs.{settings_of, Gave, AreSound, OfEachScript, IsEnd, IsWhole}

-- The lists of a history in which all have come to their end. How many counted calls came before an image was given back is not known.
abbrev pub lists_on_threads : Settings → List Entry → Lists
lists_on_threads settings history = record (lists_of settings history []) { done = []; next = [] }

-- A run of a scenario on threads, by the history for which its closed runtime stands: a legal history of the machine of one thread, with
-- so many counted calls, in which each entry is by one who may ask for it. It holds each application's calls, which are its script's ops in
-- their order and then `leave`; the compositor's, up to the one that told it the end; the device's, which are all that the device did; and
-- no others. The device gave so many events, of what it has told if it told anything. The lists are those of this history, so each reply is
-- the machine's at its call's place. The frames are all that the history shows, and all that were submitted, in order.
pub record RanOnThreads (closed : Closed) (scenario : Scenario) (told : Option DeviceStream) (count : ℕ) (lists : Lists) : Type 0 where
  pub events : List DeviceEvent
  pub ending : Option Ending
  pub gave : Gave told count events ending
  pub sound : AreSound lists.events
  pub legal : IsLegal (settings_of scenario) (history_of closed)
  pub places : closed.places ≡ count_locked (history_of closed)
  pub by_callers : are_by_callers (history_of closed) ≡ true
  pub whole : IsWhole scenario events ending (history_of closed)
  pub no_others : (n : ℕ) → length scenario.scripts + 2 ≤ n → calls_by n (opening_moment (length scenario.scripts)) (history_of closed) ≡ []
  pub shown : lists.compositor ≡ shown_from (opening (settings_of scenario)) (history_of closed)
  pub submitted : lists.compositor ≡ submitted_from (opening (settings_of scenario)) (history_of closed)
  pub made : lists ≡ lists_on_threads (settings_of scenario) (history_of closed)

-- the same of a run beside a device, which gave as many events as are counted between these two looks at it
abbrev pub RanBeside : Closed → Scenario → Prospect → Prospect → Lists → Type 0
RanBeside closed scenario before now lists = (count : ℕ) × (now.given ≡ before.given + count) × RanOnThreads closed scenario before.remaining count lists

-- What a closed runtime stands for, also where memory was short for a list: a legal history, with so many counted calls. Its calls of each
-- application are those of a first part of its script, and then `leave`; the compositor was told the end by its last; and those of the
-- device, which was asked, are those of the events that it has given. The gate lies round each call of the scripts and of the device, and
-- round each turn of the compositor.
pub record ClosesRun (came went : Actor → ℕ → ℕ → Type 0) (scenario : Scenario) (start now : Prospect) (c : Closed) : Type 0 where
  pub legal : IsLegal (settings_of scenario) (history_of c)
  pub places_are : c.places ≡ count_locked (history_of c)
  pub follow : OfEachScript scenario (history_of c) FollowsFront
  pub ends : IsEnd (calls_of (settings_of scenario) Compositor (history_of c))
  pub tells : TellsSoFar start now (calls_of (settings_of scenario) Device (history_of c))
  pub apps_gated : (place : ℕ) → place < length scenario.scripts → IsGated came went (App (place + 1)) 0 (length (calls_of (settings_of scenario) (App (place + 1)) (history_of c)))
  pub compositor_gated : TurnsGated came went (calls_of (settings_of scenario) Compositor (history_of c))
  pub device_gated : IsGated came went Device 0 (length (calls_of (settings_of scenario) Device (history_of c)))
