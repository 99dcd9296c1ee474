-- A load beside the device of its events.
use Rattle.std.proofs.Common.{◌≡◌, ℕ, Bool, true, false, Some, List, refl, subst, arith}
use Rattle.std.specs.List.{list_any}
use Rattle.xr_io.specs.Outside.{Rose}
use Rattle.xr_types.specs.declared.device.DeviceEvent.{DeviceEvent}
use Rattle.xr_types.specs.declared.made.Lists.{Lists}
use Rattle.xr_types.specs.declared.scenario.Scenario.{Scenario}
use Rattle.xr_model.specs.device_text.DeviceText.{DeviceStream, ends}
use Rattle.xr_model.specs.report.RunEnding.{is_fault}
use Rattle.xr_model.specs.scenario.LoadScenario.{load_scenario, load_device}
use Rattle.xr_serial.specs.Ran.{Ran}
use Rattle.xr_drive.specs.inside.CallParts.{RunLoad}

-- a device that holds its events never fails
never_rose : Rose 0 0 → ⊥
never_rose rose = omega (arith, rose)

no_fault : (b : Bool) → (b ≡ true → ⊥) → b ≡ false
no_fault true none = absurd (none refl)
no_fault false none = refl

pub load_is_run : (frames : ℕ) (scenario : Scenario) (events : List DeviceEvent) (count : ℕ) (lists : Lists) → scenario ≡ load_scenario frames → events ≡ load_device.events
    → (let stream : DeviceStream = record { events = events; ending = ends } in Ran scenario (Some stream) count lists) → (list_any is_fault lists.events ≡ true → Rose 0 0) → RunLoad frames lists
load_is_run frames scenario events count lists same told ran cause = record {
  runs = record {
    count = count;
    ran = subst (λ (es : List DeviceEvent). let stream : DeviceStream = record { events = es; ending = ends } in Ran (load_scenario frames) (Some stream) count lists) told
        (subst (λ (s : Scenario). let stream : DeviceStream = record { events = events; ending = ends } in Ran s (Some stream) count lists) same ran);
    fails = λ h. tt;
  };
  faultless = no_fault (list_any is_fault lists.events) (λ h. never_rose (cause h));
}
