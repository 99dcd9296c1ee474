-- A run is done exactly where all is done.
use Rattle.std.proofs.Common.{◌≡◌, ℕ, Bool, true, false, List, [], ◌∷◌, Option, Some, None, refl, ap, true≢false}
use Rattle.std.specs.Prelude.{◌↔◌, if◌then◌else◌}
use Rattle.std.specs.List.{list_any}
use Rattle.xr_types.specs.declared.device.DeviceEvent.{DeviceEvent}
use Rattle.xr_types.specs.declared.device.DeviceEvent.TheVariants.{Fault, Garbled}
use Rattle.xr_types.specs.declared.made.Waiting.{Waiting}
use Rattle.xr_types.specs.declared.status.Status.{Status}
use Rattle.xr_types.specs.declared.status.Status.TheVariants.{Done, Usage, OpenFault, ReadFault, ScenarioRefused, DeviceFailed, DeviceGarbled, Stuck, WriteFault, NoMemory}
use Rattle.xr_model.specs.report.RunEnding.{is_fault, first_garbled, unless_garbled, stuck_or_done, ending_of, exit_of}
use Rattle.xr_model.specs.laws.RunLaws.{ends_early, DoneExactlyWhereAllIsDone}

-- where a fault or a malformed line is among the events, the device ended early, and nowhere else
early_parts : (events : List DeviceEvent)
    → (list_any ends_early events ≡ false) ↔ ((list_any is_fault events ≡ false) × (first_garbled events ≡ None))
early_parts [] = (λ none. (refl, refl), λ both. refl)
early_parts (e ∷ es) = by e (early_parts es)
  where
    by : (e : DeviceEvent) → ((list_any ends_early es ≡ false) ↔ ((list_any is_fault es ≡ false) × (first_garbled es ≡ None)))
        → (list_any ends_early (e ∷ es) ≡ false) ↔ ((list_any is_fault (e ∷ es) ≡ false) × (first_garbled (e ∷ es) ≡ None))
    by Fault more = (λ none. absurd (true≢false none), λ both. absurd (true≢false both.0))
    by (Garbled line) more = (λ none. absurd (true≢false none), λ both. cc)
    by _ more = more

ended : (fault : Bool) (garbled : Option ℕ) (next : List Waiting)
    → ((if fault then DeviceFailed else unless_garbled garbled (stuck_or_done next)) ≡ Done) ↔ ((next ≡ []) × (fault ≡ false) × (garbled ≡ None))
ended true garbled next = (λ done. cc, λ all. absurd (true≢false all.1))
ended false (Some line) next = (λ done. cc, λ all. let none = all.2 in cc)
ended false None [] = (λ done. (refl, refl, refl), λ all. refl)
ended false None (w ∷ ws) = (λ done. cc, λ all. let none = all.0 in cc)

only_done : (status : Status) → exit_of status ≡ 0 → status ≡ Done
only_done Done zero_is = refl
only_done Usage zero_is = cc
only_done OpenFault zero_is = cc
only_done ReadFault zero_is = cc
only_done (ScenarioRefused why) zero_is = cc
only_done DeviceFailed zero_is = cc
only_done (DeviceGarbled line) zero_is = cc
only_done Stuck zero_is = cc
only_done WriteFault zero_is = cc
only_done NoMemory zero_is = cc

pub done_exactly_where_all_is_done : DoneExactlyWhereAllIsDone
done_exactly_where_all_is_done lists =
    let parts = early_parts lists.events in
    let all = ended (list_any is_fault lists.events) (first_garbled lists.events) lists.next in
    record {
      done = (λ done. ((all.0 done).0, parts.1 ((all.0 done).1, (all.0 done).2)), λ both. all.1 (both.0, (parts.0 both.1).0, (parts.0 both.1).1));
      exit = (λ zero_is. only_done (ending_of lists) zero_is, λ done. ap exit_of done);
    }
