-- How a run ends, and what that tells of its device's events.
use Rattle.std.proofs.Common.{◌≡◌, ℕ, Bool, true, false, List, [], ◌∷◌, ◌++◌, Option, Some, None, refl, sym, ◌∙◌}
use Rattle.std.specs.Prelude.{if◌then◌else◌}
use Rattle.std.specs.List.{list_any}
use Rattle.std.proofs.lemmas.Bool.{or_parts}
use Rattle.std.proofs.lemmas.List.Folds.{list_any-append}
use Rattle.xr_types.specs.declared.device.DeviceEvent.{DeviceEvent}
use Rattle.xr_types.specs.declared.device.DeviceEvent.TheVariants as event
use Rattle.xr_types.specs.declared.made.Waiting.{Waiting}
use Rattle.xr_types.specs.declared.status.Status.{Status}
use Rattle.xr_types.specs.declared.status.Status.TheVariants.{Done, DeviceFailed, DeviceGarbled, Stuck}
use Rattle.xr_drive.specs.Run.{IsClean}
use Rattle.xr_model.specs.report.RunEnding.{is_fault, is_garbled, garbled_line, first_garbled, stuck_or_done, unless_garbled, ending_by}

-- the four ways to end with a report
abbrev pub IsEnding : Status → Type 0
IsEnding Done = Unit {0}
IsEnding DeviceFailed = Unit {0}
IsEnding (DeviceGarbled line) = Unit {0}
IsEnding Stuck = Unit {0}
IsEnding _ = ⊥

pub is_ending : (events : List DeviceEvent) (next : List Waiting) → IsEnding (ending_by events next)
is_ending events next = by (list_any is_fault events) (first_garbled events) next
  where
    by : (fault : Bool) (line : Option ℕ) (next : List Waiting) → IsEnding (if fault then DeviceFailed else unless_garbled line (stuck_or_done next))
    by true line next = tt
    by false (Some line) next = tt
    by false None [] = tt
    by false None (w ∷ ws) = tt

-- where it failed, an event is a fault
pub fault_of_failed : (events : List DeviceEvent) (next : List Waiting) → ending_by events next ≡ DeviceFailed → list_any is_fault events ≡ true
fault_of_failed events next is = by (list_any is_fault events) (first_garbled events) next is
  where
    by : (fault : Bool) (line : Option ℕ) (next : List Waiting) → (if fault then DeviceFailed else unless_garbled line (stuck_or_done next)) ≡ DeviceFailed → fault ≡ true
    by true line next is = refl
    by false (Some line) next is = cc
    by false None [] is = cc
    by false None (w ∷ ws) is = cc

-- ---- events without a garbled one

none_clean : (e : DeviceEvent) → is_garbled e ≡ false → garbled_line e ≡ None
none_clean (event.Garbled line) is = cc
none_clean _ is = refl

clean_first : (events : List DeviceEvent) → IsClean events → first_garbled events ≡ None
clean_first [] clean = refl
clean_first (e ∷ es) clean = let both = or_parts (is_garbled e) (list_any is_garbled es) clean in rw (none_clean e both.0) (clean_first es both.1)

pub clean_front : (events rest : List DeviceEvent) → IsClean (events ++ rest) → IsClean events
clean_front events rest clean = (or_parts (list_any is_garbled events) (list_any is_garbled rest) (sym (list_any-append is_garbled events rest) ∙ clean)).0

pub clean_both : (events more : List DeviceEvent) → IsClean events → IsClean more → IsClean (events ++ more)
clean_both events more front behind = list_any-append is_garbled events more ∙ rw (front, behind) refl

-- no line is told where none is garbled
pub never_garbled : (events : List DeviceEvent) (next : List Waiting) (line : ℕ) → IsClean events → ending_by events next ≡ DeviceGarbled line → ⊥
never_garbled events next line clean is = by (list_any is_fault events) next (rw (clean_first events clean) at is)
  where
    by : (fault : Bool) (next : List Waiting) → (if fault then DeviceFailed else unless_garbled None (stuck_or_done next)) ≡ DeviceGarbled line → ⊥
    by true next is = cc
    by false [] is = cc
    by false (w ∷ ws) is = cc
