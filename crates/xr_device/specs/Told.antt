-- What a device told a run that asked it what comes next.
use Rattle.std.specs.Prelude.{◌≡◌, ◌<◌, ◌≤◌, ◌+◌, Bool, true, false, Option, Some, None, IfSome}
use Rattle.xr_types.specs.declared.device.DeviceEvent.{DeviceEvent}
use Rattle.xr_types.specs.declared.device.DeviceEvent.TheVariants as event
use Rattle.xr_types.specs.Device.{checks}
use Rattle.xr_io.specs.Outside.{Rose}
use Rattle.xr_device.specs.Prospect.{Prospect}
use Rattle.xr_device.specs.Answers.{Tells, IsTold, GaveItsLines, ReadsOn}
use Rattle.xr_device.specs.declared.Next.TheVariants as next
use Rattle.xr_device.specs.declared.told.Told.{Told}

-- an event whose call the core may be asked: its numbers are in range
pub record IsChecked (e : DeviceEvent) : Type 0 where
  pub checked : checks e ≡ true

-- the event that comes next, and whether it is the last: an event, the end, a malformed line, or a fault
abbrev pub Comes : Prospect → Prospect → Option DeviceEvent → Bool → Type 0
Comes old new (Some e) false = Tells old.remaining new.remaining (next.Event e) × IsTold e × (new.bound < old.bound) × (new.faults ≡ old.faults) × (new.given ≡ old.given + 1)
Comes old new None true = Tells old.remaining new.remaining next.End × (new.bound ≤ old.bound) × (new.faults ≡ old.faults) × (new.given ≡ old.given)
Comes old new (Some event.Fault) true = Rose old.faults new.faults × (new.bound ≤ old.bound) × (new.given ≡ old.given) × GaveItsLines new
Comes old new (Some (event.Garbled line)) true = Tells old.remaining new.remaining (next.Garbled line) × (new.bound ≤ old.bound) × (new.faults ≡ old.faults) × (new.given ≡ old.given)
Comes old new _ _ = ⊥

-- All that is known once it was asked.
pub record HasTold (old : Prospect) (told : Told) (new : Prospect) : Type 0 where
  pub comes : Comes old new told.event told.is_last
  pub checked : IfSome told.event IsChecked
  pub over : told.is_last ≡ true → new.over ≡ true
  pub later : old.faults ≤ new.faults
  pub reads : ReadsOn old new
