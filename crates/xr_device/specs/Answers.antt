-- What the answers of a device say.
use Rattle.std.specs.Prelude.{◌≡◌, ◌<◌, ◌≤◌, ℕ, ◌+◌, ◌&&◌, Bool, true, false, [], ◌∷◌, Option, Some, None}
use Rattle.xr_io.specs.Outside.{Rose}
use Rattle.xr_types.specs.declared.device.DeviceEvent.{DeviceEvent}
use Rattle.xr_types.specs.Device.{checks}
use Rattle.xr_model.specs.laws.DeviceLaws.{is_of_line}
use Rattle.xr_model.specs.device_text.DeviceText.{DeviceStream, nothing_more, garbled_at}
use Rattle.xr_device.specs.Prospect.{Prospect}
use Rattle.xr_device.specs.WholeLines.{GaveWholeLines}
use Rattle.xr_device.specs.declared.Next.{Next}
use Rattle.xr_device.specs.declared.Next.TheVariants as next

-- ---- by the kind of an answer

-- what holds of the event, where the answer is one
abbrev pub OnEvent : Next → (DeviceEvent → Type 0) → Type 0
OnEvent (next.Event e) P = P e
OnEvent next.End P = Unit {0}
OnEvent (next.Garbled line) P = Unit {0}
OnEvent next.Failed P = Unit {0}

-- what holds where the answer is any but an event
abbrev pub UnlessEvent : Next → Type 0 → Type 0
UnlessEvent (next.Event e) P = Unit {0}
UnlessEvent next.End P = P
UnlessEvent (next.Garbled line) P = P
UnlessEvent next.Failed P = P

-- what holds where the device couldn't be read on
abbrev pub OnFailed : Next → Type 0 → Type 0
OnFailed (next.Event e) P = Unit {0}
OnFailed next.End P = Unit {0}
OnFailed (next.Garbled line) P = Unit {0}
OnFailed next.Failed P = P

-- what holds unless the device couldn't be read on
abbrev pub UnlessFailed : Next → Type 0 → Type 0
UnlessFailed (next.Event e) P = P
UnlessFailed next.End P = P
UnlessFailed (next.Garbled line) P = P
UnlessFailed next.Failed P = Unit {0}

-- ---- events

-- how many events were given, with this answer
abbrev pub given_with : Next → ℕ → ℕ
given_with (next.Event e) given = given + 1
given_with next.End given = given
given_with (next.Garbled line) given = given
given_with next.Failed given = given

-- an event that a device may tell: its numbers are in range, and a line tells it
pub record IsTold (e : DeviceEvent) : Type 0 where
  pub checked : checks e ≡ true
  pub line : is_of_line e ≡ true

abbrev pub may_tell : DeviceEvent → Bool
may_tell e = checks e && is_of_line e

-- ---- what was to come, and what is still to come

-- the line of this number is malformed
abbrev pub garbled : ℕ → DeviceStream
garbled number = record { events = []; ending = garbled_at number }

-- this event was the first to come, and the rest is still to come
abbrev pub IsFirst : DeviceEvent → DeviceStream → Option DeviceStream → Type 0
IsFirst e before None = ⊥
IsFirst e before (Some rest) = before ≡ record { events = e ∷ rest.events; ending = rest.ending }

-- An event is the first that was to come; the end and a garbled line come only where no event was left to come, and are
-- the ending that was told. Nothing is said where nothing was told, and a device that couldn't be read on may have had
-- anything to come.
abbrev pub Tells : Option DeviceStream → Option DeviceStream → Next → Type 0
Tells None after answer = Unit {0}
Tells (Some before) after (next.Event e) = IsFirst e before after
Tells (Some before) after next.End = before ≡ nothing_more
Tells (Some before) after (next.Garbled line) = before ≡ garbled line
Tells (Some before) after next.Failed = Unit {0}

-- ---- what it is read from

-- It is read on from the same place of the same file, and is late only if it was.
pub record ReadsOn (old new : Prospect) : Type 0 where
  pub which : new.which ≡ old.which
  pub begun : new.begun ≡ old.begun
  pub text : new.text ≡ old.text
  pub late : old.late ≡ false → new.late ≡ false

-- its events are just those of the whole lines that were taken of its text, where that is told
abbrev pub GaveItsLines : Prospect → Type 0
GaveItsLines p = GaveWholeLines p.text p.taken p.given

-- ---- an answer, all of it

-- What an answer says of the device before and behind it. After any answer but an event nothing is to come, and the answer is
-- `End` from then on. A count of faults changes only where it couldn't be read on, and then it has given the events of all whole lines
-- that were taken.
pub record NextOf (old : Prospect) (answer : Next) (new : Prospect) : Type 0 where
  pub remaining : Tells old.remaining new.remaining answer
  pub sound : OnEvent answer (λ e. IsTold e)
  pub given : new.given ≡ given_with answer old.given
  pub last : UnlessEvent answer ((new.remaining ≡ Some nothing_more) × (new.over ≡ true))
  pub over : old.over ≡ true → answer ≡ next.End
  pub fewer : OnEvent answer (λ e. new.bound < old.bound)
  pub bound : new.bound ≤ old.bound
  pub later : old.faults ≤ new.faults
  pub kept : UnlessFailed answer (new.faults ≡ old.faults)
  pub cause : OnFailed answer (Rose old.faults new.faults)
  pub reads : ReadsOn old new
  pub lines : OnFailed answer (GaveItsLines new)
