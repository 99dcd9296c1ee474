-- What contracts see of the two kinds of devices: one that reads a text, and one that holds its events.
use Rattle.std.specs.Prelude.{ℕ, ◌+◌, ◌-◌, ◌==◌, ◌||◌, Bool, false, List, length, min, Option, Some, None, if◌then◌else◌}
use Rattle.xr_io.specs.Outside.{SourceState}
use Rattle.xr_io.specs.declared.Which.TheVariants.{Device}
use Rattle.xr_types.specs.declared.device.DeviceEvent.{DeviceEvent}
use Rattle.xr_model.specs.device_text.DeviceText.{DeviceStream, ends, nothing_more}
use Rattle.xr_types.specs.declared.limits.TheConstants.{MOST_DEVICE}
use Rattle.xr_device.specs.Prospect.{Prospect}
use Rattle.xr_device.specs.Texts.{late_in, text_from}

-- A reading of a text: what the rest of it tells, where its bytes are told; whether the reading is over; how many events it
-- gave; the bytes that it holds, and how many were used before them; whether it knows that its source has ended; and the source.
pub record TextReading : Type 0 where
  pub text : Option DeviceStream
  pub over : Bool
  pub given : ℕ
  pub held : List ℕ
  pub used : ℕ
  pub ended : Bool
  pub source : SourceState

-- how many bytes it took: those that it used, and those that it holds
abbrev pub taken_by : TextReading → ℕ
taken_by r = r.used + length r.held

-- how many were taken of its source before it began
abbrev pub begun_at : TextReading → ℕ
begun_at r = r.source.taken.count - taken_by r

-- a read was late, or the next one would be
abbrev pub is_late : TextReading → Bool
is_late r = late_in r.source (r.ended || r.over)

-- nothing is to come once the reading is over; an event takes at least a byte of the text
abbrev pub of_text : TextReading → Prospect
of_text r = record {
  remaining = if r.over then Some nothing_more else r.text;
  over = r.over;
  given = r.given;
  bound = if r.over then 0 else MOST_DEVICE - r.used;
  faults = r.source.faults;
  which = r.source.which;
  begun = begun_at r;
  text = text_from (begun_at r) r.source;
  taken = taken_by r;
  late = is_late r;
}

-- A list of events: those that are still to come, and how many were given.
pub record Stored : Type 0 where
  pub events : List DeviceEvent
  pub given : ℕ

-- no list has more than so many, and it never fails
abbrev pub of_list : Stored → Prospect
of_list s = record {
  remaining = Some (record { events = s.events; ending = ends });
  over = length s.events == 0;
  given = s.given;
  bound = min (length s.events) MOST_DEVICE;
  faults = 0;
  which = Device;
  begun = 0;
  text = None;
  taken = 0;
  late = false;
}
