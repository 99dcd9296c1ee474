-- What happens at the device. Its events are this project's own and no statement about the standard.
use Rattle.std.specs.Prelude.{ℤ, int_le, not, slice_set, Bool, false, if◌then◌else◌}
use Rattle.xr_types.specs.declared.device.DeviceEvent.{DeviceEvent}
use Rattle.xr_types.specs.declared.device.DeviceEvent.TheVariants as event
use Rattle.xr_types.specs.declared.calls.Gives.TheVariants.{Nothing}
use Rattle.xr_model.specs.machine.SessionLife.{Changed, unchanged, losing_session, lost_session}
use Rattle.xr_model.specs.machine.LiveSessions.{Session, each_changed, told_changes}
use Rattle.xr_types.specs.Device.{checks}
use Rattle.xr_types.specs.Users.{user_place}
use Rattle.xr_model.specs.machine.Inputs.{with_value, without_values}
use Rattle.xr_model.specs.machine.Marks.{is_set, with_mark}
use Rattle.xr_model.specs.machine.Spaces.{sampled}
use Rattle.xr_model.specs.machine.State.{CoreState}
use Rattle.xr_model.specs.machine.Target.{settled}
use Rattle.xr_model.specs.machine.Rule.{Rule, device, ordinary, done}

abbrev pub later_of : ℤ → ℤ → ℤ
later_of a b = if int_le a b then b else a

-- the live sessions change so, in the order of their creation, and what they go through is told
abbrev pub with_changes : CoreState → (Session → Changed) → CoreState
with_changes s f = record s { sessions = each_changed f s.sessions; events = told_changes s.events f s.sessions }

-- each live session answers its calls by the loss from now on; nothing is told
abbrev pub with_lost : CoreState → CoreState
with_lost s = with_changes s (λ x. unchanged (lost_session x.life))

-- The state behind an event. A mark of the device has the value 0, and its waiting for one changes nothing.
abbrev pub behind_event : CoreState → DeviceEvent → CoreState
behind_event s (event.Clock time) = record s { device = record s.device { clock = later_of s.device.clock time } }
behind_event s (event.Grid base period) = record s { device = record s.device { base = base; period = period } }
behind_event s (event.Wish wish) = settled (record s { device = record s.device { wish = wish } })
behind_event s event.Loss = settled (with_changes s (λ x. losing_session x.life))
behind_event s event.Lost = with_lost s
behind_event s (event.Stage on) = record s { device = record s.device { stage = on } }
behind_event s (event.Profile who profile) =
    record s { device = record s.device { profiles = slice_set s.device.profiles (user_place who) profile; inputs = without_values s.device.inputs who } }
behind_event s (event.Input who row value) = record s { device = record s.device { inputs = with_value s.device.inputs who row value } }
behind_event s (event.Pose origin time pose) = record s { room = sampled s.room origin time pose }
behind_event s (event.Mark mark) = record s { marks = with_mark s.marks mark 0 }
behind_event s event.Fault = with_lost s
behind_event s (event.Garbled line) = with_lost s
behind_event s _ = s

-- the device waits for a mark
abbrev pub is_awaiting : CoreState → DeviceEvent → Bool
is_awaiting s (event.Await number) = not (is_set s.marks number)
is_awaiting s _ = false

abbrev pub device_rule : CoreState → DeviceEvent → Rule
device_rule s what = record (ordinary s) {
  caller = device;
  in_range = checks what;
  waits = is_awaiting s what;
  effect = done (behind_event s what) Nothing;
}
