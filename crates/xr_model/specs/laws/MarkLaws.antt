-- What holds of the marks, by which scripts and the device wait for each other.
use Rattle.std.specs.Prelude.{◌≡◌, ◌==◌, ℕ, true, List, [], ◌∷◌, Option, Some, None, is_some, if◌then◌else◌}
use Rattle.xr_types.specs.Device.{is_mark}
use Rattle.xr_types.specs.declared.calls.Gives.TheVariants.{Number}
use Rattle.xr_types.specs.declared.device.DeviceEvent.TheVariants as event
use Rattle.xr_model.specs.machine.Calls.{Entry}
use Rattle.xr_types.specs.declared.calls.Call.{Call}
use Rattle.xr_types.specs.declared.calls.Call.TheVariants as ask
use Rattle.xr_model.specs.machine.State.{Settings, State, opening}
use Rattle.xr_model.specs.machine.Machine.{step, ready}
use Rattle.xr_model.specs.machine.History.{after}

-- the value of a mark after a call, told its value before it; a mark of the device has the value 0
abbrev pub value_after : ℕ → Call → Option ℕ → Option ℕ
value_after number (ask.Mark n value) before = if number == n then Some value else before
value_after number (ask.Device (event.Mark n)) before = if number == n then Some 0 else before
value_after number _ before = before

-- the value that a mark was set to last, told its value before these entries
abbrev pub last_value : ℕ → Option ℕ → List Entry → Option ℕ
last_value number before [] = before
last_value number before (e ∷ es) = last_value number (value_after number e.call before) es

-- an await waits as long as the mark isn't set, and gives the value that the mark was set to last
pub record GivesLast (s : State) (e : Entry) (value : Option ℕ) : Type 0 where
  pub waits : ready s e ≡ is_some value
  pub gives : (v : ℕ) → value ≡ Some v → (step s e).1.reply.gives ≡ Number v

abbrev pub AwaitGivesTheLastValue : Type 0
AwaitGivesTheLastValue =
    (settings : Settings) (es : List Entry) (e : Entry) (number : ℕ) → is_mark number ≡ true → e.call ≡ ask.AwaitMark number
    → GivesLast (after (opening settings) es) e (last_value number None es)

-- the device waits for a mark as long as it isn't set
abbrev pub DeviceAwaitsMarks : Type 0
DeviceAwaitsMarks =
    (settings : Settings) (es : List Entry) (e : Entry) (number : ℕ) → is_mark number ≡ true → e.call ≡ ask.Device (event.Await number)
    → ready (after (opening settings) es) e ≡ is_some (last_value number None es)
