-- What is known of the device after a history: what its events told last. No state is asked, so the counts know nothing of it.
use Rattle.std.specs.Prelude.{◌≡◌, ◌==◌, ◌&&◌, ◌||◌, int_le, int_lt, pos, ℕ, ℤ, Bool, true, false, List, [], ◌∷◌, Option, Some, None, slice_get, if◌then◌else◌}
use Rattle.std.specs.List.{list_all, list_any}
use Rattle.std.specs.Ordering.{int_eq}
use Rattle.xr_types.specs.InputNames.{is_digital}
use Rattle.xr_types.specs.InputValues.{clamped}
use Rattle.xr_types.specs.Users.{user_place}
use Rattle.xr_types.specs.declared.calls.Call.{Call}
use Rattle.xr_types.specs.declared.calls.Call.TheVariants as ask
use Rattle.xr_types.specs.declared.device.DeviceEvent.{DeviceEvent}
use Rattle.xr_types.specs.declared.device.DeviceEvent.TheVariants as event
use Rattle.xr_types.specs.declared.device.Wish.{Wish}
use Rattle.xr_types.specs.declared.device.Wish.TheVariants.{Rest}
use Rattle.xr_types.specs.declared.input.Profile.{Profile}
use Rattle.xr_types.specs.declared.input.User.{User}
use Rattle.xr_model.specs.machine.Calls.{Entry}
use Rattle.xr_model.specs.machine.Device.{Device}
use Rattle.xr_model.specs.machine.Inputs.{value_at, is_pressed_at}
use Rattle.xr_model.specs.machine.LiveSessions.{Session, session_at}
use Rattle.xr_model.specs.machine.State.{Settings, State, opening}
use Rattle.xr_model.specs.machine.Machine.{step}
use Rattle.xr_model.specs.machine.History.{after}
use Rattle.xr_model.specs.machine.Sync.{is_same_user}
use Rattle.xr_model.specs.laws.StateLaws.{lost_to}
use Rattle.xr_model.specs.laws.SyncLaws.{is_row}
use Rattle.xr_model.specs.laws.WordLaws.{has_good_numbers}

-- ---- the events of a history

-- the events that were told, the newest first
abbrev pub with_event : List DeviceEvent → Call → List DeviceEvent
with_event past (ask.Device what) = what ∷ past
with_event past _ = past

abbrev pub events_from : List DeviceEvent → List Entry → List DeviceEvent
events_from past [] = past
events_from past (e ∷ es) = events_from (with_event past e.call) es

abbrev pub events_of : List Entry → List DeviceEvent
events_of es = events_from [] es

-- ---- what was told last

-- the times of the clock that were told
abbrev pub times_told : List DeviceEvent → List ℤ
times_told [] = []
times_told (event.Clock time ∷ past) = time ∷ times_told past
times_told (_ ∷ past) = times_told past

-- The latest of 0 and of these times: it is one of them, and none is later.
pub record IsLatest (times : List ℤ) (clock : ℤ) : Type 0 where
  pub one : int_eq clock (pos 0) || list_any (λ time. int_eq clock time) times ≡ true
  pub later : int_le (pos 0) clock && list_all (λ time. int_le time clock) times ≡ true

-- the base and the period of the grid together
abbrev pub grid_told : List DeviceEvent → ℤ × ℤ
grid_told [] = (pos 0, pos 11111111)
grid_told (event.Grid base period ∷ past) = (base, period)
grid_told (_ ∷ past) = grid_told past

abbrev pub wish_told : List DeviceEvent → Wish
wish_told [] = Rest
wish_told (event.Wish wish ∷ past) = wish
wish_told (_ ∷ past) = wish_told past

abbrev pub stage_told : List DeviceEvent → Bool
stage_told [] = false
stage_told (event.Stage on ∷ past) = on
stage_told (_ ∷ past) = stage_told past

-- The device is as it was told last, from its start on: its clock shows the latest time, the grid is one whole.
pub record IsAsTold (d : Device) (past : List DeviceEvent) : Type 0 where
  pub clock : IsLatest (times_told past) d.clock
  pub base : d.base ≡ (grid_told past).0
  pub period : d.period ≡ (grid_told past).1
  pub wish : d.wish ≡ wish_told past
  pub stage : d.stage ≡ stage_told past

abbrev pub DeviceIsAsTold : Type 0
DeviceIsAsTold = (settings : Settings) (es : List Entry) → IsAsTold (after (opening settings) es).core.device (events_of es)

-- ---- inputs

-- each event's numbers are in range
abbrev pub are_checked : List Entry → Bool
are_checked es = list_all (λ e. has_good_numbers e.call) es

-- the profile that was told last of a user path
abbrev pub profile_told : User → List DeviceEvent → Option Profile
profile_told who [] = None
profile_told who (event.Profile other profile ∷ past) = if is_same_user other who then profile else profile_told who past
profile_told who (_ ∷ past) = profile_told who past

-- the value that an input was told last since the profile of its user path was, as it is stored; 0 where none was
abbrev pub value_told : User → ℕ → List DeviceEvent → ℤ
value_told who row [] = pos 0
value_told who row (event.Profile other profile ∷ past) = if is_same_user other who then pos 0 else value_told who row past
value_told who row (event.Input other of value ∷ past) = if is_same_user other who && (of == row) then clamped of value else value_told who row past
value_told who row (_ ∷ past) = value_told who row past

-- an analogue input counts as pressed from here up, and no longer below that
abbrev pub pressed_from : ℤ
pressed_from = pos 20480

abbrev pub released_below : ℤ
released_below = pos 12288

-- the last value that was told of it, and was not between the two, was one of a pressed input
abbrev pub press_told : User → ℕ → List DeviceEvent → Bool
press_told who row [] = false
press_told who row (event.Profile other profile ∷ past) = if is_same_user other who then false else press_told who row past
press_told who row (event.Input other of value ∷ past) =
    if is_same_user other who && ((of == row) && (int_le pressed_from (clamped of value) || int_lt (clamped of value) released_below)) then int_le pressed_from (clamped of value)
    else press_told who row past
press_told who row (_ ∷ past) = press_told who row past

-- the profile that is connected at each user path is the one told last, where the events' numbers are in range
abbrev pub ProfilesAreAsTold : Type 0
ProfilesAreAsTold =
    (settings : Settings) (es : List Entry) (who : User) → are_checked es ≡ true
    → slice_get (after (opening settings) es).core.device.profiles (user_place who) ≡ Some (profile_told who (events_of es))

-- Each input shows the value told last of its row since the profile of its user path was told, where the events' numbers are in range.
abbrev pub InputsAreAsTold : Type 0
InputsAreAsTold =
    (settings : Settings) (es : List Entry) (who : User) (row : ℕ) → are_checked es ≡ true → is_row row ≡ true
    → value_at (after (opening settings) es).core.device.inputs who row ≡ value_told who row (events_of es)

-- An analogue input counts as pressed exactly where the last value of it, since the profile of its user path, that was not between the
-- two thresholds was one from the upper threshold up.
abbrev pub PressesLast : Type 0
PressesLast =
    (settings : Settings) (es : List Entry) (who : User) (row : ℕ) → are_checked es ≡ true → is_row row ≡ true → is_digital row ≡ false
    → is_pressed_at (after (opening settings) es).core.device.inputs who row ≡ press_told who row (events_of es)

-- ---- a loss

-- A loss takes each listed session to that state, and leaves all else of it.
abbrev pub LossTakesEach : Type 0
LossTakesEach =
    (s : State) (e : Entry) (session : ℕ) (x : Session) → e.call ≡ ask.Device event.Loss → session_at s.core.sessions session ≡ Some x
    → session_at (step s e).0.core.sessions session ≡ Some (record x { life = record x.life { state = lost_to x.life.state } })
