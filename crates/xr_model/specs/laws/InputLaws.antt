-- What a sync hears, which bindings are live, what inputs give, what a column shows, and which user paths an action declares.
use Rattle.std.specs.Prelude.{◌≡◌, ◌↔◌, ◌≤◌, ◌&&◌, not, int_le, int_lt, pos, ℕ, ℤ, Bool, true, false, List, Option, Some, None, slice_get, if◌then◌else◌}
use Rattle.std.specs.List.{list_all, list_any}
use Rattle.std.specs.Ordering.{int_eq}
use Rattle.xr_types.specs.Code.{is_success}
use Rattle.xr_types.specs.InputNames.{is_digital, is_value}
use Rattle.xr_types.specs.Users.{user_place}
use Rattle.xr_types.specs.declared.calls.Call.TheVariants as ask
use Rattle.xr_types.specs.declared.code.Code.TheVariants.{SessionNotFocused}
use Rattle.xr_types.specs.declared.device.DeviceEvent.TheVariants as event
use Rattle.xr_types.specs.declared.input.ActiveSet.{ActiveSet}
use Rattle.xr_types.specs.declared.input.Column.{Column}
use Rattle.xr_types.specs.declared.input.Found.{Found}
use Rattle.xr_types.specs.declared.input.Heard.{Heard}
use Rattle.xr_types.specs.declared.input.Part.TheVariants as part
use Rattle.xr_types.specs.declared.input.Profile.{Profile}
use Rattle.xr_types.specs.declared.input.Ranked.{Ranked}
use Rattle.xr_types.specs.declared.input.User.{User}
use Rattle.xr_types.specs.declared.session.SessionState.{SessionState}
use Rattle.xr_types.specs.declared.session.SessionState.TheVariants.{Focused}
use Rattle.xr_model.specs.machine.Bindings.{suggestions_of}
use Rattle.xr_model.specs.machine.Calls.{Entry}
use Rattle.xr_model.specs.machine.Rules.Session.{life_of, columns_of}
use Rattle.xr_model.specs.machine.Rules.Sets.{user_at, declared_by}
use Rattle.xr_model.specs.machine.Rules.Sync.{bindings_of}
use Rattle.xr_model.specs.machine.Sets as sets
use Rattle.xr_model.specs.machine.Sets.{action_at, is_declared, no_users}
use Rattle.xr_model.specs.machine.State.{CoreState, Settings, State, opening}
use Rattle.xr_model.specs.machine.Sync.{is_heard, is_live, is_down, amount, axes, column_after, is_same_user}
use Rattle.xr_model.specs.machine.Machine.{step}
use Rattle.xr_model.specs.machine.History.{after}
use Rattle.xr_model.specs.laws.DeviceStateLaws.{are_checked, events_of, pressed_from, released_below, value_told}
use Rattle.xr_model.specs.laws.WordLaws.{has_good_numbers}
use Rattle.xr_model.specs.laws.SyncLaws.{is_row}

-- ---- which bindings a sync has

-- It was suggested for the profile that is connected at its own user path, and what is told of its action is what the listed action has.
pub record IsOfTheConnected (s : CoreState) (b : Ranked) : Type 0 where
  pub profile : Profile
  pub connected : slice_get s.device.profiles (user_place b.bound.pick.user) ≡ Some (Some profile)
  pub place : ℕ
  pub suggested : slice_get (suggestions_of s.suggestions profile) place ≡ Some b.bound
  pub action : sets.Action
  pub listed : action_at s.inputs b.bound.action ≡ Some action
  pub set : b.set ≡ action.set
  pub kind : b.kind ≡ action.type
  pub declared : b.declared ≡ action.declared

-- so it is with each binding of a sync
abbrev pub BindingsAreOfTheConnected : Type 0
BindingsAreOfTheConnected = (s : CoreState) (k : ℕ) (b : Ranked) → slice_get (bindings_of s) k ≡ Some b → IsOfTheConnected s b

-- ---- which bindings are heard, and which are live

-- for all user paths, or for this one
abbrev pub IsFor : Option User → User → Type 0
IsFor None who = Unit {0}
IsFor (Some only) who = user_place only ≡ user_place who

-- an item of the call names the binding's set, for all user paths or for the binding's
pub record IsListed (active : List Heard) (b : Ranked) : Type 0 where
  pub place : ℕ
  pub item : Heard
  pub there : slice_get active place ≡ Some item
  pub set : item.set ≡ b.set
  pub user : IsFor item.user b.bound.pick.user

abbrev pub HeardAreListed : Type 0
HeardAreListed = (active : List Heard) (b : Ranked) → (is_heard active b ≡ true) ↔ IsListed active b

-- the same user path and the same identifier
abbrev pub HaveOneSource : Ranked → Ranked → Type 0
HaveOneSource a b = (user_place a.bound.pick.user ≡ user_place b.bound.pick.user) × (a.bound.pick.identifier ≡ b.bound.pick.identifier)

-- A binding is live exactly where it is heard, and each heard one of its source has at most its priority.
abbrev pub LiveHaveTheLargestPriority : Type 0
LiveHaveTheLargestPriority =
    (active : List Heard) (all : List Ranked) (b : Ranked)
    → (is_live active all b ≡ true)
    ↔ ((is_heard active b ≡ true) × ((k : ℕ) (o : Ranked) → slice_get all k ≡ Some o → is_heard active o ≡ true → HaveOneSource o b → o.priority ≤ b.priority))

-- ---- what an input gives, from its event on

-- A click or a touch is down from the value 1 up, which is the whole of a float. A value isn't below 0, and an axis is as it is told. An
-- analogue input is down from the upper threshold up, and not below the lower one.
pub record GivesFromNow (s : State) (who : User) (row : ℕ) (told : ℤ) : Type 0 where
  pub down : is_digital row ≡ true → is_down s.core.device.inputs who (part.Digital row) ≡ int_le (pos 1) told
  pub whole : is_digital row ≡ true → amount s.core.device.inputs who (part.Digital row) ≡ (if int_le (pos 1) told then pos 32768 else pos 0)
  pub value : is_digital row ≡ false → is_value row ≡ true → amount s.core.device.inputs who (part.Analogue row) ≡ (if int_lt told (pos 0) then pos 0 else told)
  pub axis : is_digital row ≡ false → is_value row ≡ false → amount s.core.device.inputs who (part.Analogue row) ≡ told
  pub pressed : is_digital row ≡ false → int_le pressed_from told ≡ true → is_down s.core.device.inputs who (part.Analogue row) ≡ true
  pub released : is_digital row ≡ false → int_lt told released_below ≡ true → is_down s.core.device.inputs who (part.Analogue row) ≡ false

abbrev pub InputsGiveFromTheirEvents : Type 0
InputsGiveFromTheirEvents =
    (settings : Settings) (es : List Entry) (e : Entry) (who : User) (row : ℕ) (value : ℤ) → are_checked es ≡ true → has_good_numbers e.call ≡ true → is_row row ≡ true
    → e.call ≡ ask.Device (event.Input who row value) → GivesFromNow (step (after (opening settings) es) e).0 who row value

-- A vector has both axes as they were told last, the one that its part names first in front.
abbrev pub VectorsAreTheirAxes : Type 0
VectorsAreTheirAxes =
    (settings : Settings) (es : List Entry) (who : User) (across up : ℕ) → are_checked es ≡ true → is_row across ≡ true → is_row up ≡ true
    → axes (after (opening settings) es).core.device.inputs who (part.Both across up) ≡ (value_told who across (events_of es), value_told who up (events_of es))

-- ---- what changes

-- the numbers that a column shows, zero where it is inactive
abbrev pub shown_x : Column → ℤ
shown_x c = if c.active then c.x else pos 0

abbrev pub shown_y : Column → ℤ
shown_y c = if c.active then c.y else pos 0

-- An active column has changed exactly where one of its numbers isn't the one that it showed. The time is that of the sync's clock where
-- it has, else the time before, and 0 where the column was inactive.
pub record TellsTheChange (clock : ℤ) (old new : Column) : Type 0 where
  pub same : new.changed ≡ false → (int_eq new.x (shown_x old) ≡ true) × (int_eq new.y (shown_y old) ≡ true)
  pub other : new.changed ≡ true → int_eq new.x (shown_x old) && int_eq new.y (shown_y old) ≡ false
  pub now : new.changed ≡ true → new.time ≡ clock
  pub earlier : new.changed ≡ false → old.active ≡ true → new.time ≡ old.time
  pub never : new.changed ≡ false → old.active ≡ false → new.time ≡ pos 0

abbrev pub ChangesAreTold : Type 0
ChangesAreTold = (clock : ℤ) (before : Column) (found : Found) → found.active ≡ true → TellsTheChange clock before (column_after clock before found)

-- ---- a sync of a session that isn't focused

abbrev pub is_in_focus : SessionState → Bool
is_in_focus Focused = true
is_in_focus _ = false

-- A sync that succeeds says that the session isn't focused exactly where it isn't, and leaves none of its columns active then.
pub record SyncsInFocus (s : State) (e : Entry) (session : ℕ) : Type 0 where
  pub told : ((step s e).1.reply.code ≡ SessionNotFocused) ↔ (is_in_focus (life_of s.core session).state ≡ false)
  pub inactive : is_in_focus (life_of s.core session).state ≡ false → list_all (λ row. list_all (λ c. not c.active) row) (columns_of (step s e).0.core session) ≡ true

abbrev pub UnfocusedSyncsAreInactive : Type 0
UnfocusedSyncsAreInactive =
    (s : State) (e : Entry) (session : ℕ) (active : List ActiveSet) → e.call ≡ ask.SyncActions session active → is_success (step s e).1.reply.code ≡ true → SyncsInFocus s e session

-- ---- which user paths an action declares

-- the atom is that of the user path
abbrev pub named : User → Option User → Bool
named who None = false
named who (Some other) = is_same_user other who

abbrev pub names_user : List (List ℕ) → User → ℕ → Bool
names_user atoms who sub = named who (user_at atoms sub)

-- an action declares exactly the user paths whose atoms are listed
abbrev pub ActionsDeclareTheirAtoms : Type 0
ActionsDeclareTheirAtoms =
    (atoms : List (List ℕ)) (subs : List ℕ) (who : User) → is_declared (declared_by atoms no_users subs) who ≡ list_any (names_user atoms who) subs
