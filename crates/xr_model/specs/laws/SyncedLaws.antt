-- What a sync leaves in each column: which bindings it has, which it hears, which a column has, and what it shows of what they come to.
use Rattle.std.specs.Prelude.{◌≡◌, ◌↔◌, ◌+◌, ◌==◌, ◌&&◌, ◌++◌, ℕ, ℤ, Bool, true, false, List, Some, is_some, map, slice_get}
use Rattle.std.specs.List.{filter}
use Rattle.std.proofs.Common.{◌⊎◌}
use Rattle.xr_types.specs.Code.{is_success}
use Rattle.xr_types.specs.Users.{user_place}
use Rattle.xr_types.specs.declared.calls.Call.TheVariants as ask
use Rattle.xr_types.specs.declared.handles.Slot.{Slot}
use Rattle.xr_types.specs.declared.input.ActiveSet.{ActiveSet}
use Rattle.xr_types.specs.declared.input.Column.{Column}
use Rattle.xr_types.specs.declared.input.Found.{Found}
use Rattle.xr_types.specs.declared.input.Heard.{Heard}
use Rattle.xr_types.specs.declared.input.Profile.{Profile}
use Rattle.xr_types.specs.declared.input.Ranked.{Ranked}
use Rattle.xr_types.specs.declared.input.User.{User}
use Rattle.xr_types.specs.declared.input.User.TheVariants as user
use Rattle.xr_model.specs.machine.Bindings.{suggestions_of}
use Rattle.xr_model.specs.machine.Calls.{Entry}
use Rattle.xr_model.specs.machine.Rules.Session.{life_of}
use Rattle.xr_model.specs.machine.Rules.Sets.{user_at}
use Rattle.xr_model.specs.machine.Rules.Sync.{bindings_of, heard_by}
use Rattle.xr_model.specs.machine.Sets.{Set, action_at, is_declared, set_at}
use Rattle.xr_model.specs.machine.State.{CoreState, Settings, State, opening}
use Rattle.xr_model.specs.machine.Sync.{found_at, inactive, is_heard, is_live, live_in}
use Rattle.xr_model.specs.machine.Machine.{step}
use Rattle.xr_model.specs.machine.History.{after, IsLegal}
use Rattle.xr_model.specs.laws.InputLaws.{TellsTheChange, is_in_focus}
use Rattle.xr_model.specs.laws.SyncLaws.{has_some}
use Rattle.xr_model.specs.machine.LiveSessions.{session_at, Session}

-- ---- which bindings a sync has

-- the bindings of a sync at a user path
abbrev pub bindings_at : CoreState → User → List Ranked
bindings_at s who = filter (λ r. user_place r.bound.pick.user == user_place who) (bindings_of s)

-- Those at a user path are what is suggested there for the profile that is connected, of actions that are listed, in the order of the
-- suggestions. Those of the left hand come first, then those of the right one, of the head, of the gamepad and of the treadmill.
pub record BindingsAreInOrder (s : CoreState) : Type 0 where
  pub own : (who : User) (which : Profile) → slice_get s.device.profiles (user_place who) ≡ Some (Some which)
      → map (λ r. r.bound) (bindings_at s who) ≡ filter (λ b. (user_place b.pick.user == user_place who) && is_some (action_at s.inputs b.action)) (suggestions_of s.suggestions which)
  pub all : bindings_of s ≡ bindings_at s user.Left ++ (bindings_at s user.Right ++ (bindings_at s user.Head ++ (bindings_at s user.Gamepad ++ bindings_at s user.Treadmill)))

abbrev pub BindingsAreTheSuggestions : Type 0
BindingsAreTheSuggestions = (s : CoreState) → BindingsAreInOrder s

-- a binding has the place in which its action's handle stands, and the priority of its set
pub record IsRanked (s : CoreState) (b : Ranked) : Type 0 where
  pub slot : Slot
  pub stands : slice_get s.handles.actions b.place ≡ Some slot
  pub own : slot.handle ≡ b.bound.action
  pub set : Set
  pub listed : set_at s.inputs b.set ≡ Some set
  pub priority : b.priority ≡ set.priority

-- So it is with each binding of a sync after a legal history.
abbrev pub BindingsAreRanked : Type 0
BindingsAreRanked =
    (settings : Settings) (es : List Entry) (k : ℕ) (b : Ranked) → IsLegal settings es → slice_get (bindings_of (after (opening settings) es).core) k ≡ Some b
    → IsRanked (after (opening settings) es).core b

-- ---- which sets are heard

-- an item of the call names the binding's set, with 0, or with the atom of the binding's user path
pub record IsAskedFor (atoms : List (List ℕ)) (active : List ActiveSet) (b : Ranked) : Type 0 where
  pub place : ℕ
  pub item : ActiveSet
  pub there : slice_get active place ≡ Some item
  pub set : item.set ≡ b.set
  pub user : (item.sub ≡ 0) ⊎ (user_at atoms item.sub ≡ Some b.bound.pick.user)

-- A sync that succeeds hears just the bindings that its items ask for.
abbrev pub SyncsHearTheirItems : Type 0
SyncsHearTheirItems =
    (s : State) (e : Entry) (session : ℕ) (active : List ActiveSet) (b : Ranked) → e.call ≡ ask.SyncActions session active → is_success (step s e).1.reply.code ≡ true
    → (is_heard (map (heard_by s.core) active) b ≡ true) ↔ IsAskedFor s.core.atoms active b

-- ---- which bindings a column has

-- a live binding of the action in this place, where the column is the first, or that of the binding's own user path, which the action declares
pub record IsOfColumn (active : List Heard) (all : List Ranked) (place column : ℕ) (b : Ranked) : Type 0 where
  pub live : is_live active all b ≡ true
  pub action : b.place ≡ place
  pub user : (column ≡ 0) ⊎ ((column ≡ user_place b.bound.pick.user + 1) × (is_declared b.declared b.bound.pick.user ≡ true))

-- A column has just these, in the order of all.
abbrev pub ColumnsHaveTheirBindings : Type 0
ColumnsHaveTheirBindings =
    (active : List Heard) (all : List Ranked) (place column : ℕ) (counts : Ranked → Bool) → ((b : Ranked) → (counts b ≡ true) ↔ IsOfColumn active all place column b)
    → live_in active all place column ≡ filter counts all

-- ---- what a column shows

-- A column is active exactly where it has a live binding. Then it shows the numbers and the pose that were found, and tells the change from
-- what it showed, at this time; else it shows nothing.
pub record ShowsWhatIsFound (clock : ℤ) (live : List Ranked) (found : Found) (old new : Column) : Type 0 where
  pub active : new.active ≡ has_some live
  pub first : has_some live ≡ true → new.x ≡ found.x
  pub second : has_some live ≡ true → new.y ≡ found.y
  pub pose : has_some live ≡ true → new.origin ≡ found.origin
  pub change : has_some live ≡ true → TellsTheChange clock old new
  pub nothing : has_some live ≡ false → new ≡ inactive

-- in place of each column of the session stands one that shows what its live bindings come to, by the inputs and the clock of the device
-- at the sync
pub record IsSynced (s : State) (session : ℕ) (active : List ActiveSet) (place column : ℕ) (old : Column) (sessions : List Session) : Type 0 where
  pub its : Session
  pub listed : session_at sessions session ≡ Some its
  pub row : List Column
  pub there : slice_get its.columns place ≡ Some row
  pub new : Column
  pub stands : slice_get row column ≡ Some new
  pub shows : ShowsWhatIsFound s.core.device.clock (live_in (map (heard_by s.core) active) (bindings_of s.core) place column)
      (found_at (map (heard_by s.core) active) (bindings_of s.core) s.core.device.inputs place column) old new

-- So it is behind a sync that succeeds of a session that is focused.
abbrev pub SyncsShowWhatIsFound : Type 0
SyncsShowWhatIsFound =
    (s : State) (e : Entry) (session : ℕ) (active : List ActiveSet) (place column : ℕ) (x : Session) (row : List Column) (old : Column) → e.call ≡ ask.SyncActions session active
    → is_success (step s e).1.reply.code ≡ true → is_in_focus (life_of s.core session).state ≡ true → session_at s.core.sessions session ≡ Some x → slice_get x.columns place ≡ Some row
    → slice_get row column ≡ Some old → IsSynced s session active place column old (step s e).0.core.sessions
