-- Which column a getter reads, what it tells of it, what a new session shows, and that columns don't outlive their action or their
-- session, nor spaces move with an action that is gone.
use Rattle.std.specs.Prelude.{◌≡◌, ◌↔◌, ◌+◌, ◌==◌, not, pos, ℕ, Bool, true, false, List, Option, Some, None, slice_get}
use Rattle.std.proofs.Common.{◌⊎◌}
use Rattle.std.specs.List.{list_all}
use Rattle.xr_types.specs.Code.{is_success}
use Rattle.xr_types.specs.declared.calls.Call.{Call}
use Rattle.xr_types.specs.declared.calls.Call.TheVariants as ask
use Rattle.xr_types.specs.declared.calls.Gives.{Gives}
use Rattle.xr_types.specs.declared.calls.Gives.TheVariants as gives
use Rattle.xr_types.specs.declared.handles.Slot.{Slot}
use Rattle.xr_types.specs.declared.input.Column.{Column}
use Rattle.xr_types.specs.declared.spaces.Root.{Root}
use Rattle.xr_types.specs.declared.spaces.Root.TheVariants.{Fixed, Action}
use Rattle.xr_model.specs.machine.Calls.{Entry}
use Rattle.xr_model.specs.machine.Destroyed.{has_action}
use Rattle.xr_model.specs.machine.Publication.{Publication, PublishedAction, column_by}
use Rattle.xr_model.specs.machine.Spaces.{Space, space_at}
use Rattle.xr_model.specs.machine.State.{CoreState, Settings, State, opening}
use Rattle.xr_model.specs.machine.Machine.{step, IsAllowed}
use Rattle.xr_model.specs.machine.History.{after, IsLegal}
use Rattle.xr_model.specs.laws.DeviceStateLaws.{are_checked}
use Rattle.xr_model.specs.laws.LocationLaws.{IsColumnOf}
use Rattle.xr_model.specs.machine.LiveSessions.{session_at, Session}
use Rattle.xr_model.specs.machine.Rules.Session.{columns_of}
use Rattle.xr_model.specs.laws.SessionLaws.{is_session_creation}

-- ---- the column that a getter reads

-- By 0 it is the first one. By the atom of a user path that the action declares it is the one behind as many as the user path's place
-- has before it, and that one itself.
abbrev pub IsNamedBy : Publication → PublishedAction → ℕ → ℕ → Type 0
IsNamedBy p a sub k = ((sub ≡ 0) × (k ≡ 0)) ⊎ ((place : ℕ) × (k ≡ place + 1) × (slice_get p.atoms place ≡ Some sub) × (slice_get a.declared place ≡ Some true))

abbrev pub GettersReadTheNamedColumn : Type 0
GettersReadTheNamedColumn = (p : Publication) (a : PublishedAction) (sub k : ℕ) → column_by p a sub ≡ Some k → IsNamedBy p a sub k

-- ---- what a getter tells

-- the session of a getter, its action, and the number that it has for a user path
abbrev pub asked_of : Call → Option (ℕ × ℕ × ℕ)
asked_of (ask.GetBoolean session action sub) = Some (session, action, sub)
asked_of (ask.GetFloat session action sub) = Some (session, action, sub)
asked_of (ask.GetVector session action sub) = Some (session, action, sub)
asked_of (ask.GetPoseActive session action sub) = Some (session, action, sub)
asked_of _ = None

-- What each getter tells of a column: a boolean is false where the column shows 0, a float is its first number, a vector both. All but
-- that of a pose tell whether it has changed and since when, and all whether it is active.
abbrev pub TellsOf : Column → Call → Gives → Type 0
TellsOf c (ask.GetBoolean session action sub) (gives.Boolean told) =
    ((told.value ≡ false) ↔ (c.x ≡ pos 0)) × (told.changed ≡ c.changed) × (told.time ≡ c.time) × (told.active ≡ c.active)
TellsOf c (ask.GetFloat session action sub) (gives.Float told) = (told.value ≡ c.x) × (told.changed ≡ c.changed) × (told.time ≡ c.time) × (told.active ≡ c.active)
TellsOf c (ask.GetVector session action sub) (gives.Vector told) =
    (told.x ≡ c.x) × (told.y ≡ c.y) × (told.changed ≡ c.changed) × (told.time ≡ c.time) × (told.active ≡ c.active)
TellsOf c (ask.GetPoseActive session action sub) (gives.Active active) = active ≡ c.active
TellsOf c _ _ = ⊥

-- it tells of the column of that number, in the place in which the action's handle stands, in the session that is asked
pub record TellsItsColumn (s : CoreState) (session action sub : ℕ) (what : Call) (told : Gives) : Type 0 where
  pub its : Session
  pub listed : session_at s.sessions session ≡ Some its
  pub place : ℕ
  pub slot : Slot
  pub stands : slice_get s.handles.actions place ≡ Some slot
  pub own : slot.handle ≡ action
  pub row : List Column
  pub there : slice_get its.columns place ≡ Some row
  pub column : ℕ
  pub asked : IsColumnOf s.atoms sub column
  pub shown : Column
  pub stood : slice_get row column ≡ Some shown
  pub tells : TellsOf shown what told

-- So it is with each getter that succeeds after a legal history, where the device told numbers in range.
abbrev pub GettersTellTheirColumns : Type 0
GettersTellTheirColumns =
    (settings : Settings) (es : List Entry) (e : Entry) (session action sub : ℕ) → IsLegal settings es → are_checked es ≡ true → asked_of e.call ≡ Some (session, action, sub)
    → is_success (step (after (opening settings) es) e).1.reply.code ≡ true
    → TellsItsColumn (after (opening settings) es).core session action sub e.call (step (after (opening settings) es) e).1.reply.gives

-- ---- what a column shows between two syncs

-- the call may change what actions show in the session with this handle: a sync of it, or the end of a session, of an action, or of
-- what is above these
abbrev pub may_change_columns : Call → ℕ → Bool
may_change_columns (ask.SyncActions session active) handle = session == handle
may_change_columns (ask.DestroyInstance instance) handle = true
may_change_columns (ask.DestroySession session) handle = true
may_change_columns (ask.DestroyActionSet set) handle = true
may_change_columns (ask.DestroyAction action) handle = true
may_change_columns _ handle = false

-- no other call changes any; where there is no session nothing is shown
abbrev pub ColumnsStay : Type 0
ColumnsStay = (s : State) (e : Entry) (session : ℕ) → may_change_columns e.call session ≡ false → columns_of (step s e).0.core session ≡ columns_of s.core session

-- ---- what comes and goes with a session

-- behind the end of a session it is listed no more, and its columns with it
abbrev pub ColumnsGoWithTheSession : Type 0
ColumnsGoWithTheSession =
    (s : State) (e : Entry) (session : ℕ) → e.call ≡ ask.DestroySession session → is_success (step s e).1.reply.code ≡ true → session_at (step s e).0.core.sessions session ≡ None

abbrev pub are_inactive : List Column → Bool
are_inactive row = list_all (λ c. not c.active) row

-- in a new session no column is active
abbrev pub NewSessionsShowNothing : Type 0
NewSessionsShowNothing =
    (settings : Settings) (es : List Entry) (e : Entry) (x : Session) → IsLegal settings es → IsAllowed (after (opening settings) es) e → is_session_creation e.call ≡ true
    → is_success (step (after (opening settings) es) e).1.reply.code ≡ true → session_at (step (after (opening settings) es) e).0.core.sessions e.given ≡ Some x
    → list_all are_inactive x.columns ≡ true

-- ---- what goes with an action

-- the call ends actions
abbrev pub is_action_end : Call → Bool
is_action_end (ask.DestroyAction action) = true
is_action_end (ask.DestroyActionSet set) = true
is_action_end _ = false

-- Where it succeeds, a place in which no action stands behind it has no active column in any session, and no space moves with such a
-- place.
pub record LeavesNoColumn (s : State) (e : Entry) : Type 0 where
  pub columns : (session place : ℕ) (row : List Column) → slice_get (columns_of (step s e).0.core session) place ≡ Some row → has_action (step s e).0.core.handles.actions place ≡ false → are_inactive row ≡ true
  pub spaces : (k : ℕ) (x : Space) (place column : ℕ) → slice_get (step s e).0.core.room.spaces k ≡ Some x → x.root ≡ Some (Action place column) → has_action (step s e).0.core.handles.actions place ≡ true

abbrev pub ColumnsGoWithTheAction : Type 0
ColumnsGoWithTheAction = (s : State) (e : Entry) → is_action_end e.call ≡ true → is_success (step s e).1.reply.code ≡ true → LeavesNoColumn s e

-- ---- what stays where an action or a session goes

-- the call ends actions, or a session
abbrev pub ends_some : Call → Bool
ends_some (ask.DestroySession session) = true
ends_some (ask.DestroyAction action) = true
ends_some (ask.DestroyActionSet set) = true
ends_some _ = false

-- what a space moves with is there: an origin of its own, nothing, or the place of an action that stands
abbrev pub moves_on : CoreState → Option Root → Bool
moves_on s None = true
moves_on s (Some (Fixed what)) = true
moves_on s (Some (Action place column)) = has_action s.handles.actions place

-- in a session that is left a place in which an action stands shows what it showed, and a space that is left, and moves with no action
-- that went, is as it was
pub record KeepsOthers (s new : CoreState) : Type 0 where
  pub columns : (session : ℕ) (old x : Session) (place : ℕ) → session_at s.sessions session ≡ Some old → session_at new.sessions session ≡ Some x → has_action new.handles.actions place ≡ true
      → slice_get x.columns place ≡ slice_get old.columns place
  pub spaces : (handle : ℕ) (old x : Space) → space_at s.room.spaces handle ≡ Some old → space_at new.room.spaces handle ≡ Some x → moves_on new old.root ≡ true → x ≡ old

-- So it is where an action, a set or a session is destroyed.
abbrev pub OthersKeepWhatTheyShow : Type 0
OthersKeepWhatTheyShow = (s : State) (e : Entry) → ends_some e.call ≡ true → is_success (step s e).1.reply.code ≡ true → KeepsOthers s.core (step s e).0.core
