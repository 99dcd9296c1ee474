-- What the getters answer from: what was published last (OpenXR 1.0 chapter 11, xrGetActionStateBoolean, xrGetActionStateFloat,
-- xrGetActionStateVector2f and xrGetActionStatePose). That getters read a publication is this project's own.
use Rattle.std.specs.Prelude.{ℕ, ℤ, pos, ◌+◌, ◌==◌, ◌&&◌, not, Bool, true, false, List, [], ◌∷◌, map, slice_get, Option, Some, None, is_none, option_map, option_and_then, unwrap_or, if◌then◌else◌}
use Rattle.std.specs.List.{find, list_any, position_from}
use Rattle.std.specs.Ordering.{int_eq}
use Rattle.xr_types.specs.declared.calls.Gives.{Gives}
use Rattle.xr_types.specs.declared.calls.Gives.TheVariants as gives
use Rattle.xr_types.specs.declared.code.Code.TheVariants.{HandleInvalid, ActionsetNotAttached, ActionTypeMismatch, PathUnsupported}
use Rattle.xr_types.specs.declared.handles.Kind.TheVariants as kind
use Rattle.xr_types.specs.declared.input.ActionType.{ActionType}
use Rattle.xr_types.specs.declared.input.ActionType.TheVariants as type
use Rattle.xr_types.specs.declared.input.Column.{Column}
use Rattle.xr_types.specs.declared.input.User.{User}
use Rattle.xr_types.specs.Printed.{all_users}
use Rattle.xr_types.specs.Users.{user_place}
use Rattle.xr_model.specs.machine.Handles.{Handles, is_among}
use Rattle.xr_model.specs.machine.HandlePlaces.{place_among}
use Rattle.xr_model.specs.machine.LiveSessions.{Session}
use Rattle.xr_model.specs.machine.Profiles.{user_of}
use Rattle.xr_model.specs.machine.Refusals.{Refusal, when}
use Rattle.xr_model.specs.machine.Sets as sets
use Rattle.xr_model.specs.machine.Sets.{is_declared}
use Rattle.xr_model.specs.machine.SessionRule.{Loss, loss_of}
use Rattle.xr_model.specs.machine.State.{CoreState}

-- what a column shows: all of it but a pose's origin, which no getter tells
pub record ShownColumn : Type 0 where
  pub x : ℤ
  pub y : ℤ
  pub changed : Bool
  pub time : ℤ
  pub active : Bool

-- A live session: its handle and its loss; and of each live action, in their order, whether the session has attached its set, and
-- what its six columns show in the session.
pub record PublishedSession : Type 0 where
  pub handle : ℕ
  pub loss : Loss
  pub attached : List Bool
  pub columns : List (List ShownColumn)

-- a live action: its handle, its type, and for each user path whether it declares it
pub record PublishedAction : Type 0 where
  pub handle : ℕ
  pub type : ActionType
  pub declared : List Bool

-- The place of the call that published it; the live sessions; the atoms of the five user paths (0 for one that no live action
-- declares); and the live actions. Sessions and actions stand in the order of their creation.
pub record Publication : Type 0 where
  pub number : ℕ
  pub sessions : List PublishedSession
  pub atoms : List ℕ
  pub actions : List PublishedAction

-- ---- what a state gives

abbrev pub shown_of : Column → ShownColumn
shown_of c = record { x = c.x; y = c.y; changed = c.changed; time = c.time; active = c.active }

abbrev pub is_attached : Option (List ℕ) → ℕ → Bool
is_attached attached set = unwrap_or (option_map (λ sets. is_among sets set) attached) false

-- the columns of an action, by its place
abbrev pub columns_in : Handles → List (List Column) → ℕ → List Column
columns_in h columns action = unwrap_or (option_and_then (λ place. slice_get columns place) (place_among h kind.Action action)) []

-- whether a session that has attached these has attached the action's set
abbrev pub has_set_of : Option (List ℕ) → sets.Action → Bool
has_set_of attached a = is_attached attached a.set

-- what the action's columns show in a session that has these
abbrev pub shown_row : Handles → List (List Column) → sets.Action → List ShownColumn
shown_row h columns a = map shown_of (columns_in h columns a.handle)

abbrev pub published_session : Handles → List sets.Action → Session → PublishedSession
published_session h actions x = record {
  handle = x.handle;
  loss = loss_of x.life;
  attached = map (has_set_of x.attached) actions;
  columns = map (shown_row h x.columns) actions;
}

abbrev pub published_action : sets.Action → PublishedAction
published_action a = record { handle = a.handle; type = a.type; declared = a.declared }

-- the atom of a user path, 0 where it has none; atoms are the places of texts, from 1
abbrev pub is_of_user : User → List ℕ → Bool
is_of_user who text = unwrap_or (option_map (λ other. user_place other == user_place who) (user_of text)) false

abbrev pub user_atom : List (List ℕ) → User → ℕ
user_atom atoms who = unwrap_or (option_map (λ place. place + 1) (position_from (is_of_user who) 0 atoms)) 0

-- the same where one of these actions declares it
abbrev pub atom_of_user : List (List ℕ) → List sets.Action → User → ℕ
atom_of_user atoms actions who = if list_any (λ x. is_declared x.declared who) actions then user_atom atoms who else 0

abbrev pub publication_of : CoreState → Publication
publication_of s = record {
  number = s.published;
  sessions = map (published_session s.handles s.inputs.actions) s.sessions;
  atoms = map (atom_of_user s.atoms s.inputs.actions) all_users;
  actions = map published_action s.inputs.actions;
}

-- ---- what a getter reads

-- the session with this handle; 0 is nobody's
abbrev pub session_read : Publication → ℕ → Option PublishedSession
session_read p session = if session == 0 then None else find (λ x. x.handle == session) p.sessions

-- its loss; where there is none, that of no session, whose refusal comes first
abbrev pub no_loss : Loss
no_loss = record { lost = false; pending = false }

abbrev pub loss_read : Publication → ℕ → Loss
loss_read p session = unwrap_or (option_map (λ x. x.loss) (session_read p session)) no_loss

-- the action with this handle, and its place among the actions
abbrev pub published_at : Publication → ℕ → Option PublishedAction
published_at p action = find (λ a. a.handle == action) p.actions

abbrev pub place_at : Publication → ℕ → Option ℕ
place_at p action = position_from (λ a. a.handle == action) 0 p.actions

-- whether the session has attached the action's set, and what the action's columns show in it, each by the action's place
abbrev pub has_attached : Publication → ℕ → ℕ → Bool
has_attached p session action =
    unwrap_or (option_and_then (λ x. option_and_then (λ place. slice_get x.attached place) (place_at p action)) (session_read p session)) false

abbrev pub row_read : Publication → ℕ → ℕ → Option (List ShownColumn)
row_read p session action = option_and_then (λ x. option_and_then (λ place. slice_get x.columns place) (place_at p action)) (session_read p session)

-- the column of a declared user path by its atom, counted from this one
abbrev pub column_from : ℕ → List ℕ → List Bool → ℕ → Option ℕ
column_from k (atom ∷ atoms) (declares ∷ more) sub = if declares && (atom == sub) then Some k else column_from (k + 1) atoms more sub
column_from k _ _ sub = None

-- column 0 is that of all user paths
abbrev pub column_by : Publication → PublishedAction → ℕ → Option ℕ
column_by p a sub = if sub == 0 then Some 0 else column_from 1 p.atoms a.declared sub

abbrev pub is_same_type : ActionType → ActionType → Bool
is_same_type type.Boolean type.Boolean = true
is_same_type type.Float type.Float = true
is_same_type type.Vector type.Vector = true
is_same_type type.Pose type.Pose = true
is_same_type type.Vibration type.Vibration = true
is_same_type _ _ = false

-- what refuses a getter by its handles
abbrev pub getter_handles : Publication → ℕ → ℕ → List Refusal
getter_handles p session action = when (is_none (session_read p session)) HandleInvalid ∷ when (is_none (published_at p action)) HandleInvalid ∷ []

abbrev pub is_action_of : ActionType → Option PublishedAction → Bool
is_action_of wanted found = unwrap_or (option_map (λ a. is_same_type a.type wanted) found) false

abbrev pub column_read : Publication → Option PublishedAction → ℕ → Option ℕ
column_read p found sub = option_and_then (λ a. column_by p a sub) found

-- and behind the session's loss: a set that isn't attached, another type, a user path that isn't declared
abbrev pub getter_checks : Publication → ActionType → ℕ → ℕ → ℕ → List Refusal
getter_checks p wanted session action sub =
    when (not (has_attached p session action)) ActionsetNotAttached
    ∷ when (not (is_action_of wanted (published_at p action))) ActionTypeMismatch
    ∷ when (is_none (column_read p (published_at p action) sub)) PathUnsupported
    ∷ []

abbrev pub shown_by : ActionType → ShownColumn → Gives
shown_by type.Boolean c = gives.Boolean (record { value = not (int_eq c.x (pos 0)); changed = c.changed; time = c.time; active = c.active })
shown_by type.Float c = gives.Float (record { value = c.x; changed = c.changed; time = c.time; active = c.active })
shown_by type.Vector c = gives.Vector (record { x = c.x; y = c.y; changed = c.changed; time = c.time; active = c.active })
shown_by type.Pose c = gives.Active c.active
shown_by type.Vibration c = gives.Nothing

abbrev pub getter_gives : Publication → ActionType → ℕ → ℕ → ℕ → Gives
getter_gives p wanted session action sub =
    let shown = option_and_then (λ k. option_and_then (λ row. slice_get row k) (row_read p session action)) (column_read p (published_at p action) sub) in
    unwrap_or (option_map (shown_by wanted) shown) gives.Nothing
