-- Syncs, what is read of them, and the spaces of actions (OpenXR 1.0 chapter 11, xrSyncActions and the getters of action states, and
-- chapter 7, xrCreateActionSpace).
use Rattle.std.specs.Prelude.{ℕ, ◌+◌, ◌==◌, ◌&&◌, ◌||◌, not, nat_le, Bool, false, List, [], ◌∷◌, ◌++◌, map, length, flat_map, Option, Some, None, is_none, option_map, option_and_then, unwrap_or, slice_get, if◌then◌else◌}
use Rattle.std.specs.List.{filter}
use Rattle.xr_types.specs.declared.code.Code.{Code}
use Rattle.xr_types.specs.declared.code.Code.TheVariants.{Success, LimitReached, PathInvalid, PathUnsupported, PoseInvalid, ActionsetNotAttached, ActionTypeMismatch, SessionNotFocused}
use Rattle.xr_types.specs.declared.calls.Gives.TheVariants.{Nothing, Handle}
use Rattle.xr_types.specs.declared.handles.Kind.TheVariants as kind
use Rattle.xr_types.specs.declared.input.ActionType.{ActionType}
use Rattle.xr_types.specs.declared.input.ActionType.TheVariants as type
use Rattle.xr_types.specs.declared.input.ActiveSet.{ActiveSet}
use Rattle.xr_types.specs.declared.input.Bound.{Bound}
use Rattle.xr_types.specs.declared.input.Column.{Column}
use Rattle.xr_types.specs.declared.input.Heard.{Heard}
use Rattle.xr_types.specs.declared.input.Profile.{Profile}
use Rattle.xr_types.specs.declared.input.Ranked.{Ranked}
use Rattle.xr_types.specs.declared.input.User.{User}
use Rattle.xr_types.specs.declared.limits.TheConstants.{MOST_SYNCED}
use Rattle.xr_types.specs.declared.session.SessionState.TheVariants.{Focused}
use Rattle.xr_types.specs.declared.spaces.Root.{Root}
use Rattle.xr_types.specs.declared.spaces.Root.TheVariants as root
use Rattle.xr_types.specs.Printed.{all_users}
use Rattle.xr_types.specs.Users.{user_place}
use Rattle.xr_model.specs.machine.Bindings.{suggestions_of}
use Rattle.xr_model.specs.machine.Handles.{Handles, no_handle, no_room}
use Rattle.xr_model.specs.machine.HandlePlaces.{place_among}
use Rattle.xr_model.specs.machine.LiveSessions.{session_at, attached_in, with_session_at, with_columns}
use Rattle.xr_model.specs.machine.Paths.{text_at}
use Rattle.xr_model.specs.machine.Publication.{publication_of, loss_read, getter_handles, getter_checks, getter_gives, is_attached, is_same_type}
use Rattle.xr_model.specs.machine.Refusals.{Refusal, when}
use Rattle.xr_model.specs.machine.Rule.{Rule, ordinary, done}
use Rattle.xr_model.specs.machine.Rules.Session.{life_of, columns_of}
use Rattle.xr_model.specs.machine.Rules.Sets.{user_at}
use Rattle.xr_model.specs.machine.SessionLife.{is_state}
use Rattle.xr_model.specs.machine.SessionRule.{loss_of}
use Rattle.xr_model.specs.machine.Sets as sets
use Rattle.xr_model.specs.machine.Sets.{action_at, set_priority, set_declares, action_declares, type_of_action}
use Rattle.xr_model.specs.machine.Rules.Spaces.{with_new_space}
use Rattle.xr_model.specs.machine.State.{CoreState}
use Rattle.xr_model.specs.machine.Sync.{no_columns, columns_after, is_same_user}

-- ---- what a sync takes

-- a set is listed for one user path, or by 0 for all
abbrev pub heard_by : CoreState → ActiveSet → Heard
heard_by s item = record { set = item.set; user = if item.sub == 0 then None else user_at s.atoms item.sub }

-- a suggestion with what is known of its action, where that is live
abbrev pub ranked_by : sets.Sets → Handles → sets.Action → Bound → Ranked
ranked_by known h x b = record {
  bound = b;
  place = unwrap_or (place_among h kind.Action b.action) 0;
  set = x.set;
  priority = unwrap_or (set_priority known x.set) 0;
  kind = x.type;
  declared = x.declared;
}

abbrev pub ranked : sets.Sets → Handles → Bound → List Ranked
ranked known h b = unwrap_or (option_map (λ x. ranked_by known h x b ∷ []) (action_at known b.action)) []

-- the suggestions at a user path for the controller that is connected there
abbrev pub suggested_at : List (List Bound) → User → Option Profile → List Bound
suggested_at suggestions who None = []
suggested_at suggestions who (Some which) = filter (λ b. is_same_user b.pick.user who) (suggestions_of suggestions which)

abbrev pub connected_at : CoreState → User → List Bound
connected_at s who = suggested_at s.suggestions who (option_and_then (λ p. p) (slice_get s.device.profiles (user_place who)))

-- the bindings of a sync, in the order of the user paths and then of the suggestions
abbrev pub bindings_of : CoreState → List Ranked
bindings_of s = flat_map (λ who. flat_map (ranked s.inputs s.handles) (connected_at s who)) all_users

-- ---- xrSyncActions

-- What refuses an item: its handle, a set that the session hasn't attached, and, where it names a user path, a number that is no
-- atom, and one that no action of the set declares.
abbrev pub is_named : CoreState → ActiveSet → Bool
is_named s item = (item.sub == 0) || unwrap_or (option_map (set_declares s.inputs item.set) (user_at s.atoms item.sub)) false

abbrev pub item_checks : CoreState → ℕ → ActiveSet → List Refusal
item_checks s session item =
    no_handle s.handles kind.ActionSet item.set
    ∷ when (not (is_attached (attached_in (session_at s.sessions session)) item.set)) ActionsetNotAttached
    ∷ when (not (item.sub == 0) && is_none (text_at s.atoms item.sub)) PathInvalid
    ∷ when (not (is_named s item)) PathUnsupported
    ∷ []

-- the columns of a session that is focused are synced, from those before; those of another are inactive, and the call says so
abbrev pub columns_synced : CoreState → Bool → List ActiveSet → List (List Column) → List (List Column)
columns_synced s is_focused active before =
    if is_focused then columns_after (map (heard_by s) active) (bindings_of s) s.device.inputs s.device.clock before else no_columns

-- what actions show in the session has changed so, and in no other session
abbrev pub with_synced : CoreState → ℕ → Bool → List ActiveSet → CoreState
with_synced s session is_focused active =
    record s { sessions = with_session_at session (with_columns (columns_synced s is_focused active (columns_of s session))) s.sessions }

abbrev pub synced_code : Bool → Code
synced_code is_focused = if is_focused then Success else SessionNotFocused

abbrev pub sync_actions_rule : CoreState → ℕ → List ActiveSet → Rule
sync_actions_rule s session active = record (ordinary s) {
  on = Some (loss_of (life_of s session));
  handles = no_handle s.handles kind.Session session ∷ [];
  behind = when (not (nat_le (length active) MOST_SYNCED)) LimitReached ∷ flat_map (item_checks s session) active;
  effect = record (done (with_synced s session (is_state (life_of s session).state Focused) active) Nothing) { code = synced_code (is_state (life_of s session).state Focused) };
}

-- ---- the getters, which answer from what was published last

abbrev pub getter_rule : CoreState → ActionType → ℕ → ℕ → ℕ → Rule
getter_rule s wanted session action sub =
    let p = publication_of s in
    record (ordinary s) {
      on = Some (loss_read p session);
      handles = getter_handles p session action;
      behind = getter_checks p wanted session action sub;
      effect = done s (getter_gives p wanted session action sub);
    }

-- ---- xrCreateActionSpace

-- the column of a user path that the action declares, or of all by 0
abbrev pub column_named : CoreState → ℕ → ℕ → Option ℕ
column_named s action sub =
    if sub == 0 then Some 0 else option_and_then (λ who. if action_declares s.inputs action who then Some (user_place who + 1) else None) (user_at s.atoms sub)

abbrev pub is_of_poses : CoreState → ℕ → Bool
is_of_poses s action = unwrap_or (option_map (is_same_type type.Pose) (type_of_action s.inputs action)) false

-- the column of the action's place
abbrev pub action_root : CoreState → ℕ → ℕ → Root
action_root s action sub = root.Action (unwrap_or (place_among s.handles kind.Action action) 0) (unwrap_or (column_named s action sub) 0)

-- what refuses it by its action's type, by its user path, and by its offset; no pose is 0
abbrev pub action_space_checks : CoreState → ℕ → ℕ → ℕ → List Refusal
action_space_checks s action sub offset =
    when (not (is_of_poses s action)) ActionTypeMismatch ∷ when (is_none (column_named s action sub)) PathUnsupported ∷ when (offset == 0) PoseInvalid ∷ []

abbrev pub create_action_space_rule : CoreState → ℕ → ℕ → ℕ → ℕ → ℕ → Rule
create_action_space_rule s given session action sub offset = record (ordinary s) {
  on = Some (loss_of (life_of s session));
  handles = no_handle s.handles kind.Session session ∷ no_handle s.handles kind.Action action ∷ [];
  behind = action_space_checks s action sub offset ++ no_room s.handles kind.Space ∷ [];
  creates = Some kind.Space;
  effect = done (with_new_space s session given (action_root s action sub) offset) (Handle given);
}
