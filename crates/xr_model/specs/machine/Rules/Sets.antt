-- The rules of the calls on action sets and actions (OpenXR 1.0 chapter 11, "Action Sets" and "Actions").
use Rattle.std.specs.Prelude.{ℕ, not, Bool, true, false, List, [], ◌∷◌, ◌++◌, map, slice_set, Option, Some, None, is_none, option_and_then}
use Rattle.xr_types.specs.declared.code.Code.TheVariants.{PathInvalid, PathUnsupported}
use Rattle.xr_types.specs.declared.calls.Gives.TheVariants.{Nothing, Handle}
use Rattle.xr_types.specs.declared.handles.Kind.TheVariants.{Instance, Session, ActionSet, Action}
use Rattle.xr_types.specs.declared.input.ActionType.{ActionType}
use Rattle.xr_types.specs.declared.input.User.{User}
use Rattle.xr_model.specs.machine.Handles.{no_handle, no_room, with_handle, destroyed_by}
use Rattle.xr_model.specs.machine.Paths.{text_at}
use Rattle.xr_model.specs.machine.LiveSessions.{with_session_at, with_attached, attached_in, session_at}
use Rattle.xr_model.specs.machine.Profiles.{user_of}
use Rattle.xr_model.specs.machine.Refusals.{Refusal, when}
use Rattle.xr_model.specs.machine.Sets as sets
use Rattle.xr_types.specs.Users.{user_place}
use Rattle.xr_model.specs.machine.Sets.{set_checks, action_checks, action_label_checks, attach_checks, no_users, is_declared, with_set, with_action, sets_named, with_sealed}
use Rattle.xr_model.specs.machine.State.{CoreState}
use Rattle.xr_model.specs.machine.Destroyed.{without_handle}
use Rattle.xr_model.specs.machine.SessionRule.{loss_of}
use Rattle.xr_model.specs.machine.Rule.{Rule, ordinary, done, destroying}
use Rattle.xr_model.specs.machine.Rules.Session.{life_of}

-- ---- action sets

abbrev pub with_action_set : CoreState → ℕ → ℕ → List ℕ → List ℕ → ℕ → CoreState
with_action_set s instance given name localized priority = record s {
  handles = with_handle s.handles ActionSet instance given;
  inputs = with_set s.inputs given name localized priority;
}

-- xrCreateActionSet
abbrev pub create_action_set_rule : CoreState → ℕ → ℕ → List ℕ → List ℕ → ℕ → Rule
create_action_set_rule s given instance name localized priority = record (ordinary s) {
  handles = no_handle s.handles Instance instance ∷ [];
  behind = set_checks s.inputs name localized ++ no_room s.handles ActionSet ∷ [];
  creates = Some ActionSet;
  effect = done (with_action_set s instance given name localized priority) (Handle given);
}

-- xrDestroyActionSet: its actions go with it
abbrev pub destroy_action_set_rule : CoreState → ℕ → Rule
destroy_action_set_rule s set = record (ordinary s) {
  handles = no_handle s.handles ActionSet set ∷ [];
  effect = destroying (without_handle s set) (destroyed_by s.handles set) [];
}

-- ---- actions

-- the user path of an atom, where it is one's
abbrev pub user_at : List (List ℕ) → ℕ → Option User
user_at atoms sub = option_and_then user_of (text_at atoms sub)

-- whether it is a user path that isn't declared yet
abbrev pub is_new_user : List Bool → Option User → Bool
is_new_user declared None = false
is_new_user declared (Some who) = not (is_declared declared who)

abbrev pub with_user : List Bool → Option User → List Bool
with_user declared None = declared
with_user declared (Some who) = slice_set declared (user_place who) true

-- What refuses the user paths of an action, one after another: it is no atom; or no user path, or one that stood before.
abbrev pub sub_checks : List (List ℕ) → List Bool → List ℕ → List Refusal
sub_checks atoms declared [] = []
sub_checks atoms declared (sub ∷ subs) =
    when (is_none (text_at atoms sub)) PathInvalid
    ∷ when (not (is_new_user declared (user_at atoms sub))) PathUnsupported
    ∷ sub_checks atoms (with_user declared (user_at atoms sub)) subs

-- which user paths are declared by these atoms
abbrev pub declared_by : List (List ℕ) → List Bool → List ℕ → List Bool
declared_by atoms declared [] = declared
declared_by atoms declared (sub ∷ subs) = declared_by atoms (with_user declared (user_at atoms sub)) subs

abbrev pub new_action : CoreState → ℕ → ℕ → List ℕ → ActionType → List ℕ → List ℕ → sets.Action
new_action s given set name type subs localized =
    record { handle = given; set = set; name = name; localized = localized; type = type; declared = declared_by s.atoms no_users subs }

abbrev pub with_new_action : CoreState → ℕ → sets.Action → CoreState
with_new_action s given x = record s { handles = with_handle s.handles Action x.set given; inputs = with_action s.inputs x }

-- xrCreateAction
abbrev pub create_action_rule : CoreState → ℕ → ℕ → List ℕ → ActionType → List ℕ → List ℕ → Rule
create_action_rule s given set name type subs localized = record (ordinary s) {
  handles = no_handle s.handles ActionSet set ∷ [];
  behind = action_checks s.inputs set name ++ (sub_checks s.atoms no_users subs ++ (action_label_checks s.inputs set localized ++ no_room s.handles Action ∷ []));
  creates = Some Action;
  effect = done (with_new_action s given (new_action s given set name type subs localized)) (Handle given);
}

-- xrDestroyAction
abbrev pub destroy_action_rule : CoreState → ℕ → Rule
destroy_action_rule s action = record (ordinary s) {
  handles = no_handle s.handles Action action ∷ [];
  effect = destroying (without_handle s action) (destroyed_by s.handles action) [];
}

-- ---- attaching

-- the sets are the session's from now on, and sealed
abbrev pub with_attached_sets : CoreState → ℕ → List ℕ → CoreState
with_attached_sets s session handles = record s { sessions = with_session_at session (with_attached (sets_named s.inputs handles)) s.sessions; inputs = with_sealed s.inputs handles }

-- xrAttachSessionActionSets: once for a session; a set that is named twice counts once
abbrev pub attach_sets_rule : CoreState → ℕ → List ℕ → Rule
attach_sets_rule s session handles = record (ordinary s) {
  on = Some (loss_of (life_of s session));
  handles = no_handle s.handles Session session ∷ [];
  behind = attach_checks (attached_in (session_at s.sessions session)) handles ++ map (no_handle s.handles ActionSet) handles;
  effect = done (with_attached_sets s session handles) Nothing;
}
