-- Action sets and their actions (OpenXR 1.0 chapter 11, "Action Sets" and "Actions", xrCreateActionSet, xrCreateAction and
-- xrAttachSessionActionSets). How many there may be is this project's own.
use Rattle.std.specs.Prelude.{ℕ, ◌==◌, ◌&&◌, not, Bool, true, false, List, [], ◌∷◌, ◌++◌, length, map, replicate, slice_get, Option, option_map, is_some, unwrap_or, if◌then◌else◌}
use Rattle.std.specs.Cmp.Lexicographic.{pointwise}
use Rattle.std.specs.List.{find, filter, list_all, list_any}
use Rattle.xr_types.specs.declared.code.Code.TheVariants.{ValidationFailure, PathFormatInvalid, NameDuplicated, NameInvalid, ActionsetsAlreadyAttached, LocalizedNameDuplicated, LocalizedNameInvalid}
use Rattle.xr_types.specs.declared.input.ActionType.{ActionType}
use Rattle.xr_types.specs.declared.input.User.{User}
use Rattle.xr_types.specs.Users.{user_place}
use Rattle.xr_types.specs.Name.{is_name_byte, has_name_form, is_localized}
use Rattle.xr_model.specs.machine.Handles.{is_among}
use Rattle.xr_model.specs.machine.Refusals.{Refusal, when}

-- ---- user paths

-- none of the five is declared
abbrev pub no_users : List Bool
no_users = replicate 5 false

abbrev pub is_declared : List Bool → User → Bool
is_declared declared who = unwrap_or (slice_get declared (user_place who)) false

-- ---- sets and actions

-- An action set by its handle: its name, its name for people, its priority, and whether it is sealed: whether any session
-- ever attached it.
pub record Set : Type 0 where
  pub handle : ℕ
  pub name : List ℕ
  pub localized : List ℕ
  pub priority : ℕ
  pub sealed : Bool

-- An action by its handle: its set, its name, its name for people, its type, and for each user path whether it declares it.
pub record Action : Type 0 where
  pub handle : ℕ
  pub set : ℕ
  pub name : List ℕ
  pub localized : List ℕ
  pub type : ActionType
  pub declared : List Bool

-- the sets and the actions in the order of their creation
pub record Sets : Type 0 where
  pub sets : List Set
  pub actions : List Action

abbrev pub no_sets : Sets
no_sets = record { sets = []; actions = [] }

abbrev pub set_at : Sets → ℕ → Option Set
set_at s handle = find (λ x. x.handle == handle) s.sets

abbrev pub action_at : Sets → ℕ → Option Action
action_at s handle = find (λ x. x.handle == handle) s.actions

-- ---- what is asked

abbrev pub set_priority : Sets → ℕ → Option ℕ
set_priority s set = option_map (λ x. x.priority) (set_at s set)

abbrev pub set_of_action : Sets → ℕ → Option ℕ
set_of_action s action = option_map (λ x. x.set) (action_at s action)

abbrev pub type_of_action : Sets → ℕ → Option ActionType
type_of_action s action = option_map (λ x. x.type) (action_at s action)

abbrev pub is_sealed : Sets → ℕ → Bool
is_sealed s set = unwrap_or (option_map (λ x. x.sealed) (set_at s set)) false

-- whether any session ever attached the action's set
abbrev pub is_in_sealed_set : Sets → ℕ → Bool
is_in_sealed_set s action = unwrap_or (option_map (is_sealed s) (set_of_action s action)) false

abbrev pub action_declares : Sets → ℕ → User → Bool
action_declares s action who = unwrap_or (option_map (λ x. is_declared x.declared who) (action_at s action)) false

-- some action of the set declares the user path
abbrev pub set_declares : Sets → ℕ → User → Bool
set_declares s set who = list_any (λ x. x.set == set && is_declared x.declared who) s.actions

-- ---- what refuses them

abbrev pub same_text : List ℕ → List ℕ → Bool
same_text a b = pointwise (λ x y. x == y) a b

-- what refuses a name, told whether it is taken: it is empty, too long or periods alone, or has a byte that no name has
abbrev pub name_checks : List ℕ → Bool → List Refusal
name_checks name taken = when (not (has_name_form name)) NameInvalid ∷ when (not (list_all is_name_byte name)) PathFormatInvalid ∷ when taken NameDuplicated ∷ []

abbrev pub label_checks : List ℕ → Bool → List Refusal
label_checks localized taken = when (not (is_localized localized)) LocalizedNameInvalid ∷ when taken LocalizedNameDuplicated ∷ []

-- what refuses a new set; names differ among the sets
abbrev pub set_checks : Sets → List ℕ → List ℕ → List Refusal
set_checks s name localized =
    name_checks name (list_any (λ x. same_text x.name name) s.sets) ++ label_checks localized (list_any (λ x. same_text x.localized localized) s.sets)

-- what refuses a new action of a set by its name; names differ among the actions of a set
abbrev pub action_checks : Sets → ℕ → List ℕ → List Refusal
action_checks s set name = when (is_sealed s set) ActionsetsAlreadyAttached ∷ name_checks name (list_any (λ x. x.set == set && same_text x.name name) s.actions)

-- what refuses it by its name for people
abbrev pub action_label_checks : Sets → ℕ → List ℕ → List Refusal
action_label_checks s set localized = label_checks localized (list_any (λ x. x.set == set && same_text x.localized localized) s.actions)

-- what refuses attaching these sets, told what the session has attached
abbrev pub attach_checks : Option (List ℕ) → List ℕ → List Refusal
attach_checks attached handles = when (is_some attached) ActionsetsAlreadyAttached ∷ when (length handles == 0) ValidationFailure ∷ []

-- ---- what changes them

abbrev pub with_set : Sets → ℕ → List ℕ → List ℕ → ℕ → Sets
with_set s handle name localized priority = record s {
  sets = s.sets ++ record { handle = handle; name = name; localized = localized; priority = priority; sealed = false } ∷ [];
}

abbrev pub with_action : Sets → Action → Sets
with_action s x = record s { actions = s.actions ++ x ∷ [] }

-- without the set or the action of a handle
abbrev pub without_input : Sets → ℕ → Sets
without_input s handle = record s {
  sets = filter (λ x. not (x.handle == handle)) s.sets;
  actions = filter (λ x. not (x.handle == handle)) s.actions;
}

-- without those of these handles
abbrev pub without_inputs : Sets → List ℕ → Sets
without_inputs s handles = record s {
  sets = filter (λ x. not (is_among handles x.handle)) s.sets;
  actions = filter (λ x. not (is_among handles x.handle)) s.actions;
}

-- a set, sealed where it is among these
abbrev pub sealed_by : List ℕ → Set → Set
sealed_by handles x = if is_among handles x.handle then record x { sealed = true } else x

-- the sets of these handles, each once, in the order of their creation
abbrev pub sets_named : Sets → List ℕ → List ℕ
sets_named s handles = map (λ x. x.handle) (filter (λ x. is_among handles x.handle) s.sets)

-- a session attached these sets
abbrev pub with_sealed : Sets → List ℕ → Sets
with_sealed s handles = record s { sets = map (sealed_by handles) s.sets }
