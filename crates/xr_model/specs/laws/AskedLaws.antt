-- What refuses calls by their versions, forms, systems, atoms, sizes, times and names, in other words than the rules' checks have.
use Rattle.std.specs.Prelude.{◌≡◌, ◌↔◌, ◌==◌, ◌&&◌, ◌||◌, not, ◌⊎◌, ◌+◌, ◌*◌, zero, suc, nat_le, nat_lt, int_lt, pos, ℕ, ℤ, Bool, true, false, List, [], ◌∷◌, ◌++◌, Option, Some, None, codes, is_none, length}
use Rattle.std.specs.List.{list_all, list_any}
use Rattle.std.specs.Str.{is_utf8}
use Rattle.xr_types.specs.declared.calls.Call.{Call}
use Rattle.xr_types.specs.declared.calls.Call.TheVariants as ask
use Rattle.xr_types.specs.declared.calls.Gives.TheVariants.{Number}
use Rattle.xr_types.specs.declared.input.ActionType.{ActionType}
use Rattle.xr_types.specs.declared.input.ActionType.TheVariants as kind
use Rattle.xr_types.specs.declared.input.ActiveSet.{ActiveSet}
use Rattle.xr_types.specs.declared.input.Binding.{Binding}
use Rattle.xr_types.specs.declared.input.Profile.{Profile}
use Rattle.xr_types.specs.declared.input.User.{User}
use Rattle.xr_types.specs.declared.session.Form.{Form}
use Rattle.xr_types.specs.declared.session.Form.TheVariants.{Head, Hand}
use Rattle.xr_model.specs.machine.Calls.{Entry}
use Rattle.xr_model.specs.machine.LiveSessions.{attached_in, session_at}
use Rattle.xr_model.specs.machine.Machine.{rule}
use Rattle.xr_model.specs.machine.Paths.{text_at}
use Rattle.xr_model.specs.machine.Refusals.{Refusal}
use Rattle.xr_model.specs.machine.Rule.{Rule}
use Rattle.xr_model.specs.machine.Rules.Bindings.{profile_at}
use Rattle.xr_model.specs.machine.Rules.Sets.{user_at}
use Rattle.xr_model.specs.machine.Sets.{Set, Action, set_at, action_at, is_declared}
use Rattle.xr_model.specs.machine.State.{CoreState, CellReads}
use Rattle.xr_model.specs.laws.ConditionLaws.{conditions}
use Rattle.xr_model.specs.laws.InputLaws.{names_user}

-- an entry that asks this
abbrev pub asking : Entry → Call → Entry
asking e r = record e { call = r }

-- whether the first of these conditions holds
abbrev pub first_holds : List Refusal → Bool
first_holds [] = false
first_holds (r ∷ rs) = r.holds

-- An instance is refused first for a version other than 1.0.
abbrev pub InstancesAreOfOneVersion : Type 0
InstancesAreOfOneVersion =
    (s : CoreState) (reads : CellReads) (e : Entry) (major minor : ℕ)
    → first_holds (rule s reads (asking e (ask.CreateInstance major minor))).behind ≡ nat_lt major 1 || (nat_lt 1 major || nat_lt 0 minor)

-- ---- the one system

-- a form of which there is no system
abbrev pub is_for_hands : Form → Bool
is_for_hands Head = false
is_for_hands Hand = true

-- A system is given for the head alone; and a session is refused first for any system but the one that is given.
pub record SystemsAreTheOne (s t : CoreState) (reads : CellReads) (e : Entry) : Type 0 where
  pub form : (instance : ℕ) (form : Form) → conditions (rule s reads (asking e (ask.GetSystem instance form))).behind ≡ is_for_hands form ∷ []
  pub one : (instance : ℕ) (form : Form) → (system : ℕ) × ((rule s reads (asking e (ask.GetSystem instance form))).effect.gives ≡ Number system)
  pub taken : (instance other system asked : ℕ) (form : Form) → (rule s reads (asking e (ask.GetSystem instance form))).effect.gives ≡ Number system
      → first_holds (rule t reads (asking e (ask.CreateSession other asked))).behind ≡ not (asked == system)

-- so it is in any two states
abbrev pub SessionsAreOfTheOneSystem : Type 0
SessionsAreOfTheOneSystem = (s t : CoreState) (reads : CellReads) (e : Entry) → SystemsAreTheOne s t reads e

-- ---- times

-- A space is located at times above 0, and nothing else refuses it behind its handles.
abbrev pub LocationsAreAtTimes : Type 0
LocationsAreAtTimes =
    (s : CoreState) (reads : CellReads) (e : Entry) (space base : ℕ) (time : ℤ)
    → conditions (rule s reads (asking e (ask.LocateSpace space base time))).behind ≡ not (int_lt (pos 0) time) ∷ []

-- ---- atoms and buffers

-- how many bytes the text of an atom has, 0 where it is none's
abbrev pub bytes_at : Option (List ℕ) → ℕ
bytes_at None = 0
bytes_at (Some text) = length text

-- Atoms are the numbers from 1 to that of the known texts. The text of an atom is refused for any other number, and for a buffer that
-- has some bytes, but none for the zero behind the text.
abbrev pub TextsFitTheirBuffers : Type 0
TextsFitTheirBuffers =
    (s : CoreState) (reads : CellReads) (e : Entry) (instance path capacity : ℕ)
    → conditions (rule s reads (asking e (ask.PathToString instance path capacity))).behind
    ≡ (nat_lt path 1 || nat_lt (length s.atoms) path) ∷ (nat_le 1 capacity && nat_le capacity (bytes_at (text_at s.atoms path))) ∷ []

-- ---- names

-- P holds of one of these
abbrev pub Among : {T : Type 0} → (T → Type 0) → List T → Type 0
Among P [] = ⊥
Among P (x ∷ xs) = P x ⊎ Among P xs

-- whether the condition behind so many others holds
abbrev pub holds_behind : ℕ → List Refusal → Bool
holds_behind k [] = false
holds_behind zero (r ∷ rs) = r.holds
holds_behind (suc k) (r ∷ rs) = holds_behind k rs

-- A set's names are taken exactly where a set has that name, and where one has that localized name.
pub record SetsHaveTheirNames (s : CoreState) (reads : CellReads) (e : Entry) (instance : ℕ) (name localized : List ℕ) (priority : ℕ) : Type 0 where
  pub names : (holds_behind 2 (rule s reads (asking e (ask.CreateActionSet instance name localized priority))).behind ≡ true)
      ↔ Among (λ (x : Set). x.name ≡ name) s.inputs.sets
  pub labels : (holds_behind 4 (rule s reads (asking e (ask.CreateActionSet instance name localized priority))).behind ≡ true)
      ↔ Among (λ (x : Set). x.localized ≡ localized) s.inputs.sets

abbrev pub NamesOfSetsAreTaken : Type 0
NamesOfSetsAreTaken =
    (s : CoreState) (reads : CellReads) (e : Entry) (instance : ℕ) (name localized : List ℕ) (priority : ℕ)
    → SetsHaveTheirNames s reads e instance name localized priority

-- An action's names are taken exactly where an action of its set has that name, and where one of its set has that localized name, which
-- is asked behind two conditions for each user path.
pub record ActionsHaveTheirNames (s : CoreState) (reads : CellReads) (e : Entry) (set : ℕ) (name : List ℕ) (type : ActionType) (subs : List ℕ)
    (localized : List ℕ) : Type 0 where
  pub names : (holds_behind 3 (rule s reads (asking e (ask.CreateAction set name type subs localized))).behind ≡ true)
      ↔ Among (λ (x : Action). (x.set ≡ set) × (x.name ≡ name)) s.inputs.actions
  pub labels : (holds_behind (length subs + length subs + 5) (rule s reads (asking e (ask.CreateAction set name type subs localized))).behind ≡ true)
      ↔ Among (λ (x : Action). (x.set ≡ set) × (x.localized ≡ localized)) s.inputs.actions

abbrev pub NamesOfActionsAreTaken : Type 0
NamesOfActionsAreTaken =
    (s : CoreState) (reads : CellReads) (e : Entry) (set : ℕ) (name : List ℕ) (type : ActionType) (subs : List ℕ) (localized : List ℕ)
    → ActionsHaveTheirNames s reads e set name type subs localized

-- ---- user paths

-- the atom of no user path, or of one that an atom ahead names
abbrev pub is_no_new_user : List (List ℕ) → List ℕ → Option User → Bool  -- the texts, the atoms ahead
is_no_new_user atoms front None = true
is_no_new_user atoms front (Some who) = list_any (names_user atoms who) front

-- Behind four conditions two are asked for each user path of an action: that it is no atom, and that it is no user path's, or that of one
-- that was given before it.
pub record RefusesUserPath (s : CoreState) (front : List ℕ) (sub : ℕ) (asked : List Refusal) : Type 0 where
  pub known : holds_behind (length front + length front + 4) asked ≡ is_none (text_at s.atoms sub)
  pub once : holds_behind (length front + length front + 5) asked ≡ is_no_new_user s.atoms front (user_at s.atoms sub)

abbrev pub UserPathsAreNamedOnce : Type 0
UserPathsAreNamedOnce =
    (s : CoreState) (reads : CellReads) (e : Entry) (set : ℕ) (name : List ℕ) (type : ActionType) (localized front : List ℕ) (sub : ℕ) (behind : List ℕ)
    → RefusesUserPath s front sub (rule s reads (asking e (ask.CreateAction set name type (front ++ sub ∷ behind) localized))).behind

-- ---- forms of names

-- the bytes of names (OpenXR 1.0 section 6.2)
abbrev pub name_bytes : List ℕ
name_bytes = codes "abcdefghijklmnopqrstuvwxyz0123456789-_."

abbrev pub is_one_of : List ℕ → ℕ → Bool
is_one_of bytes b = list_any (λ c. c == b) bytes

-- The name of a set is refused where it has periods alone, or nothing, or more than 63 bytes, and then for a byte that no name has; its
-- localized name where it is empty, has more than 127 bytes, or is no UTF-8.
pub record HasNamesOfForm (name localized : List ℕ) (asked : List Refusal) : Type 0 where
  pub form : holds_behind 0 asked ≡ nat_lt 63 (length name) || list_all (λ b. b == 46) name
  pub bytes : holds_behind 1 asked ≡ not (list_all (is_one_of name_bytes) name)
  pub label : holds_behind 3 asked ≡ nat_lt (length localized) 1 || (nat_lt 127 (length localized) || not (is_utf8 localized))

abbrev pub NamesAreOfForms : Type 0
NamesAreOfForms =
    (s : CoreState) (reads : CellReads) (e : Entry) (instance : ℕ) (name localized : List ℕ) (priority : ℕ)
    → HasNamesOfForm name localized (rule s reads (asking e (ask.CreateActionSet instance name localized priority))).behind

-- ---- attached sets

-- A session attaches sets only while it has attached none, and some at once.
pub record AttachesOnceAndSome (attached : Option (List ℕ)) (handles : List ℕ) (asked : List Refusal) : Type 0 where
  pub bare : (holds_behind 0 asked ≡ false) ↔ (attached ≡ None)
  pub some : holds_behind 1 asked ≡ nat_lt (length handles) 1

abbrev pub SetsAreAttachedOnce : Type 0
SetsAreAttachedOnce =
    (s : CoreState) (reads : CellReads) (e : Entry) (session : ℕ) (handles : List ℕ)
    → AttachesOnceAndSome (attached_in (session_at s.sessions session)) handles (rule s reads (asking e (ask.AttachSets session handles))).behind

-- the set is among those that were attached
abbrev pub HasAttached : Option (List ℕ) → ℕ → Type 0
HasAttached None set = ⊥
HasAttached (Some sets) set = Among (λ (x : ℕ). x ≡ set) sets

-- some action of the set declares the user path of the atom
pub record DeclaresIt (s : CoreState) (set sub : ℕ) : Type 0 where
  pub who : User
  pub is : user_at s.atoms sub ≡ Some who
  pub some : Among (λ (x : Action). (x.set ≡ set) × (is_declared x.declared who ≡ true)) s.inputs.actions

-- An item of a sync is taken, behind its handle, where its set is attached, and where it has no user path or one that some action of the
-- set declares. Four conditions stand for each item.
pub record TakesItem (s : CoreState) (session : ℕ) (item : ActiveSet) (ahead : ℕ) (asked : List Refusal) : Type 0 where
  pub attached : (holds_behind (4 * ahead + 2) asked ≡ false) ↔ HasAttached (attached_in (session_at s.sessions session)) item.set
  pub declared : (holds_behind (4 * ahead + 4) asked ≡ false) ↔ ((item.sub ≡ 0) ⊎ DeclaresIt s item.set item.sub)

abbrev pub SyncedSetsAreAttached : Type 0
SyncedSetsAreAttached =
    (s : CoreState) (reads : CellReads) (e : Entry) (session : ℕ) (front : List ActiveSet) (item : ActiveSet) (behind : List ActiveSet)
    → TakesItem s session item (length front) (rule s reads (asking e (ask.SyncActions session (front ++ item ∷ behind)))).behind

-- ---- spaces of actions

-- an action has this handle, and is one of poses
pub record IsOfPoses (s : CoreState) (action : ℕ) : Type 0 where
  pub it : Action
  pub is : action_at s.inputs action ≡ Some it
  pub poses : it.type ≡ kind.Pose

-- an action has this handle, and declares the user path of the atom
pub record DeclaresUser (s : CoreState) (action sub : ℕ) : Type 0 where
  pub it : Action
  pub is : action_at s.inputs action ≡ Some it
  pub who : User
  pub named : user_at s.atoms sub ≡ Some who
  pub declared : is_declared it.declared who ≡ true

-- A space of an action is taken, behind its handles and ahead of the limit of spaces, where the action is one of poses, where its user
-- path is one that the action declares, or none, and where its offset isn't 0.
pub record TakesActionSpace (s : CoreState) (action sub offset : ℕ) (asked : List Refusal) : Type 0 where
  pub poses : (holds_behind 0 asked ≡ false) ↔ IsOfPoses s action
  pub user : (holds_behind 1 asked ≡ false) ↔ ((sub ≡ 0) ⊎ DeclaresUser s action sub)
  pub opaque : holds_behind 2 asked ≡ nat_lt offset 1

abbrev pub ActionSpacesAreOfPoses : Type 0
ActionSpacesAreOfPoses =
    (s : CoreState) (reads : CellReads) (e : Entry) (session action sub offset : ℕ)
    → TakesActionSpace s action sub offset (rule s reads (asking e (ask.CreateActionSpace session action sub offset))).behind

-- ---- suggestions

-- an action has this handle, and some session ever attached its set
pub record IsOfAttachedSet (s : CoreState) (action : ℕ) : Type 0 where
  pub it : Action
  pub is : action_at s.inputs action ≡ Some it
  pub set : Set
  pub of : set_at s.inputs it.set ≡ Some set
  pub sealed : set.sealed ≡ true

-- Of each binding that is suggested for a profile, behind four conditions and four for each ahead of it, it is asked whether its action's
-- set was attached, and whether its path is an atom.
pub record RefusesBinding (s : CoreState) (b : Binding) (ahead : ℕ) (asked : List Refusal) : Type 0 where
  pub attached : (holds_behind (4 * ahead + 5) asked ≡ true) ↔ IsOfAttachedSet s b.action
  pub path : holds_behind (4 * ahead + 6) asked ≡ is_none (text_at s.atoms b.path)

abbrev pub BindingsAreOfNewSets : Type 0
BindingsAreOfNewSets =
    (s : CoreState) (reads : CellReads) (e : Entry) (instance profile : ℕ) (which : Profile) (front : List Binding) (b : Binding) (behind : List Binding)
    → profile_at s.atoms profile ≡ Some which
    → RefusesBinding s b (length front) (rule s reads (asking e (ask.SuggestBindings instance profile (front ++ b ∷ behind)))).behind

-- ---- getters

-- an action has this handle and this type
pub record IsOfType (s : CoreState) (action : ℕ) (wanted : ActionType) : Type 0 where
  pub it : Action
  pub is : action_at s.inputs action ≡ Some it
  pub own : it.type ≡ wanted

-- The getters of a state take, behind their handles and their action's set, actions of one type each.
pub record GettersTakeTheirType (s : CoreState) (reads : CellReads) (e : Entry) (session action sub : ℕ) : Type 0 where
  pub booleans : (holds_behind 1 (rule s reads (asking e (ask.GetBoolean session action sub))).behind ≡ false) ↔ IsOfType s action kind.Boolean
  pub floats : (holds_behind 1 (rule s reads (asking e (ask.GetFloat session action sub))).behind ≡ false) ↔ IsOfType s action kind.Float
  pub vectors : (holds_behind 1 (rule s reads (asking e (ask.GetVector session action sub))).behind ≡ false) ↔ IsOfType s action kind.Vector
  pub poses : (holds_behind 1 (rule s reads (asking e (ask.GetPoseActive session action sub))).behind ≡ false) ↔ IsOfType s action kind.Pose

abbrev pub GettersAreOfTheirTypes : Type 0
GettersAreOfTheirTypes =
    (s : CoreState) (reads : CellReads) (e : Entry) (session action sub : ℕ) → GettersTakeTheirType s reads e session action sub

-- an action has this handle, and this session has attached its set
pub record IsOfAttached (s : CoreState) (session action : ℕ) : Type 0 where
  pub it : Action
  pub is : action_at s.inputs action ≡ Some it
  pub attached : HasAttached (attached_in (session_at s.sessions session)) it.set

-- what a getter asks of its session, and first behind that
abbrev pub TakesAttached : CoreState → ℕ → ℕ → Rule → Type 0
TakesAttached s session action r = holds_behind 0 r.handles ≡ false → (holds_behind 0 r.behind ≡ false) ↔ IsOfAttached s session action

-- The getters of a state take, once their session is a live one, actions whose sets that session has attached.
pub record GettersTakeAttached (s : CoreState) (reads : CellReads) (e : Entry) (session action sub : ℕ) : Type 0 where
  pub booleans : TakesAttached s session action (rule s reads (asking e (ask.GetBoolean session action sub)))
  pub floats : TakesAttached s session action (rule s reads (asking e (ask.GetFloat session action sub)))
  pub vectors : TakesAttached s session action (rule s reads (asking e (ask.GetVector session action sub)))
  pub poses : TakesAttached s session action (rule s reads (asking e (ask.GetPoseActive session action sub)))

abbrev pub GettersAreOfAttachedSets : Type 0
GettersAreOfAttachedSets =
    (s : CoreState) (reads : CellReads) (e : Entry) (session action sub : ℕ) → GettersTakeAttached s reads e session action sub
