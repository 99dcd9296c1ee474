-- Handles (OpenXR 1.0 chapter 2, "Handles"): those that were given in the run, and the live ones, which
-- stand in a row of places for each kind.
use Rattle.std.specs.Prelude.{ℕ, ◌&&◌, ◌||◌, ◌==◌, Bool, not, List, [], ◌∷◌, ◌++◌, map, replicate, slice_set, Option, Some, None, is_some, if◌then◌else◌}
use Rattle.std.specs.List.{list_any, position_from}
use Rattle.xr_types.specs.declared.code.Code.TheVariants.{HandleInvalid, LimitReached}
use Rattle.xr_types.specs.declared.handles.Kind.{Kind}
use Rattle.xr_types.specs.declared.handles.Kind.TheVariants.{Instance, Session, ActionSet, Action, Space, Swapchain}
use Rattle.xr_types.specs.declared.handles.Slot.{Slot}
use Rattle.xr_types.specs.declared.handles.TheConstants.{INSTANCES, SESSIONS, ACTION_SETS, ACTIONS, SPACES, SWAPCHAINS}
use Rattle.xr_model.specs.machine.Refusals.{Refusal, when}

-- Every handle that was given, the newest first, and the row of each kind. A row has as many places as
-- handles of its kind may be live; a place is free where its handle is 0.
pub record Handles : Type 0 where
  pub given : List ℕ
  pub instances : List Slot
  pub sessions : List Slot
  pub sets : List Slot
  pub actions : List Slot
  pub spaces : List Slot
  pub chains : List Slot

abbrev pub free : Slot
free = record { handle = 0; parent = 0 }

abbrev pub no_handles : Handles
no_handles = record {
  given = [];
  instances = replicate INSTANCES free;
  sessions = replicate SESSIONS free;
  sets = replicate ACTION_SETS free;
  actions = replicate ACTIONS free;
  spaces = replicate SPACES free;
  chains = replicate SWAPCHAINS free;
}

abbrev pub row_of : Handles → Kind → List Slot
row_of h Instance = h.instances
row_of h Session = h.sessions
row_of h ActionSet = h.sets
row_of h Action = h.actions
row_of h Space = h.spaces
row_of h Swapchain = h.chains

abbrev pub with_row : Handles → Kind → List Slot → Handles
with_row h Instance row = record h { instances = row }
with_row h Session row = record h { sessions = row }
with_row h ActionSet row = record h { sets = row }
with_row h Action row = record h { actions = row }
with_row h Space row = record h { spaces = row }
with_row h Swapchain row = record h { chains = row }

-- ---- what is live

-- a handle stands in a row
abbrev pub has : List Slot → ℕ → Bool
has row handle = list_any (λ s. s.handle == handle) row

-- a live handle of this kind; 0 is none
abbrev pub is_live : Handles → Kind → ℕ → Bool
is_live h kind handle = not (handle == 0) && has (row_of h kind) handle

-- a call's own handle has to be live and of its kind
abbrev pub no_handle : Handles → Kind → ℕ → Refusal
no_handle h kind handle = when (not (is_live h kind handle)) HandleInvalid

-- ---- giving a handle

abbrev pub was_given : Handles → ℕ → Bool
was_given h handle = list_any (λ known. known == handle) h.given

abbrev pub first_free : List Slot → Option ℕ
first_free row = position_from (λ s. s.handle == 0) 0 row

abbrev pub has_room : Handles → Kind → Bool
has_room h kind = is_some (first_free (row_of h kind))

-- as many handles of this kind are live as may be
abbrev pub no_room : Handles → Kind → Refusal
no_room h kind = when (not (has_room h kind)) LimitReached

abbrev pub put_in : List Slot → Slot → Option ℕ → List Slot
put_in row s None = row
put_in row s (Some place) = slice_set row place s

-- a new handle stands in the first free place of its kind
abbrev pub with_handle : Handles → Kind → ℕ → ℕ → Handles
with_handle h kind parent handle =
    let put = put_in (row_of h kind) (record { handle = handle; parent = parent }) (first_free (row_of h kind)) in
    record (with_row h kind put) { given = handle ∷ h.given }

-- ---- destroying a handle

-- it is one of these handles
abbrev pub is_among : List ℕ → ℕ → Bool
is_among handles k = list_any (λ g. g == k) handles

-- the slot's handle is the one that is destroyed, or its parent is among those that go
unfoldable pub goes : ℕ → List ℕ → Slot → Bool
goes handle above s = not (s.handle == 0) && ((s.handle == handle) || is_among above s.parent)

-- the handles of a row that go
abbrev pub going : ℕ → List ℕ → List Slot → List ℕ
going handle above [] = []
going handle above (s ∷ ss) = if goes handle above s then s.handle ∷ going handle above ss else going handle above ss

-- the row without them
abbrev pub cleared : ℕ → List ℕ → List Slot → List Slot
cleared handle above row = map (λ s. if goes handle above s then free else s) row

-- Level by level, the handles that go: an instance; sessions and action sets; and what is below these.
abbrev pub destroyed_instances : Handles → ℕ → List ℕ
destroyed_instances h handle = going handle [] h.instances

abbrev pub destroyed_parents : Handles → ℕ → List ℕ
destroyed_parents h handle =
    let above = destroyed_instances h handle in
    (above ++ going handle above h.sessions) ++ going handle above h.sets

-- a handle and all below it
abbrev pub destroyed_by : Handles → ℕ → List ℕ
destroyed_by h handle =
    let above = destroyed_parents h handle in
    ((above ++ going handle above h.actions) ++ going handle above h.spaces) ++ going handle above h.chains

-- what is live without a handle and all below it
abbrev pub without : Handles → ℕ → Handles
without h handle =
    let instances = destroyed_instances h handle in
    let parents = destroyed_parents h handle in
    record h {
      instances = cleared handle [] h.instances;
      sessions = cleared handle instances h.sessions;
      sets = cleared handle instances h.sets;
      actions = cleared handle parents h.actions;
      spaces = cleared handle parents h.spaces;
      chains = cleared handle parents h.chains;
    }

-- what is live without one handle of a kind below which nothing stands
abbrev pub without_alone : Handles → Kind → ℕ → Handles
without_alone h kind handle = with_row h kind (cleared handle [] (row_of h kind))
