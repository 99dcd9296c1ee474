-- Where a live handle stands, and below which parent, for the contracts of parts.
use Rattle.std.specs.Prelude.{ℕ, ◌==◌, ◌&&◌, Bool, false, List, slice_index_or, Option, Some, None, option_map, if◌then◌else◌}
use Rattle.std.specs.List.{position_from, find}
use Rattle.xr_types.specs.declared.handles.Kind.{Kind}
use Rattle.xr_types.specs.declared.handles.Kind.TheVariants.{Instance, Session, ActionSet, Action, Space, Swapchain}
use Rattle.xr_types.specs.declared.handles.Slot.{Slot}
use Rattle.xr_types.specs.declared.handles.TheConstants.{INSTANCES, SESSIONS, ACTION_SETS, ACTIONS, SPACES, SWAPCHAINS}
use Rattle.xr_model.specs.machine.Handles.{Handles, free, is_live, row_of}

-- the kind of a live handle
abbrev pub kind_of : Handles → ℕ → Option Kind
kind_of h handle =
    if is_live h Instance handle then Some Instance
    else (if is_live h Session handle then Some Session
    else (if is_live h ActionSet handle then Some ActionSet
    else (if is_live h Action handle then Some Action
    else (if is_live h Space handle then Some Space
    else (if is_live h Swapchain handle then Some Swapchain
    else None)))))

-- where a handle stands in a row, and with which parent
abbrev pub place_in : List Slot → ℕ → Option ℕ
place_in row handle = position_from (λ s. s.handle == handle) 0 row

abbrev pub slot_in : List Slot → ℕ → Option Slot
slot_in row handle = find (λ s. s.handle == handle) row

abbrev pub place_of_kind : Handles → Option Kind → ℕ → Option ℕ
place_of_kind h None handle = None
place_of_kind h (Some kind) handle = place_in (row_of h kind) handle

abbrev pub parent_of_kind : Handles → Option Kind → ℕ → Option ℕ
parent_of_kind h None handle = None
parent_of_kind h (Some kind) handle = option_map (λ s. s.parent) (slot_in (row_of h kind) handle)

-- the place of a live handle in the row of its kind
abbrev pub place_of : Handles → ℕ → Option ℕ
place_of h handle = place_of_kind h (kind_of h handle) handle

-- the parent of a live handle, 0 for an instance
abbrev pub parent_of : Handles → ℕ → Option ℕ
parent_of h handle = parent_of_kind h (kind_of h handle) handle

-- this is the parent
abbrev pub is_parent : ℕ → Option ℕ → Bool
is_parent parent None = false
is_parent parent (Some above) = above == parent

-- a live handle of this kind whose parent this is
abbrev pub is_below : Handles → Kind → ℕ → ℕ → Bool
is_below h kind parent handle = is_live h kind handle && is_parent parent (parent_of h handle)

-- the place of a handle of this kind, where it is live
abbrev pub place_among : Handles → Kind → ℕ → Option ℕ
place_among h kind handle = if is_live h kind handle then place_in (row_of h kind) handle else None

-- the handle that stands in a place of a row, 0 where none does
abbrev pub handle_at : List Slot → ℕ → ℕ
handle_at row place = (slice_index_or row place free).handle

-- how many handles of a kind are live at most
abbrev pub limit_of : Kind → ℕ
limit_of Instance = INSTANCES
limit_of Session = SESSIONS
limit_of ActionSet = ACTION_SETS
limit_of Action = ACTIONS
limit_of Space = SPACES
limit_of Swapchain = SWAPCHAINS
