-- What the slots keep of the sessions: a frame loop each, and what actions show. A session's slot is the place of its handle in the
-- row of its kind.
use Rattle.std.specs.Prelude.{◌≡◌, ℕ, List, length, map, slice_index_or, slice_set, Option, Some, None}
use Rattle.xr_types.specs.declared.handles.Slot.{Slot}
use Rattle.xr_types.specs.declared.handles.TheConstants.{SESSIONS}
use Rattle.xr_types.specs.declared.input.Column.{Column}
use Rattle.xr_frames.specs.Slots.{SlotFrames, with_loop_at}
use Rattle.xr_model.specs.laws.HandleLaws.{StandOnce}
use Rattle.xr_model.specs.laws.SessionLaws.{AreListed}
use Rattle.xr_model.specs.laws.Soundness.{AreKnown}
use Rattle.xr_model.specs.machine.Frames.{FrameLoop, new_loop}
use Rattle.xr_model.specs.machine.HandlePlaces.{place_in}
use Rattle.xr_model.specs.machine.Handles.{Handles}
use Rattle.xr_model.specs.machine.LiveSessions.{Session}
use Rattle.xr_model.specs.machine.Sync.{no_columns}
use Rattle.xr_core.specs.inside.Housed.{AreHoused}

-- what a slot keeps; where there is no slot, what a new session has
abbrev pub in_slot : {T : Type 0} → T → List T → Option ℕ → T
in_slot new kept None = new
in_slot new kept (Some slot) = slice_index_or kept slot new

-- what the slots keep once this one keeps this
abbrev pub with_in_slot : {T : Type 0} → List T → Option ℕ → T → List T
with_in_slot kept None x = kept
with_in_slot kept (Some slot) x = slice_set kept slot x

-- a session with what its slot keeps, where the handles of sessions stand in this row
abbrev pub seat : List FrameLoop → List (List (List Column)) → List Slot → Session → Session
seat loops columns row x = record x { frame_loop = in_slot new_loop loops (place_in row x.handle); columns = in_slot no_columns columns (place_in row x.handle) }

abbrev pub seated : List FrameLoop → List (List (List Column)) → List Slot → List Session → List Session
seated loops columns row xs = map (seat loops columns row) xs

-- the frames once the loop in this slot stands so
abbrev pub with_loop_on : SlotFrames → Option ℕ → FrameLoop → SlotFrames
with_loop_on f None l = f
with_loop_on f (Some slot) l = with_loop_at f slot l

-- the frames once the loop of the session with this handle stands so
abbrev pub with_own_loop : SlotFrames → List Slot → ℕ → FrameLoop → SlotFrames
with_own_loop f row session l = with_loop_on f (place_in row session) l

-- what actions show, once they show this in the session with this handle
abbrev pub with_own_columns : List (List (List Column)) → List Slot → ℕ → List (List Column) → List (List (List Column))
with_own_columns columns row session shown = with_in_slot columns (place_in row session) shown

-- The listed sessions are the live ones, no handle is listed twice, none stands in two places, and each slot has a loop and columns.
pub record AreSeated (loops : List FrameLoop) (columns : List (List (List Column))) (h : Handles) (xs : List Session) : Type 0 where
  pub listed : AreListed h xs
  pub housed : AreHoused (map (λ x. x.handle) xs) h.sessions
  pub known : AreKnown h
  pub once : StandOnce h
  pub loops_stand : length loops ≡ SESSIONS
  pub columns_stand : length columns ≡ SESSIONS
