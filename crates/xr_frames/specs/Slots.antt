-- The loops of the sessions by their slots, and the frames of all sessions that are pending (OpenXR 1.0 chapter 10). How many may be pending
-- is this project's own.
use Rattle.std.specs.Prelude.{ℕ, ◌+◌, slice_index_or, slice_set, replicate, List, [], ◌∷◌}
use Rattle.xr_types.specs.declared.handles.TheConstants.{SESSIONS}
use Rattle.xr_types.specs.Frames.{PendingFrame}
use Rattle.xr_model.specs.machine.Frames as machine
use Rattle.xr_model.specs.machine.Frames.{FrameLoop, new_loop, is_frame_held_back, one_if}

pub record SlotFrames : Type 0 where
  pub loops : List FrameLoop
  pub pending : List PendingFrame

abbrev pub no_slot_frames : SlotFrames
no_slot_frames = record { loops = replicate SESSIONS new_loop; pending = [] }

abbrev pub loop_at : SlotFrames → ℕ → FrameLoop
loop_at f slot = slice_index_or f.loops slot new_loop

abbrev pub with_loop_at : SlotFrames → ℕ → FrameLoop → SlotFrames
with_loop_at f slot l = record f { loops = slice_set f.loops slot l }

-- the frames as the machine has them, whose loops stand with their sessions
abbrev pub frames_of : SlotFrames → machine.Frames
frames_of f = record { pending = f.pending }

-- how many frames a loop has waited for and begun
abbrev pub busy : FrameLoop → ℕ
busy l = one_if l.has_waited + one_if l.has_begun

-- and all loops have
abbrev pub all_busy : List FrameLoop → ℕ
all_busy [] = 0
all_busy (l ∷ ls) = busy l + all_busy ls
