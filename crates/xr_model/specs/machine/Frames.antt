-- The frame loop of a session and the frames that wait for the compositor (OpenXR 1.0 chapter 10, "Frame Synchronization" and
-- "Frame Submission"). Predicted times are this project's own.
use Rattle.std.specs.Prelude.{◌+ℤ◌, ◌-ℤ◌, int_lt, nat_abs, ◌-◌, ◌%◌, ◌^◌, pos, ℕ, ℤ, ◌+◌, nat_lt, Bool, true, false, List, [], ◌∷◌, length, if◌then◌else◌}
use Rattle.xr_types.specs.declared.code.Code.{Code}
use Rattle.xr_types.specs.declared.code.Code.TheVariants.{Success, FrameDiscarded}
use Rattle.xr_types.specs.Frames.{PendingFrame}

-- The time in ns that was predicted last, 0 before the first; whether a frame is waited for and not begun; and
-- whether one is begun and not ended.
pub record FrameLoop : Type 0 where
  pub predicted : ℤ
  pub has_waited : Bool
  pub has_begun : Bool

-- the frames of all sessions that were ended and not taken, the oldest first
pub record Frames : Type 0 where
  pub pending : List PendingFrame

abbrev pub new_loop : FrameLoop
new_loop = record { predicted = pos 0; has_waited = false; has_begun = false }

abbrev pub no_frames : Frames
no_frames = record { pending = [] }

-- ---- predicted times

-- how far the next time of the grid is from this one, which isn't before the base
abbrev pub to_next : ℤ → ℤ → ℤ → ℕ  -- base, period, time
to_next base period time = nat_abs period - nat_abs (time -ℤ base) % nat_abs period

-- the least time of the grid that is later than this one
abbrev pub grid_time : ℤ → ℤ → ℤ → ℤ  -- base, period, time
grid_time base period time = if int_lt time base then base else time +ℤ pos (to_next base period time)

-- the later of two times
abbrev pub later_time : ℤ → ℤ → ℤ
later_time a b = if int_lt a b then b else a

-- the largest time
abbrev pub most_time : ℤ
most_time = pos (2 ^ 63 - 1)

-- this time, or the largest where it is larger
abbrev pub capped_time : ℤ → ℤ
capped_time time = if int_lt most_time time then most_time else time

-- the least time of the grid that is later than the last predicted time and the clock, or the largest where it is larger
abbrev pub predicted_time : ℤ → ℤ → ℤ → ℤ → ℤ  -- last, clock, base, period
predicted_time last clock base period = capped_time (grid_time base period (later_time last clock))

-- ---- the loop

abbrev pub one_if : Bool → ℕ
one_if true = 1
one_if false = 0

-- a running period begins and ends with no frame waited for or begun
abbrev pub reset_loop : FrameLoop → FrameLoop
reset_loop l = record l { has_waited = false; has_begun = false }

abbrev pub waited_loop : FrameLoop → ℤ → FrameLoop
waited_loop l time = record l { predicted = time; has_waited = true }

-- a frame that was begun before is discarded
abbrev pub begun_loop : FrameLoop → FrameLoop
begun_loop l = record l { has_waited = false; has_begun = true }

-- what a begin tells: that another frame was discarded, or plain success
abbrev pub begun_code : FrameLoop → Code
begun_code l = if l.has_begun then FrameDiscarded else Success

abbrev pub ended_loop : FrameLoop → FrameLoop
ended_loop l = record l { has_begun = false }

-- a wait has to wait while a frame of the session is waited for, and while more than two are pending, of all sessions, or begun, of its own
abbrev pub is_frame_held_back : Frames → FrameLoop → Bool
is_frame_held_back f l = if l.has_waited then true else nat_lt 2 (length f.pending + one_if l.has_begun)

abbrev pub is_empty : {T : Type 0} → List T → Bool
is_empty [] = true
is_empty (x ∷ xs) = false
