-- The bytes of a report.
use Rattle.std.specs.Prelude.{ℕ, ◌+◌, Bool, List, [], ◌∷◌, ◌++◌, slice_get, codes, decimal, Option}
use Rattle.xr_types.specs.declared.calls.Reply.{Reply}
use Rattle.xr_types.specs.declared.device.DeviceEvent.{DeviceEvent}
use Rattle.xr_types.specs.declared.frames.Shown.{Shown}
use Rattle.xr_types.specs.declared.made.Lists.{Lists}
use Rattle.xr_types.specs.declared.made.Made.{Made}
use Rattle.xr_types.specs.declared.made.Waiting.{Waiting}
use Rattle.xr_model.specs.report.RunEnding.{ending_of, exit_of}
use Rattle.xr_model.specs.report.ReportLines.{call_line, frame_line, ended_line, event_line, waiting_line}

abbrev pub lines_of : Bool → List Made → List ℕ
lines_of places [] = []
lines_of places (m ∷ ms) = call_line places m ++ lines_of places ms

-- the blocks of the scripts, from a number on
abbrev pub threads_from : Bool → ℕ → List (List Made) → List ℕ
threads_from places number [] = []
threads_from places number (ms ∷ rest) = codes "thread " ++ decimal number ++ codes "\n" ++ lines_of places ms ++ threads_from places (number + 1) rest

-- a line for each frame, from an index on; its reply is the one at the same index
abbrev pub frames_from : Bool → List Reply → ℕ → List Shown → List ℕ
frames_from places replies index [] = []
frames_from places replies index (f ∷ fs) = frame_line places f (slice_get replies index) ++ frames_from places replies (index + 1) fs

abbrev pub compositor_block : Bool → List Shown → List Reply → Option Reply → List ℕ
compositor_block places frames replies ended = codes "compositor\n" ++ frames_from places replies 0 frames ++ ended_line places ended

-- a line for each event with its call, from a number on
abbrev pub events_from : Bool → ℕ → List DeviceEvent → List Made → List ℕ
events_from places number (event ∷ events) (m ∷ ms) = event_line places number event m ++ events_from places (number + 1) events ms
events_from places number _ _ = []

abbrev pub device_block : Bool → List DeviceEvent → List Made → List ℕ
device_block places events calls = codes "device\n" ++ events_from places 1 events calls

abbrev pub waiting_lines : List Waiting → List ℕ
waiting_lines [] = []
waiting_lines (w ∷ ws) = waiting_line w.actor w ++ waiting_lines ws

-- the next calls of a run that can't go on; a run that ended has none
abbrev pub stuck_block : List Waiting → List ℕ
stuck_block [] = []
stuck_block (w ∷ ws) = codes "stuck\n" ++ waiting_lines (w ∷ ws)

-- how the run ended, by the number of that ending
abbrev pub status_line : Lists → List ℕ
status_line lists = codes "status " ++ decimal (exit_of (ending_of lists)) ++ codes "\n"

-- The report of what a run has made, with or without the places of the replies.
abbrev pub report_of : Lists → Bool → List ℕ
report_of lists places =
    codes "xrsim report 1\n"
    ++ threads_from places 1 lists.apps
    ++ compositor_block places lists.compositor lists.shown lists.ended
    ++ device_block places lists.events lists.device
    ++ stuck_block lists.next
    ++ status_line lists
