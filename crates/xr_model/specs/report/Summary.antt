-- The bytes of the summary of a load: how many calls, frames and results there were, and how the run ended.
use Rattle.std.specs.Prelude.{ℕ, ℤ, pos, ◌+◌, ◌-◌, ◌%◌, ◌^◌, ◌==◌, List, [], ◌∷◌, ◌++◌, length, slice_get, unwrap_or, option_map, codes, decimal, if◌then◌else◌}
use Rattle.std.specs.Fmt.{signed_decimal}
use Rattle.xr_types.specs.Code.{name_of_code, number_of_code, every_code}
use Rattle.xr_types.specs.declared.frames.Shown.{Shown}
use Rattle.xr_types.specs.declared.code.Code.{Code}
use Rattle.xr_types.specs.declared.frames.ShownLayer.{ShownLayer}
use Rattle.xr_types.specs.declared.frames.ShownLayer.TheVariants as layer
use Rattle.xr_types.specs.declared.made.Lists.{Lists}
use Rattle.xr_types.specs.declared.made.Made.{Made}
use Rattle.xr_model.specs.report.Report.{status_line}

-- a line of a number behind its name
abbrev pub number_line : List ℕ → ℕ → List ℕ
number_line name n = name ++ codes " " ++ decimal n ++ codes "\n"

-- ---- calls

-- the calls of the one script, which `leave` ends
abbrev pub first_calls : List (List Made) → List Made
first_calls [] = []
first_calls (calls ∷ rest) = calls

-- how many of these calls were answered by the result of a number
abbrev pub code_count : ℕ → List Made → ℕ
code_count n [] = 0
code_count n (m ∷ ms) = if number_of_code m.reply.code == n then code_count n ms + 1 else code_count n ms

-- the line of a result that came so often, none where it never came
abbrev pub code_line : ℕ → Code → List ℕ
code_line count code = if count == 0 then [] else number_line (name_of_code code) count

-- a line for each of these results that came
abbrev pub code_lines : List Made → List Code → List ℕ
code_lines calls [] = []
code_lines calls (c ∷ cs) = code_line (code_count (number_of_code c) calls) c ++ code_lines calls cs

-- ---- frames

-- the sum of the stamps of a layer's images
abbrev pub layer_stamps : ShownLayer → ℕ
layer_stamps (layer.Projection left right) = left + right
layer_stamps (layer.Quad stamp) = stamp

abbrev pub layers_stamps : List ShownLayer → ℕ
layers_stamps [] = 0
layers_stamps (l ∷ ls) = layer_stamps l + layers_stamps ls

-- the sum of the stamps of all layers of all frames
abbrev pub stamps_of : List Shown → ℕ
stamps_of [] = 0
stamps_of (f ∷ fs) = layers_stamps f.layers + stamps_of fs

-- the time of the last frame, 0 where there is none
abbrev pub last_time : List Shown → ℤ
last_time frames = unwrap_or (option_map (λ f. f.time) (slice_get frames (length frames - 1))) (pos 0)

-- how many frames the compositor has taken, the sum of their stamps modulo 2^64, and the last one's time
abbrev pub frame_lines : List Shown → List ℕ
frame_lines frames =
    number_line (codes "frames") (length frames)
    ++ number_line (codes "stamps") (stamps_of frames % 2 ^ 64)
    ++ codes "last time " ++ signed_decimal (last_time frames) ++ codes "\n"

-- ---- the whole

-- The summary of what a load of N frames has made. Its status is that of a report.
abbrev pub summary_of : ℕ → Lists → List ℕ
summary_of n lists =
    number_line (codes "xrsim load") n
    ++ number_line (codes "calls") (length (first_calls lists.apps))
    ++ code_lines (first_calls lists.apps) every_code
    ++ frame_lines lists.compositor
    ++ status_line lists
