-- What is told at the end: the number of how a run ended, the counts of a summary, and where images were given back.
use Rattle.std.specs.Prelude.{◌≡◌, ◌<◌, suc, ℕ, Bool, true, false, List, [], ◌∷◌, ◌++◌, Option, Some, None, length, slice_get, if◌then◌else◌}
use Rattle.std.specs.List.{sum_by}
use Rattle.xr_types.specs.Code.{number_of_code, every_code}
use Rattle.xr_types.specs.declared.calls.Call.{Call}
use Rattle.xr_types.specs.declared.calls.Call.TheVariants as ask
use Rattle.xr_types.specs.declared.made.Made.{Made}
use Rattle.xr_types.specs.declared.status.Refusal.{Refusal}
use Rattle.xr_types.specs.declared.status.Status.{Status}
use Rattle.xr_types.specs.declared.status.Status.TheVariants.{ScenarioRefused, DeviceGarbled}
use Rattle.xr_model.specs.machine.Calls.{Entry}
use Rattle.xr_model.specs.machine.State.{Settings}
use Rattle.xr_model.specs.runs.Lists.{lists_of}
use Rattle.xr_model.specs.runs.Robin.{Agenda}
use Rattle.xr_model.specs.laws.Laws.{count_locked}
use Rattle.xr_model.specs.report.RunEnding.{exit_of}
use Rattle.xr_model.specs.report.Summary.{code_count}

-- ---- the number of how a run ended

-- why a scenario is refused, where it is
abbrev pub why_of : Status → Option Refusal
why_of (ScenarioRefused why) = Some why
why_of _ = None

-- the line of the device that is malformed, where one is
abbrev pub line_of : Status → Option ℕ
line_of (DeviceGarbled line) = Some line
line_of _ = None

-- The numbers of how runs end are those from 0 to 9, each of one way to end: two ends with one number are the same, but for why the
-- scenario is refused and for the malformed line.
pub record StatusesHaveTheirNumbers : Type 0 where
  pub apart : (s t : Status) → exit_of s ≡ exit_of t → why_of s ≡ why_of t → line_of s ≡ line_of t → s ≡ t
  pub few : (s : Status) → exit_of s < 10
  pub each : (n : ℕ) → n < 10 → (s : Status) × (exit_of s ≡ n)

-- ---- the counts of a summary

-- The counts of all results are together as many as the calls.
abbrev pub CountsAddUp : Type 0
CountsAddUp = (calls : List Made) → sum_by (λ c. code_count (number_of_code c) calls) every_code ≡ length calls

-- ---- images that were given back

abbrev pub is_return : Call → Bool
is_return ask.ImageDone = true
is_return _ = false

-- how many entries of a history give an image back
abbrev pub count_returns : List Entry → ℕ
count_returns [] = 0
count_returns (e ∷ es) = if is_return e.call then suc (count_returns es) else count_returns es

-- There is a number for each image that was given back, in their order, and it is how many locked calls came before.
pub record StandBehindCalls (es : List Entry) (numbers : List ℕ) : Type 0 where
  pub many : length numbers ≡ count_returns es
  pub each : (front : List Entry) (e : Entry) (behind : List Entry) → es ≡ front ++ e ∷ behind → is_return e.call ≡ true
      → slice_get numbers (count_returns front) ≡ Some (count_locked front)

-- so it is in the lists of every history
abbrev pub ReturnsStandBehindCalls : Type 0
ReturnsStandBehindCalls = (settings : Settings) (es : List Entry) (left : List Agenda) → StandBehindCalls es (lists_of settings es left).done
