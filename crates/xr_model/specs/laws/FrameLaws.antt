-- Frames in every history: how many are pending, that they are shown as they were submitted, how many are taken, and the
-- times that are predicted.
use Rattle.std.specs.Prelude.{◌≡◌, ◌≤◌, ◌<◌, ◌+◌, ◌*◌, ◌+ℤ◌, ◌&&◌, ◌||◌, int_le, int_lt, nat_abs, pos, ℕ, ℤ, Bool, true, false, List, [], ◌∷◌, ◌++◌, map, length, if◌then◌else◌}
use Rattle.xr_types.specs.Code.{is_success}
use Rattle.xr_types.specs.declared.handles.TheConstants.{SESSIONS}
use Rattle.xr_types.specs.declared.frames.Layer.{Layer}
use Rattle.xr_types.specs.declared.frames.ShownLayer.{ShownLayer}
use Rattle.xr_types.specs.Frames.{PendingFrame}
use Rattle.xr_types.specs.declared.frames.Shown.{Shown}
use Rattle.xr_model.specs.machine.Calls.{Entry}
use Rattle.xr_types.specs.declared.calls.Call.{Call}
use Rattle.xr_types.specs.declared.calls.Call.TheVariants as ask
use Rattle.xr_model.specs.machine.Frames.{predicted_time, most_time}
use Rattle.xr_model.specs.machine.Images.{stamp_in, shown_layer, shown_with}
use Rattle.xr_model.specs.machine.Layers.{layer_of}
use Rattle.xr_model.specs.machine.Rules.Frames.{look_of}
use Rattle.xr_model.specs.machine.State.{Settings, State, opening}
use Rattle.xr_model.specs.machine.Machine.{step}
use Rattle.xr_model.specs.machine.History.{after, IsLegal, shown_if}
use Rattle.xr_model.specs.laws.FewCalls.{is_end}
use Rattle.xr_model.specs.laws.ImageLaws.{is_next_frame}
use Rattle.xr_model.specs.laws.MomentLaws.{are_by_callers}

-- at most two for each session that may be live and one more are pending
abbrev pub PendingAreFew : Type 0
PendingAreFew = (settings : Settings) (es : List Entry) → IsLegal settings es → length (after (opening settings) es).core.frames.pending ≤ 2 * SESSIONS + 1

-- ---- frames are shown as they were submitted

-- a layer that a session asks for, with the stamps that the images released last have now
abbrev pub asked_layer : State → ℕ → Layer → ShownLayer
asked_layer s session l = shown_layer (stamp_in s.cells.stamps) (layer_of (look_of s.core session) l)

-- the frame that a call submits where it succeeds, if it does
abbrev pub submitted_if : Bool → State → Call → List Shown
submitted_if true s (ask.EndFrame session time blend layers) = record { number = s.core.ended + 1; time = time; layers = map (asked_layer s session) layers } ∷ []
submitted_if _ s _ = []

-- all frames that a history submits, in order, each with the stamps that its images have then
abbrev pub submitted_from : State → List Entry → List Shown
submitted_from s [] = []
submitted_from s (e ∷ es) = submitted_if (is_success (step s e).1.reply.code) s e.call ++ submitted_from (step s e).0 es

-- frames as they would be shown with the stamps that images have now
abbrev pub shown_now : State → List PendingFrame → List Shown
shown_now s frames = map (shown_with (stamp_in s.cells.stamps)) frames

-- the frames that a history shows
abbrev pub shown_from : State → List Entry → List Shown
shown_from s [] = []
shown_from s (e ∷ es) = shown_if (step s e).1.shown ++ shown_from (step s e).0 es

-- The frames that were shown, and then those that are pending, with the stamps of now, are those that were submitted, with the
-- stamps of then.
abbrev pub FramesAsSubmitted : Type 0
FramesAsSubmitted =
    (settings : Settings) (es : List Entry) → IsLegal settings es
    → shown_from (opening settings) es ++ shown_now (after (opening settings) es) (after (opening settings) es).core.frames.pending
    ≡ submitted_from (opening settings) es

-- ---- the end

-- the compositor asks for a frame, and is told the end
abbrev pub is_told_end : State → Entry → Bool
is_told_end s e = is_next_frame e.call && is_end (step s e).1.reply.gives

abbrev pub was_told_end : State → List Entry → Bool
was_told_end s [] = false
was_told_end s (e ∷ es) = is_told_end s e || was_told_end (step s e).0 es

-- Where the compositor was told the end, all frames that were submitted are shown, in order, each with the stamps that its images had.
abbrev pub AllAreShownAtTheEnd : Type 0
AllAreShownAtTheEnd =
    (settings : Settings) (es : List Entry) → IsLegal settings es → are_by_callers es ≡ true → was_told_end (opening settings) es ≡ true
    → shown_from (opening settings) es ≡ submitted_from (opening settings) es

-- ---- numbers

-- these frames have the numbers from this one on
abbrev pub AreNumbered : ℕ → List Shown → Type 0
AreNumbered n [] = Unit {0}
AreNumbered n (f ∷ frames) = (f.number ≡ n) × AreNumbered (n + 1) frames

-- the frames that were submitted are numbered from 1 in their order
abbrev pub FramesAreNumbered : Type 0
FramesAreNumbered = (settings : Settings) (es : List Entry) → AreNumbered 1 (submitted_from (opening settings) es)

-- ---- frames that are taken

-- how many frames a history takes: those that it shows
abbrev pub taken_by : Settings → List Entry → ℕ
taken_by settings es = length (shown_from (opening settings) es)

abbrev pub frame_call : Call → ℕ
frame_call (ask.BeginFrame session) = 1
frame_call (ask.EndFrame session time blend layers) = 1
frame_call _ = 0

-- how many calls of a history are to begin or to end a frame, which only applications make
abbrev pub frame_calls : List Entry → ℕ
frame_calls [] = 0
frame_calls (e ∷ es) = frame_call e.call + frame_calls es

-- Each frame that is taken was begun and ended before, so the frames taken are at most half of these calls.
abbrev pub TakenAreHalf : Type 0
TakenAreHalf = (settings : Settings) (es : List Entry) → 2 * taken_by settings es ≤ frame_calls es

-- ---- predicted times

-- the k-th time of the grid, from 0
abbrev pub time_of_grid : ℤ → ℤ → ℕ → ℤ  -- base, period
time_of_grid base period k = base +ℤ pos (k * nat_abs period)

-- it is later than the last predicted time and than the clock
abbrev pub is_later : ℤ → ℤ → ℤ → Bool  -- last, clock, time
is_later last clock time = int_lt last time && int_lt clock time

-- The least time of the grid that is later than the last one and the clock, or the largest time where that is larger.
pub record IsPredicted (last clock base period time : ℤ) : Type 0 where
  pub place : ℕ
  pub grid : time ≡ (if int_lt most_time (time_of_grid base period place) then most_time else time_of_grid base period place)
  pub later : is_later last clock (time_of_grid base period place) ≡ true
  pub least : (k : ℕ) → k < place → is_later last clock (time_of_grid base period k) ≡ false

-- so it is with every grid whose period is at least 1
abbrev pub TimesArePredicted : Type 0
TimesArePredicted =
    (last clock base period : ℤ) → int_le (pos 1) period ≡ true → IsPredicted last clock base period (predicted_time last clock base period)
