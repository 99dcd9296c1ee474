-- What holds of the lines of a device's text: they are the text, and the first malformed one is told by its number.
use Rattle.std.specs.Prelude.{◌≡◌, ◌+◌, ◌||◌, nat_lt, Bool, true, false, ℕ, List, [], ◌∷◌, ◌++◌, length, if◌then◌else◌}
use Rattle.std.specs.List.{sum_by, flat_map}
use Rattle.xr_types.specs.declared.device.DeviceEvent.{DeviceEvent}
use Rattle.xr_types.specs.declared.limits.TheConstants.{MOST_LINE, MOST_DEVICE}
use Rattle.xr_model.specs.device_text.DeviceText.{Line, lines_in, line_size, Meaning, tells, malformed, meaning_of, Ending, ends, garbled_at, told_in}

-- ---- the lines of a text

-- the bytes of a line, with its line feed where one ends it
abbrev pub bytes_of : Line → List ℕ
bytes_of l = l.bytes ++ (if l.closed then 10 ∷ [] else [])

-- a line has no line feed inside, and is empty only where one ends it
pub record IsOneLine (l : Line) : Type 0 where
  pub one : (front behind : List ℕ) → l.bytes ≡ front ++ 10 ∷ behind → ⊥
  pub some : l.closed ≡ false → l.bytes ≡ [] → ⊥

-- The lines of a text are the text, one behind the other; each is one line, and all but the last end in a line feed.
pub record AreItsLines (text : List ℕ) (ls : List Line) : Type 0 where
  pub whole : flat_map bytes_of ls ≡ text
  pub each : (front : List Line) (l : Line) (behind : List Line) → ls ≡ front ++ l ∷ behind → IsOneLine l
  pub ended : (front : List Line) (l next : Line) (behind : List Line) → ls ≡ front ++ l ∷ next ∷ behind → l.closed ≡ true

abbrev pub LinesAreTheText : Type 0
LinesAreTheText = (text : List ℕ) → AreItsLines text (lines_in text)

-- ---- the first malformed line

-- neither an event nor a comment
abbrev pub is_neither : Meaning → Bool
is_neither malformed = true
is_neither _ = false

-- A line is malformed behind others where it is longer than a line may be, where it ends beyond what a device may have, and where
-- it is neither empty, nor a comment, nor tells an event.
abbrev pub is_malformed : List Line → Line → Bool
is_malformed ahead l =
    nat_lt MOST_LINE (length l.bytes) || (nat_lt MOST_DEVICE (sum_by line_size ahead + line_size l) || is_neither (meaning_of l.bytes))

-- the event that a line tells
abbrev pub event_in : Meaning → List DeviceEvent
event_in (tells e) = e ∷ []
event_in _ = []

-- none of these lines is malformed behind those ahead of it, and these are the events that they tell
pub record AreWellFormed (ls : List Line) (events : List DeviceEvent) : Type 0 where
  pub formed : (front : List Line) (l : Line) (behind : List Line) → ls ≡ front ++ l ∷ behind → is_malformed front l ≡ false
  pub told : events ≡ flat_map (λ l. event_in (meaning_of l.bytes)) ls

-- the line of this number, counted from 1, is malformed, and none ahead of it is
pub record IsFirstMalformed (ls : List Line) (events : List DeviceEvent) (number : ℕ) : Type 0 where
  pub ahead : List Line
  pub line : Line
  pub rest : List Line
  pub stand : ls ≡ ahead ++ line ∷ rest
  pub place : number ≡ length ahead + 1
  pub wrong : is_malformed ahead line ≡ true
  pub right : AreWellFormed ahead events

-- how a device ends by its lines
abbrev pub EndsByItsLines : List Line → List DeviceEvent → Ending → Type 0
EndsByItsLines ls events ends = AreWellFormed ls events
EndsByItsLines ls events (garbled_at number) = IsFirstMalformed ls events number

-- A text whose lines are all well formed tells their events; of any other the first malformed line is told, and the events ahead of it.
abbrev pub FirstMalformedIsTold : Type 0
FirstMalformedIsTold = (text : List ℕ) → EndsByItsLines (lines_in text) (told_in text).events (told_in text).ending
