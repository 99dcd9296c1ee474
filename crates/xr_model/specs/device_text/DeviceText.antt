-- Device texts: which lines give which events, and where the first line stands that is none. The format is this
-- project's own.
use Rattle.std.specs.Prelude.{ℕ, ℤ, pos, negsuc, ◌+◌, ◌-◌, ◌*◌, ◌^◌, ◌&&◌, ◌||◌, ◌==◌, Bool, true, false, nat_eq, nat_lt, nat_le, List, [], ◌∷◌, length, codes, Option, Some, None, option_map, option_and_then, if◌then◌else◌}
use Rattle.std.specs.Cmp.Lexicographic.{pointwise}
use Rattle.xr_types.specs.declared.device.DeviceEvent.{DeviceEvent}
use Rattle.xr_types.specs.declared.device.DeviceEvent.TheVariants as event
use Rattle.xr_types.specs.declared.input.Profile.{Profile}
use Rattle.xr_types.specs.declared.input.User.{User}
use Rattle.xr_types.specs.declared.limits.TheConstants.{MOST_LINE, MOST_DEVICE}
use Rattle.xr_types.specs.declared.spaces.Origin.{Origin}
use Rattle.xr_types.specs.Device.{checks}
use Rattle.xr_types.specs.Printed.{wish_name, all_wishes, origin_name, all_origins, user_path, all_users, profile_name, all_profiles}
use Rattle.xr_types.specs.InputNames.{row_of}
use Rattle.xr_types.specs.Words.{named, behind}
use Rattle.xr_model.specs.machine.Profiles.{first_some}

-- ---- lines

-- a line without its line feed, and whether one ends it
pub record Line : Type 0 where
  pub bytes : List ℕ
  pub closed : Bool

-- a byte before the first of the lines
abbrev pub in_front : ℕ → List Line → List Line
in_front b [] = record { bytes = b ∷ []; closed = false } ∷ []
in_front b (l ∷ ls) = record l { bytes = b ∷ l.bytes } ∷ ls

-- the lines of a text; an empty rest behind the last line feed is none
abbrev pub lines_in : List ℕ → List Line
lines_in [] = []
lines_in (b ∷ bs) = if b == 10 then record { bytes = []; closed = true } ∷ lines_in bs else in_front b (lines_in bs)

-- how many bytes a line takes, its line feed among them
abbrev pub line_size : Line → ℕ
line_size l = length l.bytes + (if l.closed then 1 else 0)

-- ---- words and numbers

abbrev pub before_first : ℕ → List (List ℕ) → List (List ℕ)
before_first b [] = (b ∷ []) ∷ []
before_first b (w ∷ ws) = (b ∷ w) ∷ ws

-- the words between single spaces; two spaces together have an empty word between them
abbrev pub words_of : List ℕ → List (List ℕ)
words_of [] = [] ∷ []
words_of (b ∷ bs) = if b == 32 then [] ∷ words_of bs else before_first b (words_of bs)

abbrev pub is_word : List ℕ → List ℕ → Bool
is_word text word = pointwise nat_eq text word

abbrev pub is_digit : ℕ → Bool
is_digit b = nat_le 48 b && nat_le b 57

-- the number of these digits behind a number
abbrev pub digits_behind : ℕ → List ℕ → Option ℕ
digits_behind n [] = Some n
digits_behind n (b ∷ bs) = if is_digit b then digits_behind (n * 10 + (b - 48)) bs else None

-- a number is decimal digits without a leading zero
abbrev pub number_of : List ℕ → Option ℕ
number_of [] = None
number_of (b ∷ []) = digits_behind 0 (b ∷ [])
number_of (b ∷ c ∷ bs) = if b == 48 then None else digits_behind 0 (b ∷ c ∷ bs)

-- a number below 0, without its sign; there is no other 0
abbrev pub below_0 : ℕ → Option ℤ
below_0 n = if n == 0 then None else Some (negsuc (n - 1))

-- a whole number: one below 0 has `-` before it
abbrev pub integer_of : List ℕ → Option ℤ
integer_of [] = None
integer_of (b ∷ bs) = if b == 45 then option_and_then below_0 (number_of bs) else option_map pos (number_of (b ∷ bs))

-- ---- events

abbrev pub grid_by : Option ℤ → Option ℤ → Option DeviceEvent
grid_by (Some base) (Some period) = Some (event.Grid base period)
grid_by _ _ = None

-- the device has a stage, or has none
abbrev pub switch_of : List ℕ → Option Bool
switch_of word = if is_word word (codes "on") then Some true else (if is_word word (codes "off") then Some false else None)

-- the profile that is connected, or none
abbrev pub connected_of : List ℕ → Option (Option Profile)
connected_of word = if is_word word (codes "none") then Some None else option_map (λ profile. Some profile) (named profile_name all_profiles word)

abbrev pub profile_by : Option User → Option (Option Profile) → Option DeviceEvent
profile_by (Some who) (Some profile) = Some (event.Profile who profile)
profile_by _ _ = None

-- an input at a user path: that, `/input/`, and its identifier and component
abbrev pub input_at : List ℕ → User → Option (User × ℕ)
input_at word who = option_and_then (λ name. option_map (λ row. (who, row)) (row_of name)) (option_and_then (behind (codes "/input/")) (behind (user_path who) word))

abbrev pub input_among : List ℕ → List User → Option (User × ℕ)
input_among word [] = None
input_among word (who ∷ more) = first_some (input_at word who) (input_among word more)

abbrev pub input_by : Option (User × ℕ) → Option ℤ → Option DeviceEvent
input_by (Some source) (Some value) = Some (event.Input source.0 source.1 value)
input_by _ _ = None

-- the greatest pose that a line tells
abbrev pub most_pose : ℕ
most_pose = 2 ^ 63 - 1

abbrev pub pose_by : Option Origin → Option ℤ → Option ℕ → Option DeviceEvent
pose_by (Some what) (Some time) (Some pose) = if nat_le pose most_pose then Some (event.Pose what time pose) else None
pose_by _ _ _ = None

-- the event of a line's words, whatever its numbers
abbrev pub event_by : List (List ℕ) → Option DeviceEvent
event_by [] = None
event_by (word ∷ []) =
    if is_word word (codes "loss") then Some event.Loss
    else (if is_word word (codes "lost") then Some event.Lost
    else None)
event_by (word ∷ a ∷ []) =
    if is_word word (codes "clock") then option_map (λ n. event.Clock n) (integer_of a)
    else (if is_word word (codes "wish") then option_map (λ w. event.Wish w) (named wish_name all_wishes a)
    else (if is_word word (codes "stage") then option_map (λ on. event.Stage on) (switch_of a)
    else (if is_word word (codes "mark") then option_map (λ n. event.Mark n) (number_of a)
    else (if is_word word (codes "await") then option_map (λ n. event.Await n) (number_of a)
    else None))))
event_by (word ∷ a ∷ b ∷ []) =
    if is_word word (codes "grid") then grid_by (integer_of a) (integer_of b)
    else (if is_word word (codes "profile") then profile_by (named user_path all_users a) (connected_of b)
    else (if is_word word (codes "input") then input_by (input_among a all_users) (integer_of b)
    else None))
event_by (word ∷ a ∷ b ∷ c ∷ []) = if is_word word (codes "pose") then pose_by (named origin_name all_origins a) (integer_of b) (number_of c) else None
event_by (word ∷ a ∷ b ∷ c ∷ d ∷ ws) = None

-- its numbers have to be in range
abbrev pub if_checked : Option DeviceEvent → Option DeviceEvent
if_checked None = None
if_checked (Some e) = if checks e then Some e else None

abbrev pub event_of : List ℕ → Option DeviceEvent
event_of line = if_checked (event_by (words_of line))

-- ---- texts

-- what a line says: nothing where it is empty or a comment, an event, or it is none
pub data Meaning : Type 0 where
  skipped : Meaning
  tells : DeviceEvent → Meaning
  malformed : Meaning

abbrev pub event_or_none : Option DeviceEvent → Meaning
event_or_none (Some e) = tells e
event_or_none None = malformed

abbrev pub meaning_of : List ℕ → Meaning
meaning_of [] = skipped
meaning_of (b ∷ bs) = if b == 35 then skipped else event_or_none (event_of (b ∷ bs))

-- how a device ends: at the end of its text, or at the line of this number, which is none
pub data Ending : Type 0 where
  ends : Ending
  garbled_at : ℕ → Ending

-- the events that a device gives, and how it ends
pub record DeviceStream : Type 0 where
  pub events : List DeviceEvent
  pub ending : Ending

abbrev pub nothing_more : DeviceStream
nothing_more = record { events = []; ending = ends }

abbrev pub told_by : ℕ → Meaning → DeviceStream → DeviceStream
told_by number skipped rest = rest
told_by number (tells e) rest = record rest { events = e ∷ rest.events }
told_by number malformed rest = record { events = []; ending = garbled_at number }

-- from a line's number on, behind so many bytes
abbrev pub told_from : ℕ → ℕ → List Line → DeviceStream
told_from number used [] = nothing_more
told_from number used (l ∷ ls) =
    if nat_lt MOST_LINE (length l.bytes) || nat_lt MOST_DEVICE (used + line_size l) then record { events = []; ending = garbled_at number }
    else told_by number (meaning_of l.bytes) (told_from (number + 1) (used + line_size l) ls)

-- what a device's text tells; lines count from 1
abbrev pub told_in : List ℕ → DeviceStream
told_in text = told_from 1 0 (lines_in text)
