-- A device text of which some bytes are held and the rest may be told.
use Rattle.std.specs.Prelude.{◌≡◌, ◌≤◌, ◌<◌, ℕ, ◌+◌, ◌-◌, ◌||◌, ◌&&◌, not, if◌then◌else◌, Bool, true, false, List, [], ◌++◌, length, take, drop, Option, Some, None, option_map, IfSome}
use Rattle.std.specs.Io.KnownBytes.{IsAtEnd, prepend_known}
use Rattle.xr_io.specs.Outside.{SourceState, left_of}
use Rattle.xr_model.specs.device_text.DeviceText.{DeviceStream, told_from, told_by, lines_in, meaning_of, nothing_more}
use Rattle.xr_device.specs.Answers.{garbled}
use Rattle.xr_device.specs.WholeLines.{AreWholeLines}
use Rattle.xr_device.specs.FirstByte.{is_free_of, IsFirstAt}
use Rattle.xr_device.specs.declared.lines.Front.{Front}
use Rattle.xr_types.specs.declared.limits.TheConstants.{MOST_DEVICE, MOST_LINE}
use Rattle.xr_device.specs.declared.lines.Front.TheVariants as front

-- what is still to come from a line's number on, behind so many bytes
abbrev pub told_at : ℕ → ℕ → List ℕ → Option (List ℕ) → Option DeviceStream
told_at number used held left = option_map (λ text. told_from number used (lines_in text)) (prepend_known held left)

-- all of a source from a place on, where it tells its bytes
abbrev pub text_from : ℕ → SourceState → Option (List ℕ)
text_from place source = option_map (drop place) source.bytes

-- a read of the source was late, or the next one would be, since it is over and that isn't known
abbrev pub late_in : SourceState → Bool → Bool
late_in source known = source.taken.late || (source.is_over && not known)

-- A text as it was read so far: the number of its next line, how many events it gave, how many of its bytes were used, those that
-- are held, whether it is known that the source has ended, and the source.
pub record Reading : Type 0 where
  pub number : ℕ
  pub given : ℕ
  pub used : ℕ
  pub held : List ℕ
  pub ended : Bool
  pub source : SourceState

abbrev pub reading_of : ℕ → ℕ → ℕ → List ℕ → Bool → SourceState → Reading
reading_of number given used held ended source = record {
  number = number;
  given = given;
  used = used;
  held = held;
  ended = ended;
  source = source;
}

-- what is still to come of a text
abbrev pub told : Reading → Option DeviceStream
told r = told_at r.number r.used r.held (left_of r.source)

-- how many bytes were taken of the source before the text began
abbrev pub begins_at : Reading → ℕ
begins_at r = r.source.taken.count - (r.used + length r.held)

-- all of the text, where it is told
abbrev pub text_of : Reading → Option (List ℕ)
text_of r = text_from (begins_at r) r.source

-- So many bytes of a text were used, these are held, and these are left.
pub record StandsIn (used : ℕ) (held left text : List ℕ) : Type 0 where
  pub enough : used ≤ length text
  pub rest : drop used text ≡ held ++ left

-- the bytes that were used are whole lines, which tell the events that were given; nothing is said once the source has ended
abbrev pub UsedLines : Reading → Type 0
UsedLines r = r.ended ≡ false → IfSome (text_of r) (λ text. AreWholeLines (take r.used text) r.number r.given)

-- it reads on in the same text
pub record SameText (old new : Reading) : Type 0 where
  pub begins : begins_at new ≡ begins_at old
  pub text : text_of new ≡ text_of old
  pub which : new.source.which ≡ old.source.which

-- what is told stays
abbrev pub KeepsTold : Option DeviceStream → Option DeviceStream → Type 0
KeepsTold None after = Unit {0}
KeepsTold (Some before) after = after ≡ Some before

-- the line feed of such a line is the first that is held
pub record IsClosed (held : List ℕ) (bytes size : ℕ) : Type 0 where
  pub first : IsFirstAt 10 held bytes
  pub few : bytes ≤ MOST_LINE
  pub sized : size ≡ bytes + 1

-- The held bytes begin with a line of so many bytes, which takes so many with its line feed, whatever follows them. Its line feed
-- is held unless the source has ended.
pub record IsFrontLine (used : ℕ) (held : List ℕ) (ended : Bool) (bytes size : ℕ) : Type 0 where
  pub some : 0 < size
  pub within : size ≤ length held
  pub short : bytes ≤ size
  pub limit : used + size ≤ MOST_DEVICE
  pub closed : ended ≡ false → IsClosed held bytes size
  pub told : (number : ℕ) (rest : List ℕ) → (ended ≡ true → rest ≡ []) →
      told_from number used (lines_in (held ++ rest)) ≡ told_by number (meaning_of (take bytes held)) (told_from (number + 1) (used + size) (lines_in (drop size held ++ rest)))

-- the held bytes decide no line: they hold no line feed, and may be the beginning of a line
pub record IsUndecided (used : ℕ) (held : List ℕ) : Type 0 where
  pub free : is_free_of 10 held ≡ true
  pub short : length held ≤ MOST_LINE
  pub limit : used + length held ≤ MOST_DEVICE

-- What the held bytes begin with, whatever follows them; nothing does where the source has ended.
abbrev pub Begins : ℕ → List ℕ → Bool → Front → Type 0
Begins used held ended (front.Line bytes size) = IsFrontLine used held ended bytes size
Begins used held ended front.Malformed = (number : ℕ) (rest : List ℕ) → (ended ≡ true → rest ≡ []) → told_from number used (lines_in (held ++ rest)) ≡ garbled number
Begins used held ended front.End = (number : ℕ) (rest : List ℕ) → (ended ≡ true → rest ≡ []) → told_from number used (lines_in (held ++ rest)) ≡ nothing_more
Begins used held ended front.Open = IsUndecided used held × (ended ≡ false)

-- No more was read than a text may have, and one byte to tell that it has more. What is held are the bytes of the text behind those
-- that were used.
pub record IsInLimits (r : Reading) : Type 0 where
  pub lines : r.number ≤ r.used + 1
  pub events : r.given ≤ r.used
  pub limit : r.used ≤ MOST_DEVICE
  pub few : r.used + length r.held ≤ MOST_DEVICE + 1
  pub end : r.ended ≡ true → IsAtEnd (left_of r.source)
  pub within : r.used + length r.held ≤ r.source.taken.count
  pub stands : IfSome r.source.bytes (λ bytes. StandsIn r.used r.held (drop r.source.taken.count bytes) (drop (begins_at r) bytes))

-- how many steps are left at most: one for each byte that may be read, one for each that may be used, and one for the end
abbrev pub steps_left : Reading → ℕ
steps_left r = (MOST_DEVICE + 1 - (r.used + length r.held)) + (MOST_DEVICE + 1 - r.used) + (if r.ended then 0 else 1)
