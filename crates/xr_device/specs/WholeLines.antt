-- The whole lines of a device text of which a front was taken.
use Rattle.std.specs.Prelude.{◌≡◌, ℕ, ◌+◌, ◌==◌, Bool, true, List, [], ◌∷◌, length, take, Option, IfSome, if◌then◌else◌}
use Rattle.xr_model.specs.device_text.DeviceText.{Line, lines_in, DeviceStream, told_from, told_in, ends}

-- the lines that a line feed ends
abbrev pub whole_lines : List Line → List Line
whole_lines [] = []
whole_lines (l ∷ ls) = if l.closed then l ∷ whole_lines ls else []

-- what the whole lines of these bytes tell
abbrev pub told_whole : List ℕ → DeviceStream
told_whole bytes = told_from 1 0 (whole_lines (lines_in bytes))

-- Of a text so many bytes were taken and so many events were given: these are just those that the whole lines tell which were taken,
-- and none of these lines is malformed.
abbrev pub GaveWholeLines : Option (List ℕ) → ℕ → ℕ → Type 0
GaveWholeLines text taken given = IfSome text (λ bytes. told_whole (take taken bytes) ≡ record { events = take given (told_in bytes).events; ending = ends })

-- no byte at all, or the last one is a line feed
abbrev pub is_whole : List ℕ → Bool
is_whole [] = true
is_whole (b ∷ []) = b == 10
is_whole (b ∷ c ∷ bs) = is_whole (c ∷ bs)

-- These bytes are whole lines, which tell so many events and have no malformed one among them; the next line has this number.
pub record AreWholeLines (bytes : List ℕ) (number given : ℕ) : Type 0 where
  pub whole : is_whole bytes ≡ true
  pub numbered : number ≡ 1 + length (lines_in bytes)
  pub ending : (told_in bytes).ending ≡ ends
  pub count : length (told_in bytes).events ≡ given
