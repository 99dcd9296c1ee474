-- How the outside counts its faults, and what is seen of files that are opened by name and of an output.
use Rattle.std.specs.Prelude.{◌≡◌, ◌≢◌, ◌<◌, ◌≤◌, ◌^◌, ◌+◌, ◌-◌, ◌==◌, ◌&&◌, ◌||◌, nat_lt, min, ℕ, Bool, true, false, List, length, drop, Option, Some, None, option_map, Result, Ok, Err, IfOk, OnOk, OnErr, if◌then◌else◌}
use Rattle.std.specs.Io.{ReadsAtMost, WritesAtMost}
use Rattle.std.specs.Io.KnownBytes.{ReadConsumes, WriteAppends}
use Rattle.xr_io.specs.declared.Taken.{Taken}
use Rattle.xr_io.specs.declared.Which.{Which}

-- A count that never falls has risen, or stands at its end.
abbrev pub Rose : ℕ → ℕ → Type 0
Rose before now = min (before + 1) (2 ^ 64 - 1) ≤ now

-- a failure comes only where the count rose
pub record HasCause {T E : Type 0} (before now : ℕ) (result : Result T E) : Type 0 where
  pub later : before ≤ now
  pub failed : OnErr result (Rose before now)

-- the count after one more, which stops at the largest u64
abbrev pub next_count : ℕ → ℕ
next_count count = min (count + 1) (2 ^ 64 - 1)

-- the count after one more where the test holds
abbrev pub raised_if : Bool → ℕ → ℕ
raised_if fails count = if fails then next_count count else count

-- ---- sources

-- What is seen of an opened file: all its bytes, where it tells them; how many of them were taken, and whether one of these reads was
-- late; whether it is over, since a read met its end or failed; how often a read failed; and which of the two files it is.
pub record SourceState : Type 0 where
  pub bytes : Option (List ℕ)
  pub taken : Taken
  pub is_over : Bool
  pub faults : ℕ
  pub which : Which

-- the bytes that are left, where they are told
abbrev pub left_of : SourceState → Option (List ℕ)
left_of source = option_map (drop source.taken.count) source.bytes

-- nothing was taken
abbrev pub none_taken : Taken
none_taken = record { count = 0; late = false }

-- a file of these bytes that was just opened
abbrev pub just_opened : Option (List ℕ) → Which → SourceState
just_opened bytes which = record { bytes = bytes; taken = none_taken; is_over = false; faults = 0; which = which }

-- how many bytes a read gave
abbrev pub given_by : {E : Type 0} → Result ℕ E → ℕ
given_by (Ok count) = count
given_by (Err _) = 0

-- no byte, given into a buffer that has room, is the end
abbrev pub is_end : ℕ → ℕ → Bool
is_end count size = (count == 0) && nat_lt 0 size

-- whether a read into a buffer of this size met the end, or failed
abbrev pub is_last : {E : Type 0} → Result ℕ E → ℕ → Bool
is_last (Ok count) size = is_end count size
is_last (Err _) size = true

-- what was taken once so many bytes more were, of a source that was over or not
abbrev pub taken_with : Taken → ℕ → Bool → Taken
taken_with taken count over = record { count = taken.count + count; late = taken.late || over }

-- A read gave the first of the bytes that are left as far as the result says, and the count of faults rose where it failed. It
-- was late where the source was over.
pub record WasRead {E : Type 0} (buf : List ℕ) (old new : SourceState) (result : Result ℕ E) : Type 0 where
  pub bound : ReadsAtMost result buf
  pub bytes : ReadConsumes (left_of old) (left_of new) result buf
  pub all : new.bytes ≡ old.bytes
  pub taken : new.taken ≡ taken_with old.taken (given_by result) old.is_over
  pub over : new.is_over ≡ (old.is_over || is_last result (length buf))
  pub cause : HasCause old.faults new.faults result
  pub kept : OnOk result (new.faults ≡ old.faults)
  pub which : new.which ≡ old.which

-- ---- files

-- What is seen of an opener: the name that was asked for as each of the two files, if it was; whether its source is open; the
-- bytes under a name, where they are told; how often opening it has failed; how many closed sources of it had a fault; and what was
-- taken of the source that was closed last.
pub record Files : Type 0 where
  pub asked : Which → Option (List ℕ)
  pub is_open : Which → Bool
  pub bytes : List ℕ → Option (List ℕ)
  pub open_faults : Which → ℕ
  pub read_faults : Which → ℕ
  pub taken : Which → Taken

-- no file was asked for
abbrev pub AreUnasked : Files → Type 0
AreUnasked files = (which : Which) → files.asked which ≡ None

-- A name was asked for as one of the two, and its source is open or the count of failures rose. All else is as it was.
pub record Opened {T E : Type 0} (which : Which) (name : List ℕ) (old new : Files) (result : Result T E) : Type 0 where
  pub asked : new.asked which ≡ Some name
  pub others : (w : Which) → w ≢ which → new.asked w ≡ old.asked w
  pub opened : OnOk result (new.is_open which ≡ true)
  pub unopened : OnErr result (new.is_open which ≡ old.is_open which)
  pub stays : (w : Which) → w ≢ which → new.is_open w ≡ old.is_open w
  pub cause : HasCause (old.open_faults which) (new.open_faults which) result
  pub kept : OnOk result (new.open_faults which ≡ old.open_faults which)
  pub opens : (w : Which) → w ≢ which → new.open_faults w ≡ old.open_faults w
  pub reads : (w : Which) → new.read_faults w ≡ old.read_faults w
  pub taken : (w : Which) → new.taken w ≡ old.taken w
  pub bytes : (n : List ℕ) → new.bytes n ≡ old.bytes n

-- A source was closed, and the files tell what was taken of it and whether it had a fault. All else is as it was.
pub record Closed (source : SourceState) (old new : Files) : Type 0 where
  pub closed : new.is_open source.which ≡ false
  pub stays : (w : Which) → w ≢ source.which → new.is_open w ≡ old.is_open w
  pub kept : source.faults ≡ 0 → (w : Which) → new.read_faults w ≡ old.read_faults w
  pub other : (w : Which) → w ≢ source.which → new.read_faults w ≡ old.read_faults w
  pub raised : 0 < source.faults → Rose (old.read_faults source.which) (new.read_faults source.which)
  pub taken : new.taken source.which ≡ source.taken
  pub untaken : (w : Which) → w ≢ source.which → new.taken w ≡ old.taken w
  pub later : (w : Which) → old.read_faults w ≤ new.read_faults w
  pub asked : (w : Which) → new.asked w ≡ old.asked w
  pub opens : (w : Which) → new.open_faults w ≡ old.open_faults w
  pub bytes : (n : List ℕ) → new.bytes n ≡ old.bytes n

-- ---- outputs

-- What is seen of an output: the bytes written, where it tells them, and how often a write has failed or has taken nothing.
pub record Output : Type 0 where
  pub bytes : Option (List ℕ)
  pub faults : ℕ

-- A piece was written as far as the result says, and the count rose where it failed or nothing of it was taken.
pub record Wrote {E : Type 0} (piece : List ℕ) (old new : Output) (result : Result ℕ E) : Type 0 where
  pub bound : WritesAtMost result piece
  pub bytes : WriteAppends old.bytes new.bytes result piece
  pub none : IfOk result (λ n. n ≡ 0 → 0 < length piece → Rose old.faults new.faults)
  pub cause : HasCause old.faults new.faults result
  pub kept : IfOk result (λ n. 0 < n → new.faults ≡ old.faults)
  pub empty : OnOk result (length piece ≡ 0 → new.faults ≡ old.faults)
