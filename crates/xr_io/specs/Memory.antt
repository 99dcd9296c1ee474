-- What is in memory.
use Rattle.std.specs.Prelude.{ℕ, ◌-◌, ◌==◌, ◌||◌, ◌&&◌, nat_lt, min, List, [], ◌∷◌, ◌++◌, length, take, drop, Bool, Option, Some, None, is_none, if◌then◌else◌}
use Rattle.std.specs.List.{list_any}
use Rattle.std.specs.Str.{bytes_eq}
use Rattle.xr_io.specs.declared.Taken.{Taken}
use Rattle.xr_io.specs.declared.Which.{Which}
use Rattle.xr_io.specs.declared.Which.TheVariants.{Scenario, Device}
use Rattle.xr_io.specs.Outside.{SourceState, is_end, next_count, raised_if, taken_with}
use Rattle.xr_io.specs.Asked.{Asked}

-- whether the call of this number is one of the list
abbrev pub is_listed : List ℕ → ℕ → Bool
is_listed calls next = list_any (λ call. call == next) calls

-- a source in memory: its bytes, what was taken of them, whether it is over, the numbers of the reads that fail, how many reads
-- there were, how many of them failed, and which of the two files it is
pub record Reading : Type 0 where
  pub bytes : List ℕ
  pub taken : Taken
  pub is_over : Bool
  pub failing : List ℕ
  pub calls : ℕ
  pub faults : ℕ
  pub opened_as : Which

-- what is seen of it
abbrev pub seen_of : Reading → SourceState
seen_of source = record { bytes = Some source.bytes; taken = source.taken; is_over = source.is_over; faults = source.faults; which = source.opened_as }

-- the bytes that are left
abbrev pub left_in : Reading → List ℕ
left_in source = drop source.taken.count source.bytes

-- whether the next read fails
abbrev pub fails_to_read : Reading → Bool
fails_to_read source = is_listed source.failing source.calls

-- how many bytes the next read gives into a buffer of this size
abbrev pub given_count : Reading → ℕ → ℕ
given_count source size = if fails_to_read source then 0 else min size (length (left_in source))

-- the buffer after the next read into it
abbrev pub buffer_after_read : Reading → List ℕ → List ℕ
buffer_after_read source buf =
    take (given_count source (length buf)) (left_in source) ++ drop (given_count source (length buf)) buf

-- whether the next read fails, or meets the end
abbrev pub is_last_read : Reading → ℕ → Bool
is_last_read source size = fails_to_read source || is_end (given_count source size) size

-- the source after the next read, into a buffer of this size
abbrev pub after_read : Reading → ℕ → Reading
after_read source size = record {
  bytes = source.bytes;
  taken = taken_with source.taken (given_count source size) source.is_over;
  is_over = source.is_over || is_last_read source size;
  failing = source.failing;
  calls = next_count source.calls;
  faults = raised_if (fails_to_read source) source.faults;
  opened_as = source.opened_as;
}

-- an output in memory: the bytes written, how many more it has room for, the numbers of the writes
-- that fail, those of the writes that take nothing, how many writes there were, and how many of
-- them failed or took nothing of a piece
pub record Writing : Type 0 where
  pub written : List ℕ
  pub room : ℕ
  pub failing : List ℕ
  pub idle : List ℕ
  pub calls : ℕ
  pub faults : ℕ

-- whether the next write fails
abbrev pub fails_to_write : Writing → Bool
fails_to_write sink = is_listed sink.failing sink.calls

-- whether the next write is one of those that take nothing
abbrev pub is_idle : Writing → Bool
is_idle sink = is_listed sink.idle sink.calls

-- how many bytes the next write takes of a piece of this size
abbrev pub taken_count : Writing → ℕ → ℕ
taken_count sink size = if fails_to_write sink || is_idle sink then 0 else min size sink.room

-- whether the next write, of a piece of this size, fails or takes nothing of its bytes
abbrev pub takes_nothing : Writing → ℕ → Bool
takes_nothing sink size =
    fails_to_write sink || (nat_lt 0 size && (is_idle sink || (sink.room == 0)))

-- the output after the write of this piece
abbrev pub after_write : Writing → List ℕ → Writing
after_write sink piece = record {
  written = sink.written ++ take (taken_count sink (length piece)) piece;
  room = sink.room - taken_count sink (length piece);
  failing = sink.failing;
  idle = sink.idle;
  calls = next_count sink.calls;
  faults = raised_if (takes_nothing sink (length piece)) sink.faults;
}

-- a file: its name and its bytes
pub record File : Type 0 where
  pub name : List ℕ
  pub bytes : List ℕ

-- what is to fail of one of the two: its opening, and the reads of these numbers
pub record FailingCalls : Type 0 where
  pub opening : Bool
  pub reads : List ℕ

-- an opener in memory: its files, what is to fail, and what it was asked for
pub record Holding : Type 0 where
  pub files : List File
  pub scenario_fails : FailingCalls
  pub device_fails : FailingCalls
  pub asked : Asked

-- what is to fail of one of the two
abbrev pub failing_of : Holding → Which → FailingCalls
failing_of opener Scenario = opener.scenario_fails
failing_of opener Device = opener.device_fails

-- the bytes of the first file of this name
abbrev pub bytes_under : List File → List ℕ → Option (List ℕ)
bytes_under [] name = None
bytes_under (file ∷ files) name =
    if bytes_eq file.name name then Some file.bytes else bytes_under files name

-- whether opening this name as one of the two fails
abbrev pub fails_to_open : Holding → Which → List ℕ → Bool
fails_to_open opener which name =
    (failing_of opener which).opening || is_none (bytes_under opener.files name)

-- the opener, asked for other files
abbrev pub with_asked : Holding → Asked → Holding
with_asked opener asked = record {
  files = opener.files;
  scenario_fails = opener.scenario_fails;
  device_fails = opener.device_fails;
  asked = asked;
}
