-- What is seen of files and of standard output.
use Rattle.std.specs.Prelude.{ℕ, nat_lt, ◌==◌, ◌&&◌, Bool, true, List, Option, None, Result, Ok, Err}
use Rattle.xr_io.specs.declared.Taken.{Taken}
use Rattle.xr_io.specs.declared.Which.{Which}
use Rattle.xr_io.specs.Outside.{SourceState}

-- a file and standard output tell no bytes
abbrev pub no_bytes : Option (List ℕ)
no_bytes = None

-- an opened file: which of the two it is, what was taken of it, whether it is over, and how often a read failed
pub record OpenFile : Type 0 where
  pub opened_as : Which
  pub taken : Taken
  pub is_over : Bool
  pub faults : ℕ

-- what is seen of it
abbrev pub seen_of : OpenFile → SourceState
seen_of file = record { bytes = no_bytes; taken = file.taken; is_over = file.is_over; faults = file.faults; which = file.opened_as }

-- whether a write of a piece of this size failed, or took nothing of its bytes
abbrev pub is_write_fault : {E : Type 0} → Result ℕ E → ℕ → Bool
is_write_fault (Ok count) size = count == 0 && nat_lt 0 size
is_write_fault (Err _) size = true
