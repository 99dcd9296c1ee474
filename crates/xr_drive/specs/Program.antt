-- What a program does with the status of a top call: the number that it ends with, and the line that it says.
use Rattle.std.specs.Prelude.{◌≡◌, ◌⊎◌, ℕ, List, [], ◌∷◌, ◌++◌, take}
use Rattle.std.specs.Io.KnownBytes.{Appends}
use Rattle.std.specs.Process.{exit_status}
use Rattle.std.specs.declared.process.ExitCode.{ExitCode}
use Rattle.xr_io.specs.Outside.{Rose, Output}
use Rattle.xr_types.specs.declared.status.Status.{Status}
use Rattle.xr_types.specs.declared.status.Status.TheVariants.{Done, WriteFault}
use Rattle.xr_model.specs.report.RunEnding.{exit_of}
use Rattle.xr_drive.specs.Lines.{status_line}

-- all of a text was written, and nothing failed
abbrev pub WritesAll : Output → Output → List ℕ → Type 0
WritesAll old new text = Appends old.bytes new.bytes text × (new.faults ≡ old.faults)

-- a front of it was, and writing failed
abbrev pub WritesFront : Output → Output → List ℕ → Type 0
WritesFront old new text = ((n : ℕ) × Appends old.bytes new.bytes (take n text)) × Rose old.faults new.faults

-- a text was written, or a front of it where that failed
abbrev pub Says : Output → Output → List ℕ → Type 0
Says old new text = WritesAll old new text ⊎ WritesFront old new text

-- the same, with the status that tells which
abbrev pub Prints : Output → Output → List ℕ → Status → Type 0
Prints old new text Done = WritesAll old new text
Prints old new text WriteFault = WritesFront old new text
Prints old new text _ = ⊥

-- the line of a status with its line feed; a run that is done has none
abbrev pub said_of : Status → List ℕ
said_of Done = []
said_of status = status_line status ++ 10 ∷ []

-- Some status is answered, and a program ends with its number and says its line.
pub record Ends (Answers : Status → Type 0) (old new : Output) (exit : ExitCode) : Type 0 where
  pub status : Status
  pub answer : Answers status
  pub exits : exit_status exit ≡ exit_of status
  pub says : Says old new (said_of status)
