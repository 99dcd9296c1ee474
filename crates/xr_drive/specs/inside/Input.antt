-- Why a reading stops.
use Rattle.std.specs.Prelude.{◌≡◌, ◌≤◌, ℕ, ◌+◌, false, Result, Ok, Err}
use Rattle.xr_io.specs.Outside.{Rose, SourceState}
use Rattle.xr_drive.specs.declared.input.Stop.{Stop}
use Rattle.xr_drive.specs.declared.input.Stop.TheVariants.{Failed, NoMemory}

abbrev pub RoseIfStopped : ℕ → ℕ → Stop → Type 0
RoseIfStopped before now Failed = Rose before now
RoseIfStopped before now NoMemory = Unit {0}

abbrev pub RoseIfFailed : {T : Type 0} → ℕ → ℕ → Result T Stop → Type 0
RoseIfFailed before now (Ok x) = Unit {0}
RoseIfFailed before now (Err stop) = RoseIfStopped before now stop

-- any other end of a reading leaves the count as it was
abbrev pub KeptUnlessFailed : {T : Type 0} → ℕ → ℕ → Result T Stop → Type 0
KeptUnlessFailed before now (Ok x) = now ≡ before
KeptUnlessFailed before now (Err Failed) = Unit {0}
KeptUnlessFailed before now (Err NoMemory) = now ≡ before

-- it is the same file, with the same bytes
pub record IsSameFile (old new : SourceState) : Type 0 where
  pub bytes : new.bytes ≡ old.bytes
  pub which : new.which ≡ old.which

-- the next bytes of a source were taken, at most so many, or none
pub record TakesMore {T : Type 0} (most : ℕ) (old new : SourceState) (result : Result T Stop) : Type 0 where
  pub few : new.taken.count ≤ old.taken.count + most
  pub late : old.is_over ≡ false → new.taken.late ≡ old.taken.late

-- a failed read comes only where the count rose
pub record HasReadCause {T : Type 0} (before now : ℕ) (result : Result T Stop) : Type 0 where
  pub later : before ≤ now
  pub failed : RoseIfFailed before now result
  pub kept : KeptUnlessFailed before now result
