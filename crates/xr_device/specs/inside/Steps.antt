-- What one step through a device text does.
use Rattle.std.specs.Prelude.{◌≡◌, ◌≤◌, ◌<◌, ℕ, ◌+◌, ◌==◌, ◌||◌, false, List, ◌++◌, length, Option, Result, IfOk, OnOk, OnErr}
use Rattle.std.specs.Io.KnownBytes.{Keeps, Consumes, IsAtEnd}
use Rattle.xr_io.specs.Outside.{HasCause, Rose, SourceState, left_of, taken_with, given_by}
use Rattle.xr_types.specs.declared.limits.TheConstants.{MOST_DEVICE}
use Rattle.xr_model.specs.device_text.DeviceText.{DeviceStream}
use Rattle.xr_device.specs.declared.Next.{Next}
use Rattle.xr_device.specs.declared.Next.TheVariants as next
use Rattle.xr_device.specs.declared.text.Step.{Step}
use Rattle.xr_device.specs.declared.text.Step.TheVariants as step
use Rattle.xr_device.specs.Answers.{Tells, OnEvent, OnFailed, UnlessFailed, given_with}
use Rattle.xr_device.specs.Texts.{Reading, late_in, text_of, told, steps_left, UsedLines, KeepsTold, IsUndecided}
use Rattle.xr_device.specs.WholeLines.{GaveWholeLines}

-- The next bytes of a source were put behind those that are held, as many as the result says; 0 is the end.
pub record HasReadInto {E : Type 0} (before after : List ℕ) (old new : SourceState) (result : Result ℕ E) : Type 0 where
  pub bytes : IfOk result (λ n. (read : List ℕ) × (length read ≡ n) × (after ≡ before ++ read) × Consumes (left_of old) (left_of new) read)
  pub end : IfOk result (λ n. n ≡ 0 → IsAtEnd (left_of new))
  pub kept : OnErr result ((after ≡ before) × Keeps (left_of old) (left_of new))
  pub all : new.bytes ≡ old.bytes
  pub taken : new.taken ≡ taken_with old.taken (given_by result) old.is_over
  pub over : IfOk result (λ n. new.is_over ≡ (old.is_over || (n == 0)))
  pub cause : HasCause old.faults new.faults result
  pub count : OnOk result (new.faults ≡ old.faults)
  pub which : new.which ≡ old.which

-- what holds where the step gives no answer yet
abbrev pub OnGoing : Step → Type 0 → Type 0
OnGoing step.GoesOn P = P
OnGoing (step.Answer answer) P = Unit {0}

-- what holds of the answer, where the step gives one
abbrev pub OnAnswer : Step → (Next → Type 0) → Type 0
OnAnswer step.GoesOn P = Unit {0}
OnAnswer (step.Answer answer) P = P answer

-- what holds where the step found that the text can't be read on
abbrev pub OnStepFailed : Step → Type 0 → Type 0
OnStepFailed step.GoesOn P = Unit {0}
OnStepFailed (step.Answer answer) P = OnFailed answer P

-- what holds unless the step found that the text can't be read on
abbrev pub UnlessStepFailed : Step → Type 0 → Type 0
UnlessStepFailed step.GoesOn P = P
UnlessStepFailed (step.Answer answer) P = UnlessFailed answer P

-- what holds where the text may be read on: no answer yet, or an event
abbrev pub OnMore : Step → Type 0 → Type 0
OnMore step.GoesOn P = P
OnMore (step.Answer (next.Event e)) P = P
OnMore (step.Answer next.End) P = Unit {0}
OnMore (step.Answer (next.Garbled line)) P = Unit {0}
OnMore (step.Answer next.Failed) P = Unit {0}

-- how many events were given, with this step
abbrev pub given_behind : Step → ℕ → ℕ
given_behind step.GoesOn given = given
given_behind (step.Answer answer) given = given_with answer given

-- A text that is not late stays so: where it may be read on, the next read is not late either.
pub record StaysOnTime (before after : Reading) (step : Step) : Type 0 where
  pub read : late_in before.source before.ended ≡ false → after.source.taken.late ≡ false
  pub next : OnMore step (late_in before.source before.ended ≡ false → late_in after.source after.ended ≡ false)

-- a text whose used bytes are whole lines stays so where it may be read on
abbrev pub StaysInLines : Reading → Reading → Step → Type 0
StaysInLines before after step = UsedLines before → OnMore step (UsedLines after)

-- where a read failed, the events of all whole lines that were taken were given
abbrev pub FailsBehindLines : Reading → Reading → Step → Type 0
FailsBehindLines before after step = UsedLines before → OnStepFailed step (GaveWholeLines (text_of after) (after.used + length after.held) after.given)

-- What is said of lines holds behind a step: the used bytes stay whole lines, and where a read fails, the events of all whole lines were
-- given.
pub record KeepsLines (before after : Reading) (step : Step) : Type 0 where
  pub stays : StaysInLines before after step
  pub fails : FailsBehindLines before after step

-- Steps that give no answer are fewer than are left; bytes that were used stay so, and are no more than a text may have; an event
-- uses some, and is one more that was given.
pub record CountsOn (before after : Reading) (step : Step) : Type 0 where
  pub fewer : OnGoing step (steps_left after < steps_left before)
  pub used : before.used ≤ after.used
  pub limit : after.used ≤ MOST_DEVICE
  pub event : OnAnswer step (λ a. OnEvent a (λ e. before.used < after.used))
  pub given : after.given ≡ given_behind step before.given

-- The count of faults rises where the text can't be read on, and else stays.
pub record CountsFaults (before after : ℕ) (step : Step) : Type 0 where
  pub later : before ≤ after
  pub cause : OnStepFailed step (Rose before after)
  pub same : UnlessStepFailed step (after ≡ before)

-- Where the text can't be read on, nothing that is to come was lost, and the held bytes decide no line.
pub record LosesNothing (before after : Reading) (step : Step) : Type 0 where
  pub whole : OnStepFailed step (KeepsTold (told before) (told after))
  pub undecided : OnStepFailed step (IsUndecided after.used after.held)

-- The held bytes decide no line, and the source may have more.
pub record MayReadMore (at : Reading) : Type 0 where
  pub undecided : IsUndecided at.used at.held
  pub unended : at.ended ≡ false

-- What is told stays, or the answer tells of it.
abbrev pub Steps : Option DeviceStream → Option DeviceStream → Step → Type 0
Steps before after step.GoesOn = KeepsTold before after
Steps before after (step.Answer answer) = Tells before after answer
