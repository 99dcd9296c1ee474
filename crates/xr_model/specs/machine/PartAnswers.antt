-- What a part of the core answers by its refusals, for the contracts of parts.
use Rattle.std.specs.Prelude.{ℕ, Option, Some, None, Result, Ok, Err}
use Rattle.xr_types.specs.declared.code.Code.{Code}
use Rattle.xr_types.specs.declared.code.Code.TheVariants.{Success}
use Rattle.xr_types.specs.declared.calls.Gives.{Gives}
use Rattle.xr_types.specs.declared.calls.Gives.TheVariants.{Handle, Number, Size}
use Rattle.xr_types.specs.declared.calls.Answer.{Answer}
use Rattle.xr_model.specs.machine.Refusals.{Refusal}

-- the number that is given, 0 where none is
abbrev pub answered_number : Gives → ℕ
answered_number (Handle n) = n
answered_number (Number n) = n
answered_number (Size n) = n
answered_number _ = 0

-- what a part answers: the number of its success, or the refusal
abbrev pub answer_by : Option Refusal → ℕ → Answer
answer_by None n = record { code = Success; number = n }
answer_by (Some r) n = record { code = r.code; number = answered_number r.gives }

-- what a part answers that gives nothing: the code of the refusal, or success where there is none
abbrev pub code_by : Option Refusal → Code
code_by None = Success
code_by (Some r) = r.code

-- what a check comes to: the code of its refusal, or what it was made for
abbrev pub or_refused : {T : Type 0} → Option Refusal → T → Result T Code
or_refused None x = Ok x
or_refused (Some r) x = Err r.code
