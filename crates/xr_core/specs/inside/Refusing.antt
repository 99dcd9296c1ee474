-- What a check comes to: what it was made for, which may be missing, or a refusal's code.
use Rattle.std.specs.Prelude.{ℕ, Option, Some, None, Result, Ok, Err}
use Rattle.xr_types.specs.declared.code.Code.{Code}
use Rattle.xr_types.specs.declared.code.Code.TheVariants.{Success, PathUnsupported}
use Rattle.xr_model.specs.machine.PartAnswers.{or_refused}
use Rattle.xr_model.specs.machine.Refusals.{Refusal, first_of}
use Rattle.xr_model.specs.machine.Rule.{Rule, refusals}
use Rattle.xr_model.specs.machine.SessionRule.{loss_of, code_on}
use Rattle.xr_model.specs.machine.Rules.Session.{life_of}
use Rattle.xr_model.specs.machine.State.{CoreState}

-- this, unless the rule refuses its call
abbrev pub unless_refused : {T : Type 0} → Rule → T → Result T Code
unless_refused r x = or_refused (first_of (refusals r)) x

-- what a plain success of a call on this session is answered as
abbrev pub success_on : CoreState → ℕ → Code
success_on s session = code_on (loss_of (life_of s session)) Success

-- what may be missing, which then is unsupported
abbrev pub some_or_refused : {T : Type 0} → Option Refusal → Option T → Result T Code
some_or_refused None (Some x) = Ok x
some_or_refused None None = Err PathUnsupported
some_or_refused (Some r) x = Err r.code
