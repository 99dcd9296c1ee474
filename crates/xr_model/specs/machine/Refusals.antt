-- Refusals in their order, and what a part of the core answers by them.
use Rattle.std.specs.Prelude.{Bool, List, [], ◌∷◌, Option, Some, None, if◌then◌else◌}
use Rattle.xr_types.specs.declared.code.Code.{Code}
use Rattle.xr_types.specs.declared.calls.Gives.{Gives}
use Rattle.xr_types.specs.declared.calls.Gives.TheVariants.{Nothing}

-- a condition, the code that is answered where it holds, and what is given all the same
pub record Refusal : Type 0 where
  pub holds : Bool
  pub code : Code
  pub gives : Gives

abbrev pub when : Bool → Code → Refusal
when test answer = record { holds = test; code = answer; gives = Nothing }

abbrev pub when_with : Bool → Code → Gives → Refusal
when_with test answer value = record { holds = test; code = answer; gives = value }

-- the first refusal whose condition holds
abbrev pub first_of : List Refusal → Option Refusal
first_of [] = None
first_of (r ∷ rs) = if r.holds then Some r else first_of rs

-- the new value, or the old one where the call is refused
abbrev pub unless : {T : Type 0} → Option Refusal → T → T → T
unless None old new = new
unless (Some r) old new = old
