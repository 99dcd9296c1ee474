-- What every call on a session, or on a handle under one, answers by the session's loss (OpenXR 1.0 chapter 9, "Session
-- Lifecycle", and chapter 2, "Return Codes").
use Rattle.std.specs.Prelude.{Bool, List, [], ◌∷◌, Option, Some, None, if◌then◌else◌}
use Rattle.xr_types.specs.declared.code.Code.{Code}
use Rattle.xr_types.specs.declared.code.Code.TheVariants.{Success, SessionLost, SessionLossPending}
use Rattle.xr_types.specs.declared.session.SessionState.TheVariants.{LossPending}
use Rattle.xr_model.specs.machine.Refusals.{Refusal, when}
use Rattle.xr_model.specs.machine.SessionLife.{Life, is_state}

-- what a session's calls are told of its loss: whether it is lost, and whether its loss is pending
pub record Loss : Type 0 where
  pub lost : Bool
  pub pending : Bool

abbrev pub loss_of : Life → Loss
loss_of life = record { lost = life.lost; pending = is_state life.state LossPending }

-- Where the session's loss is pending, a plain success says so. A timeout, a session that isn't focused and a
-- discarded frame are told all the same.
abbrev pub code_on : Loss → Code → Code
code_on loss Success = if loss.pending then SessionLossPending else Success
code_on loss code = code

-- what refuses a call on a session once its handles are live
abbrev pub losses : Option Loss → List Refusal
losses None = []
losses (Some loss) = when loss.lost SessionLost ∷ []
