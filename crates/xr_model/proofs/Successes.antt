-- A success on a session is one, also where its loss is pending.
use Rattle.std.proofs.Common.{◌≡◌, Bool, true, false, refl}
use Rattle.std.specs.Prelude.{if◌then◌else◌}
use Rattle.xr_types.specs.Code.{is_success}
use Rattle.xr_types.specs.declared.code.Code.{Code}
use Rattle.xr_types.specs.declared.code.Code.TheVariants.{Success, SessionLossPending}
use Rattle.xr_model.specs.machine.Frames.{FrameLoop, begun_code}
use Rattle.xr_model.specs.machine.SessionRule.{Loss, code_on}

pub success_succeeds : (loss : Loss) → is_success (code_on loss Success) ≡ true
success_succeeds loss = by loss.pending
  where
    by : (pending : Bool) → is_success (if pending then SessionLossPending else Success) ≡ true
    by true = refl
    by false = refl

-- and so is every success
pub success_still : (loss : Loss) (code : Code) → is_success code ≡ true → is_success (code_on loss code) ≡ true
success_still loss Success good = success_succeeds loss
success_still loss _ good = good

pub begun_succeeds : (l : FrameLoop) → is_success (begun_code l) ≡ true
begun_succeeds l = by l.has_begun
  where
    by : (b : Bool) → is_success (begun_code (record l { has_begun = b })) ≡ true
    by true = refl
    by false = refl
