-- The end of a frame: what its checks leave of the frame that they are told.
use Rattle.std.proofs.Common.{◌≡◌, true, ℤ, List, [], Option, subst}
use Rattle.xr_types.specs.declared.code.Code.{Code}
use Rattle.xr_types.specs.declared.code.Code.TheVariants.{Success}
use Rattle.xr_types.specs.declared.frames.Blend.{Blend}
use Rattle.xr_types.specs.declared.frames.Layer.{Layer}
use Rattle.xr_types.specs.Frames.{PendingFrame}
use Rattle.xr_model.specs.machine.Images.{with_images_of}
use Rattle.xr_model.specs.machine.Layers.{Look, frame_checks, layers_of}
use Rattle.xr_model.specs.machine.Refusals.{Refusal, first_of, unless}
use Rattle.xr_model.specs.machine.PartAnswers.{code_by}
use Rattle.xr_core.proofs.Deciding.{passed_is_ok}
use Rattle.xr_core.proofs.Plain.{are_plain}

-- a frame once it is checked
abbrev pub frame_after : Look → ℤ → Blend → List Layer → PendingFrame → PendingFrame
frame_after look time blend layers frame =
    unless (first_of (frame_checks look time blend layers)) frame (record frame { time = time; layers = layers_of look layers; images = with_images_of [] (layers_of look layers) })

-- what a part makes of a value that it changes where it refuses nothing
pub unless_passed : {T : Type 0} (rs : List Refusal) (code : Code) → are_plain rs ≡ true → code ≡ code_by (first_of rs) → code ≡ Success → (old new is : T) → is ≡ unless (first_of rs) old new → is ≡ new
unless_passed {T = T} rs code plain told good old new is kept = subst (λ (o : Option Refusal). is ≡ unless o old new) (passed_is_ok rs code plain told good) kept
