-- What the names of a script's ops stand for.
use Rattle.std.specs.Prelude.{◌≡◌, int_le, pos, ℕ, true, List, Some}
use Rattle.xr_types.specs.Code.{is_success}
use Rattle.xr_types.specs.declared.calls.Call.{Call}
use Rattle.xr_types.specs.declared.calls.Call.TheVariants as ask
use Rattle.xr_types.specs.declared.calls.Gives.{Gives}
use Rattle.xr_types.specs.declared.calls.Gives.TheVariants as gives
use Rattle.xr_types.specs.declared.scenario.Op.{Op}
use Rattle.xr_types.specs.declared.session.FrameState.{FrameState}
use Rattle.xr_model.specs.machine.Calls.{Entry}
use Rattle.xr_model.specs.machine.Machine.{step}
use Rattle.xr_model.specs.machine.Marks.{mark_at}
use Rattle.xr_model.specs.machine.Paths.{text_at}
use Rattle.xr_model.specs.machine.State.{State}
use Rattle.xr_model.specs.runs.NameValues.{value_given}
use Rattle.xr_model.specs.runs.Scripts.{request_for}

-- What a name stands for once the call of its op succeeded, by what was asked. What is created is named by its handle, and a text
-- by the atom that has it; the one system is 1. A frame is named by its predicted time, and an await by the value that its mark has.
abbrev pub NamesIt : State → Entry → Gives → Call → ℕ → Type 0
NamesIt s e given (ask.CreateInstance major minor) value = value ≡ e.given
NamesIt s e given (ask.CreateSession instance system) value = value ≡ e.given
NamesIt s e given (ask.CreateReferenceSpace session what offset) value = value ≡ e.given
NamesIt s e given (ask.CreateActionSpace session action sub offset) value = value ≡ e.given
NamesIt s e given (ask.CreateActionSet instance name localized priority) value = value ≡ e.given
NamesIt s e given (ask.CreateAction set name type subs localized) value = value ≡ e.given
NamesIt s e given (ask.CreateSwapchain session format width height fixed) value = value ≡ e.given
NamesIt s e given (ask.StringToPath instance text) value = text_at (step s e).0.core.atoms value ≡ Some text
NamesIt s e given (ask.GetSystem instance form) value = value ≡ 1
NamesIt s e given (ask.WaitFrame session) value = (f : FrameState) → given ≡ gives.Frame f → int_le (pos 0) f.time ≡ true → pos value ≡ f.time
NamesIt s e given (ask.AwaitMark number) value = (v : ℕ) → mark_at s.core.marks number ≡ Some v → value ≡ v
NamesIt s e given _ value = value ≡ 0

abbrev pub NamesStandForWhatWasGiven : Type 0
NamesStandForWhatWasGiven =
    (s : State) (e : Entry) (values : List ℕ) (o : Op) → e.call ≡ request_for values o → is_success (step s e).1.reply.code ≡ true
    → NamesIt s e (step s e).1.reply.gives e.call (value_given o (step s e).1.reply.gives)
