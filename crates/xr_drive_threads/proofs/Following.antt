-- What follows from the answers.
use Rattle.std.proofs.Common.{◌≡◌, ◌∙◌, sym, ap, subst, Option}
use Rattle.xr_types.specs.declared.made.Lists.{Lists}
use Rattle.xr_model.specs.runs.Robin.{device_calls}
use Rattle.xr_runtime.specs.declared.close.Closed.{Closed}
use Rattle.xr_drive.specs.Run.{RunBy, IsClean}
use Rattle.xr_drive.specs.Top.{Means}
use Rattle.xr_drive.specs.TopLaws.{KeepsClean}
use Rattle.xr_drive.proofs.Clean.{calls_clean}
use Rattle.xr_drive.proofs.Runs.{good_input_is_run_by}
use Rattle.xr_drive_threads.specs.Top.{RanClosed}
use Rattle.xr_drive_threads.specs.TopLaws.{GoodInputIsRunOnThreads, ThreadsEnd}
use Rattle.xr_drive_threads.proofs.NeverStuck.{never_stuck}

-- a device that is known to end at the end of its text does nothing that is garbled
keeps_clean : (closed : Option Closed) → KeepsClean (RanClosed closed)
keeps_clean closed scenario told count lists clean end ran =
    let on = ran.2 in
    let events : lists.events ≡ device_calls on.events on.ending = ap (λ (l : Lists). l.events) on.made ∙ on.whole.device in
    subst IsClean (sym events) (calls_clean told count on.events on.ending clean end on.gave)

pub good_input_is_run_on_threads : GoodInputIsRunOnThreads
good_input_is_run_on_threads closed = good_input_is_run_by (RanClosed closed) (keeps_clean closed)

pub threads_end : ThreadsEnd
threads_end closed form old new status answer is = never_stuck closed form old new (subst (Means (RunBy (RanClosed closed)) form old new) is answer.means)
