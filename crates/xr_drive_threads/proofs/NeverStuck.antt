-- A run on threads never ends as stuck.
use Rattle.std.proofs.Common.{◌≡◌, ◌∙◌, sym, refl, ap, Bool, true, false, List, [], Option, Some, None, ℕ}
use Rattle.std.specs.List.{list_any}
use Rattle.xr_io.specs.Outside.{Files}
use Rattle.xr_types.specs.declared.device.DeviceEvent.{DeviceEvent}
use Rattle.xr_types.specs.declared.made.Lists.{Lists}
use Rattle.xr_types.specs.declared.scenario.Scenario.{Scenario}
use Rattle.xr_types.specs.declared.status.Status.TheVariants.{Done, DeviceFailed, DeviceGarbled, Stuck}
use Rattle.xr_model.specs.command_line.Words.{WordsForm, run, load}
use Rattle.xr_model.specs.device_text.DeviceText.{DeviceStream}
use Rattle.xr_model.specs.report.RunEnding.{is_fault, first_garbled, ending_by}
use Rattle.xr_runtime.specs.declared.close.Closed.{Closed}
use Rattle.xr_drive.specs.Run.{RunBy}
use Rattle.xr_drive.specs.Top.{Outside, Made, EndsSo, Means}
use Rattle.xr_drive_threads.specs.Top.{RanClosed}

-- a run in which nobody waits doesn't end as stuck
not_stuck : (events : List DeviceEvent) → ending_by events [] ≡ Stuck → ⊥
not_stuck events = by (list_any is_fault events) refl (first_garbled events) refl
  where
    by : (b : Bool) → list_any is_fault events ≡ b → (g : Option ℕ) → first_garbled events ≡ g → ending_by events [] ≡ Stuck → ⊥
    by true e g f is = apart_failed (sym (rw e refl) ∙ is)
      where
        apart_failed : DeviceFailed ≡ Stuck → ⊥
        apart_failed z = cc z
    by false e (Some line) f is = apart_garbled (sym (rw (e, f) refl) ∙ is)
      where
        apart_garbled : DeviceGarbled line ≡ Stuck → ⊥
        apart_garbled z = cc z
    by false e None f is = apart_done (sym (rw (e, f) refl) ∙ is)
      where
        apart_done : Done ≡ Stuck → ⊥
        apart_done z = cc z

module _ (closed : Option Closed) where
  -- what was run on threads, whatever it was asked by
  ran_of : (form : WordsForm) (old new : Files) (lists : Lists) → Made (RunBy (RanClosed closed)) old new form lists → (scenario : Scenario) × (told : Option DeviceStream) × (count : ℕ) × RanClosed closed scenario told count lists
  ran_of (run options) old new lists made = (made.scenario, _, made.runs.count, made.runs.ran)
  ran_of (load frames) old new lists made = (_, _, made.count, made.ran)

  pub never_stuck : (form : Option WordsForm) (old new : Outside) → Means (RunBy (RanClosed closed)) form old new Stuck → ⊥
  never_stuck form old new means =
      let so : EndsSo (RunBy (RanClosed closed)) old new Stuck means.0 = means.2 in
      let ran = ran_of means.0 old.files new.files so.0 so.1 in
      not_stuck so.0.events (ap (ending_by so.0.events) (sym (ap (λ (l : Lists). l.next) ran.3.2.made)) ∙ so.2)
