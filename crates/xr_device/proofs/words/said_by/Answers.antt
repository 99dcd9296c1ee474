use Rattle.std.proofs.Common.{◌≡◌, Bool, true, false, Option, Some, None, refl, ap, ◌∙◌}
use Rattle.std.specs.Prelude.{if◌then◌else◌}
use Rattle.xr_types.specs.declared.device.DeviceEvent.{DeviceEvent}
use Rattle.xr_types.specs.Device.{checks}
use Rattle.xr_model.specs.device_text.DeviceText.{words_of, event_by, if_checked}
use Rattle.xr_device.proofs.words.said_by.Goals as goal

none_is_not : (e : DeviceEvent) → Some e ≡ None → ⊥
none_is_not e is = cc

same_event : (e f : DeviceEvent) → Some e ≡ Some f → e ≡ f
same_event e f is = cc

checked_is : (o : Option DeviceEvent) (e : DeviceEvent) → Some e ≡ if_checked o → checks e ≡ true
checked_is None e is = absurd (none_is_not e is)
checked_is (Some f) e is = by (checks f) refl is
  where
    by : (t : Bool) → checks f ≡ t → Some e ≡ (if t then Some f else None) → checks e ≡ true
    by true h same = ap checks (same_event e f same) ∙ h
    by false h same = absurd (none_is_not e same)

pub returns-in-Some-clause-sound : goal.returns-in-Some-clause-sound
returns-in-Some-clause-sound c = record {
  checked = checked_is (event_by (words_of c.args.line.now)) c.in-Some.event c.in-Some.ensures.value;
  line = c.in-Some.ensures.line;
}
