use Rattle.std.proofs.Common.{◌≡◌, ◌≤◌, false}
use Rattle.xr_types.specs.declared.limits.TheConstants.{MOST_DEVICE}
use Rattle.xr_device.specs.Texts.{told, late_in, KeepsTold, SameText, UsedLines, steps_left}
use Rattle.xr_device.proofs.line_device.LineDeviceDevice.next.Given as goal

abbrev pub invariant-loop-event : goal.invariant-loop-event
invariant-loop-event g l =
    let begun = l.initial.self-inside.text in
    let text = l.self-inside.text in record {
      told : KeepsTold (told begun) (told text);
      used : begun.used ≤ text.used;
      faults : text.source.faults ≡ begun.source.faults;
      same : SameText begun text;
      over : l.self-inside.over ≡ false;
      given : text.given ≡ begun.given;
      on_time : late_in begun.source begun.ended ≡ false → late_in text.source text.ended ≡ false;
      lines : UsedLines text;
      limit : text.used ≤ MOST_DEVICE;
    }

abbrev pub decreases-loop-event : goal.decreases-loop-event
decreases-loop-event g l = steps_left l.self-inside.text
