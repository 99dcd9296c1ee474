use Rattle.std.proofs.Common.{◌≡◌, ◌≤◌, drop}
use Rattle.xr_model.specs.device_text.DeviceText.{digits_behind}
use Rattle.xr_device.proofs.numbers.digits.Given as goal

abbrev pub invariant-loop-b : goal.invariant-loop-b
invariant-loop-b l = record {
  rest : digits_behind l.number (drop l.b-index l.word) ≡ digits_behind 0 l.word;
  few : l.number ≤ 9223372036854775809;
}
