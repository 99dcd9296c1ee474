use Rattle.std.proofs.Common.{◌≡◌, drop}
use Rattle.xr_types.specs.Printed.{all_users}
use Rattle.xr_model.specs.device_text.DeviceText.{input_among}
use Rattle.xr_device.proofs.words.source_of.Given as goal

abbrev pub invariant-loop-user : goal.invariant-loop-user
invariant-loop-user l = input_among l.word all_users ≡ input_among l.word (drop l.user-index l.user-items)
