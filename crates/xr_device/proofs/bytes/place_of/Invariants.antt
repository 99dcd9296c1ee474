use Rattle.std.proofs.Common.{◌≡◌, true, take}
use Rattle.xr_device.specs.FirstByte.{is_free_of}
use Rattle.xr_device.proofs.bytes.place_of.Given as goal

abbrev pub invariant-loop-place : goal.invariant-loop-place
invariant-loop-place l = is_free_of l.byte (take l.place l.bytes) ≡ true
