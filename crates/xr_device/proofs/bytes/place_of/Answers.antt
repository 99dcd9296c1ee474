use Rattle.std.proofs.Common.{◌<◌, length, arith}
use Rattle.xr_device.proofs.FirstBytes.{free_more}
use Rattle.xr_device.proofs.bytes.place_of.Goals as goal

pub loop-place-preserved : goal.loop-place-preserved
loop-place-preserved c =
    let within : c.loop-place.place < length c.args.bytes.now = omega arith in
    free_more c.args.byte c.args.bytes.now c.loop-place.place within c.loop-place.invariant c.if-b-byte.false
