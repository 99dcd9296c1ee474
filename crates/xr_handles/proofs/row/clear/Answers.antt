use Rattle.std.proofs.Common.{◌<◌, length, arith}
use Rattle.std.proofs.lemmas.List.Edits.{map_over_more}
use Rattle.std.proofs.lemmas.List.{get_or_default}
use Rattle.xr_handles.proofs.row.clear.Goals as goal

pub loop-slot-preserved : goal.loop-slot-preserved
loop-slot-preserved c =
    let within : c.loop-slot.slot-index < length c.loop-slot.row = omega (arith, c.loop-slot-test.true, c.loop-slot.auto.row) in
    rw c.vacate.ensures (map_over_more _ _ _ _ _ c.loop-slot-test.true c.loop-slot.invariant (get_or_default _ _ _ _ within))
