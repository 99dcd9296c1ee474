use Rattle.std.proofs.lemmas.List.Edits.{map_over_more}
use Rattle.xr_core.proofs.slots.leave_each.Goals as goal

pub loop-own-preserved : goal.loop-own-preserved
loop-own-preserved c = rw (c.leave.ensures, ← c.own-item.is) (map_over_more _ _ _ _ _ c.loop-own-test.true c.loop-own.invariant c.own-item.is)
