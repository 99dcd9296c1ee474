use Rattle.std.proofs.lemmas.List.Edits.{map_over_more}
use Rattle.xr_spaces.proofs.spaces.leave.Goals as goal

pub loop-space-preserved : goal.loop-space-preserved
loop-space-preserved c = rw (c.with_left.ensures, ← c.space-item.is) (map_over_more _ _ _ _ _ c.loop-space-test.true c.loop-space.invariant c.space-item.is)
