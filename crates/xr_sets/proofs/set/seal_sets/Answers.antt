use Rattle.std.proofs.lemmas.List.Edits.{map_over_more}
use Rattle.xr_sets.proofs.set.seal_sets.Goals as goal

pub loop-set-preserved : goal.loop-set-preserved
loop-set-preserved c = rw (c.seal_by.ensures, ← c.set-item.is) (map_over_more _ _ _ _ _ c.loop-set-test.true c.loop-set.invariant c.set-item.is)
