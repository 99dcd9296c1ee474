use Rattle.std.proofs.lemmas.List.Edits.{map_over_more}
use Rattle.xr_bindings.proofs.suggestions.forget_action.Goals as goal

pub loop-list-preserved : goal.loop-list-preserved
loop-list-preserved c = rw (c.forget.ensures, ← c.list-item.is) (map_over_more _ _ _ _ _ c.loop-list-test.true c.loop-list.invariant c.list-item.is)
