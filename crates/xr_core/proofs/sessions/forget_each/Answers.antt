use Rattle.std.proofs.lemmas.List.Edits.{map_over_more}
use Rattle.xr_core.proofs.sessions.forget_each.Goals as goal

pub loop-session-preserved : goal.loop-session-preserved
loop-session-preserved c = rw (c.forget_sets.ensures, ← c.session-item.is) (map_over_more _ _ _ _ _ c.loop-session-test.true c.loop-session.invariant c.session-item.is)
