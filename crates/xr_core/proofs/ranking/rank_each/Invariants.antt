use Rattle.std.proofs.Common.{◌≡◌, ◌≤◌, ◌+◌, ◌++◌, length, drop}
use Rattle.xr_core.specs.inside.Ranked.{ranked_at}
use Rattle.xr_core.proofs.ranking.rank_each.Given as goal

abbrev pub invariant-loop-bound : goal.invariant-loop-bound
invariant-loop-bound l =
    (l.initial.ranking ++ ranked_at l.sets l.handles l.user l.list ≡ l.ranking ++ ranked_at l.sets l.handles l.user (drop l.bound-index l.list))
    × (length l.ranking ≤ length l.initial.ranking + l.bound-index)
