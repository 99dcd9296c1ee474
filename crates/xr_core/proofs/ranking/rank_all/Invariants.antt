use Rattle.std.proofs.Common.{◌≡◌, ◌≤◌, ◌*◌, ◌++◌, length, drop, flat_map}
use Rattle.xr_types.specs.Printed.{all_users}
use Rattle.xr_core.specs.inside.Ranked.{ranked_for}
use Rattle.xr_core.proofs.ranking.rank_all.Given as goal

abbrev pub invariant-loop-user : goal.invariant-loop-user
invariant-loop-user l =
    (flat_map (ranked_for l.sets l.handles l.bindings l.profiles) all_users ≡ l.ranking ++ flat_map (ranked_for l.sets l.handles l.bindings l.profiles) (drop l.user-index l.user-items))
    × (length l.ranking ≤ 512 * l.user-index)
