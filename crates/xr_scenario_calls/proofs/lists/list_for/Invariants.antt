use Rattle.std.proofs.Common.{◌≡◌, ◌++◌, map, length, drop}
use Rattle.xr_scenario_calls.proofs.lists.list_for.Given as goal

abbrev pub invariant-loop-used : goal.invariant-loop-used
invariant-loop-used g l = record {
  count : length l.room ≡ l.used-index;
  filled : map (g.U.ListedUse.value l.names) l.uses ≡ l.room ++ map (g.U.ListedUse.value l.names) (drop l.used-index l.uses);
}
