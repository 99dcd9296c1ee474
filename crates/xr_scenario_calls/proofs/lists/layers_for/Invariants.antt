use Rattle.std.proofs.Common.{◌≡◌, ◌++◌, map, length, drop}
use Rattle.xr_model.specs.runs.NameValues.{layer_for}
use Rattle.xr_scenario_calls.proofs.lists.layers_for.Given as goal

abbrev pub invariant-loop-used : goal.invariant-loop-used
invariant-loop-used l = record {
  count : length l.room ≡ l.used-index;
  filled : map (layer_for l.names) l.uses ≡ l.room ++ map (layer_for l.names) (drop l.used-index l.uses);
}
