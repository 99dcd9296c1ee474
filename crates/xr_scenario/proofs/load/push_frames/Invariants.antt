use Rattle.std.proofs.Common.{◌≡◌, ◌≤◌, ◌+◌, ◌-◌, ◌*◌, ◌++◌, length}
use Rattle.xr_model.specs.scenario.LoadScenario.{frame_ops_from}
use Rattle.xr_scenario.proofs.load.push_frames.Given as goal

abbrev pub invariant-loop-i : goal.invariant-loop-i
invariant-loop-i l = record {
  few : length l.ops.items ≤ 7 + 10 * l.i;
  made : l.initial.ops.items ++ frame_ops_from l.n 1 8 ≡ l.ops.items ++ frame_ops_from (l.n - l.i) (l.i + 1) (length l.ops.items + 1);
}
