use Rattle.std.proofs.Common.{◌≡◌, ◌+◌, [], drop, length}
use Rattle.serde_json.specs.View.{items_view}
use Rattle.xr_model.specs.scenario.ScriptForm.{IsInForm}
use Rattle.xr_model.specs.scenario.Scenario.{ops_from}
use Rattle.xr_scenario.proofs.ScriptForm.{AreOf}
use Rattle.xr_scenario.proofs.OpReading.{prepend}
use Rattle.xr_scenario.proofs.reader.read_ops.Given as goal

abbrev pub invariant-loop-value : goal.invariant-loop-value
invariant-loop-value l = record {
  count : l.place ≡ l.value-index;
  made : length l.ops.items ≡ l.value-index;
  meant : ops_from l.version l.script 1 [] (items_view l.values) ≡ prepend l.ops.items (ops_from l.version l.script (l.place + 1) l.named_ops (items_view (drop l.value-index l.values)));
  known : AreOf l.named_ops l.ops.items;
  formed : IsInForm l.ops.items;
}
