use Rattle.std.proofs.Common.{◌≡◌, ◌+◌, drop, length}
use Rattle.serde_json.specs.View.{items_view}
use Rattle.xr_model.specs.scenario.ScriptForm.{AllInForm}
use Rattle.xr_model.specs.scenario.Scenario.{scripts_from}
use Rattle.xr_scenario.proofs.OpReading.{prepend}
use Rattle.xr_scenario.proofs.reader.read_scripts.Given as goal

abbrev pub invariant-loop-value : goal.invariant-loop-value
invariant-loop-value l = record {
  count : l.script ≡ l.value-index;
  made : length l.scripts.items ≡ l.value-index;
  meant : scripts_from l.version 1 (items_view l.values) ≡ prepend l.scripts.items (scripts_from l.version (l.script + 1) (items_view (drop l.value-index l.values)));
  formed : AllInForm l.scripts.items;
}
