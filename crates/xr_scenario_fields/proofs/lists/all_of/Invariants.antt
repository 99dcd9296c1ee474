use Rattle.std.proofs.Common.{◌≡◌, length, drop}
use Rattle.serde_json.specs.View.{items_view}
use Rattle.xr_model.specs.scenario.InRange.{Each}
use Rattle.xr_model.specs.scenario.ListItems.{all_of}
use Rattle.xr_scenario_fields.proofs.Items.{prepend}
use Rattle.xr_scenario_fields.proofs.lists.all_of.Given as goal

abbrev pub invariant-loop-value : goal.invariant-loop-value
invariant-loop-value g l = record {
  meant : all_of (g.T.ListItem.part l.named_ops) (items_view l.values) ≡ prepend l.list.items (all_of (g.T.ListItem.part l.named_ops) (items_view (drop l.value-index l.values)));
  count : length l.list.items ≡ l.value-index;
  each : Each (g.T.ListItem.formed l.named_ops) l.list.items;
}
