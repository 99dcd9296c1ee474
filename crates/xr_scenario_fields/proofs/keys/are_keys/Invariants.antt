use Rattle.std.proofs.Common.{◌≡◌}
use Rattle.serde_json.specs.View.{members_view}
use Rattle.xr_model.specs.scenario.Fields.{are_keys}
use Rattle.xr_scenario_fields.proofs.keys.are_keys.Given as goal

abbrev pub invariant-loop-key : goal.invariant-loop-key
invariant-loop-key l = are_keys l.keys (members_view l.members.entries) ≡ are_keys l.keys (members_view l.key-iterator)
