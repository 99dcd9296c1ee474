use Rattle.std.proofs.Common.{◌≡◌, drop}
use Rattle.xr_model.specs.scenario.Fields.{is_key}
use Rattle.xr_scenario_fields.proofs.keys.is_key.Given as goal

abbrev pub invariant-loop-known : goal.invariant-loop-known
invariant-loop-known l = is_key l.keys l.key ≡ is_key (drop l.known-index l.keys) l.key
