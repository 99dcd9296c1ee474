use Rattle.std.proofs.Common.{rules, ◌≡◌, Ok}
use Rattle.xr_model.specs.scenario.Scenario.{scenario_of}
use Rattle.xr_scenario.proofs.Few.{few_read}
use Rattle.xr_scenario.proofs.reader.read.Goals as goal

pub returns-clause-few : goal.returns-clause-few
returns-clause-few c =
    let meant : scenario_of c.args.text.now ≡ Ok c.in_ok-scenario.scenario = search rules in
    few_read c.args.text.now c.in_ok-scenario.scenario meant
