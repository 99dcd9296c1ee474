use Rattle.std.proofs.Common.{rules, ◌≡◌, ◌≤◌, ◌∷◌, [], sym, subst}
use Rattle.xr_types.specs.declared.limits.TheConstants.{MOST_LOAD}
use Rattle.xr_model.specs.scenario.LoadScenario.{load_script}
use Rattle.xr_scenario.specs.LoadLaws.{IsOneShortScript}
use Rattle.xr_scenario.proofs.LoadForm.{loads_can_be_run}
use Rattle.xr_scenario.proofs.load.generate.Goals as goal

pub returns-clause-fits : goal.returns-clause-fits
returns-clause-fits c =
    let same : c.new.result ≡ load_script c.args.n ∷ [] = search rules in
    let most : c.args.n ≤ MOST_LOAD = search rules in
    subst (λ scripts. IsOneShortScript (record { version = 1; scripts = scripts })) (sym same) (loads_can_be_run c.args.n most)
