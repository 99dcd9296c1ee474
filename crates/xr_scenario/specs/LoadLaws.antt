-- What holds of the scenario of a load.
use Rattle.std.specs.Prelude.{◌≡◌, ◌≤◌, ◌<◌, ◌+◌, ◌*◌, ◌/◌, ◌^◌, ℕ, length}
use Rattle.std.specs.List.{sum_by}
use Rattle.xr_types.specs.declared.limits.TheConstants.{MOST_LOAD}
use Rattle.xr_types.specs.declared.scenario.Scenario.{Scenario}
use Rattle.xr_model.specs.scenario.ScriptForm.{AllInForm}
use Rattle.xr_model.specs.scenario.LoadScenario.{load_script, load_scenario}

-- A load of N frames has seven ops before its frames and seven a frame, two more for each tenth frame and one more for
-- each seventh.
abbrev pub LoadsHaveSoManyOps : Type 0
LoadsHaveSoManyOps = (n : ℕ) → length (load_script n) ≡ 7 + 7 * n + 2 * (n / 10) + n / 7

-- It has one script, fewer than 2^22 ops, and only ops in form.
pub record IsOneShortScript (s : Scenario) : Type 0 where
  pub one : length s.scripts ≡ 1
  pub few : sum_by length s.scripts < 2 ^ 22
  pub formed : AllInForm s.scripts

-- So a load can be run.
abbrev pub LoadsCanBeRun : Type 0
LoadsCanBeRun = (n : ℕ) → n ≤ MOST_LOAD → IsOneShortScript (load_scenario n)
