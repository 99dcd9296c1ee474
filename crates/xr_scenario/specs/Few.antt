-- How many ops there are.
use Rattle.std.specs.Prelude.{◌≡◌, ◌<◌, Ok, ℕ, List, length}
use Rattle.std.specs.List.{sum_by}
use Rattle.xr_types.specs.declared.limits.TheConstants.{MOST_SCENARIO}
use Rattle.xr_types.specs.declared.scenario.Scenario.{Scenario}
use Rattle.xr_model.specs.scenario.Scenario.{scenario_of}

-- A scenario that is read has fewer than 2^20 ops.
abbrev pub FewOps : Type 0
FewOps = (text : List ℕ) (s : Scenario) → scenario_of text ≡ Ok s → sum_by length s.scripts < MOST_SCENARIO
