-- What the answers of a text's reader say.
use Rattle.std.specs.Prelude.{◌≡◌, Option, None, Result, Ok, Err}
use Rattle.serde_json.specs.Data.{Data}
use Rattle.xr_types.specs.declared.status.Refusal.{Refusal}
use Rattle.xr_types.specs.declared.status.Refusal.TheVariants.{Json}
use Rattle.xr_scenario.specs.declared.fault.ScenarioFault.{ScenarioFault}
use Rattle.xr_scenario.specs.declared.fault.ScenarioFault.TheVariants.{Refused, NoMemory}

-- The answer is what was meant, the refusal is the one that was meant, or memory was short.
abbrev pub ReadsShape : {T : Type 0} → Result T ScenarioFault → Result T Refusal → Type 0
ReadsShape (Ok x) meant = meant ≡ Ok x
ReadsShape (Err (Refused why)) meant = meant ≡ Err why
ReadsShape (Err NoMemory) meant = Unit {0}

-- Memory was short, or there is no JSON value.
abbrev pub IsJsonFault : ScenarioFault → Option Data → Type 0
IsJsonFault NoMemory value = Unit {0}
IsJsonFault (Refused Json) value = value ≡ None
IsJsonFault (Refused _) value = ⊥
