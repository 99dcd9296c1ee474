-- Ops that are formed whatever names are known.
use Rattle.std.proofs.Common.{List, Result, Ok, Err, IfOk}
use Rattle.xr_scenario_fields.specs.declared.fault.Fault.{Fault}
use Rattle.xr_scenario_fields.specs.declared.reading.ReadOp.{ReadOp}
use Rattle.xr_model.specs.scenario.InRange.{IsFormed}
use Rattle.xr_model.specs.scenario.ScriptForm.{IsKnownPlace}
use Rattle.xr_model.specs.scenario.Names.{NamedOp}

pub formed_at : (r : Result ReadOp Fault) (names : List NamedOp) → IfOk r (λ l. (ns : List NamedOp) → IsFormed (IsKnownPlace ns) l.op) → IfOk r (λ l. IsFormed (IsKnownPlace names) l.op)
formed_at (Ok l) names h = h names
formed_at (Err e) names h = tt
