-- What a reader's answers say.
use Rattle.std.specs.Prelude.{◌≡◌, ⊤, ℕ, List, Option, option_map, Result, Ok, Err}
use Rattle.std.specs.Borrow.{Bor}
use Rattle.xr_types.specs.declared.status.What.{What}
use Rattle.xr_model.specs.scenario.ReadOp as model
use Rattle.xr_scenario_fields.specs.declared.reading.ReadOp.{ReadOp}
use Rattle.xr_scenario_fields.specs.declared.fault.Fault.{Fault}
use Rattle.xr_scenario_fields.specs.declared.fault.Fault.TheVariants.{Wrong, NoMemory}

-- Something is wrong in the text, and memory wasn't short.
abbrev pub IsWrong : Fault → Type 0
IsWrong (Wrong what) = ⊤
IsWrong NoMemory = ⊥

-- The answer is what was meant, what is wrong is what was meant to be told, or memory was short.
abbrev pub Reads : {T : Type 0} → Result T Fault → Result T What → Type 0
Reads (Ok x) meant = meant ≡ Ok x
Reads (Err (Wrong what)) meant = meant ≡ Err what
Reads (Err NoMemory) meant = Unit {0}

-- the same of a name that may be missing
abbrev pub ReadsName : Result (Option (Bor (List ℕ))) Fault → Result (Option (List ℕ)) What → Type 0
ReadsName (Ok x) meant = meant ≡ Ok (option_map (λ text. text.now) x)
ReadsName (Err (Wrong what)) meant = meant ≡ Err what
ReadsName (Err NoMemory) meant = Unit {0}

-- the same of an op
abbrev pub ReadsOp : Result ReadOp Fault → Result model.ReadOp What → Type 0
ReadsOp (Ok x) meant = meant ≡ Ok (record { op = x.op; name = option_map (λ text. text.now) x.name })
ReadsOp (Err (Wrong what)) meant = meant ≡ Err what
ReadsOp (Err NoMemory) meant = Unit {0}
