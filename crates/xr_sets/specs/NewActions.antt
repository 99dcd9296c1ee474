-- An action that was created, as the machine has it.
use Rattle.std.specs.Prelude.{ℕ, Bool, List}
use Rattle.xr_types.specs.declared.input.ActionType.{ActionType}
use Rattle.xr_model.specs.machine.Sets.{Action}

-- its handle, its set, its name, its localized name, its type, and the user paths that it declares
abbrev pub new_action : ℕ → ℕ → List ℕ → List ℕ → ActionType → List Bool → Action
new_action handle set name localized type declared = record { handle = handle; set = set; name = name; localized = localized; type = type; declared = declared }
