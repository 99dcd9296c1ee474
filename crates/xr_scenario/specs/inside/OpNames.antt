-- The ops by the sizes of their names.
use Rattle.std.specs.Prelude.{◌≡◌, ℕ, List, length}
use Rattle.std.specs.List.{find}
use Rattle.std.specs.Str.{bytes_eq}
use Rattle.xr_types.specs.declared.names.CallName.{CallName}
use Rattle.xr_types.specs.Op.{name_of_call, all_ops}

-- a name of this size stands among these as it does among all ops
abbrev pub HasAllOfSize : ℕ → List CallName → Type 0
HasAllOfSize size ops = (t : List ℕ) → length t ≡ size → find (λ c. bytes_eq t (name_of_call c)) ops ≡ find (λ c. bytes_eq t (name_of_call c)) all_ops
