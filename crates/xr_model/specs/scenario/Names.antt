-- The names that the ops of a script have given.
use Rattle.std.specs.Prelude.{ℕ, ◌==◌, ◌&&◌, Bool, true, false, List, [], ◌∷◌, Option, Some, None, option_and_then, if◌then◌else◌}
use Rattle.std.specs.List.{find, list_any}
use Rattle.std.specs.Str.{bytes_eq}
use Rattle.xr_types.specs.declared.scenario.Sort.{Sort}
use Rattle.xr_types.specs.declared.scenario.Sort.TheVariants.{Handle, Atom, Number}

abbrev pub is_sort : Sort → Sort → Bool
is_sort Handle Handle = true
is_sort Atom Atom = true
is_sort Number Number = true
is_sort _ _ = false

-- a name with the place and the sort of the latest op that gave it
pub record NamedOp : Type 0 where
  pub name : List ℕ
  pub place : ℕ
  pub sort : Sort

abbrev pub known : List ℕ → ℕ → Sort → NamedOp
known text at kind = record { name = text; place = at; sort = kind }

-- the op at a place gives a name; a name that was given before now stands for this op
abbrev pub given : List ℕ → ℕ → Sort → List NamedOp → List NamedOp
given text at kind [] = known text at kind ∷ []
given text at kind (k ∷ ks) = if bytes_eq text k.name then known k.name at kind ∷ ks else k ∷ given text at kind ks

abbrev pub if_sort : Sort → NamedOp → Option ℕ
if_sort sort k = if is_sort k.sort sort then Some k.place else None

-- the place of the latest op that gave a name, where that op is of this sort
abbrev pub place_named : Sort → List ℕ → List NamedOp → Option ℕ
place_named sort name names = option_and_then (if_sort sort) (find (λ k. bytes_eq name k.name) names)

-- some name stands for the op at this place, and the name is of this sort
abbrev pub is_known : List NamedOp → Sort → ℕ → Bool
is_known names sort place = list_any (λ k. k.place == place && is_sort k.sort sort) names
