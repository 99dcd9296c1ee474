-- The names as the reader keeps them.
use Rattle.std.specs.Prelude.{◌≡◌, ℕ, suc, List, [], ◌∷◌, map, Option, Some, None, option_map, if◌then◌else◌}
use Rattle.std.specs.BTreeMap.{BTreeMap, get_by}
use Rattle.std.specs.Borrow.{Bor}
use Rattle.std.specs.Cmp.Lexicographic.{slice_cmp}
use Rattle.std.specs.Ordering.{nat_cmp}
use Rattle.std.specs.Str.{bytes_eq}
use Rattle.xr_scenario_fields.specs.declared.named_ops.Giver.{Giver}
use Rattle.xr_types.specs.declared.scenario.Sort.{Sort}
use Rattle.xr_model.specs.scenario.Names.{NamedOp, is_sort}

abbrev pub known_of : Giver → NamedOp
known_of g = record { name = g.name.now; place = g.place; sort = g.sort }

-- the place of an op, where its name is of a sort
abbrev pub place_by : Sort → Giver → Option ℕ
place_by sort giver = if is_sort giver.sort sort then Some giver.place else None

abbrev pub names_of : List Giver → List (List ℕ)
names_of givers = map (λ g. g.name.now) givers

-- where a name stands first
abbrev pub index_of : List ℕ → List (List ℕ) → Option ℕ
index_of name [] = None
index_of name (n ∷ ns) = if bytes_eq name n then Some 0 else option_map suc (index_of name ns)

-- the map finds each name where it stands, and no other
abbrev pub Finds : BTreeMap (Bor (List ℕ)) ℕ → List Giver → Type 0
Finds places givers = (name : List ℕ) → get_by (λ k. slice_cmp nat_cmp name k.now) places ≡ index_of name (names_of givers)
