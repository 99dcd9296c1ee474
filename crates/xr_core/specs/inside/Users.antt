-- What a core knows of the five user paths: the atom of each, 0 where it has none.
use Rattle.std.specs.Prelude.{◌≡◌, ℕ, ◌==◌, List, map, slice_index_or, slice_set, Option, Some, None, if◌then◌else◌}
use Rattle.xr_types.specs.declared.input.User.{User}
use Rattle.xr_types.specs.Printed.{all_users}
use Rattle.xr_types.specs.Users.{user_place}
use Rattle.xr_model.specs.machine.Publication.{user_atom}

-- a text has this atom; where it is a user path's that has none, that is its atom from now on
abbrev pub users_with : List ℕ → Option User → ℕ → List ℕ
users_with users None atom = users
users_with users (Some who) atom = if slice_index_or users (user_place who) 0 == 0 then slice_set users (user_place who) atom else users

abbrev pub KnowsUsers : List ℕ → List (List ℕ) → Type 0
KnowsUsers users atoms = users ≡ map (user_atom atoms) all_users
