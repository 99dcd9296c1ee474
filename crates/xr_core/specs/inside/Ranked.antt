-- The suggestions at a user path, ranked.
use Rattle.std.specs.Prelude.{List, flat_map, slice_get, Option, option_and_then}
use Rattle.std.specs.List.{filter}
use Rattle.xr_types.specs.declared.input.Bound.{Bound}
use Rattle.xr_types.specs.declared.input.Profile.{Profile}
use Rattle.xr_types.specs.declared.input.Ranked.{Ranked}
use Rattle.xr_types.specs.declared.input.User.{User}
use Rattle.xr_types.specs.Users.{user_place}
use Rattle.xr_model.specs.machine.Handles.{Handles}
use Rattle.xr_model.specs.machine.Rules.Sync.{ranked, suggested_at}
use Rattle.xr_model.specs.machine.Sets.{Sets}
use Rattle.xr_model.specs.machine.Sync.{is_same_user}

-- those of a list
abbrev pub ranked_at : Sets → Handles → User → List Bound → List Ranked
ranked_at known h who list = flat_map (ranked known h) (filter (λ b. is_same_user b.pick.user who) list)

-- those for the controller that is connected there
abbrev pub ranked_for : Sets → Handles → List (List Bound) → List (Option Profile) → User → List Ranked
ranked_for known h suggestions profiles who = flat_map (ranked known h) (suggested_at suggestions who (option_and_then (λ p. p) (slice_get profiles (user_place who))))
