use Rattle.std.proofs.Common.{rules, ◌≡◌, ◌-◌, true, false, refl, [], to_z, of_z, w32, slice_index_or}
use Rattle.std.proofs.lemmas.Option.{unwrap_or-slice_get}
use Rattle.xr_types.specs.InputNames.{is_digital}
use Rattle.xr_types.specs.Users.{user_place}
use Rattle.xr_core.proofs.device_values.DeviceValues.set_input.Goals as goal

pub returns-then-not-is_digital : goal.returns-then-not-is_digital
returns-then-not-is_digital c =
    let read : to_z w32 (of_z w32 c.clamp-stored.result) ≡ c.clamp-stored.result = search rules in
    let given : to_z w32 (of_z w32 c.args.value) ≡ c.args.value = search rules in
    let analogue : is_digital c.args.row ≡ false = search rules in
    let same_values = unwrap_or-slice_get c.self.inside.inputs.values (user_place c.args.user) [] in
    let same_pressed = unwrap_or-slice_get c.self.inside.inputs.pressed (user_place c.args.user) [] in
    let same_bit = unwrap_or-slice_get (slice_index_or c.self.inside.inputs.pressed (user_place c.args.user) []) (c.args.row - 1) false in
    rw (← c.self.view_is, c.pressed.ensures, read, c.clamp-stored.ensures, given, c.user_place-user.ensures.place, same_values, same_pressed, same_bit, analogue) refl

pub returns-else-not-is_digital : goal.returns-else-not-is_digital
returns-else-not-is_digital c =
    let read : to_z w32 (of_z w32 c.clamp-stored.result) ≡ c.clamp-stored.result = search rules in
    let given : to_z w32 (of_z w32 c.args.value) ≡ c.args.value = search rules in
    let digital : is_digital c.args.row ≡ true = search rules in
    let same_values = unwrap_or-slice_get c.self.inside.inputs.values (user_place c.args.user) [] in
    rw (← c.self.view_is, read, c.clamp-stored.ensures, given, c.user_place-user.ensures.place, same_values, digital) refl
