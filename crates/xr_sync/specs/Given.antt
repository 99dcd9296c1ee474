-- What a binding gives to each of its columns, computed once.
use Rattle.std.specs.Prelude.{true}
use Rattle.xr_types.specs.declared.input.ActionType.{ActionType}
use Rattle.xr_types.specs.declared.input.ActionType.TheVariants as type
use Rattle.xr_types.specs.declared.input.Found.{Found}
use Rattle.xr_types.specs.declared.input.Inputs.{Inputs}
use Rattle.xr_types.specs.declared.input.Pick.{Pick}
use Rattle.xr_model.specs.machine.Sync.{is_down, amount, axes, pose_of, with_boolean, with_float, with_vector, with_pose}
use Rattle.xr_sync.specs.declared.given.Given.{Given}
use Rattle.xr_sync.specs.declared.given.Given.TheVariants as given

abbrev pub given_by : ActionType → Inputs → Pick → Given
given_by type.Boolean inputs pick = given.Boolean (is_down inputs pick.user pick.part)
given_by type.Float inputs pick = given.Float (amount inputs pick.user pick.part)
given_by type.Vector inputs pick = given.Vector (axes inputs pick.user pick.part).0 (axes inputs pick.user pick.part).1
given_by type.Pose inputs pick = given.Pose (pose_of pick.user pick.part)
given_by type.Vibration inputs pick = given.Vibration

abbrev pub with_given : Found → Given → Found
with_given found (given.Boolean down) = with_boolean found down
with_given found (given.Float value) = with_float found value
with_given found (given.Vector x y) = with_vector found (x, y)
with_given found (given.Pose pose) = with_pose found pose
with_given found given.Vibration = record found { active = true }
