use Rattle.xr_model.proofs.ActionSpaces.{action_spaces_are_of_poses}
use Rattle.xr_model.proofs.limit_laws.action_spaces_are_of_poses.Goals as goal

pub returns : goal.returns
returns c = action_spaces_are_of_poses
