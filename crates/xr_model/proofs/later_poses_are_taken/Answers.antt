use Rattle.xr_model.proofs.LaterPoses.{later_poses_are_taken}
use Rattle.xr_model.proofs.later_poses_are_taken.Goals as goal

pub returns : goal.returns
returns c = later_poses_are_taken
