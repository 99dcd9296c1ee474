use Rattle.xr_model.proofs.Limits.{limits_are_of_the_live}
use Rattle.xr_model.proofs.limit_laws.limits_are_of_the_live.Goals as goal

pub returns : goal.returns
returns c = limits_are_of_the_live
