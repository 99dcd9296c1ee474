use Rattle.xr_model.proofs.FittingCalls.{claims_alone}
use Rattle.xr_model.proofs.image_words.claims_stand_alone.Goals as goal

pub returns : goal.returns
returns c = claims_alone
