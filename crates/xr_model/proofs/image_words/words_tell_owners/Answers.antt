use Rattle.xr_model.proofs.WordSteps.{words_tell_owners}
use Rattle.xr_model.proofs.image_words.words_tell_owners.Goals as goal

pub returns : goal.returns
returns c = words_tell_owners
