use Rattle.xr_model.proofs.FreeEntries.{entries_are_carried}
use Rattle.xr_model.proofs.image_words.entries_are_carried.Goals as goal

pub returns : goal.returns
returns c = entries_are_carried
