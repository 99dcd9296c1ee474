use Rattle.xr_model.proofs.FreeEntries.{free_entries_leave}
use Rattle.xr_model.proofs.image_words.free_entries_leave.Goals as goal

pub returns : goal.returns
returns c = free_entries_leave
