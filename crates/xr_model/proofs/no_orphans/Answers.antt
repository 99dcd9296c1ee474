use Rattle.xr_model.proofs.Orphans.{no_orphans}
use Rattle.xr_model.proofs.no_orphans.Goals as goal

pub returns : goal.returns
returns c = no_orphans
