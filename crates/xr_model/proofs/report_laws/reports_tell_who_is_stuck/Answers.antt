use Rattle.xr_model.proofs.StuckBlocks.{reports_tell_who_is_stuck}
use Rattle.xr_model.proofs.report_laws.reports_tell_who_is_stuck.Goals as goal

pub returns : goal.returns
returns c = reports_tell_who_is_stuck
