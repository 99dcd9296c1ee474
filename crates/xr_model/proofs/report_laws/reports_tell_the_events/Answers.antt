use Rattle.xr_model.proofs.EventBlocks.{reports_tell_the_events}
use Rattle.xr_model.proofs.report_laws.reports_tell_the_events.Goals as goal

pub returns : goal.returns
returns c = reports_tell_the_events
