use Rattle.xr_model.proofs.FrameBlocks.{reports_tell_the_frames}
use Rattle.xr_model.proofs.report_laws.reports_tell_the_frames.Goals as goal

pub returns : goal.returns
returns c = reports_tell_the_frames
