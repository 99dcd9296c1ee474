use Rattle.xr_model.proofs.SessionAnswers.{lost_sessions}
use Rattle.xr_model.proofs.lost_sessions.Goals as goal

pub returns : goal.returns
returns c = lost_sessions
