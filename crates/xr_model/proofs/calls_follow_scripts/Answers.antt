use Rattle.xr_model.proofs.ScriptCalls.{calls_follow_scripts}
use Rattle.xr_model.proofs.calls_follow_scripts.Goals as goal

pub returns : goal.returns
returns c = calls_follow_scripts
