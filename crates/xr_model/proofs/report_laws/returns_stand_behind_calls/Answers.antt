use Rattle.xr_model.proofs.ReturnPlaces.{returns_stand_behind_calls}
use Rattle.xr_model.proofs.report_laws.returns_stand_behind_calls.Goals as goal

pub returns : goal.returns
returns c = returns_stand_behind_calls
