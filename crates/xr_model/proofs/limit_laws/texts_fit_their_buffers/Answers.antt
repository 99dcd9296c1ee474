use Rattle.xr_model.proofs.AskedConditions.{texts_fit_their_buffers}
use Rattle.xr_model.proofs.limit_laws.texts_fit_their_buffers.Goals as goal

pub returns : goal.returns
returns c = texts_fit_their_buffers
