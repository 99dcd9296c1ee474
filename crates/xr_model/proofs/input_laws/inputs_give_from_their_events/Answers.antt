use Rattle.xr_model.proofs.InputsGive.{inputs_give_from_their_events}
use Rattle.xr_model.proofs.input_laws.inputs_give_from_their_events.Goals as goal

pub returns : goal.returns
returns c = inputs_give_from_their_events
