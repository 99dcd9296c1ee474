use Rattle.xr_model.proofs.ScriptNames.{names_stand_for_what_was_given}
use Rattle.xr_model.proofs.script_laws.names_stand_for_what_was_given.Goals as goal

pub returns : goal.returns
returns c = names_stand_for_what_was_given
