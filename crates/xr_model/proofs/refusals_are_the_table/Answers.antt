use Rattle.xr_model.proofs.AnswerCodes.{refusals_are_the_table}
use Rattle.xr_model.proofs.refusals_are_the_table.Goals as goal

pub returns : goal.returns
returns c = refusals_are_the_table
