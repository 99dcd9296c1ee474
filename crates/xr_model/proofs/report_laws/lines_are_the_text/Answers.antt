use Rattle.xr_model.proofs.LinesOfText.{lines_are_the_text}
use Rattle.xr_model.proofs.report_laws.lines_are_the_text.Goals as goal

pub returns : goal.returns
returns c = lines_are_the_text
