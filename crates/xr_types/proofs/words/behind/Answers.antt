use Rattle.xr_types.proofs.Beginnings.{behind_is}
use Rattle.xr_types.proofs.words.behind.Goals as goal

pub returns : goal.returns
returns c = behind_is c.args.beginning.now c.args.text.now c.strip_prefix.result c.strip_prefix.ensures.cases
