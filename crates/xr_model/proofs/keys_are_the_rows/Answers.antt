use Rattle.xr_model.proofs.RowKeys.{keys_are_the_rows}
use Rattle.xr_model.proofs.keys_are_the_rows.Goals as goal

pub returns : goal.returns
returns c = keys_are_the_rows
