use Rattle.xr_model.proofs.AttachedItems.{names_are_of_forms}
use Rattle.xr_model.proofs.limit_laws.names_are_of_forms.Goals as goal

pub returns : goal.returns
returns c = names_are_of_forms
