-- What the names of a script stand for.
use Rattle.std.proofs.Common.{arith, ◌-◌, ap}
use Rattle.std.specs.Prelude.{unwrap_or}
use Rattle.xr_model.specs.runs.NameValues.{value_given}
use Rattle.xr_model.specs.laws.RunLaws.{NamesStandForValues}
use Rattle.xr_model.proofs.MarkValues.{set_there, set_other, places_differ}

pub names_stand_for_values : NamesStandForValues
names_stand_for_values values place o answer least most = record {
  own = ap (λ found. unwrap_or found 0) (set_there values (place - 1) (value_given o answer.gives) (omega (arith, least, most)));
  others =
      λ other first differ. ap (λ found. unwrap_or found 0)
      (set_other values (place - 1) (other - 1) (value_given o answer.gives) (places_differ place other least first differ));
}
