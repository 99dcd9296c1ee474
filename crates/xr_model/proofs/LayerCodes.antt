-- The codes that refuse the layers of a frame: none is a success, and none tells of a session or of the call order.
use Rattle.std.proofs.Common.{◌≡◌, true, List, [], ◌∷◌, refl}
use Rattle.std.specs.Prelude.{flat_map}
use Rattle.xr_types.specs.Code.{is_success}
use Rattle.xr_types.specs.declared.frames.Layer.{Layer}
use Rattle.xr_types.specs.declared.frames.Layer.TheVariants.{Projection, Quad}
use Rattle.xr_model.specs.machine.Layers.{Look, layer_checks}
use Rattle.xr_model.proofs.SessionAnswers.{none_with}

pub layers_fail : (look : Look) (layers : List Layer) → none_with is_success (flat_map (layer_checks look) layers) ≡ true
layers_fail look [] = refl
layers_fail look (Projection space count views ∷ layers) = layers_fail look layers
layers_fail look (Quad space image pose ∷ layers) = layers_fail look layers
