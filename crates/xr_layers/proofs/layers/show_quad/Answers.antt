use Rattle.std.proofs.Common.{◌≡◌, ◌==◌, ◌++◌, ◌∙◌, not, List, [], ◌∷◌, rules}
use Rattle.std.specs.Prelude.{Err}
use Rattle.xr_types.specs.declared.code.Code.{Code}
use Rattle.xr_types.specs.declared.code.Code.TheVariants.{HandleInvalid, PoseInvalid}
use Rattle.xr_types.specs.declared.frames.Layer.TheVariants.{Quad}
use Rattle.xr_model.specs.machine.Layers.{Look, part_checks, part_image, layer_of}
use Rattle.xr_model.specs.machine.Refusals.{Refusal, when}
use Rattle.xr_layers.proofs.Refused.{then_err, then_ok}
use Rattle.xr_layers.proofs.layers.show_quad.Goals as goal

pub returns-in_err-image : goal.returns-in_err-image
returns-in_err-image g c =
    let look : Look = g.L.Look.look c.args.look.now in
    let shown = layer_of look (Quad c.args.space c.args.part.now c.args.pose) in
    let parts : List Refusal = part_checks look c.args.part.now in
    let pose : List Refusal = when (c.args.pose == 0) PoseInvalid ∷ [] in
    let code : Code = c.in_err-image.field-0.0 in
    let is : c.from_residual-in_err-image.result ≡ Err code = search rules in
    is
    ∙ then_err parts pose (part_image look c.args.part.now) shown code c.in_err-image.ensures
    ∙ then_ok (when (not (look.space c.args.space)) HandleInvalid ∷ []) (parts ++ pose) tt tt shown c.in_ok-check_space.ensures
