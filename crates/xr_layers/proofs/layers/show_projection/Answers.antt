use Rattle.std.proofs.Common.{◌≡◌, ◌==◌, ◌++◌, ◌∙◌, not, List, [], ◌∷◌, rules}
use Rattle.std.specs.Prelude.{Err}
use Rattle.xr_types.specs.declared.code.Code.{Code}
use Rattle.xr_types.specs.declared.code.Code.TheVariants.{HandleInvalid, ValidationFailure}
use Rattle.xr_types.specs.declared.frames.Layer.TheVariants.{Projection}
use Rattle.xr_model.specs.machine.Layers.{Look, part_checks, part_image, view_at, layer_of}
use Rattle.xr_model.specs.machine.Refusals.{Refusal, when}
use Rattle.xr_layers.proofs.Refused.{then_err, then_ok}
use Rattle.xr_layers.proofs.layers.show_projection.Goals as goal

pub returns-in_err-left : goal.returns-in_err-left
returns-in_err-left g c =
    let look : Look = g.L.Look.look c.args.look.now in
    let shown = layer_of look (Projection c.args.space c.args.count c.args.views.now) in
    let form : List Refusal = when (not (look.space c.args.space)) HandleInvalid ∷ when (not (c.args.count == 2)) ValidationFailure ∷ [] in
    let lefts : List Refusal = part_checks look (view_at c.args.views.now 0) in
    let rights : List Refusal = part_checks look (view_at c.args.views.now 1) in
    let code : Code = c.in_err-left.field-0.0 in
    let is : c.from_residual-in_err-left.result ≡ Err code = search rules in
    is
    ∙ then_err lefts rights (part_image look (view_at c.args.views.now 0)) shown code c.in_err-left.ensures
    ∙ then_ok form (lefts ++ rights) tt tt shown c.in_ok-check_views.ensures

pub returns-in_err-right : goal.returns-in_err-right
returns-in_err-right g c =
    let look : Look = g.L.Look.look c.args.look.now in
    let shown = layer_of look (Projection c.args.space c.args.count c.args.views.now) in
    let form : List Refusal = when (not (look.space c.args.space)) HandleInvalid ∷ when (not (c.args.count == 2)) ValidationFailure ∷ [] in
    let lefts : List Refusal = part_checks look (view_at c.args.views.now 0) in
    let rights : List Refusal = part_checks look (view_at c.args.views.now 1) in
    let code : Code = c.in_err-right.field-0.0 in
    let is : c.from_residual-in_err-right.result ≡ Err code = search rules in
    is
    ∙ then_err rights [] (part_image look (view_at c.args.views.now 1)) shown code c.in_err-right.ensures
    ∙ then_ok lefts rights (part_image look (view_at c.args.views.now 0)) c.in_ok-left.left shown c.in_ok-left.ensures
    ∙ then_ok form (lefts ++ rights) tt tt shown c.in_ok-check_views.ensures
