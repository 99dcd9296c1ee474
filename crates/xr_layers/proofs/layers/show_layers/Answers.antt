use Rattle.std.proofs.Common.{◌≡◌, ◌∙◌, List, [], None, length, take, drop, rules, arith, refl, flat_map}
use Rattle.std.proofs.Math.Seq.{take-length, drop-length}
use Rattle.xr_types.specs.declared.frames.Layer.{Layer}
use Rattle.xr_layers.proofs.Few.{few_images}
use Rattle.std.specs.Prelude.{Err}
use Rattle.xr_model.specs.machine.Layers.{Look, layer_checks, layers_of}
use Rattle.xr_model.specs.machine.Refusals.{first_of}
use Rattle.xr_layers.proofs.Steps.{shown_more, refused_later, refused_here}
use Rattle.xr_layers.proofs.layers.show_layers.Goals as goal

pub returns-in_err-show_layer-clause-shown : goal.returns-in_err-show_layer-clause-shown
returns-in_err-show_layer-clause-shown g c =
    let look : Look = g.L.Look.look c.args.look.now in
    let is : c.from_residual.result ≡ Err (c.in_err-show_layer.field-0.0) = search rules in
    is ∙ refused_here look c.args.layers.now c.loop-layer.layer-index _ c.loop-layer-test.true (c.in_err-show_layer.field-0.0) (layers_of look c.args.layers.now) c.in_err-show_layer.ensures c.loop-layer.invariant.refused

pub loop-layer-preserved : goal.loop-layer-preserved
loop-layer-preserved g c =
    let look : Look = g.L.Look.look c.args.look.now in
    record {
      shown = c.push.ensures.items ∙ shown_more look c.args.layers.now c.loop-layer.layer-index _ c.loop-layer-test.true c.loop-layer.shown.items c.in_ok-show_layer.field-0 c.loop-layer.invariant.shown c.in_ok-show_layer.ensures;
      refused = refused_later look c.args.layers.now c.loop-layer.layer-index _ c.loop-layer-test.true c.in_ok-show_layer.field-0 c.in_ok-show_layer.ensures ∙ c.loop-layer.invariant.refused;
    }

pub returns-clause-few : goal.returns-clause-few
returns-clause-few g c =
    let look : Look = g.L.Look.look c.args.look.now in
    let layers : List Layer = c.args.layers.now in
    let at_end : c.loop-layer.layer-index ≡ length layers = omega arith in
    let all : take c.loop-layer.layer-index layers ≡ layers = rw at_end (take-length layers) in
    let left : drop c.loop-layer.layer-index layers ≡ [] = rw at_end (drop-length layers) in
    let none : first_of (flat_map (layer_checks look) layers) ≡ None = rw (← c.loop-layer.invariant.refused, left) refl in
    rw (c.loop-layer.invariant.shown, all) (few_images look (g.met.L.Look.sound c.args.look.now) layers none)
