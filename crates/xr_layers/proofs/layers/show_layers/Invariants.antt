use Rattle.std.proofs.Common.{◌≡◌, take, drop, flat_map}
use Rattle.xr_model.specs.machine.Layers.{layer_checks, layers_of}
use Rattle.xr_model.specs.machine.Refusals.{first_of}
use Rattle.xr_layers.proofs.layers.show_layers.Given as goal

-- the layers so far are shown, and what refuses those that are left refuses all
abbrev pub invariant-loop-layer : goal.invariant-loop-layer
invariant-loop-layer g l = record {
  shown : l.shown.items ≡ layers_of (g.L.Look.look l.look) (take l.layer-index l.layers);
  refused : first_of (flat_map (layer_checks (g.L.Look.look l.look)) (drop l.layer-index l.layers)) ≡ first_of (flat_map (layer_checks (g.L.Look.look l.look)) l.layers);
}
