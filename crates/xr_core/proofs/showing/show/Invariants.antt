use Rattle.std.proofs.Common.{◌≡◌, take, map}
use Rattle.xr_model.specs.machine.Images.{stamp_among, shown_layer}
use Rattle.xr_core.proofs.showing.show.Given as goal

-- the layers up to the index are shown
abbrev pub invariant-loop-layer : goal.invariant-loop-layer
invariant-loop-layer l = (l.shown.number ≡ l.frame.number) × (l.shown.time ≡ l.frame.time) × (l.shown.layers ≡ map (shown_layer (stamp_among l.frame.images l.stamps)) (take l.layer-index l.frame.layers))
