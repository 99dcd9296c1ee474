use Rattle.std.proofs.Common.{◌≡◌, ◌+◌, ◌%◌, ◌^◌, ◌<◌, drop}
use Rattle.xr_model.specs.report.Summary.{layers_stamps}
use Rattle.xr_report.proofs.load_summary.with_layers.Given as goal

abbrev pub invariant-loop-layer : goal.invariant-loop-layer
invariant-loop-layer l = record { small : l.sum < 2 ^ 64; same : (l.initial.sum + layers_stamps l.layers) % 2 ^ 64 ≡ (l.sum + layers_stamps (drop l.layer-index l.layers)) % 2 ^ 64 }
