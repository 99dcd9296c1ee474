use Rattle.std.proofs.Common.{◌≡◌, ◌++◌, drop}
use Rattle.xr_model.specs.report.ReportLines.{layers_text}
use Rattle.xr_report.proofs.lines.push_layers.Given as goal

abbrev pub invariant-loop-layer : goal.invariant-loop-layer
invariant-loop-layer l = l.initial.out.items ++ layers_text l.layers ≡ l.out.items ++ layers_text (drop l.layer-index l.layers)
