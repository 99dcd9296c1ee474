use Rattle.std.proofs.Common.{◌≡◌, ◌+◌, map, drop}
use Rattle.xr_types.specs.InputNames.{row_from}
use Rattle.xr_types.proofs.input_names.row_among.Given as goal

abbrev pub invariant-loop-known : goal.invariant-loop-known
invariant-loop-known l = record {
  row : l.row ≡ l.known-index;
  found : row_from 1 (map (λ n. n.now) l.names) l.name ≡ row_from (l.row + 1) (map (λ n. n.now) (drop l.known-index l.names)) l.name;
}
