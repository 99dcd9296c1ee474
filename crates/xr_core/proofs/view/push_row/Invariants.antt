use Rattle.std.proofs.Common.{◌≡◌, ◌≤◌, ◌+◌, ◌*◌, ◌++◌, length, drop}
use Rattle.xr_core.specs.inside.Viewing.{words_of_row}
use Rattle.xr_core.proofs.view.push_row.Given as goal

abbrev pub invariant-loop-column : goal.invariant-loop-column
invariant-loop-column l =
    (l.initial.out ++ words_of_row l.row ≡ l.out ++ words_of_row (drop l.column-index l.row)) × (length l.out ≤ length l.initial.out + 2 * l.column-index)
