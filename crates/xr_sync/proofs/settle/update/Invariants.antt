use Rattle.std.proofs.Common.{◌≡◌, ◌++◌, take, drop, length}
use Rattle.xr_sync.specs.Tables.{row_after}
use Rattle.xr_sync.proofs.settle.update.Given as goal

abbrev pub invariant-loop-column : goal.invariant-loop-column
invariant-loop-column l = record {
  long : length l.row ≡ 6;
  same : row_after l.clock l.initial.row l.found ≡ take l.column l.row ++ row_after l.clock (drop l.column l.row) (drop l.column l.found);
}
