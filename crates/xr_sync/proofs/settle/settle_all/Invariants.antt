use Rattle.std.proofs.Common.{◌≡◌, ◌++◌, ◌<◌, ℕ, List, get_or, take, drop, length}
use Rattle.xr_types.specs.declared.input.Column.{Column}
use Rattle.xr_sync.specs.Tables.{rows_after}
use Rattle.xr_sync.proofs.settle.settle_all.Given as goal

abbrev pub invariant-loop-place : goal.invariant-loop-place
invariant-loop-place l = record {
  long : length l.rows ≡ 64;
  rest : drop l.place l.rows ≡ drop l.place l.initial.rows;
  six : (k : ℕ) (d : List Column) → k < l.place → length (get_or l.initial.rows k d) ≡ 6;
  same : rows_after l.clock l.initial.rows l.found ≡ take l.place l.rows ++ rows_after l.clock (drop l.place l.rows) (drop l.place l.found);
}
