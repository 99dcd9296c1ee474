use Rattle.std.proofs.Common.{◌≡◌, ◌++◌, ◌<◌, ℕ, List, get_or, take, drop, length}
use Rattle.std.specs.Prelude.{All, replicate}
use Rattle.xr_types.specs.declared.input.Column.{Column}
use Rattle.xr_sync.specs.Tables.{no_row, rows_after, IsQuiet, IsTidy}
use Rattle.xr_sync.proofs.settle.settle.Given as goal

abbrev pub invariant-loop-place : goal.invariant-loop-place
invariant-loop-place l = record {
  long : length l.rows ≡ 64;
  wide : length l.found ≡ 64;
  rest : drop l.place l.rows ≡ drop l.place l.initial.rows;
  six : (k : ℕ) (d : List Column) → k < l.place → length (get_or l.initial.rows k d) ≡ 6;
  later : drop l.place l.found ≡ drop l.place l.initial.found;
  clean : take l.place l.found ≡ replicate l.place no_row;
  quiet : All IsQuiet l.found;
  tidy : All IsTidy l.rows;
  same : rows_after l.clock l.initial.rows l.initial.found ≡ take l.place l.rows ++ rows_after l.clock (drop l.place l.rows) (drop l.place l.found);
}
