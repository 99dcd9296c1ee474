use Rattle.std.proofs.Common.{◌≡◌, ◌++◌, false, take, drop, length}
use Rattle.std.specs.Prelude.{All, slice_index_or, if◌then◌else◌}
use Rattle.xr_model.specs.machine.Sync.{each_from, inactive_row, left_columns}
use Rattle.xr_sync.specs.Tables.{IsTidy}
use Rattle.xr_sync.proofs.settle.leave.Given as goal

abbrev pub invariant-loop-place : goal.invariant-loop-place
invariant-loop-place l = record {
  long : length l.rows ≡ 64;
  rest : drop l.place l.rows ≡ drop l.place l.initial.rows;
  tidy : All IsTidy l.rows;
  same : left_columns (λ place. slice_index_or l.there place false) l.initial.rows ≡ take l.place l.rows ++ each_from (λ place row. if slice_index_or l.there place false then row else inactive_row) l.place (drop l.place l.rows);
}
