use Rattle.std.proofs.Common.{◌≡◌, take, drop, length}
use Rattle.std.specs.Prelude.{All, replicate}
use Rattle.xr_model.specs.machine.Sync.{inactive_row}
use Rattle.xr_sync.specs.Tables.{IsTidy}
use Rattle.xr_sync.proofs.settle.clear.Given as goal

abbrev pub invariant-loop-place : goal.invariant-loop-place
invariant-loop-place l = record {
  long : length l.rows ≡ 64;
  tidy : All IsTidy l.rows;
  rest : drop l.place l.rows ≡ drop l.place l.initial.rows;
  clean : take l.place l.rows ≡ replicate l.place inactive_row;
}
