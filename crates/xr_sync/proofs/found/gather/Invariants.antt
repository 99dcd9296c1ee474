use Rattle.std.proofs.Common.{◌≡◌, drop}
use Rattle.std.specs.Prelude.{All}
use Rattle.std.specs.List.{filter}
use Rattle.xr_model.specs.machine.Sync.{is_live}
use Rattle.xr_sync.specs.Ranks.{live_bindings}
use Rattle.xr_sync.specs.Tables.{no_table, table_from, IsQuiet}
use Rattle.xr_sync.proofs.found.gather.Given as goal

abbrev pub invariant-loop-b : goal.invariant-loop-b
invariant-loop-b l = record {
  quiet : All IsQuiet l.table;
  same : table_from l.inputs no_table (live_bindings l.active l.all) ≡ table_from l.inputs l.table (filter (is_live l.active l.all) (drop l.b-index l.all));
}
