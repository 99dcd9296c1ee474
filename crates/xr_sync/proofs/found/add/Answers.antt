use Rattle.std.proofs.Common.{rules, []}
use Rattle.xr_sync.specs.Tables.{row_with}
use Rattle.xr_sync.proofs.Rows.{set_is_each}
use Rattle.xr_sync.proofs.found.add.Goals as goal

pub returns-clause-table : goal.returns-clause-table
returns-clause-table c = rw (c.add_to_row.ensures.row) (set_is_each (row_with c.args.inputs.now c.args.b.now) c.args.table.now c.from.result 0 c.args.b.now.place [] (search rules) (search rules))
