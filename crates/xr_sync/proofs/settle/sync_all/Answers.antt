use Rattle.std.proofs.Common.{rules, ◌∙◌, ap}
use Rattle.xr_sync.specs.Tables.{rows_after}
use Rattle.xr_sync.proofs.ColumnTables.{columns_by_table}
use Rattle.xr_sync.proofs.settle.sync_all.Goals as goal

pub returns : goal.returns
returns c =
    c.settle_all.ensures.after ∙ ap (rows_after c.args.clock.now c.args.rows.now) c.gather.ensures.found
    ∙ columns_by_table c.args.active.now c.args.bindings.now c.args.inputs.now c.args.clock.now c.args.rows.now (search rules) c.settle_all.ensures.six
