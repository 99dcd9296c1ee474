use Rattle.std.proofs.Common.{rules, ◌∙◌, ap, drop}
use Rattle.xr_model.specs.machine.Sync.{inactive_row, is_live}
use Rattle.xr_sync.specs.Tables.{no_table, rows_after}
use Rattle.xr_sync.proofs.ColumnTables.{columns_by_table}
use Rattle.xr_sync.proofs.Reach.{further, none_beyond, table_beyond}
use Rattle.xr_sync.proofs.settle.sync_tidy.Goals as goal

pub returns-clause-after : goal.returns-clause-after
returns-clause-after c =
    c.settle.ensures.after ∙ ap (rows_after c.args.clock.now c.args.rows.now) c.gather.ensures.found
    ∙ columns_by_table c.args.active.now c.args.bindings.now c.args.inputs.now c.args.clock.now c.args.rows.now (search rules) c.settle.ensures.six

pub settle-requires-clause-shown : goal.settle-requires-clause-shown
settle-requires-clause-shown c = further c.args.reach c.reach_of-reach.result inactive_row c.args.rows.now c.requires.beyond c.reach_of-reach.ensures.least c.reach_of-reach.ensures.within

pub settle-requires-clause-seen : goal.settle-requires-clause-seen
settle-requires-clause-seen c =
    let reach = c.reach_of-reach.result in
    let none = none_beyond reach c.reach_of-reach.ensures.within in
    record {
      within = none.within;
      rest = ap (λ t. drop reach t) c.gather.ensures.found ∙ table_beyond c.args.inputs.now (is_live c.args.active.now c.args.bindings.now) reach c.args.bindings.now no_table c.reach_of-reach.ensures.before ∙ none.rest;
    }
