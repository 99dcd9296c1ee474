use Rattle.std.proofs.Common.{◌-◌, ◌<◌, [], arith, sym}
use Rattle.xr_types.proofs.InputNames.{now-slice_index_or, input_name-row}
use Rattle.xr_types.proofs.input_names.input_name.Goals as goal

pub returns-then-row-le-MOST_ROW : goal.returns-then-row-le-MOST_ROW
returns-then-row-le-MOST_ROW c =
    let inside : c.from.result - 1 < 40 = omega arith in
    rw (now-slice_index_or []) (sym (input_name-row c.args.row (c.from.result - 1) (omega arith) inside))
