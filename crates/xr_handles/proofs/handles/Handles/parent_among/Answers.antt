use Rattle.std.proofs.Common.{rules, ◌≡◌, ◌==◌, false}
use Rattle.xr_model.specs.machine.Handles.{row_of}
use Rattle.xr_handles.proofs.Parents.{parent_is_there, slot_is_there}
use Rattle.xr_handles.proofs.handles.Handles.parent_among.Goals as goal

pub returns : goal.returns
returns c =
    let some : (c.args.handle == 0) ≡ false = search rules in
    record {
      parent = rw (c.parent_in.ensures, c.row-row.ensures.row) (parent_is_there c.args.self.now c.args.kind c.args.handle c.row-row.ensures.once some);
      live = rw (c.parent_in.ensures, c.row-row.ensures.row, some) (slot_is_there (row_of c.args.self.now c.args.kind) c.args.handle);
    }
