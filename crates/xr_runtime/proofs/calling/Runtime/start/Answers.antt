use Rattle.std.proofs.Common.{refl}
use Rattle.xr_runtime.proofs.Starting.{front_seats, last_two, compositor_first, device_first}
use Rattle.xr_runtime.proofs.calling.Runtime.start.Goals as goal

pub seat_apps-requires-clause-seats : goal.seat_apps-requires-clause-seats
seat_apps-requires-clause-seats c =
    front_seats c.in_ok-table.table.table.shared.table_id c.args.apps c.in_ok-table.seats.items c.pop.new.self.items c.pop-2.new.self.items c.in-Some.device c.in-Some-pop.compositor c.in_ok-table.ensures.seats c.in-Some.ensures.items
    c.in-Some-pop.ensures.items

pub returns : goal.returns
returns c =
    let table = c.in_ok-table.table.table.shared.table_id in
    let two = last_two table c.args.apps c.in_ok-table.seats.items c.pop.new.self.items c.pop-2.new.self.items c.in-Some.device c.in-Some-pop.compositor c.in_ok-table.ensures.seats c.in-Some.ensures.items c.in-Some-pop.ensures.items in
    let empty = c.new.ensures in record {
      started = record {
        apps_are = c.in_ok-table.ensures.key;
        count = c.seat_apps.ensures.count;
        passes = c.seat_apps.ensures.passes;
        compositor = compositor_first table c.args.apps _ two.0 empty refl;
        none_shown = (refl, refl);
        none_held = empty;
        device = device_first table c.args.apps (record { seat = c.in-Some.device; calls = 0 }) two.1 refl;
        none_told = refl;
      };
    }
