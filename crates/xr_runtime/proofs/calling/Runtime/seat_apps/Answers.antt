use Rattle.std.proofs.Common.{rules, refl, ◌≡◌, ◌+◌, ◌<◌, ◌≤◌, length, arith, subst}
use Rattle.xr_runtime.specs.Passes.{table_of, AreSeats}
use Rattle.xr_runtime.proofs.Starting.{others_are, next_first}
use Rattle.xr_runtime.proofs.calling.Runtime.seat_apps.Goals as goal

pub loop-app-preserved : goal.loop-app-preserved
loop-app-preserved c =
    let i = c.loop-app.invariant in
    let here = c.loop-app-test.true in
    let left = i.left in
    let within : c.loop-app.app + 1 ≤ c.args.apps = search rules in
    let some : 0 < length c.loop-app.seats.items = omega (arith, left, within) in
    let from : c.loop-app.app + 2 + 1 ≡ c.loop-app.app + 1 + 2 = omega arith in record {
      within = within;
      left = search rules;
      count = search rules;
      room = search rules;
      seats = subst (λ n. AreSeats (table_of c.args.self.now) c.args.apps n c.remove-seat.new.self.items) from (others_are (table_of c.args.self.now) c.args.apps (c.loop-app.app + 2) c.loop-app.seats.items c.remove-seat.new.self.items some i.seats c.remove-seat.ensures.items);
      passes = next_first (table_of c.args.self.now) c.args.apps c.loop-app.app c.loop-app.seats.items c.remove-seat.result _ c.loop-app.passes.items c.push_reserved.new.self.items some within i.seats c.remove-seat.ensures.value i.passes i.count refl c.push_reserved.ensures.items;
    }
