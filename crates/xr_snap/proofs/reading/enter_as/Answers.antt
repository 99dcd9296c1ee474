use Rattle.std.proofs.Common.{arith, []}
use Rattle.xr_rule.specs.Seats.{stands_in}
use Rattle.xr_rule.proofs.Calls.{enters_at}
use Rattle.xr_rule.proofs.Resting.{at_rest}
use Rattle.xr_snap.proofs.Entering.{has_entered}
use Rattle.xr_snap.proofs.reading.enter_as.Goals as goal

pub fetch_add-found-requires : goal.fetch_add-found-requires
fetch_add-found-requires g c = let t = c.args.table.now in let size = t.sized.0 in let m = c.args.seat.now.me in let may = c.requires.may in
    (c.requires.own, omega arith, enters_at (stands_in g.M.Machine.stands) t.table.shared.key t.table.shared.table_id.slots c.args.seat.now.id m t.sized.1 m.0.know g.J.Noting.entry c.front.result [] (at_rest m may.between) c.front.ensures may.may)

pub returns-clause-entered : goal.returns-clause-entered
returns-clause-entered g c = has_entered c.args.seat.now.me c.fetch_add-found.new.seat.me g.J.Noting.entry c.fetch_add-found.result c.requires.may.between c.fetch_add-found.ensures.2
