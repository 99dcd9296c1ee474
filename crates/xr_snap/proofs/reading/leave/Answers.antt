use Rattle.std.proofs.Common.{arith}
use Rattle.xr_rule.specs.Seats.{stands_in}
use Rattle.xr_rule.specs.View.{sight}
use Rattle.xr_rule.proofs.Calls.{leaves_at}
use Rattle.xr_snap.specs.Reading.{words_in}
use Rattle.xr_snap.proofs.reading.leave.Goals as goal

pub fetch_add-requires : goal.fetch_add-requires
fetch_add-requires g c = let t = c.args.table.now in let size = t.sized.0 in let m = c.args.seat.now.me in let is = c.requires.inside in let near = is.near in
    (c.requires.own, omega arith, leaves_at (stands_in g.M.Machine.stands) t.table.shared.key t.table.shared.table_id.slots c.args.seat.now.id m t.sized.1 m.0.know m.0.turn c.args.buffer _ (words_in m.0.eyes) m.1 (λ i. (sight m.0.know m.0.turn (is.is i), m.1)) (omega arith))

pub returns-clause-out : goal.returns-clause-out
returns-clause-out g c = c.fetch_add.ensures.2
