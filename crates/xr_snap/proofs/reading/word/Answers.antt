use Rattle.std.proofs.Common.{arith}
use Rattle.xr_rule.specs.Seats.{stands_in}
use Rattle.xr_rule.specs.View.{sight}
use Rattle.xr_rule.proofs.Calls.{reads_at}
use Rattle.xr_snap.specs.Reading.{words_in}
use Rattle.xr_snap.proofs.reading.word.Goals as goal

pub load-requires : goal.load-requires
load-requires g c = let t = c.args.table.now in let size = t.sized.0 in let m = c.args.seat.now.me in let is = c.requires.inside in let near = is.near in let short = is.short in let there = c.requires.there in
    (c.requires.own, omega arith, reads_at (stands_in g.M.Machine.stands) t.table.shared.key t.table.shared.table_id.slots c.args.seat.now.id m t.sized.1 m.0.know m.0.turn c.args.buffer c.args.place _ (words_in m.0.eyes) m.1 (λ i. (sight m.0.know m.0.turn (is.is i), m.1)) (omega arith) c.requires.there)

pub returns-clause-same : goal.returns-clause-same
returns-clause-same g c = (c.load.ensures.0, c.load.ensures.2.0)

pub returns-clause-word : goal.returns-clause-word
returns-clause-word g c = let m = c.args.seat.now.me in c.load.ensures.2.1 c.args.buffer (words_in m.0.eyes) c.args.place c.requires.inside.is (omega arith) c.requires.there
