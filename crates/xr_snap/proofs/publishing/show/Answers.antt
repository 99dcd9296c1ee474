use Rattle.std.proofs.Common.{arith, ap, ◌∷◌, [], ◌++◌, refl}
use Rattle.xr_model.specs.machine.PublicationWords.{words}
use Rattle.xr_rule.specs.Plays.{published_by}
use Rattle.xr_rule.specs.Seats.{stands_in}
use Rattle.xr_rule.proofs.Calls.{swaps_at}
use Rattle.xr_snap.proofs.publishing.show.Goals as goal

pub swap-found-requires : goal.swap-found-requires
swap-found-requires g c = let t = c.args.table.now in let m = c.args.seat.now.me in let may = c.requires.may in let size = t.sized.0 in let near = c.requires.near in
    (c.requires.own, omega arith, swaps_at (stands_in g.M.Machine.stands) t.table.shared.key t.table.shared.table_id.slots c.args.seat.now.id m t.sized.1 m.0.know may.hold may.entry c.args.counts.now c.args.buffer c.front.result _ (words (published_by m.0.know (may.hold.look ++ may.entry ∷ []))) _ may.is may.noted refl c.front.ensures (omega arith))

pub bounds-counts-found : goal.bounds-counts-found
bounds-counts-found g c = let m = c.args.seat.now.me in let may = c.requires.may in
    let p = c.swap-found.ensures.2 may.hold may.entry c.args.counts.now c.args.buffer (words (published_by m.0.know (may.hold.look ++ may.entry ∷ []))) (ap (λ z. z.0.turn) may.is) may.noted (ap (λ z. z.0.eyes) may.is) in p.1

pub returns-clause-shown : goal.returns-clause-shown
returns-clause-shown g c h e is noted = let m = c.args.seat.now.me in let may = c.requires.may in
    let xs = words (published_by m.0.know (may.hold.look ++ may.entry ∷ [])) in let eyes = ap (λ z. z.0.eyes) may.is in
    let p = c.swap-found.ensures.2 h e c.args.counts.now c.args.buffer xs (ap (λ z. z.0.turn) is) noted eyes in (p.0, p.2)
