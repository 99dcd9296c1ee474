use Rattle.std.proofs.Common.{arith, subst, true, Bool}
use Rattle.xr_model.specs.machine.Calls.{Entry}
use Rattle.xr_model.proofs.CallWords.{slot_within}
use Rattle.xr_rule.specs.Seats.{stands_in}
use Rattle.xr_rule.specs.Plays.{Claimed}
use Rattle.xr_words.proofs.Picked.{claims_by}
use Rattle.xr_words.proofs.steps.claim_by.Goals as goal

pub image-requires : goal.image-requires
image-requires g c = (c.requires.may true).sets.fits.0

pub compare_exchange-requires : goal.compare_exchange-requires
compare_exchange-requires g c = let t = c.args.table.now in let s = c.args.seat.now in let all = c.requires.may true in let may = all.sets in let words = t.sized.0 in let low = slot_within c.args.image may.fits.0 in let at = c.image.ensures in
    (may.own, omega (arith, low, at, words), claims_by (stands_in g.M.Machine.stands) t.table.shared.key t.table.shared.table_id.slots s.id s.me t.sized.1 c.image.result s.me.0.know may.hold s.me.0.eyes _ c.args.image c.args.late s.me.1 g.J.Claiming.entry g.J.Claiming.late at c.requires.picks.0 c.requires.picks.1 may.is may.unnoted all.claims.1 all.claims.0)

pub returns-clause-claimed : goal.returns-clause-claimed
returns-clause-claimed g c h is = subst (λ (z : Entry × Bool). Claimed z.0 z.1 c.args.seat.now.me c.compare_exchange.result c.compare_exchange.new.seat.me h) (λ i. (c.requires.picks.0 i, c.requires.picks.1 i)) (c.compare_exchange.ensures.2 h is)
