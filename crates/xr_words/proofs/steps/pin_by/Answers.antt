use Rattle.std.proofs.Common.{arith, ap, ◌∙◌}
use Rattle.xr_model.proofs.CallWords.{slot_within}
use Rattle.xr_rule.specs.Seats.{stands_in}
use Rattle.xr_rule.specs.Plays.{made_more}
use Rattle.xr_words.proofs.Picked.{pins_by}
use Rattle.xr_words.proofs.steps.pin_by.Goals as goal

pub image-requires : goal.image-requires
image-requires g c = c.requires.may.fits

pub fetch_add-requires : goal.fetch_add-requires
fetch_add-requires g c = let t = c.args.table.now in let s = c.args.seat.now in let may = c.requires.may in let words = t.sized.0 in let low = slot_within c.args.image may.fits in let at = c.image.ensures in
    (may.own, omega (arith, low, at, words), pins_by (stands_in g.M.Machine.stands) t.table.shared.key t.table.shared.table_id.slots s.id s.me t.sized.1 c.image.result s.me.0.know may.hold s.me.0.eyes c.args.image s.me.1 g.J.Making.call at c.requires.picks may.is may.unnoted may.fits)

pub returns-clause-made : goal.returns-clause-made
returns-clause-made g c h is = let m = c.args.seat.now.me in c.fetch_add.ensures.2 h is ∙ ap (λ x. (made_more m.0.know h m.0.eyes x, m.1)) c.requires.picks
