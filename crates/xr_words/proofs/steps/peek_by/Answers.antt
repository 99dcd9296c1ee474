use Rattle.std.proofs.Common.{arith, subst}
use Rattle.xr_types.specs.declared.frames.Image.{Image}
use Rattle.xr_model.proofs.CallWords.{slot_within}
use Rattle.xr_rule.specs.Seats.{stands_in}
use Rattle.xr_words.specs.Table.{Finds}
use Rattle.xr_words.proofs.Picked.{peeks_by}
use Rattle.xr_words.proofs.steps.peek_by.Goals as goal

pub stamp-requires : goal.stamp-requires
stamp-requires g c = (c.requires.may 0).fits

pub load-requires : goal.load-requires
load-requires g c = let t = c.args.table.now in let s = c.args.seat.now in let may = c.requires.may 0 in let words = t.sized.0 in let low = slot_within c.args.image may.fits in let at = c.stamp.ensures in
    (may.own, omega (arith, low, at, words), peeks_by (stands_in g.M.Machine.stands) t.table.shared.key t.table.shared.table_id.slots s.id s.me t.sized.1 c.stamp.result s.me.0.know may.hold s.me.0.eyes c.args.image s.me.1 g.J.Peeking.image at c.requires.picks may.is may.unnoted (λ v. may.fits))

pub returns-clause-found : goal.returns-clause-found
returns-clause-found g c = subst (λ (i : Image). Finds i c.args.seat.now.me c.load.result c.load.new.seat.me) c.requires.picks c.load.ensures.2
