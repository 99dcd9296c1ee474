use Rattle.std.proofs.Common.{arith, ◌∙◌}
use Rattle.xr_model.proofs.CallWords.{slot_within}
use Rattle.xr_rule.specs.Seats.{stands_in}
use Rattle.xr_rule.specs.View.{sight}
use Rattle.xr_words.proofs.Returned.{returns_by}
use Rattle.xr_words.proofs.steps.give_back.Goals as goal

pub image-requires : goal.image-requires
image-requires g c = c.requires.placed

pub fetch_sub-requires : goal.fetch_sub-requires
fetch_sub-requires g c = let t = c.args.table.now in let s = c.args.seat.now in let b = c.requires.between in let words = t.sized.0 in let low = slot_within c.args.image c.requires.placed in let at = c.image.ensures in
    (c.requires.own, omega (arith, low, at, words), returns_by (stands_in g.M.Machine.stands) t.table.shared.key t.table.shared.table_id.slots s.id s.me t.sized.1 c.image.result s.me.0.know c.args.image s.me.1 at (λ i. (sight s.me.0.know (b.idle i) (b.sees_none i), s.me.1)) b.numbered c.requires.may)

pub returns-clause-decides : goal.returns-clause-decides
returns-clause-decides g c = let e = c.fetch_sub.ensures.2 in (e.0, e.1)

pub returns-clause-carries : goal.returns-clause-carries
returns-clause-carries g c = c.fetch_sub.ensures.2.2 ∙ c.requires.between.carries
