use Rattle.std.proofs.Common.{arith, ap, ◌∙◌, ◌∷◌, [], ◌++◌, take, get_or, sym}
use Rattle.xr_rule.specs.Seats.{stands_in}
use Rattle.xr_rule.specs.View.{Writes, sight}
use Rattle.xr_rule.proofs.Calls.{finds_at, changes_at}
use Rattle.xr_snap.proofs.Writing.{take_more, take_few}
use Rattle.xr_snap.proofs.publishing.put.Goals as goal

pub load-found-requires : goal.load-found-requires
load-found-requires g c = let t = c.args.table.now in let words = t.sized.0 in let m = c.args.seat.now.me in let short = c.requires.short in let near = c.requires.near in let few = take_few c.args.words.now c.args.place (omega arith) in
    (c.requires.own, omega arith, finds_at (stands_in g.M.Machine.stands) t.table.shared.key t.table.shared.table_id.slots c.args.seat.now.id m t.sized.1 m.0.know m.0.turn c.args.counts.now c.args.buffer _ (take c.args.place c.args.words.now) m.1 (λ i. (sight m.0.know m.0.turn (c.requires.begun i), m.1)) (omega arith) (omega arith))

pub returns-then-found-word-clause-put : goal.returns-then-found-word-clause-put
returns-then-found-word-clause-put g c = let m = c.args.seat.now.me in let short = c.requires.short in let xs = take c.args.place c.args.words.now in
    c.load-found.ensures.2 c.args.counts.now c.args.buffer xs c.requires.begun
    ∙ (ap (λ w. (sight m.0.know m.0.turn (Writes c.args.counts.now c.args.buffer (xs ++ w ∷ [])), m.1)) c.if-found-word.true
    ∙ ap (λ ys. (sight m.0.know m.0.turn (Writes c.args.counts.now c.args.buffer ys), m.1)) (sym (take_more c.args.words.now c.args.place (omega arith))))

pub store-requires : goal.store-requires
store-requires g c = let t = c.args.table.now in let words = t.sized.0 in let m = c.args.seat.now.me in let short = c.requires.short in let near = c.requires.near in let few = take_few c.args.words.now c.args.place (omega arith) in
    let xs = take c.args.place c.args.words.now in
    let found = c.load-found.ensures.2 c.args.counts.now c.args.buffer xs c.requires.begun in (
      c.load-found.ensures.0 ∙ c.requires.own,
      omega arith,
      changes_at (stands_in g.M.Machine.stands) t.table.shared.key t.table.shared.table_id.slots c.load-found.new.seat.id c.load-found.new.seat.me t.sized.1 m.0.know c.requires.holds.0 c.args.counts.now c.args.buffer _ _ c.load-found.result xs m.1
          (found ∙ ap (λ u. (sight m.0.know u (Writes c.args.counts.now c.args.buffer (xs ++ c.load-found.result ∷ [])), m.1)) c.requires.holds.1) (omega arith),
    )

pub returns-clause-put : goal.returns-clause-put
returns-clause-put g c = let m = c.args.seat.now.me in let short = c.requires.short in let xs = take c.args.place c.args.words.now in
    let found = c.load-found.ensures.2 c.args.counts.now c.args.buffer xs c.requires.begun in
    c.store.ensures.2 c.args.counts.now c.args.buffer xs c.load-found.result (ap (λ z. z.0.eyes) found)
    ∙ (ap (λ z. (sight z.0.know z.0.turn (Writes c.args.counts.now c.args.buffer (xs ++ get_or c.args.words.now c.args.place 0 ∷ [])), z.1)) found
    ∙ ap (λ ys. (sight m.0.know m.0.turn (Writes c.args.counts.now c.args.buffer ys), m.1)) (sym (take_more c.args.words.now c.args.place (omega arith))))
