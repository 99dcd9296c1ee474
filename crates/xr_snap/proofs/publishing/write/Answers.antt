use Rattle.std.proofs.Common.{arith, ap, ◌∙◌, ◌+◌, take, refl}
use Rattle.xr_rule.specs.View.{Writes, sight}
use Rattle.xr_snap.proofs.Writing.{take_all}
use Rattle.xr_snap.proofs.publishing.write.Goals as goal

pub loop-place-init : goal.loop-place-init
loop-place-init g c = let m = c.args.seat.now.me in record { own = refl; near = omega arith; me = λ i. (sight m.0.know m.0.turn (c.requires.found i), m.1) }

pub put-requires-clause-own : goal.put-requires-clause-own
put-requires-clause-own g c = c.loop-place.invariant.own ∙ c.requires.own

pub put-requires-clause-holds : goal.put-requires-clause-holds
put-requires-clause-holds g c = (c.requires.holds.0, ap (λ z. z.0.turn) c.loop-place.invariant.me ∙ c.requires.holds.1)

pub put-requires-clause-begun : goal.put-requires-clause-begun
put-requires-clause-begun g c = ap (λ z. z.0.eyes) c.loop-place.invariant.me

pub loop-place-smaller : goal.loop-place-smaller
loop-place-smaller g c = let more = c.loop-place-test.true in omega arith

pub loop-place-preserved : goal.loop-place-preserved
loop-place-preserved g c = let i = c.loop-place.invariant in let more = c.loop-place-test.true in record {
  own = c.put.ensures.own ∙ i.own;
  near = omega arith;
  me = c.put.ensures.put ∙ ap (λ z. (sight z.0.know z.0.turn (Writes c.args.counts.now c.args.buffer (take (c.loop-place.place + 1) c.args.words.now)), z.1)) i.me;
}

pub returns-clause-own : goal.returns-clause-own
returns-clause-own g c = c.loop-place.invariant.own

pub returns-clause-written : goal.returns-clause-written
returns-clause-written g c = let i = c.loop-place.invariant in let m = c.args.seat.now.me in let done = c.loop-place-test.false in
    i.me ∙ ap (λ xs. (sight m.0.know m.0.turn (Writes c.args.counts.now c.args.buffer xs), m.1)) (take_all c.args.words.now c.loop-place.place (omega arith))
