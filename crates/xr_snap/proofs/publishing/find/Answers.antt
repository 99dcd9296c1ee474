use Rattle.std.proofs.Common.{arith, ◌∙◌, refl}
use Rattle.xr_rule.specs.Seats.{stands_in}
use Rattle.xr_rule.specs.View.{Keeps, Writes, sight}
use Rattle.xr_rule.proofs.Calls.{searches_at}
use Rattle.xr_snap.proofs.Writing.{anew, eyes_are}
use Rattle.xr_snap.proofs.publishing.find.Goals as goal

pub loop-buffer-init : goal.loop-buffer-init
loop-buffer-init g c = let m = c.args.seat.now.me in record { own = refl; near = omega arith; me = λ i. (sight m.0.know m.0.turn (c.requires.keeps i), m.1) }

pub load-exits-requires : goal.load-exits-requires
load-exits-requires g c = let t = c.args.table.now in let i = c.loop-buffer.invariant in let words = t.sized.0 in let m = c.args.seat.now.me in
    (i.own ∙ c.requires.own, omega arith, searches_at (stands_in g.M.Machine.stands) t.table.shared.key t.table.shared.table_id.slots c.loop-buffer.seat.id c.loop-buffer.seat.me t.sized.1 m.0.know m.0.turn c.args.counts.now c.loop-buffer.buffer _ m.1 i.me (omega arith) (omega arith))

pub returns-then-exits-counts-clause-own : goal.returns-then-exits-counts-clause-own
returns-then-exits-counts-clause-own g c = c.load-exits.ensures.0 ∙ c.loop-buffer.invariant.own

pub returns-then-exits-counts-clause-found : goal.returns-then-exits-counts-clause-found
returns-then-exits-counts-clause-found g c = let i = c.loop-buffer.invariant in let m = c.args.seat.now.me in let s = c.loop-buffer.seat.me in
    let eyes = eyes_are s m.0.know m.0.turn (Keeps c.args.counts.now c.loop-buffer.buffer) m.1 i.me in
    anew s m.0.know m.0.turn (Keeps c.args.counts.now c.loop-buffer.buffer) (Writes c.args.counts.now c.loop-buffer.buffer _) m.1 i.me c.load-exits.new.seat.me ((c.load-exits.ensures.2 c.args.counts.now c.loop-buffer.buffer eyes).0 c.if-exits-counts.true)

pub loop-buffer-preserved : goal.loop-buffer-preserved
loop-buffer-preserved g c = let i = c.loop-buffer.invariant in let m = c.args.seat.now.me in let s = c.loop-buffer.seat.me in
    let eyes = eyes_are s m.0.know m.0.turn (Keeps c.args.counts.now c.loop-buffer.buffer) m.1 i.me in
    let miss = (c.load-exits.ensures.2 c.args.counts.now c.loop-buffer.buffer eyes).1 c.if-exits-counts.false in record {
      own = c.load-exits.ensures.0 ∙ i.own;
      near = let less = miss.1 in omega arith;
      me = anew s m.0.know m.0.turn (Keeps c.args.counts.now c.loop-buffer.buffer) (Keeps c.args.counts.now _) m.1 i.me c.load-exits.new.seat.me miss.0;
    }

pub unreachable-requires : goal.unreachable-requires
unreachable-requires g c = let near = c.loop-buffer.invariant.near in let done = c.loop-buffer-test.false in absurd (omega arith)
