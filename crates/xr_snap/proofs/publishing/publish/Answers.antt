use Rattle.std.proofs.Common.{◌≡◌, ap, ◌∙◌}
use Rattle.xr_rule.specs.View.{Writes, sight}
use Rattle.xr_snap.proofs.Writing.{same_holder, know_same}
use Rattle.xr_snap.proofs.publishing.publish.Goals as goal

pub returns-clause-published : goal.returns-clause-published
returns-clause-published g c h e is noted = let m = c.args.seat.now.me in let n = c.write.new.seat.me in let z = Writes c.args.held.now.counts c.find-buffer.result c.as_slice.result.now in
    let then : n ≡ (sight m.0.know m.0.turn z, m.1) = c.write.ensures.written ∙ ap (λ x. (sight x.0.know x.0.turn z, x.1)) c.find-buffer.ensures.found in
    know_same m n z h e c.show.new.seat.me c.show.new.counts then (c.show.ensures.shown h e (same_holder m n h m.0.eyes z is then) noted)
