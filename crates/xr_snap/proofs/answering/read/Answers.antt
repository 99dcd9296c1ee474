use Rattle.std.proofs.Common.{ap, subst, sym, ◌∙◌}
use Rattle.xr_rule.specs.View.{view}
use Rattle.xr_snap.specs.Answering.{reply_at}
use Rattle.xr_snap.specs.Reading.{HasFit, getter_entry, getter_answer, publication_seen}
use Rattle.xr_snap.proofs.Entering.{has_fit, has_read}
use Rattle.xr_snap.proofs.Replies.{replies}
use Rattle.xr_snap.proofs.answering.read.Goals as goal

pub heading_in-heading-requires-clause-fits : goal.heading_in-heading-requires-clause-fits
heading_in-heading-requires-clause-fits g c = let m = c.args.seat.now.me in has_fit m c.enter-buffer.new.seat.me (getter_entry m.0.know c.args.call.now) c.enter-buffer.result c.enter-buffer.ensures.entered

pub look-answer-requires-clause-fits : goal.look-answer-requires-clause-fits
look-answer-requires-clause-fits g c =
    let m = c.args.seat.now.me in
    subst (λ n. HasFit n.0.eyes) (sym c.heading_in-heading.ensures.same.1) (has_fit m c.enter-buffer.new.seat.me (getter_entry m.0.know c.args.call.now) c.enter-buffer.result c.enter-buffer.ensures.entered)

pub returns-clause-read : goal.returns-clause-read
returns-clause-read g c =
    let m = c.args.seat.now.me in
    let n = c.enter-buffer.new.seat.me in
    let w = c.in-Some.wanted in
    let same = c.look-answer.ensures.same.1 ∙ c.heading_in-heading.ensures.same.1 in
    let answer = c.look-answer.ensures.answer ∙ ap (λ z. getter_answer (publication_seen z.0.eyes) w.kind w.session w.action w.sub) c.heading_in-heading.ensures.same.1 in
    let is = replies (publication_seen n.0.eyes) c.args.call.now w c.heading_in-heading.result.number c.reply_at.result c.in-Some.ensures (ap (λ h. h.number) c.heading_in-heading.ensures.heading) (c.reply_at.ensures ∙ ap (λ a. reply_at c.heading_in-heading.result.number a) answer) in
    has_read m n c.leave.new.seat.me c.args.call.now c.enter-buffer.result c.reply_at.result c.enter-buffer.ensures.entered (c.leave.ensures.out ∙ ap (λ z. (view z.0.know z.0.turn, z.1)) same) is
