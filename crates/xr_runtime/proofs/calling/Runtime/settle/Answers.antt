use Rattle.std.proofs.Common.{ap, ◌∙◌}
use Rattle.xr_model.specs.machine.Publication.{publication_of}
use Rattle.xr_model.specs.machine.PublicationWords.{words}
use Rattle.xr_model.specs.machine.State.{WholeCore}
use Rattle.xr_runtime.proofs.Settling.{may_publish}
use Rattle.xr_runtime.proofs.calling.Runtime.settle.Goals as goal

pub note-requires-clause-may : goal.note-requires-clause-may
note-requires-clause-may c = c.requires.may.notes c.if-decided.false

pub publish-requires-clause-may : goal.publish-requires-clause-may
publish-requires-clause-may c = may_publish c.args.seat.now.me c.note.new.seat.me c.args.held.now c.args.call.now c.args.reply.now _ c.requires.may.keeps (c.requires.may.notes c.if-decided.false) c.note.ensures.noted (c.view.ensures ∙ ap (λ (w : WholeCore). words (publication_of w.kept)) c.deref.ensures)
