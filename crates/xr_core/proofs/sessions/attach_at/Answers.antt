use Rattle.xr_model.specs.machine.LiveSessions.{with_attached}
use Rattle.xr_core.proofs.Listed.{written_at}
use Rattle.xr_core.proofs.sessions.attach_at.Goals as goal

pub returns : goal.returns
returns c =
    written_at c.args.sessions.now.items c.deref_mut.result.now c.args.handle c.args.place c.index-deref_mut-place.result c.attach.new.self (with_attached c.args.sets.items)
    c.deref_mut.ensures.value c.requires.found c.attach.ensures
