use Rattle.std.proofs.Common.{ap, ◌∙◌}
use Rattle.std.specs.Prelude.{slice_index_or}
use Rattle.xr_types.specs.declared.device.Wish.TheVariants as wish
use Rattle.xr_model.specs.machine.LiveSessions.{life_in, session_at, with_life}
use Rattle.xr_model.specs.machine.SessionLife.{Life, synced_session}
use Rattle.xr_core.proofs.Listed.{life_there, written_at, told_there}
use Rattle.xr_core.proofs.sessions.sync_at.Goals as goal

pub returns-clause-sessions : goal.returns-clause-sessions
returns-clause-sessions c =
    let xs = c.args.sessions.now.items in
    let ys = c.deref_mut.result.now in
    let x = c.index-deref_mut-place.result in
    let there = life_there xs ys c.args.handle c.args.place x c.deref_mut.ensures.value c.requires.found in
    written_at xs ys c.args.handle c.args.place x c.sync.new.self (with_life (synced_session wish.Ready (life_in (session_at xs c.args.handle))).life) c.deref_mut.ensures.value c.requires.found
    (c.sync.ensures.life ∙ ap (λ (life : Life). with_life (synced_session wish.Ready life).life (slice_index_or ys c.args.place x)) there)

pub returns-clause-events : goal.returns-clause-events
returns-clause-events c =
    c.sync.ensures.events
    ∙ told_there c.args.sessions.now.items c.deref_mut.result.now c.args.handle c.args.place c.index-deref_mut-place.result c.args.events.now (λ life. (synced_session wish.Ready life).through) c.deref_mut.ensures.value c.requires.found
