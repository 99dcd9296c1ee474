use Rattle.std.proofs.Common.{List, ap, ◌∙◌}
use Rattle.std.specs.Prelude.{slice_index_or}
use Rattle.xr_model.specs.machine.LiveSessions.{Session, life_in, session_at, with_life}
use Rattle.xr_model.specs.machine.SessionLife.{Life}
use Rattle.xr_core.specs.inside.Changes.{answer_to, life_after, told_after}
use Rattle.xr_core.proofs.Listed.{stands, life_there, written_at, told_there}
use Rattle.xr_core.proofs.sessions.change_life.Goals as goal

pub returns-clause-sessions : goal.returns-clause-sessions
returns-clause-sessions c =
    let xs = c.args.sessions.now.items in
    let ys = c.deref_mut.result.now in
    let x = c.index-deref_mut-place.result in
    let there = life_there xs ys c.args.handle c.args.place x c.deref_mut.ensures.value c.requires.found in
    written_at xs ys c.args.handle c.args.place x c.make.new.self (with_life (life_after c.args.wish c.args.call (life_in (session_at xs c.args.handle)))) c.deref_mut.ensures.value c.requires.found
    (c.make.ensures.life ∙ ap (λ (life : Life). with_life (life_after c.args.wish c.args.call life) (slice_index_or ys c.args.place x)) there)

pub returns-clause-events : goal.returns-clause-events
returns-clause-events c =
    c.make.ensures.events
    ∙ told_there c.args.sessions.now.items c.deref_mut.result.now c.args.handle c.args.place c.index-deref_mut-place.result c.args.events.now (told_after c.args.wish c.args.call) c.deref_mut.ensures.value c.requires.found

pub returns-clause-code : goal.returns-clause-code
returns-clause-code c =
    let x = c.index-deref_mut-place.result in
    let there = stands c.args.sessions.now.items c.args.handle c.args.place x c.requires.found in
    rw there.found (c.make.ensures.code ∙ ap (λ (xs : List Session). answer_to c.args.call (slice_index_or xs c.args.place x).life) c.deref_mut.ensures.value)
