use Rattle.std.proofs.Common.{◌≡◌, ◌<◌, length, refl, ap, ◌∙◌}
use Rattle.std.specs.Prelude.{slice_index_or}
use Rattle.xr_core.specs.inside.Changes.{change_by}
use Rattle.xr_core.proofs.SessionEvents.{front_item, front_more, rest_of}
use Rattle.xr_core.proofs.sessions.change_each.Goals as goal

pub loop-session-preserved : goal.loop-session-preserved
loop-session-preserved c =
    let f = change_by c.args.change in
    let xs = c.args.sessions.now in
    let i = c.loop-session.session-index in
    let d = c.session-item.result in
    let within : i < length xs = c.loop-session-test.true in
    let there : slice_index_or c.loop-session.sessions i d ≡ slice_index_or xs i d = ap (λ ys. slice_index_or ys i d) c.loop-session.invariant.0 ∙ front_item f xs i d within in (
      rw (c.change.ensures.life, there, c.loop-session.invariant.0) (front_more f xs i d within),
      c.loop-session.invariant.1 ∙ rw (rest_of xs i d within, c.change.ensures.events, there) refl,
    )
