use Rattle.std.proofs.Common.{◌++◌, ap, ◌∙◌, arith}
use Rattle.xr_model.specs.machine.LiveSessions.{Session}
use Rattle.xr_core.specs.inside.Viewing.{words_listed}
use Rattle.xr_core.proofs.Viewed.{words_more}
use Rattle.xr_core.proofs.parts.Parts.push_each.Goals as goal

pub loop-session-preserved : goal.loop-session-preserved
loop-session-preserved c =
    let few = c.push_session.ensures.few in
    let so_far = c.loop-session.invariant.1 in (
      words_more (words_listed c.args.self.now) c.args.sessions.now c.loop-session.session-index _ c.args.out.now c.loop-session.out c.push_session.new.out c.loop-session-test.true c.loop-session.invariant.0
          (c.push_session.ensures.words ∙ ap (λ (x : Session). c.loop-session.out ++ words_listed c.args.self.now x) c.session-item.is),
      omega (arith, few, so_far),
    )
