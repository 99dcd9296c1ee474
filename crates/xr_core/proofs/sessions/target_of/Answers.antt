use Rattle.std.proofs.Common.{max, length, ◌<◌, sym, ap, ◌∙◌}
use Rattle.xr_model.specs.machine.LiveSessions.{Session}
use Rattle.xr_model.specs.machine.Target.{target_of}
use Rattle.xr_core.proofs.SessionEvents.{target_taken, target_passed}
use Rattle.xr_core.proofs.sessions.target_of.Goals.{then-is_candidate, else-is_candidate}
use Rattle.xr_core.proofs.sessions.target_of.Goals as goal

pub loop-session-preserved : goal.loop-session-preserved
loop-session-preserved c =
    let xs = c.args.sessions.now in
    let i = c.loop-session.session-index in
    let x = c.session-item.result in
    let within : i < length xs = c.loop-session-test.true in
    elim c.if-is_candidate.branch [
      | then-is_candidate w ↦ target_taken xs i x c.loop-session.target c.if-is_candidate.target (target_of xs) within c.session-item.is (sym c.is_candidate.ensures ∙ w.if-is_candidate.true) (w.target-is ∙ w.max-target.ensures ∙ ap (λ (y : Session). max y.ordinal c.loop-session.target) c.session.view_is) c.loop-session.invariant
      | else-is_candidate w ↦ target_passed xs i x c.loop-session.target c.if-is_candidate.target (target_of xs) within c.session-item.is (sym c.is_candidate.ensures ∙ w.if-is_candidate.false) w.target-is c.loop-session.invariant
    ]
