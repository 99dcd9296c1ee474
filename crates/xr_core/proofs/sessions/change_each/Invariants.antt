use Rattle.std.proofs.Common.{◌≡◌, drop}
use Rattle.xr_model.specs.machine.LiveSessions.{told_changes}
use Rattle.xr_core.specs.inside.Changes.{change_by}
use Rattle.xr_core.proofs.SessionEvents.{front}
use Rattle.xr_core.proofs.sessions.change_each.Given as goal

-- those up to the index have changed, and what they tell is told
abbrev pub invariant-loop-session : goal.invariant-loop-session
invariant-loop-session l =
    (l.sessions ≡ front (change_by l.change) l.initial.sessions l.session-index)
    × (told_changes l.initial.events (change_by l.change) l.initial.sessions ≡ told_changes l.events (change_by l.change) (drop l.session-index l.initial.sessions))
