use Rattle.std.proofs.Common.{◌≡◌, ◌++◌, map, take, drop}
use Rattle.xr_model.specs.machine.LiveSessions.{without_sets}
use Rattle.xr_core.proofs.sessions.forget_each.Given as goal

abbrev pub invariant-loop-session : goal.invariant-loop-session
invariant-loop-session l = l.sessions ≡ map (without_sets l.gone) (take l.session-index l.initial.sessions) ++ drop l.session-index l.initial.sessions
