use Rattle.std.proofs.Common.{◌≡◌, drop}
use Rattle.xr_model.specs.machine.LiveSessions.{told_states}
use Rattle.xr_core.proofs.sessions.tell.Given as goal

abbrev pub invariant-loop-state : goal.invariant-loop-state
invariant-loop-state l = told_states l.initial.events l.ordinal l.session l.state-items ≡ told_states l.events l.ordinal l.session (drop l.state-index l.state-items)
