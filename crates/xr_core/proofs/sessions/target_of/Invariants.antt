use Rattle.std.proofs.Common.{◌≡◌, max, drop}
use Rattle.xr_model.specs.machine.Target.{target_of}
use Rattle.xr_core.proofs.sessions.target_of.Given as goal

-- the target of all is that of those from the index on, or the greatest one before it
abbrev pub invariant-loop-session : goal.invariant-loop-session
invariant-loop-session l = max (target_of (drop l.session-index l.sessions)) l.target ≡ target_of l.sessions
