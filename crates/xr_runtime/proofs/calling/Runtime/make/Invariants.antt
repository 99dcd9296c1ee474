use Rattle.std.proofs.Common.{◌≡◌}
use Rattle.xr_runtime.proofs.calling.Runtime.make.Given as goal

-- the seat and what the call is lent are as they were
abbrev pub invariant-loop : goal.invariant-loop
invariant-loop g l = (l.seat.table_id ≡ l.initial.seat.table_id) × (l.seat.me ≡ l.initial.seat.me) × (l.text ≡ l.initial.text) × (l.shown ≡ l.initial.shown)
