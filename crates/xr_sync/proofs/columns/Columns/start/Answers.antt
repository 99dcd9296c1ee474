use Rattle.std.proofs.Common.{refl, arith}
use Rattle.xr_sync.proofs.Quiet.{tidy_columns}
use Rattle.xr_sync.proofs.columns.Columns.start.Goals as goal

pub invariant_of-result : goal.invariant_of-result
invariant_of-result c = rw (c.in_ok-found.ensures, c.in_ok-states.ensures) (refl, tidy_columns, refl, record { within = omega arith; rest = refl })
