use Rattle.std.proofs.Common.{refl, arith}
use Rattle.xr_sync.proofs.Quiet.{tidy_columns}
use Rattle.xr_sync.proofs.columns.Columns.clear.Goals as goal

pub invariant_of-self : goal.invariant_of-self
invariant_of-self c = rw c.clear.ensures (c.self.invariant.0, tidy_columns, refl, record { within = omega arith; rest = refl })
