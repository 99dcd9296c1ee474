use Rattle.std.proofs.Common.{false}
use Rattle.std.specs.Prelude.{slice_index_or}
use Rattle.xr_model.proofs.FittingColumns.{left_timed}
use Rattle.xr_sync.proofs.columns.Columns.leave.Goals as goal

pub invariant_of-self : goal.invariant_of-self
invariant_of-self c = (
  c.self.invariant.0,
  c.leave.ensures.tidy,
  rw (c.leave.ensures.left, c.deref_mut.ensures.value) (left_timed (λ place. slice_index_or c.args.there.now place false) c.self.inside.states.value.columns c.self.invariant.2),
  c.leave.ensures.beyond,
)
