use Rattle.std.proofs.Common.{to_z-of_z}
use Rattle.xr_model.proofs.FittingColumns.{synced_timed}
use Rattle.xr_sync.proofs.columns.Columns.sync.Goals as goal

pub invariant_of-self : goal.invariant_of-self
invariant_of-self c = (
  c.sync_tidy-self-inside.ensures.clean,
  c.sync_tidy-self-inside.ensures.tidy,
  rw (c.sync_tidy-self-inside.ensures.after, c.deref_mut.ensures.value, to_z-of_z c.ranges.clock) (synced_timed c.args.active.now c.args.bindings.now c.args.inputs.now c.args.clock c.self.inside.states.value.columns c.requires.time c.self.invariant.2),
  c.sync_tidy-self-inside.ensures.beyond,
)
