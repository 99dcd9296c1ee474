use Rattle.std.proofs.Common.{◌≡◌, ◌≤◌, replicate}
use Rattle.std.specs.Prelude.{vec_capacity}
use Rattle.xr_types.specs.declared.handles.TheConstants.{SESSIONS}
use Rattle.xr_model.specs.machine.Sync.{no_columns}
use Rattle.xr_core.proofs.slots.start_columns.Given as goal

abbrev pub invariant-loop : goal.invariant-loop
invariant-loop l = (l.columns.items ≡ replicate l.counter no_columns) × (SESSIONS ≤ vec_capacity l.columns)
