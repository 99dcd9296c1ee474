use Rattle.std.proofs.Common.{false, refl}
use Rattle.std.specs.Prelude.{slice_index_or}
use Rattle.xr_core.proofs.KeptLive.{kept_roots}
use Rattle.xr_core.proofs.KeptSeats.{kept_columns}
use Rattle.xr_core.proofs.Seated.{as_many_left}
use Rattle.xr_core.proofs.SlotCalls.{places_left}
use Rattle.xr_core.proofs.parts.Parts.leave_places.Goals as goal

pub invariant_of-self : goal.invariant_of-self
invariant_of-self c = (
  rw c.leave_all.ensures (kept_columns c.self.inside.frames.loops c.self.inside.columns.items c.self.inside.handles c.self.inside.sessions.items _ (as_many_left _ c.self.inside.columns.items) c.self.invariant.0),
  c.self.invariant.1,
  rw c.leave.ensures (kept_roots c.self.inside.room c.self.inside.inputs c.self.inside.handles (λ place. slice_index_or c.actions-there.result place false) c.self.invariant.2),
  c.self.invariant.3,
  c.self.invariant.4,
)

pub returns : goal.returns
returns c = places_left c.args.self.now _ c.self.inside.frames.loops c.self.inside.columns.items c.self.inside.sessions.items c.self.view_is refl (λ place. slice_index_or c.actions-there.result place false) c.actions-there.ensures c.leave_all.new.columns.items c.leave.new.self c.leave_all.ensures c.leave.ensures
