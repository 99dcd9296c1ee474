use Rattle.std.proofs.Common.{refl}
use Rattle.xr_model.specs.machine.Sync.{no_columns}
use Rattle.xr_core.proofs.KeptSeats.{kept_shown}
use Rattle.xr_core.proofs.SlotCalls.{columns_cleared}
use Rattle.xr_core.proofs.parts.Parts.clear_columns.Goals as goal

pub invariant_of-self : goal.invariant_of-self
invariant_of-self c = (
  rw c.clear_at.ensures (kept_shown c.self.inside.frames.loops c.self.inside.columns.items c.self.inside.handles c.self.inside.sessions.items c.slot_of-slot.result no_columns c.self.invariant.0),
  c.self.invariant.1,
  c.self.invariant.2,
  c.self.invariant.3,
  c.self.invariant.4,
)

pub returns : goal.returns
returns c = columns_cleared c.args.self.now _ c.self.inside.frames c.self.inside.columns.items c.self.inside.sessions.items c.args.session c.slot_of-slot.result c.self.view_is refl refl c.self.invariant.0 c.requires.live c.slot_of-slot.ensures.slot c.slot_of-slot.ensures.within c.clear_at.new.columns.items c.clear_at.ensures
