use Rattle.std.proofs.Common.{refl, sym, ap}
use Rattle.xr_model.specs.machine.Frames.{FrameLoop, reset_loop}
use Rattle.xr_core.proofs.KeptSeats.{kept_loop}
use Rattle.xr_core.proofs.SlotCalls.{loop_is, loop_now}
use Rattle.xr_core.proofs.parts.Parts.reset_loop.Goals as goal

pub invariant_of-self : goal.invariant_of-self
invariant_of-self c = (
  rw c.reset.ensures (kept_loop c.self.inside.frames.loops c.self.inside.columns.items c.self.inside.handles c.self.inside.sessions.items c.slot_of-slot.result _ c.self.invariant.0),
  c.self.invariant.1,
  c.self.invariant.2,
  c.self.invariant.3,
  c.self.invariant.4,
)

pub returns : goal.returns
returns c =
    let own = loop_is c.args.self.now _ c.self.inside.frames c.self.inside.columns.items c.self.inside.sessions.items c.args.session c.slot_of-slot.result c.self.view_is refl refl c.self.invariant.0 c.requires.live c.slot_of-slot.ensures.slot c.slot_of-slot.ensures.within in
    loop_now c.args.self.now _ c.self.inside.frames c.self.inside.columns.items c.self.inside.sessions.items c.args.session c.slot_of-slot.result c.self.view_is refl refl c.self.invariant.0 c.requires.live c.slot_of-slot.ensures.slot c.slot_of-slot.ensures.within c.reset.new.self _ _ c.reset.ensures (ap (λ (l : FrameLoop). reset_loop l) (sym own))
