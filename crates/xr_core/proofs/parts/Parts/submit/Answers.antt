use Rattle.std.proofs.Common.{refl, sym, ap, ◌∙◌}
use Rattle.xr_model.specs.machine.Frames.{FrameLoop}
use Rattle.xr_core.proofs.KeptSeats.{kept_loop}
use Rattle.xr_core.proofs.SlotCalls.{loop_is, loop_submitted}
use Rattle.xr_core.proofs.parts.Parts.submit.Goals as goal

pub end-requires : goal.end-requires
end-requires c =
    let own = loop_is c.args.self.now _ c.self.inside.frames c.self.inside.columns.items c.self.inside.sessions.items c.args.session c.slot_of-slot.result c.self.view_is refl refl c.self.invariant.0 c.requires.live c.slot_of-slot.ensures.slot c.slot_of-slot.ensures.within in
    record { slot = c.slot_of-slot.ensures.within; begun = sym (ap (λ (l : FrameLoop). l.has_begun) own) ∙ c.requires.begun }

pub invariant_of-self : goal.invariant_of-self
invariant_of-self c = (
  rw c.end.ensures (kept_loop c.self.inside.frames.loops c.self.inside.columns.items c.self.inside.handles c.self.inside.sessions.items c.slot_of-slot.result _ c.self.invariant.0),
  c.self.invariant.1,
  c.self.invariant.2,
  c.self.invariant.3,
  c.self.invariant.4,
)

pub returns : goal.returns
returns c = loop_submitted c.args.self.now _ c.self.inside.frames c.self.inside.columns.items c.self.inside.sessions.items c.args.session c.slot_of-slot.result c.self.view_is refl refl c.self.invariant.0 c.requires.live c.slot_of-slot.ensures.slot c.slot_of-slot.ensures.within c.end.new.self c.args.frame c.end.ensures
