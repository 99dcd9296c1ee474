use Rattle.std.proofs.Common.{refl, sym, ◌∙◌}
use Rattle.xr_core.proofs.SlotCalls.{held_is}
use Rattle.xr_core.proofs.parts.Parts.is_held_back.Goals as goal

pub returns : goal.returns
returns c = c.is_held_back.ensures ∙ sym (held_is c.args.self.now _ c.self.inside.frames c.self.inside.columns.items c.self.inside.sessions.items c.args.session c.slot_of-slot.result c.self.view_is refl refl c.self.invariant.0 c.requires.live c.slot_of-slot.ensures.slot c.slot_of-slot.ensures.within)
