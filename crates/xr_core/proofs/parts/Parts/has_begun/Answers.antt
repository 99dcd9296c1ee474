use Rattle.std.proofs.Common.{rules, refl}
use Rattle.xr_core.proofs.SlotCalls.{loop_is}
use Rattle.xr_core.proofs.parts.Parts.has_begun.Goals as goal

pub returns-in-Success : goal.returns-in-Success
returns-in-Success c =
    let own = loop_is c.args.self.now _ c.self.inside.frames c.self.inside.columns.items c.self.inside.sessions.items c.args.session c.slot_of-slot.result c.self.view_is refl refl c.self.invariant.0 c.requires.live c.slot_of-slot.ensures.slot c.slot_of-slot.ensures.within in
    rw own (search rules)

pub returns-in_default : goal.returns-in_default
returns-in_default c =
    let own = loop_is c.args.self.now _ c.self.inside.frames c.self.inside.columns.items c.self.inside.sessions.items c.args.session c.slot_of-slot.result c.self.view_is refl refl c.self.invariant.0 c.requires.live c.slot_of-slot.ensures.slot c.slot_of-slot.ensures.within in
    rw own (search rules)
