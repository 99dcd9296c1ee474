use Rattle.std.proofs.Common.{rules, refl}
use Rattle.xr_core.proofs.KeptSeats.{kept_begun}
use Rattle.xr_core.proofs.SlotCalls.{loop_is, loop_begun}
use Rattle.xr_core.proofs.parts.Parts.begin.Goals as goal

pub invariant_of-self : goal.invariant_of-self
invariant_of-self c = (
  kept_begun c.self.inside.frames c.self.inside.columns.items c.begin.new.self c.self.inside.handles c.self.inside.sessions.items c.slot_of-slot.result c.begin.ensures.state c.self.invariant.0,
  c.self.invariant.1,
  c.self.invariant.2,
  c.self.invariant.3,
  c.self.invariant.4,
)

pub returns-clause-code : goal.returns-clause-code
returns-clause-code c =
    let own = loop_is c.args.self.now _ c.self.inside.frames c.self.inside.columns.items c.self.inside.sessions.items c.args.session c.slot_of-slot.result c.self.view_is refl refl c.self.invariant.0 c.requires.live c.slot_of-slot.ensures.slot c.slot_of-slot.ensures.within in
    rw own (search rules)

pub returns-clause-state : goal.returns-clause-state
returns-clause-state c = loop_begun c.args.self.now _ c.self.inside.frames c.self.inside.columns.items c.self.inside.sessions.items c.args.session c.slot_of-slot.result c.self.view_is refl refl c.self.invariant.0 c.requires.live c.slot_of-slot.ensures.slot c.slot_of-slot.ensures.within c.begin.new.self c.begin.ensures.state
