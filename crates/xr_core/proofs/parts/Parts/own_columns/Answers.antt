use Rattle.std.proofs.Common.{refl, sym, ◌∙◌, arith}
use Rattle.xr_model.specs.machine.Sync.{no_columns}
use Rattle.xr_core.proofs.Seats.{any_default}
use Rattle.xr_core.proofs.SlotCalls.{columns_are}
use Rattle.xr_core.proofs.parts.Parts.own_columns.Goals as goal

pub returns : goal.returns
returns c =
    let stand = c.self.invariant.0.columns_stand in
    let within = c.slot_of-slot.ensures.within in
    c.index.ensures ∙ any_default c.self.inside.columns.items c.slot_of-slot.result _ no_columns (omega (arith, stand, within)) ∙ sym (columns_are c.args.self.now _ c.self.inside.frames c.self.inside.columns.items c.self.inside.sessions.items c.args.session c.slot_of-slot.result c.self.view_is refl refl c.self.invariant.0 c.requires.live c.slot_of-slot.ensures.slot c.slot_of-slot.ensures.within)
