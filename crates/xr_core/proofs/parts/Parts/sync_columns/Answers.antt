use Rattle.std.proofs.Common.{rules, refl, w64, to_z-of_z, SFits}
use Rattle.xr_core.proofs.KeptSeats.{kept_shown}
use Rattle.xr_core.proofs.SlotCalls.{columns_synced}
use Rattle.xr_core.proofs.parts.Parts.sync_columns.Goals as goal

pub invariant_of-self : goal.invariant_of-self
invariant_of-self c = (
  rw c.sync_slot.ensures (kept_shown c.self.inside.frames.loops c.self.inside.columns.items c.self.inside.handles c.self.inside.sessions.items c.slot_of-slot.result _ c.self.invariant.0),
  c.self.invariant.1,
  c.self.invariant.2,
  c.self.invariant.3,
  c.self.invariant.4,
)

pub returns : goal.returns
returns c =
    let fits : SFits w64 c.clock.result = search rules in
    columns_synced c.args.self.now _ c.self.inside.frames c.self.inside.columns.items c.self.inside.sessions.items c.args.session c.slot_of-slot.result c.self.view_is refl refl c.self.invariant.0 c.requires.live c.slot_of-slot.ensures.slot c.slot_of-slot.ensures.within c.args.heard.now c.as_slice.result.now c.inputs.result.now c.clock.result c.sync_slot.new.columns.items
    (rw (c.as_slice.ensures.list, c.rank_all.ensures, c.profiles.ensures) refl) c.inputs.ensures c.clock.ensures.clock (rw (c.sync_slot.ensures, to_z-of_z fits) refl)
