use Rattle.std.proofs.Common.{refl}
use Rattle.xr_core.proofs.KeptLive as live
use Rattle.xr_core.proofs.KeptSeats.{kept_left}
use Rattle.xr_core.proofs.SlotCalls.{handle_out}
use Rattle.xr_core.proofs.parts.Parts.take_out.Goals as goal

pub invariant_of-self : goal.invariant_of-self
invariant_of-self c = (
  rw (c.forget_attached.ensures, c.keep_live.ensures, c.as_slice.ensures.value, c.destroy.ensures.destroyed, c.destroy.ensures.state) (kept_left c.self.inside.frames.loops c.self.inside.columns.items c.self.inside.handles c.args.handle c.self.inside.sessions.items c.self.invariant.0),
  c.self.invariant.1,
  rw (c.forget_sets.ensures, c.forget_spaces.ensures, c.as_slice-3.ensures.value, c.as_slice-2.ensures.value, c.destroy.ensures.destroyed, c.destroy.ensures.state) (live.kept_left c.self.inside.room c.self.inside.inputs c.self.inside.handles c.args.handle c.self.invariant.2),
  c.self.invariant.3,
  c.self.invariant.4,
)

pub returns : goal.returns
returns c =
    rw (
      c.leave_places.ensures,
      c.forget_suggestions.ensures,
      c.forget_sets.ensures,
      c.forget_spaces.ensures,
      c.forget_attached.ensures,
      c.keep_live.ensures,
      c.as_slice-4.ensures.value,
      c.as_slice-3.ensures.value,
      c.as_slice-2.ensures.value,
      c.as_slice.ensures.value,
      c.destroy.ensures.destroyed,
      c.destroy.ensures.state,
    )
    (handle_out c.args.self.now _ c.self.inside.frames.loops c.self.inside.columns.items c.self.inside.sessions.items c.self.view_is refl c.self.invariant.0.once c.args.handle)
