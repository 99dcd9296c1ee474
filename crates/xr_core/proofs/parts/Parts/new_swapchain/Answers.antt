use Rattle.std.proofs.Common.{refl, ◌∙◌}
use Rattle.xr_types.specs.declared.handles.Kind.TheVariants as kind
use Rattle.xr_model.specs.machine.Handles.{with_handle}
use Rattle.xr_core.proofs.KeptLive.{kept_same}
use Rattle.xr_core.proofs.KeptSeats.{kept_given}
use Rattle.xr_core.proofs.Swept.{length_added}
use Rattle.xr_core.proofs.parts.Parts.new_swapchain.Goals as goal

pub invariant_of-self : goal.invariant_of-self
invariant_of-self g c = (
  kept_given c.self.inside.frames.loops c.self.inside.columns.items c.self.inside.handles c.give-handle.new.handles c.self.inside.sessions.items kind.Swapchain c.args.session c.give-handle.result c.give-handle.ensures.state refl c.give-handle.ensures.fresh c.self.invariant.0,
  c.self.invariant.1,
  kept_same c.self.inside.room c.self.inside.inputs c.self.inside.handles c.give-handle.new.handles (with_handle c.self.inside.handles kind.Swapchain c.args.session c.give-handle.result) c.give-handle.ensures.state refl refl refl c.self.invariant.2,
  rw c.add.ensures.chains (length_added _ c.self.inside.chains _ ∙ c.self.invariant.3),
  c.self.invariant.4,
)
