use Rattle.std.proofs.Common.{refl}
use Rattle.xr_types.specs.declared.handles.Kind.TheVariants as kind
use Rattle.xr_model.specs.machine.Handles.{without_alone}
use Rattle.xr_core.proofs.KeptLive.{kept_same}
use Rattle.xr_core.proofs.KeptSeats.{kept_alone}
use Rattle.xr_core.proofs.parts.Parts.remove_chain.Goals as goal

pub invariant_of-self : goal.invariant_of-self
invariant_of-self g c = (
  kept_alone c.self.inside.frames.loops c.self.inside.columns.items c.self.inside.handles c.remove.new.self c.self.inside.sessions.items kind.Swapchain c.args.chain c.remove.ensures refl c.self.invariant.0,
  c.self.invariant.1,
  kept_same c.self.inside.room c.self.inside.inputs c.self.inside.handles c.remove.new.self (without_alone c.self.inside.handles kind.Swapchain c.args.chain) c.remove.ensures refl refl refl c.self.invariant.2,
  c.self.invariant.3,
  c.self.invariant.4,
)
