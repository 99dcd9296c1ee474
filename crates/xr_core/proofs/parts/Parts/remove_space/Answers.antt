use Rattle.std.proofs.Common.{refl}
use Rattle.xr_types.specs.declared.handles.Kind.TheVariants as kind
use Rattle.xr_core.proofs.KeptLive.{kept_alone}
use Rattle.xr_core.proofs.KeptSeats as seats
use Rattle.xr_core.proofs.parts.Parts.remove_space.Goals as goal

pub invariant_of-self : goal.invariant_of-self
invariant_of-self c = (
  seats.kept_alone c.self.inside.frames.loops c.self.inside.columns.items c.self.inside.handles c.remove.new.self c.self.inside.sessions.items kind.Space c.args.space c.remove.ensures refl c.self.invariant.0,
  c.self.invariant.1,
  rw (c.remove.ensures, c.remove-2.ensures) (kept_alone c.self.inside.room c.self.inside.inputs c.self.inside.handles c.args.space c.self.invariant.2),
  c.self.invariant.3,
  c.self.invariant.4,
)
