use Rattle.std.proofs.Common.{refl}
use Rattle.xr_core.proofs.parts.Parts.forget_all.Goals as goal

pub invariant_of-self : goal.invariant_of-self
invariant_of-self c = (
  c.self.invariant.0,
  c.self.invariant.1,
  c.self.invariant.2,
  c.self.invariant.3,
  rw c.clear.ensures refl,
)
