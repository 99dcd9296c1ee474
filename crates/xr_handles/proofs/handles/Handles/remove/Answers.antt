use Rattle.xr_types.specs.declared.handles.Kind.TheVariants.{Instance, Session, ActionSet, Action, Space, Swapchain}
use Rattle.xr_handles.proofs.Keeping.{alone_kept}
use Rattle.xr_handles.proofs.handles.Handles.remove.Goals as goal

pub invariant_of-self : goal.invariant_of-self
invariant_of-self c = rw c.clear.ensures (alone_kept Instance c.args.handle c.self.invariant)

pub invariant_of-self-in-Session : goal.invariant_of-self-in-Session
invariant_of-self-in-Session c = rw c.clear-in-Session.ensures (alone_kept Session c.args.handle c.self.invariant)

pub invariant_of-self-in-ActionSet : goal.invariant_of-self-in-ActionSet
invariant_of-self-in-ActionSet c = rw c.clear-in-ActionSet.ensures (alone_kept ActionSet c.args.handle c.self.invariant)

pub invariant_of-self-in-Action : goal.invariant_of-self-in-Action
invariant_of-self-in-Action c = rw c.clear-in-Action.ensures (alone_kept Action c.args.handle c.self.invariant)

pub invariant_of-self-in-Space : goal.invariant_of-self-in-Space
invariant_of-self-in-Space c = rw c.clear-in-Space.ensures (alone_kept Space c.args.handle c.self.invariant)

pub invariant_of-self-in-Swapchain : goal.invariant_of-self-in-Swapchain
invariant_of-self-in-Swapchain c = rw c.clear-in-Swapchain.ensures (alone_kept Swapchain c.args.handle c.self.invariant)
