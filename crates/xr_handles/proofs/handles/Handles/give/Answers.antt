use Rattle.std.proofs.Common.{refl, add-one}
use Rattle.xr_types.specs.declared.handles.Kind.TheVariants.{Instance, Session, ActionSet, Action, Space, Swapchain}
use Rattle.xr_handles.proofs.Keeping.{put_kept}
use Rattle.xr_handles.proofs.handles.Handles.give.Goals as goal
use Rattle.xr_handles.proofs.handles.Handles.give.Goals.{in-Instance, in-Session, in-ActionSet, in-Action, in-Space, in-Swapchain}

pub invariant_of-self-2 : goal.invariant_of-self-2
invariant_of-self-2 c = elim c.match-kind.branch [
  | in-Instance w ↦ rw (w.self-inside-is, w.put-put.ensures.row, add-one c.self.inside.given) (put_kept Instance c.args.parent c.self.inside.given refl c.self.invariant)
  | in-Session w ↦ rw (w.self-inside-is, w.put-put-in-Session.ensures.row, add-one c.self.inside.given) (put_kept Session c.args.parent c.self.inside.given refl c.self.invariant)
  | in-ActionSet w ↦ rw (w.self-inside-is, w.put-put-in-ActionSet.ensures.row, add-one c.self.inside.given) (put_kept ActionSet c.args.parent c.self.inside.given refl c.self.invariant)
  | in-Action w ↦ rw (w.self-inside-is, w.put-put-in-Action.ensures.row, add-one c.self.inside.given) (put_kept Action c.args.parent c.self.inside.given refl c.self.invariant)
  | in-Space w ↦ rw (w.self-inside-is, w.put-put-in-Space.ensures.row, add-one c.self.inside.given) (put_kept Space c.args.parent c.self.inside.given refl c.self.invariant)
  | in-Swapchain w ↦ rw (w.self-inside-is, w.put-put-in-Swapchain.ensures.row, add-one c.self.inside.given) (put_kept Swapchain c.args.parent c.self.inside.given refl c.self.invariant)
]
