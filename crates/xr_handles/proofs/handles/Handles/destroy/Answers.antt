use Rattle.std.proofs.Common.{◌≡◌, true, sym, ap, ◌∙◌}
use Rattle.xr_types.specs.declared.handles.Kind.TheVariants.{Action}
use Rattle.xr_model.specs.machine.Handles.{Handles, is_live, without_alone}
use Rattle.xr_model.specs.laws.HandleLaws.{StandOnce}
use Rattle.xr_handles.proofs.Keeping.{alone_kept, without_kept}
use Rattle.xr_handles.proofs.Leaves.{action_is_whole, action_alone_goes}
use Rattle.xr_handles.proofs.handles.Handles.destroy.Goals as goal

pub invariant_of-self : goal.invariant_of-self
invariant_of-self c = rw c.clear.ensures (alone_kept Action c.args.handle c.self.invariant)

pub returns-then-is_live-clause-state : goal.returns-then-is_live-clause-state
returns-then-is_live-clause-state c =
    let live : is_live c.args.self.now Action c.args.handle ≡ true = sym c.is_live.ensures ∙ c.if-is_live.true in
    let once : StandOnce c.args.self.now = rw (← c.self.view_is) c.self.invariant.once in
    let whole = action_is_whole c.args.self.now c.args.handle once live in
    rw c.clear.ensures (ap (λ (h : Handles). without_alone h Action c.args.handle) c.self.view_is ∙ whole)

pub returns-then-is_live-clause-destroyed : goal.returns-then-is_live-clause-destroyed
returns-then-is_live-clause-destroyed c =
    let live : is_live c.args.self.now Action c.args.handle ≡ true = sym c.is_live.ensures ∙ c.if-is_live.true in
    let once : StandOnce c.args.self.now = rw (← c.self.view_is) c.self.invariant.once in
    let alone = action_alone_goes c.args.self.now c.args.handle once live in
    rw (c.push.ensures.items, c.requires) (sym alone)

pub invariant_of-self-2 : goal.invariant_of-self-2
invariant_of-self-2 c =
    rw (
      c.sweep.ensures.row,
      c.sweep-2.ensures.row,
      c.sweep-3.ensures.row,
      c.sweep-4.ensures.row,
      c.sweep-5.ensures.row,
      c.sweep-6.ensures.row,
      c.as_slice.ensures.value,
      c.as_slice-2.ensures.value,
      c.as_slice-3.ensures.value,
      c.as_slice-4.ensures.value,
      c.as_slice-5.ensures.value,
      c.copied-parents.ensures,
      c.sweep-3.ensures.destroyed,
      c.as_slice-2.ensures.value,
      c.sweep-2.ensures.destroyed,
      c.as_slice.ensures.value,
      c.copied-above.ensures,
      c.sweep.ensures.destroyed,
      c.requires,
    )
    (without_kept c.args.handle c.self.invariant)
