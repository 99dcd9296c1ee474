use Rattle.std.proofs.Common.{List, refl, sym, ap, ◌∙◌, subst}
use Rattle.xr_model.specs.machine.LiveSessions.{Session, told_changes}
use Rattle.xr_core.specs.inside.Changes.{change_by}
use Rattle.xr_core.specs.inside.Seats.{AreSeated}
use Rattle.xr_core.proofs.KeptSeats.{kept_each}
use Rattle.xr_core.proofs.Listed.{each_written}
use Rattle.xr_core.proofs.SlotCalls.{all_changed, change_same}
use Rattle.xr_core.proofs.parts.Parts.change_all.Goals as goal

pub invariant_of-self : goal.invariant_of-self
invariant_of-self c =
    let loops = c.self.inside.frames.loops in
    let columns = c.self.inside.columns.items in
    let xs = c.self.inside.sessions.items in
    let f = change_by c.args.change in
    let each = each_written xs c.as_mut_slice.result.now c.change_each.new.sessions f c.as_mut_slice.ensures.value c.change_each.ensures.sessions in (
      subst (λ (ys : List Session). AreSeated loops columns c.self.inside.handles ys) (sym each) (kept_each loops columns c.self.inside.handles xs f c.self.invariant.0),
      c.self.invariant.1,
      c.self.invariant.2,
      c.self.invariant.3,
      c.self.invariant.4,
    )

pub returns : goal.returns
returns c =
    let loops = c.self.inside.frames.loops in
    let columns = c.self.inside.columns.items in
    let xs = c.self.inside.sessions.items in
    let f = change_by c.args.change in
    all_changed c.args.self.now _ loops columns xs c.self.view_is refl f _ c.change_each.new.events (change_same c.args.change loops columns c.self.inside.handles.sessions)
    (each_written xs c.as_mut_slice.result.now c.change_each.new.sessions f c.as_mut_slice.ensures.value c.change_each.ensures.sessions)
    (c.change_each.ensures.events ∙ ap (λ (ys : List Session). told_changes c.self.inside.events f ys) c.as_mut_slice.ensures.value)
