use Rattle.std.proofs.Common.{ap, sym, subst, ◌∙◌}
use Rattle.xr_model.specs.machine.OverCells.{MayApply}
use Rattle.xr_types.specs.declared.calls.Call.{Call}
use Rattle.xr_model.specs.machine.State.{WholeCore}
use Rattle.xr_core.specs.inside.Deciding.{DecidesAlong}
use Rattle.xr_core.proofs.Along.{may_touch}
use Rattle.xr_core.proofs.TakenCalls.{may_next, may_return, aside_where}
use Rattle.xr_core.proofs.uncounted.Uncounted.decide.Goals as goal

pub next_frame-requires : goal.next_frame-requires
next_frame-requires g c =
    record { may = may_next g.C.Cells.may g.C.Cells.does c.args.self.now c.args.cells.now c.args.who (subst (λ (r : Call). MayApply g.C.Cells.may g.C.Cells.does c.args.self.now c.args.cells.now c.args.who r) c.in-NextFrame.is c.requires.cells) }

pub image_done-requires : goal.image_done-requires
image_done-requires g c =
    record { may = may_return g.C.Cells.may g.C.Cells.does c.args.self.now c.args.cells.now c.args.who (subst (λ (r : Call). MayApply g.C.Cells.may g.C.Cells.does c.args.self.now c.args.cells.now c.args.who r) c.in-ImageDone.is c.requires.cells) }

pub decide-requires : goal.decide-requires
decide-requires g c =
    let kept = c.deref_mut.ensures.value ∙ ap (λ (w : WholeCore). w.kept) c.self.view_is in
    let aside = aside_where c.args.call.now c.in_default.not-NextFrame c.in_default.not-ImageDone in
    rw kept (record {
      counts = c.requires.counts;
      may = c.requires.may;
      aside = aside;
      cells = may_touch g.C.Cells.may g.C.Cells.does c.args.self.now c.args.cells.now c.args.who c.args.call.now aside c.requires.cells;
    })

pub returns-in-NextFrame : goal.returns-in-NextFrame
returns-in-NextFrame g c =
    subst (λ (r : Call). DecidesAlong g.C.Cells.does (record { core = c.args.self.now; cells = c.args.cells.now; lent = record { text = c.args.text.now; frame = c.args.shown.now } }) (record { core = c.next_frame.new.self; cells = c.next_frame.new.cells; lent = record { text = c.args.text.now; frame = c.next_frame.new.shown } }) c.args.who r c.next_frame.result)
    (sym c.in-NextFrame.is) (c.next_frame.ensures c.args.who c.args.text.now)

pub returns-in-ImageDone : goal.returns-in-ImageDone
returns-in-ImageDone g c =
    subst (λ (r : Call). DecidesAlong g.C.Cells.does (record { core = c.args.self.now; cells = c.args.cells.now; lent = record { text = c.args.text.now; frame = c.args.shown.now } }) (record { core = c.image_done.new.self; cells = c.image_done.new.cells; lent = record { text = c.args.text.now; frame = c.args.shown.now } }) c.args.who r c.image_done.result)
    (sym c.in-ImageDone.is) (c.image_done.ensures c.args.who c.args.text.now c.args.shown.now)

pub returns-in_default : goal.returns-in_default
returns-in_default g c = rw (← c.self.view_is, ← c.deref_mut.ensures.value) (c.decide.ensures c.self.inside.held.items c.args.shown.now)
