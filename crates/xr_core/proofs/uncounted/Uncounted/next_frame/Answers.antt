use Rattle.std.proofs.Common.{ℕ, List, length, sym, ap, subst, ◌∙◌}
use Rattle.xr_types.specs.declared.frames.Image.{Image}
use Rattle.xr_types.specs.Frames.{PendingFrame}
use Rattle.xr_model.specs.machine.CellCalls.{Leads, peek_calls}
use Rattle.xr_model.specs.machine.Images.{shown_of}
use Rattle.xr_core.proofs.TakenCalls.{held_decides, shown_where, end_where, wait_where}
use Rattle.xr_core.proofs.uncounted.Uncounted.next_frame.Goals as goal

pub returns-then-not-holds_none : goal.returns-then-not-holds_none
returns-then-not-holds_none g c = λ who text.
    rw c.refused.ensures (held_decides g.C.Cells.does c.args.self.now.kept who c.args.self.now.held c.args.cells.now (record { text = text; frame = c.args.shown.now }) (sym c.holds_none.ensures ∙ c.if-not-holds_none.true))

pub returns-then-not-all_left : goal.returns-then-not-all_left
returns-then-not-all_left g c = λ who text.
    let left = sym c.all_left.ensures ∙ c.if-not-all_left.true in
    rw c.take.ensures.core
    (wait_where g.C.Cells.does c.args.self.now.kept who text c.args.shown.now c.args.shown.now c.args.self.now.held c.args.cells.now (sym c.holds_none.ensures ∙ c.if-not-holds_none.false) (sym c.in-None.is ∙ c.take.ensures.frame) (rw c.take.ensures.core at left))

pub returns-else-not-all_left : goal.returns-else-not-all_left
returns-else-not-all_left g c = λ who text.
    let left = sym c.all_left.ensures ∙ c.if-not-all_left.false in
    rw (c.giving-in-None.ensures, c.take.ensures.core)
    (end_where g.C.Cells.does c.args.self.now.kept who text c.args.shown.now c.args.shown.now c.args.self.now.held c.args.cells.now (sym c.holds_none.ensures ∙ c.if-not-holds_none.false) (sym c.in-None.is ∙ c.take.ensures.frame) (rw c.take.ensures.core at left))

pub returns-in-Some : goal.returns-in-Some
returns-in-Some g c = λ who text.
    let images = ap (λ (f : PendingFrame). f.images) c.frame.view_is in
    let slice = c.as_slice.ensures.value ∙ images in
    let leads = subst (λ (is : List Image). Leads g.C.Cells.does c.args.cells.now (peek_calls is c.peek_all-stamps.result.items) c.peek_all-stamps.new.cells) slice c.peek_all-stamps.ensures.cells in
    let each = c.peek_all-stamps.ensures.each ∙ ap (λ (is : List Image). length is) slice in
    let shown = c.show.ensures ∙ ap (λ (ns : List ℕ). shown_of c.in-Some.frame ns) c.as_slice-in-Some.ensures.value in
    rw (c.giving.ensures, c.hold.ensures, c.take.ensures.core, images)
    (shown_where g.C.Cells.does c.args.self.now.kept who text c.args.shown.now c.show.new.shown c.args.self.now.held c.in-Some.frame c.peek_all-stamps.result.items c.args.cells.now c.peek_all-stamps.new.cells
    (sym c.holds_none.ensures ∙ c.if-not-holds_none.false) (sym c.in-Some.is ∙ c.take.ensures.frame) each leads shown)
