use Rattle.std.proofs.Common.{refl, sym, ap, ◌∙◌, false, length}
use borrow.Rule.Reborrow.{re_n}
use Rattle.xr_runtime.proofs.OverWords.{asks_cells, told_so, told_at}
use Rattle.xr_runtime.proofs.lending.lend.Goals as goal

pub apply-step-requires-clause-cells : goal.apply-step-requires-clause-cells
apply-step-requires-clause-cells c = asks_cells c.args.seat.now.me c.args.core.now c.args.who c.args.call.now (length c.args.text.now) c.is_late-late.result c.requires.lends c.requires.may
    c.is_late-late.ensures
    (record { table = c.args.table; seat = re_n c.cells-1.given c.args.seat; call = record { ref_ptr = c.args.call.ref_ptr; now = c.args.call.now }; late = c.is_late-late.result; decided = false }) (record { table = refl; name = refl; own = c.requires.own; what_is = refl; late_is = refl }) refl

pub returns-clause-own : goal.returns-clause-own
returns-clause-own c =
    let late_is = c.is_late-late.ensures in
    let t = told_so c.args.seat.now.me c.args.core.now c.args.who c.args.call.now (length c.args.text.now) c.is_late-late.result c.requires.lends c.requires.may late_is
    (record { table = c.args.table; seat = re_n c.cells-1.given c.args.seat; call = record { ref_ptr = c.args.call.ref_ptr; now = c.args.call.now }; late = c.is_late-late.result; decided = false }) (record { table = refl; name = refl; own = c.requires.own; what_is = refl; late_is = refl }) refl
    c.apply-step.new.self c.apply-step.new.cells (record { text = c.args.text.now; frame = c.args.shown.now }) (record { text = c.apply-step.new.text; frame = c.apply-step.new.shown }) refl c.apply-step.result c.apply-step.ensures in
    ap (λ s. s.table_id) (c.seat-1.given.1 (sym t.0.name)) ∙ (t.0.own ∙ (ap (λ z. z.now.table.shared.table_id) t.0.table ∙ sym c.requires.own))

pub returns-clause-told : goal.returns-clause-told
returns-clause-told c h is =
    let late_is = c.is_late-late.ensures in
    let t = told_so c.args.seat.now.me c.args.core.now c.args.who c.args.call.now (length c.args.text.now) c.is_late-late.result c.requires.lends c.requires.may late_is
    (record { table = c.args.table; seat = re_n c.cells-1.given c.args.seat; call = record { ref_ptr = c.args.call.ref_ptr; now = c.args.call.now }; late = c.is_late-late.result; decided = false }) (record { table = refl; name = refl; own = c.requires.own; what_is = refl; late_is = refl }) refl
    c.apply-step.new.self c.apply-step.new.cells (record { text = c.args.text.now; frame = c.args.shown.now }) (record { text = c.apply-step.new.text; frame = c.apply-step.new.shown }) refl c.apply-step.result c.apply-step.ensures in
    told_at c.args.seat.now.me c.args.core.now c.args.who c.args.call.now c.requires.lends c.apply-step.new.self _ _ c.apply-step.result c.apply-step.new.cells.decided c.apply-step.new.cells.seat.now.me c.seat-1.given.0.me
    (sym (ap (λ s. s.me) (c.seat-1.given.1 (sym t.0.name)))) t.1 h is
