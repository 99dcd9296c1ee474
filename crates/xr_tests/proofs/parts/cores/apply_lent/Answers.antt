use Rattle.std.proofs.Common.{rules, ◌≡◌}
use Rattle.xr_model.specs.machine.OverCells.{AppliesOver}
use Rattle.xr_model.specs.machine.PlainImages.{PlainDoes}
use Rattle.xr_tests.specs.declared.parts.cells.Lent.{Lent}
use Rattle.xr_tests.proofs.Loans.{may_all, same_name, lent_applies}
use Rattle.xr_tests.proofs.parts.cores.apply_lent.Goals as goal

pub apply-requires-clause-cells : goal.apply-requires-clause-cells
apply-requires-clause-cells c = λ reads given short own. may_all (λ (x : Lent). x.lent.now) (λ (x : Lent). x.lent.ghost_name) _ c.of-lent.result

pub returns : goal.returns
returns c =
    let named : c.apply.new.cells.lent.ghost_name ≡ c.of-lent.result.lent.ghost_name = same_name (λ (x : Lent). x.lent.now) (λ (x : Lent). x.lent.ghost_name) _ c.of-lent.result c.apply.new.cells c.apply.ensures.cells in
    let applied = lent_applies (λ (x : Lent). x.lent.now) (λ (x : Lent). x.lent.ghost_name) c.args.core.now c.apply.new.self c.of-lent.result c.apply.new.cells (record { text = c.args.text.now; frame = c.args.shown.now }) (record { text = c.apply.new.text; frame = c.apply.new.shown }) c.args.who c.args.call.now c.apply.result c.apply.ensures in
    search (rules, named, applied)
