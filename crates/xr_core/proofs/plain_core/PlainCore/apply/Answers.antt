use Rattle.std.proofs.Common.{◌<◌, ◌^◌, sym, subst}
use Rattle.xr_model.specs.machine.State.{State}
use Rattle.xr_model.proofs.OverCells.{plain_may}
use Rattle.xr_core.proofs.PlainPairs.{pairs, stays_plain}
use Rattle.xr_core.proofs.plain_core.PlainCore.apply.Goals as goal

pub apply-requires-clause-cells : goal.apply-requires-clause-cells
apply-requires-clause-cells c = λ reads given short own. plain_may _ c.self.inside.cells

pub invariant_of-self : goal.invariant_of-self
invariant_of-self c = stays_plain c.self.inside.core c.apply.new.self c.self.inside.cells c.apply.new.cells c.args.who c.args.call.now (record { text = c.args.text.now; frame = c.args.shown.now }) (record { text = c.apply.new.text; frame = c.apply.new.shown }) (subst (λ (s : State). s.core.locked < 2 ^ 44) (sym c.self.view_is) c.requires.calls) c.self.invariant c.apply.result c.apply.ensures

pub returns : goal.returns
returns c = rw (← c.self.view_is) (pairs c.self.inside.core c.apply.new.self c.self.inside.cells c.apply.new.cells c.args.who c.args.call.now (record { text = c.args.text.now; frame = c.args.shown.now }) (record { text = c.apply.new.text; frame = c.apply.new.shown }) (subst (λ (s : State). s.core.locked < 2 ^ 44) (sym c.self.view_is) c.requires.calls) c.self.invariant c.apply.result c.apply.ensures)
