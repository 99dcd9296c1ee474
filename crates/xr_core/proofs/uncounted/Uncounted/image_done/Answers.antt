use Rattle.std.proofs.Common.{sym, ◌∙◌}
use Rattle.xr_core.proofs.TakenCalls.{none_first, some_first, may_give}
use Rattle.xr_core.proofs.uncounted.Uncounted.image_done.Goals as goal

pub returns-in_default : goal.returns-in_default
returns-in_default g c = λ who text frame.
    rw (c.refused.ensures, c.pop_held.ensures.rest) (none_first g.C.Cells.does c.args.self.now.kept who c.args.self.now.held c.args.cells.now (record { text = text; frame = frame }) (sym c.in_default.is ∙ c.pop_held.ensures.image))

pub give_back-requires : goal.give_back-requires
give_back-requires g c = may_give g.C.Cells.may g.C.Cells.does c.args.self.now.held c.in-Some.image c.args.cells.now (sym c.in-Some.is ∙ c.pop_held.ensures.image) c.requires.may

pub returns : goal.returns
returns g c = λ who text frame.
    rw (c.done.ensures, c.pop_held.ensures.rest) (some_first g.C.Cells.does c.args.self.now.kept who c.args.self.now.held c.in-Some.image c.args.cells.now c.give_back.new.self (record { text = text; frame = frame }) (sym c.in-Some.is ∙ c.pop_held.ensures.image) c.give_back.ensures)
