use Rattle.std.proofs.Common.{rules, sym, ◌∙◌}
use Rattle.xr_model.specs.machine.Rules.Sync.{item_checks, heard_by}
use Rattle.xr_core.proofs.Hearing.{taken_at, refused_at}
use Rattle.xr_core.proofs.parts.Parts.hear_all.Goals as goal

pub returns-in-Err : goal.returns-in-Err
returns-in-Err c =
    sym (c.loop-item.invariant.0 ∙ refused_at (item_checks c.args.self.now c.args.session) (heard_by c.args.self.now) c.args.active.now c.loop-item.item-index _ c.loop-item-test.true c.loop-item.heard.items c.in-Err.code (sym c.in-Err.is ∙ c.hear.ensures))

pub loop-item-preserved : goal.loop-item-preserved
loop-item-preserved c =
    let one = taken_at (item_checks c.args.self.now c.args.session) (heard_by c.args.self.now) c.args.active.now c.loop-item.item-index _ c.loop-item-test.true c.loop-item.heard.items c.in-Ok.one (sym c.in-Ok.is ∙ c.hear.ensures) in
    (rw c.push.ensures.items (c.loop-item.invariant.0 ∙ one), search rules)
