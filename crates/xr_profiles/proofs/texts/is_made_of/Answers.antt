use Rattle.std.proofs.Common.{codes, ◌++◌, sym, ◌∙◌}
use Rattle.xr_profiles.proofs.Pieces.{twice-unless, twice-by, made-unless, made-by}
use Rattle.xr_profiles.proofs.texts.is_made_of.Goals as goal

pub returns-in_default : goal.returns-in_default
returns-in_default c =
    made-unless (c.args.identifier.now ++ codes "/") c.args.component.now c.args.name.now
    (twice-unless c.args.identifier.now (codes "/") c.args.name.now c.in_default.ensures)

pub returns-in-Some-behind : goal.returns-in-Some-behind
returns-in-Some-behind c =
    c.eq.ensures
    ∙ made-by (c.args.identifier.now ++ codes "/") c.args.component.now c.args.name.now c.in-Some-behind.last.now
    (c.in-Some-behind.ensures ∙ sym (twice-by c.args.identifier.now (codes "/") c.args.name.now c.in-Some.rest.now c.in-Some.ensures))

pub returns-in-None : goal.returns-in-None
returns-in-None c =
    made-unless (c.args.identifier.now ++ codes "/") c.args.component.now c.args.name.now
    (c.in-None.ensures ∙ sym (twice-by c.args.identifier.now (codes "/") c.args.name.now c.in-Some.rest.now c.in-Some.ensures))
