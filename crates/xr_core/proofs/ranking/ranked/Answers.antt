use Rattle.std.proofs.Common.{rules, ◌≡◌, Some, refl}
use Rattle.xr_model.specs.machine.Sets.{action_at}
use Rattle.xr_core.proofs.ranking.ranked.Goals as goal

pub returns-clause-ranked : goal.returns-clause-ranked
returns-clause-ranked c =
    let found : action_at c.args.sets.now c.args.bound.action ≡ Some c.in_ok-action.action.now = search rules in
    rw (found, c.unwrap_or-place.ensures, c.place_among.ensures.place, c.unwrap_or.ensures, c.priority.ensures, c.set.ensures, c.set-2.ensures, c.kind.ensures, c.declared.ensures) refl
