use Rattle.std.proofs.Common.{◌≡◌, ◌==◌, not, rules, refl}
use Rattle.std.specs.List.{filter}
use Rattle.std.proofs.lemmas.Fn.{filter_same}
use Rattle.xr_sets.proofs.sets.Sets.remove.Goals as goal

pub returns : goal.returns
returns c = rw (← c.self.view_is, sets, actions) refl
  where
    sets : c.retain.new.self.items ≡ filter (λ x. not (x.handle == c.args.handle)) c.self.inside.sets.items
    sets = filter_same _ _ _ (λ x b f' called. search rules) _ _ c.retain.ensures.filtered

    actions : c.retain-2.new.self.items ≡ filter (λ x. not (x.handle == c.args.handle)) c.self.inside.actions.items
    actions = filter_same _ _ _ (λ x b f' called. search rules) _ _ c.retain-2.ensures.filtered
