use Rattle.std.proofs.Common.{◌≡◌, not, rules, refl}
use Rattle.std.specs.List.{filter}
use Rattle.std.proofs.lemmas.Fn.{filter_same}
use Rattle.xr_model.specs.machine.Spaces.{has_handle}
use Rattle.xr_spaces.proofs.spaces.Spaces.remove.Goals as goal

pub returns : goal.returns
returns c = rw (← c.self.view_is, left) refl
  where
    left : c.retain.new.self.items ≡ filter (λ s. not (has_handle c.args.handle s)) c.self.inside.spaces.items
    left = filter_same _ _ _ (λ x b f' called. search rules) _ _ c.retain.ensures.filtered
