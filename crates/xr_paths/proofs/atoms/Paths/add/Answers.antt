use Rattle.std.proofs.Common.{rules, ◌≡◌, refl, nat_eq}
use Rattle.std.specs.Cmp.Lexicographic.{pointwise}
use Rattle.std.proofs.lemmas.List.{map-append}
use Rattle.xr_paths.proofs.Texts.{list_any-map}
use Rattle.xr_paths.proofs.atoms.Paths.add.Goals as goal

pub returns-clause-added : goal.returns-clause-added
returns-clause-added c =
    let named : c.in-Ok.name.items ≡ c.args.text.now = search rules in
    let absent = rw (← c.self.view_is, list_any-map (λ k. pointwise nat_eq c.args.text.now k), ← named) at c.requires.new in
    λ _. rw (c.in-Ok-insert.ensures.keys, absent, map-append, ← c.self.view_is, ← named) refl
