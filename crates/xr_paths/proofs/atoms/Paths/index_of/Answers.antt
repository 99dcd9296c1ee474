use Rattle.std.proofs.Common.{nat_eq}
use Rattle.std.specs.Cmp.Lexicographic.{pointwise}
use Rattle.xr_paths.proofs.Texts.{position-map, list_any-map}
use Rattle.xr_paths.proofs.atoms.Paths.index_of.Goals as goal

pub returns-clause-index : goal.returns-clause-index
returns-clause-index c = rw (← c.self.view_is, position-map (λ k. pointwise nat_eq c.args.text.now k)) c.get_index_of.ensures.index

pub returns-clause-found : goal.returns-clause-found
returns-clause-found c = rw (← c.self.view_is, list_any-map (λ k. pointwise nat_eq c.args.text.now k)) c.get_index_of.ensures.found
