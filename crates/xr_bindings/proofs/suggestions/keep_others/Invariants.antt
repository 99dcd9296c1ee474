use Rattle.std.proofs.Common.{◌==◌, not}
use Rattle.std.proofs.lemmas.List.Filters.{FiltersInPlace}
use Rattle.xr_bindings.proofs.suggestions.keep_others.Given as goal

abbrev pub invariant-loop-next : goal.invariant-loop-next
invariant-loop-next l = FiltersInPlace (λ b. not (b.action == l.action)) l.initial.list l.list l.kept l.next
