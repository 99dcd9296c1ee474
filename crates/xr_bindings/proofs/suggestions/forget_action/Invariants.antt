use Rattle.std.proofs.Common.{◌≡◌, ◌==◌, ◌++◌, not, map, take, drop}
use Rattle.std.specs.List.{filter}
use Rattle.xr_bindings.proofs.suggestions.forget_action.Given as goal

abbrev pub invariant-loop-list : goal.invariant-loop-list
invariant-loop-list l = l.lists ≡ map (λ bindings. filter (λ b. not (b.action == l.action)) bindings) (take l.list-index l.initial.lists) ++ drop l.list-index l.initial.lists
