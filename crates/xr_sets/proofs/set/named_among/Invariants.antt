use Rattle.std.proofs.Common.{◌≡◌, ◌≤◌, ◌++◌, map, drop, length}
use Rattle.std.specs.List.{filter}
use Rattle.xr_model.specs.machine.Handles.{is_among}
use Rattle.xr_sets.proofs.set.named_among.Given as goal

-- those that are found so far, and then those of the rest
abbrev pub invariant-loop-set : goal.invariant-loop-set
invariant-loop-set l =
    (map (λ x. x.handle) (filter (λ x. is_among l.handles x.handle) l.sets) ≡ l.named.items ++ map (λ x. x.handle) (filter (λ x. is_among l.handles x.handle) (drop l.set-index l.sets)))
    × (length l.named.items ≤ l.set-index)
