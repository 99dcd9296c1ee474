-- What stays after a removal is no longer than before.
use Rattle.std.proofs.Common.{◌≤◌, Bool, List, length}
use Rattle.std.specs.List.{filter}
use Rattle.std.proofs.lemmas.List.Sums.{length-filter, count_by-le-length}

pub filter_shortens : {X : Type 0} (p : X → Bool) (xs : List X) → length (filter p xs) ≤ length xs
filter_shortens p xs = rw length-filter (count_by-le-length p xs)
