use Rattle.std.proofs.Common.{◌≡◌, ◌==◌, ◌||◌, true, nat_le, take}
use Rattle.std.specs.List.{list_all, list_any}
use Rattle.xr_bindings.proofs.suggestions.last_of.Given as goal

abbrev pub invariant-loop-bound : goal.invariant-loop-bound
invariant-loop-bound l = record {
  most : list_all (λ b. nat_le b.action l.last) (take l.bound-index l.list) ≡ true;
  of_these : ((l.last == 0) || list_any (λ b. b.action == l.last) (take l.bound-index l.list)) ≡ true;
}
