use Rattle.std.proofs.Common.{◌≤◌, ◌<◌, ℕ, get_or}
use Rattle.xr_types.specs.declared.input.Ranked.{Ranked}
use Rattle.xr_sync.proofs.settle.reach_of.Given as goal

abbrev pub invariant-loop-b : goal.invariant-loop-b
invariant-loop-b l = record {
  within : l.reach ≤ 64;
  least : l.least ≤ l.reach;
  before : (k : ℕ) (d : Ranked) → k < l.b-index → (get_or l.bindings k d).place < l.reach;
}
