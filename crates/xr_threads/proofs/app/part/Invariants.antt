use Rattle.std.proofs.Common.{◌≡◌, ◌≤◌, map, length, vec_capacity}
use Rattle.std.specs.Prelude.{true, IsTrue}
use Rattle.std.specs.List.{list_all}
use Rattle.xr_threads.specs.inside.Working.{pass_of, list_of, is_listed}
use Rattle.xr_threads.proofs.app.part.Given as goal

-- the passes and the lists of the workers so far
abbrev pub invariant-loop-worker : goal.invariant-loop-worker
invariant-loop-worker l = record {
  passes : l.passes.items ≡ map pass_of l.yielded;
  listed : IsTrue l.all → list_all is_listed l.yielded ≡ true;
  lists : IsTrue l.all → l.lists.items ≡ map list_of l.yielded;
  few : length l.lists.items ≤ length l.yielded;
  room : vec_capacity l.passes ≡ vec_capacity l.initial.passes;
  list_room : vec_capacity l.lists ≡ vec_capacity l.initial.lists;
}
