use Rattle.std.proofs.Common.{◌≡◌, ◌+◌, ◌-◌, ◌≤◌, length, vec_capacity}
use Rattle.xr_runtime.specs.Passes.{table_of, AreSeats, AreFirst}
use Rattle.xr_runtime.proofs.calling.Runtime.seat_apps.Given as goal

-- so many applications have a pass, and the others' seats are left
abbrev pub invariant-loop-app : goal.invariant-loop-app
invariant-loop-app l = record {
  within : l.app ≤ l.apps;
  left : length l.seats.items + l.app ≡ l.apps;
  count : length l.passes.items ≡ l.app;
  room : l.apps ≤ vec_capacity l.passes;
  seats : AreSeats (table_of l.self) l.apps (l.app + 2) l.seats.items;
  passes : AreFirst (table_of l.self) l.passes.items;
}

abbrev pub decreases-loop-app : goal.decreases-loop-app
decreases-loop-app l = l.apps - l.app
