use Rattle.std.proofs.Common.{◌≡◌, ◌≢◌, ◌-◌, ◌<◌, ◌≤◌, ℕ}
use Rattle.xr_snap.specs.Reading.{handle_in, words_in}
use Rattle.xr_snap.proofs.finding.find_handle.Given as goal

abbrev pub invariant-loop-place : goal.invariant-loop-place
invariant-loop-place g l = record {
  own : l.seat.table_id ≡ l.fn.seat.table_id;
  me : l.seat.me ≡ l.fn.seat.me;
  few : l.place ≤ l.handles.count;
  none : (j : ℕ) → j < l.place → handle_in (words_in l.fn.seat.me.0.eyes) l.handles j ≢ l.handle;
}

abbrev pub decreases-loop-place : goal.decreases-loop-place
decreases-loop-place g l = l.handles.count - l.place
