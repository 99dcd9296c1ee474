use Rattle.std.proofs.Common.{◌≡◌, ◌-◌, ◌<◌}
use Rattle.xr_rule.specs.Shows.{buffers}
use Rattle.xr_rule.specs.View.{Keeps, sight}
use Rattle.xr_snap.proofs.publishing.find.Given as goal

abbrev pub invariant-loop-buffer : goal.invariant-loop-buffer
invariant-loop-buffer g l = record {
  own : l.seat.table_id ≡ l.initial.seat.table_id;
  near : l.buffer < buffers;
  me : l.seat.me ≡ (sight l.initial.seat.me.0.know l.initial.seat.me.0.turn (Keeps l.counts l.buffer), l.initial.seat.me.1);
}

abbrev pub decreases-loop-buffer : goal.decreases-loop-buffer
decreases-loop-buffer g l = buffers - l.buffer
