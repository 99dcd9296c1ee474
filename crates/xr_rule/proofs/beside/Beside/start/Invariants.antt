use Rattle.std.proofs.Common.{◌-◌, ◌≤◌, length, vec_capacity}
use Rattle.xr_types.specs.declared.limits.TheConstants.{MOST_MARK}
use Rattle.xr_rule.proofs.beside.Beside.start.Given as goal

abbrev pub invariant-loop-marks : goal.invariant-loop-marks
invariant-loop-marks l = record {
  room : MOST_MARK ≤ vec_capacity l.marks;
  within : length l.marks.items ≤ MOST_MARK;
}

abbrev pub decreases-loop-marks : goal.decreases-loop-marks
decreases-loop-marks l = MOST_MARK - length l.marks.items
