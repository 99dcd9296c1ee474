use Rattle.std.proofs.Common.{rules, ◌==◌, ◌+◌, false, ◌∙◌}
use lib.ListN.{get_or}
use Rattle.xr_snap.proofs.UserColumns.{column_behind, not_both, not_first}
use Rattle.xr_snap.proofs.decoding.column_by.Goals as goal
use Rattle.xr_snap.proofs.decoding.column_by.Goals.{else-declared-place-via-then-declared-place+else-users-place, else-declared-place-via-else-declared-place}

pub loop-place-preserved : goal.loop-place-preserved
loop-place-preserved c =
    let at = c.loop-place in
    let behind = column_behind c.args.users.now c.args.declared.now c.args.sub (at.place + 1) at.place 0 false (search rules) (search rules) in
    elim c.else-declared-place.branch [
      | else-declared-place-via-then-declared-place+else-users-place w ↦ at.invariant ∙ behind (not_both (get_or c.args.declared.now at.place false) (get_or c.args.users.now at.place 0) c.args.sub w.if-users-place.false)
      | else-declared-place-via-else-declared-place w ↦ at.invariant ∙ behind (not_first (get_or c.args.declared.now at.place false) (get_or c.args.users.now at.place 0 == c.args.sub) w.if-declared-place.false)
    ]
