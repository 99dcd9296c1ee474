use Rattle.std.proofs.Common.{◌≡◌, ◌≤◌, ◌+◌, ◌*◌, ◌++◌, length, drop, flat_map}
use Rattle.xr_core.specs.inside.Viewing.{words_of_columns}
use Rattle.xr_core.proofs.parts.Parts.push_rows.Given as goal

abbrev pub invariant-loop-action : goal.invariant-loop-action
invariant-loop-action l =
    (l.initial.out ++ flat_map (words_of_columns l.self.handles l.columns) l.action-items ≡ l.out ++ flat_map (words_of_columns l.self.handles l.columns) (drop l.action-index l.action-items))
    × (length l.out ≤ length l.initial.out + 12 * l.action-index)
    × (l.action-items ≡ l.self.inputs.actions)
    × (length l.action-items ≤ 64)
