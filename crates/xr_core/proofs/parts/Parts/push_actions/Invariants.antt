use Rattle.std.proofs.Common.{◌≡◌, ◌≤◌, ◌+◌, ◌*◌, ◌++◌, length, drop, flat_map}
use Rattle.xr_core.specs.inside.Viewing.{words_of_action}
use Rattle.xr_core.proofs.parts.Parts.push_actions.Given as goal

abbrev pub invariant-loop-action : goal.invariant-loop-action
invariant-loop-action l =
    (l.initial.out ++ flat_map words_of_action l.action-items ≡ l.out ++ flat_map words_of_action (drop l.action-index l.action-items))
    × (length l.out ≤ length l.initial.out + 2 * l.action-index)
    × (l.action-items ≡ l.self.inputs.actions)
    × (length l.action-items ≤ 64)
