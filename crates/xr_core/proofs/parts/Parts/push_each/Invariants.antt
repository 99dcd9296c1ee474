use Rattle.std.proofs.Common.{◌≡◌, ◌≤◌, ◌+◌, ◌*◌, ◌++◌, length, drop, flat_map}
use Rattle.xr_core.specs.inside.Viewing.{words_listed}
use Rattle.xr_core.proofs.parts.Parts.push_each.Given as goal

abbrev pub invariant-loop-session : goal.invariant-loop-session
invariant-loop-session l =
    (l.initial.out ++ flat_map (words_listed l.self) l.sessions ≡ l.out ++ flat_map (words_listed l.self) (drop l.session-index l.sessions))
    × (length l.out ≤ length l.initial.out + 771 * l.session-index)
