use Rattle.std.proofs.Common.{◌≡◌, ◌≤◌, length, drop}
use Rattle.xr_core.specs.inside.Viewing.{attached_word}
use Rattle.xr_core.proofs.view.attached_word.Given as goal

-- the bits of the actions behind
abbrev pub invariant-loop-place : goal.invariant-loop-place
invariant-loop-place l = (l.word ≡ attached_word l.session.attached (drop l.place l.actions)) × (l.place ≤ length l.actions)

abbrev pub decreases-loop-place : goal.decreases-loop-place
decreases-loop-place l = l.place
