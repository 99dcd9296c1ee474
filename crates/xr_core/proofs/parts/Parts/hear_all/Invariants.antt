use Rattle.std.proofs.Common.{◌≡◌, [], length, drop}
use Rattle.xr_model.specs.machine.Rules.Sync.{item_checks, heard_by}
use Rattle.xr_core.proofs.Hearing.{comes_to}
use Rattle.xr_core.proofs.parts.Parts.hear_all.Given as goal

abbrev pub invariant-loop-item : goal.invariant-loop-item
invariant-loop-item l =
    (comes_to (item_checks l.self l.session) (heard_by l.self) l.active [] ≡ comes_to (item_checks l.self l.session) (heard_by l.self) (drop l.item-index l.active) l.heard.items)
    × (length l.heard.items ≡ l.item-index)
