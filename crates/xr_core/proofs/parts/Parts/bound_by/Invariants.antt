use Rattle.std.proofs.Common.{◌≡◌, ◌++◌, length, drop, flat_map, filter_map}
use Rattle.xr_model.specs.machine.Refusals.{first_of}
use Rattle.xr_model.specs.machine.Rules.Bindings.{binding_checks, bound_of}
use Rattle.xr_model.specs.machine.PartAnswers.{or_refused}
use Rattle.xr_core.proofs.parts.Parts.bound_by.Given as goal

abbrev pub invariant-loop-binding : goal.invariant-loop-binding
invariant-loop-binding l =
    (or_refused (first_of (flat_map (binding_checks l.self l.profile) l.list)) (filter_map (bound_of l.self l.profile) l.list)
    ≡ or_refused (first_of (flat_map (binding_checks l.self l.profile) (drop l.binding-index l.list))) (l.draft ++ filter_map (bound_of l.self l.profile) (drop l.binding-index l.list)))
    × (length l.draft ≡ l.binding-index)
