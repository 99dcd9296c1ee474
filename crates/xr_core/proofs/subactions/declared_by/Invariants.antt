use Rattle.std.proofs.Common.{◌≡◌, drop}
use Rattle.xr_model.specs.machine.Refusals.{first_of}
use Rattle.xr_model.specs.machine.Sets.{no_users}
use Rattle.xr_model.specs.machine.Rules.Sets.{sub_checks, declared_by}
use Rattle.xr_model.specs.machine.PartAnswers.{or_refused}
use Rattle.xr_core.proofs.subactions.declared_by.Given as goal

abbrev pub invariant-loop-sub : goal.invariant-loop-sub
invariant-loop-sub l =
    or_refused (first_of (sub_checks l.paths no_users l.subs)) (declared_by l.paths no_users l.subs)
    ≡ or_refused (first_of (sub_checks l.paths l.declared (drop l.sub-index l.subs))) (declared_by l.paths l.declared (drop l.sub-index l.subs))
