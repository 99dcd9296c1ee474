use Rattle.std.proofs.Common.{◌≡◌, drop}
use Rattle.xr_types.specs.Printed.{all_users}
use Rattle.xr_model.specs.machine.Profiles.{pick_among}
use Rattle.xr_profiles.proofs.component.Given as goal

abbrev pub invariant-loop-user : goal.invariant-loop-user
invariant-loop-user l = pick_among l.profile l.kind l.path all_users ≡ pick_among l.profile l.kind l.path (drop l.user-index l.user-items)
