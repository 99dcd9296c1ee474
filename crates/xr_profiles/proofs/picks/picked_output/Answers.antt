use Rattle.std.proofs.Common.{rules}
use Rattle.xr_profiles.proofs.Pieces.{list_any-now}
use Rattle.xr_profiles.proofs.picks.picked_output.Goals as goal

pub returns-in-Vibration : goal.returns-in-Vibration
returns-in-Vibration c = rw (c.in-Vibration.is, list_any-now c.args.entry.now c.args.outputs.now, ← c.is_output.ensures) (search rules)
