use Rattle.std.proofs.Common.{rules}
use Rattle.xr_sync.proofs.Quiet.{quiet_table}
use Rattle.xr_sync.proofs.found.gather.Goals as goal

pub loop-b-init : goal.loop-b-init
loop-b-init c = rw c.requires.none (record { quiet = quiet_table; same = search rules })
