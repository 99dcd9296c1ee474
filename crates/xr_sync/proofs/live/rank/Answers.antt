use Rattle.std.proofs.Common.{refl}
use Rattle.xr_sync.proofs.Tops.{none_yet}
use Rattle.xr_sync.specs.Ranks.{top_of}
use Rattle.xr_sync.proofs.live.rank.Goals as goal

pub loop-b-init : goal.loop-b-init
loop-b-init c = (refl, λ source h. none_yet 150 source (top_of c.args.active.now c.args.all.now source))
