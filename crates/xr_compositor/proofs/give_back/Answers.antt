use Rattle.xr_runtime.specs.Passes.{table_of}
use Rattle.xr_compositor.proofs.Turning.{gave_one}
use Rattle.xr_compositor.proofs.give_back.Goals as goal

pub returns : goal.returns
returns c = record { gave = gave_one (table_of c.args.runtime.now) c.args.pass.now c.image_done.new.pass c.image_done.result _ _ c.requires.is c.image_done.ensures.called.2 c.requires.some_held }
